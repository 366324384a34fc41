-- What holds after every call: of the world, said of the objects on its map, and of these and the history.
use Rattle.std.specs.Prelude.{ℕ, ◌-◌, ◌<◌, ◌≡◌, ◌≢◌, ◌↔◌, true, List, [], length, take}
use Rattle.words.specs.Header.{size_at, refs_at, header_at}
use Rattle.words.specs.Map.{bit_at}
use Rattle.layout.specs.Intervals.{shown}
use Rattle.layout.specs.Limits.{map_words, list_words}
use Rattle.layout.specs.declared.Interval.{Interval}
use Rattle.runs.specs.Runs.{free_list}
use Rattle.demands.specs.Reach.{Objects}
use Rattle.demands.specs.Lent.{Lent}
use Rattle.demands.specs.World.{World, On, field_at}
use Rattle.demands.specs.History.{History, world, words_of, keep_of, Held, allotted_as, last_written}

-- The free list of the world.
abbrev pub free_of : World → List Interval
free_of w = free_list w.state.keep w.heap w.map

-- The world stands.
pub record Stands (w : World) : Type 0 where
  -- All that is lent is within the limits.
  pub lent : Lent w.state w.heap [] w.map w.stack w.list
  -- Each bit in the map's needed words is an object's.
  pub bits : (a : ℕ) → bit_at (take (map_words (length w.heap)) w.map) a ≡ true → On w a
  -- The objects on the map are well-formed, and disjoint.
  pub objects : Objects w.heap w.state.keep (On w)
  -- Each reference field of one is empty or names one.
  pub named : (a k : ℕ) → On w a → k < refs_at w.heap a → field_at w a k ≢ 0 → On w (field_at w a k)
  -- The list is the free list, with zeros behind it.
  pub count : w.state.count ≡ length (free_of w)
  pub listed : take (list_words (length w.heap) w.state.keep) w.list ≡ shown (list_words (length w.heap) w.state.keep) (free_of w)

-- A history and the world that it leaves agree.
pub record Agrees (past : History) : Type 0 where
  -- The world stands.
  pub stands : Stands (world past)
  -- It has the words and the keep length of set-up.
  pub long : length (world past).heap ≡ words_of past
  pub keep : (world past).state.keep ≡ keep_of past
  -- What is on its map is held.
  pub held : (a : ℕ) → On (world past) a ↔ Held past a
  -- It has the header allotted, and in each field what was last written.
  pub header : (a : ℕ) → On (world past) a → header_at (world past).heap a ≡ allotted_as past a
  pub field : (a k : ℕ) → On (world past) a → k < size_at (world past).heap a - 1 → field_at (world past) a k ≡ last_written past a k
