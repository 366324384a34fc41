-- Demand 3: what stands after every call of a history, said of the objects that are held.
use Rattle.std.specs.Prelude.{ℕ, ◌+◌, ◌-◌, ◌≤◌, ◌<◌, ◌≡◌, ◌≢◌, ◌↔◌, true, false, length, take}
use mathlib.Core.List.{List, [], ◌∷◌, Memᴰ}
use Rattle.words.specs.Header.{header_at}
use Rattle.words.specs.Map.{bit_at, is_start}
use Rattle.layout.specs.Limits.{map_words}
use Rattle.layout.specs.declared.Interval.{Interval}
use Rattle.runs.specs.Lists.{Longest}
use Rattle.store.specs.Allot.{askable}
use Rattle.demands.specs.Reach.{InObject, Objects}
use Rattle.demands.specs.Lent.{Lent}
use Rattle.demands.specs.Demand2.{Tells, Lists}
use Rattle.demands.specs.World.{field_at, allots_on, collects_on}
use Rattle.demands.specs.History.{History, world, words_of, keep_of, Rooted, gives, Held, allotted_as, last_written}

-- Word w lies in an object that is held.
abbrev pub InHeld : History → ℕ → Type 0
InHeld past = InObject (world past).heap (Held past)

-- The interval i is a longest run of words outside the objects that are held, and has the keep length.
abbrev pub FreeRun : History → Interval → Type 0
FreeRun past = Longest (keep_of past) (InHeld past) 1 (length (world past).heap)

-- How an allot of s words with p references answers, whose number is `code`, where t is the keep length and Run tells the runs that are free.
pub record AllotAnswers (t : ℕ) (Run : Interval → Type 0) (s p code : ℕ) : Type 0 where
  -- It refuses with 7 exactly where no such object may be asked for.
  pub unasked : (code ≡ 7) ↔ (askable t s p ≡ false)
  -- It lacks room, which is 8, exactly where one may be asked for and no such run has s words.
  pub lacks : (code ≡ 8) ↔ (askable t s p ≡ true) × ((i : Interval) → Run i → i.size < s)
  -- It has no other number but 0.
  pub others : code ≢ 0 → Memᴰ code (7 ∷ 8 ∷ [])

-- Demand 3 of a history.
pub record Demand3 (past : History) : Type 0 where
  -- The map holds just the objects that are held: those allotted and not since found unreachable.
  pub starts : Tells (is_start (length (world past).heap) (world past).map) (Held past)
  -- Just their bits are set in its needed words.
  pub bits : Tells (bit_at (take (map_words (length (world past).heap)) (world past).map)) (Held past)
  -- They are well-formed, and disjoint.
  pub objects : Objects (world past).heap (keep_of past) (Held past)
  -- An object that an allot gives then has no word of theirs.
  pub fresh : (s p a w : ℕ) → gives (world past) s p a ≡ true → a ≤ w → w < a + s → ¬ InHeld past w
  -- Their headers are those allotted.
  pub headers : (a : ℕ) → Held past a → header_at (world past).heap a ≡ allotted_as past a
  -- Their words are those last written.
  pub words : (a k : ℕ) → Held past a → k < (allotted_as past a).size - 1 → field_at (world past) a k ≡ last_written past a k
  -- The list is every longest run outside them that has the keep length, with zeros behind it.
  pub lists : Lists (keep_of past) (length (world past).heap) (InHeld past) (world past).state.count (world past).list
  -- No collection is refused.
  pub unrefused : (roots : List ℕ) → Rooted (world past) roots → (collects_on (world past) roots).answer.code ≡ 0
  -- Allotting lacks room only if no such run fits, and is refused for nothing else but what is asked.
  pub room : (s p : ℕ) → AllotAnswers (keep_of past) (FreeRun past) s p (allots_on (world past) s p).answer.code
  -- The heap has as many words as at set-up.
  pub long : length (world past).heap ≡ words_of past
  -- The keep length is that of set-up.
  pub keep : (world past).state.keep ≡ keep_of past
  -- All that is lent is within the limits still.
  pub lent : Lent (world past).state (world past).heap [] (world past).map (world past).stack (world past).list
