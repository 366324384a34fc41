-- Laws of a world that stands.
use Rattle.std.specs.Prelude.{ℕ, ◌*◌, ◌≤◌, ◌≡◌, true, List, length, take, drop}
use Rattle.std.proofs.Math.Path.{refl}
use Rattle.std.proofs.Common.{arith, take-append-drop}
use borrow.Author.Tests.{le-leb}
use Rattle.words.specs.Header.{size_at, header_at}
use Rattle.words.proofs.HeaderLaws.{Formed, formed, formed_same, equal_size}
use Rattle.layout.specs.Intervals.{shown}
use Rattle.layout.specs.Limits.{max_roots, suits, list_words}
use Rattle.layout.specs.LimitsLaws.{suits_within, suits_limits}
use Rattle.layout.specs.declared.State.{State}
use Rattle.runs.proofs.FreeListLaws.{list_ordered, list_fits}
use Rattle.freelist.specs.Records.{records, valid_list}
use Rattle.freelist.specs.RecordsLaws.{ordered_valid}
use Rattle.freelist.specs.Figures.{figures_of}
use Rattle.split.specs.RelistedLaws.{records_shown, records_front}
use Rattle.store.specs.Survey.{surveys}
use Rattle.demands.specs.Reach.{Objects}
use Rattle.demands.specs.Lent.{Lent}
use Rattle.demands.specs.World.{World, surveys_on, On}
use Rattle.demands.specs.Stands.{free_of, Stands}

-- What is lent is within the limits with any other roots that are not too many.
pub rerooted : {state : State} {heap roots map stack list : List ℕ} → Lent state heap roots map stack list → (other : List ℕ) → length other ≤ max_roots → Lent state heap other map stack list
rerooted x other few = record { bounded = record { suit = x.bounded.suit; few = few }; map_room = x.map_room; stack_room = x.stack_room; list_room_lem = x.list_room_lem }

-- What is lent stays within the limits while no length changes, nor the heap's words and the keep length in the state.
pub lent_still : {state state' : State} {heap heap' roots map map' stack stack' list list' : List ℕ} → Lent state heap roots map stack list
    → state'.words ≡ state.words → state'.keep ≡ state.keep → length heap' ≡ length heap → length map' ≡ length map → length stack' ≡ length stack → length list' ≡ length list
    → Lent state' heap' roots map' stack' list'
unfolding suits
lent_still x words keep heap map stack list = record {
  bounded = record { suit = rw (words, keep, heap) x.bounded.suit; few = x.bounded.few };
  map_room = rw (words, map) x.map_room;
  stack_room = rw (words, keep, stack) x.stack_room;
  list_room_lem = rw (words, keep, list) x.list_room_lem;
}

-- Objects stay well-formed and disjoint while no header changes, and so do some of them.
pub objects_same : (heap heap' : List ℕ) {t : ℕ} {P Q : ℕ → Type 0} → length heap' ≡ length heap → ((a : ℕ) → P a → header_at heap' a ≡ header_at heap a) → ((a : ℕ) → Q a → P a) → Objects heap t P → Objects heap' t Q
objects_same heap heap' {t} {P} {Q} long same some o = record {
  formed = λ a q. formed_same heap heap' t a (same a (some a q)) long (o.formed a (some a q));
  apart = λ a b p q other x. o.apart a b (some a p) (some b q) other (omega (arith, x, size b q), omega (arith, x, size a p));
}
  where
    size : (a : ℕ) → Q a → size_at heap' a ≡ size_at heap a
    size a q = equal_size (same a (some a q))

module _ {w : World} (g : Stands w) where
  -- The heap has the state's words.
  pub sized : length w.heap ≡ w.state.words
  sized = (suits_limits w.state w.heap g.lent.bounded.suit).1

  -- The keep length is 1 or more.
  pub keep_some : 1 ≤ w.state.keep
  keep_some = (suits_limits w.state w.heap g.lent.bounded.suit).0.keeps

  -- What is on the map is well-formed.
  pub on_formed : {a : ℕ} → On w a → Formed w.heap w.state.keep a
  on_formed {a} on = formed w.heap w.state.keep a (g.objects.formed a on)

  -- How many words are needed of the list.
  abbrev n : ℕ
  n = list_words w.state.words w.state.keep

  -- There the free list stands, with zeros behind it.
  pub list_part : take n w.list ≡ shown n (free_of w)
  list_part = rw sized at g.listed

  -- It is read back, from that part and from the whole list.
  pub part_read : records w.state.count (take n w.list) ≡ free_of w
  part_read = rw (g.count, list_part) (records_shown n (free_of w))

  pub list_read : records w.state.count w.list ≡ free_of w
  list_read = rw (← take-append-drop n w.list, list_part, g.count) (records_front n (free_of w) (drop n w.list))

  -- The part has room for it.
  pub free_fits : 2 * length (free_of w) ≤ n
  free_fits = rw sized at (list_fits w.state.keep w.heap w.map keep_some)

  -- It passes refusal 3.
  pub list_valid : valid_list w.state.words w.state.keep w.state.count (take n w.list) ≡ true
  list_valid =
      ordered_valid w.state.words w.state.keep w.state.count (take n w.list) (rw g.count free_fits)
      (rw part_read (rw sized at (list_ordered w.state.keep w.heap w.map keep_some)))

  -- So a survey gives its figures.
  pub stands_surveyed : surveys_on w ≡ record { code = 0; figures = figures_of (records w.state.count w.list) }
  unfolding surveys
  stands_surveyed = rw (suits_within w.state w.heap g.lent.bounded.suit, le-leb n (length w.list) g.lent.list_room_lem, list_valid, part_read, list_read) refl
