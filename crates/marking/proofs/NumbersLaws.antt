-- The numbers of a collection are as small as heap and roots allow.
use Rattle.std.specs.Prelude.{ℕ, zero, suc, ◌+◌, ◌≤◌, take, drop}
use mathlib.Core.List.{List, [], ◌∷◌}
use native.Mathlib.Omega.{arith}
use Rattle.std.proofs.Math.ListN.{length}
use Rattle.std.proofs.Common.{get_or-drop}
use Rattle.words.specs.Header.{refs_at, fields_of}
use Rattle.words.specs.Map.{set_bit}
use Rattle.layout.specs.LimitsLaws.{list_small}
use Rattle.runs.specs.Runs.{free_list}
use Rattle.runs.proofs.FreeListLaws.{list_fits}
use Rattle.marking.specs.Marking.{Marking, Outcome, going, done, refused, marked, leaving, move, begin, collection}
use Rattle.marking.specs.Meets.{Meets, empty, outside, again, ill_formed, overlapping, apart}
use Rattle.marking.specs.Invariant.{Invariant, Still}
use Rattle.marking.specs.Numbers.{Word, Words, Counts, Numbers}
use Rattle.marking.proofs.RunLaws.{run_keeps}
use Rattle.marking.proofs.MeetLaws.{meet_meets}
use Rattle.marking.proofs.InvariantLaws.{still, objects_room, move_less, begin_holds}

-- What stands at the front of words are words.
words_take : (n : ℕ) (l : List ℕ) → Words l → Words (take n l)
words_take zero l w i = omega arith
words_take (suc n) [] w i = omega arith
words_take (suc n) (x ∷ l) w zero = w 0
words_take (suc n) (x ∷ l) w (suc i) = words_take n l (λ k. w (suc k)) i

-- So are the references of an object.
words_fields : (heap : List ℕ) (a : ℕ) → Words heap → Words (fields_of heap a)
unfolding fields_of
words_fields heap a w = words_take (refs_at heap a) (drop (suc a) heap) (λ i. rw get_or-drop (w (suc a + i)))

-- No free list has more intervals than the heap has words.
pub list_short : (heap : List ℕ) (t : ℕ) (map : List ℕ) → 1 ≤ t → length (free_list t heap map) ≤ length heap
list_short heap t map keeps = omega (arith, list_fits t heap map keeps, list_small (length heap) t)

module _ (heap : List ℕ) (t : ℕ) (keeps : 1 ≤ t) (roots : List ℕ) where
  -- Besides the invariant: the peak is small, and what is left to read are words.
  abbrev Rest : Outcome → Type 0
  Rest (going m) = (m.peak ≤ length heap) × Words m.todo × Words m.roots
  Rest (done m) = Counts heap roots m
  Rest (refused c r) = Word r

  -- Meeting a word keeps that.
  met_rest : {m : Marking} {r : ℕ} {o : Outcome} → Rest (going m) → Word r → Meets heap t m r o → Rest o
  unfolding marked
  met_rest g word (empty e) = g
  met_rest g word (outside some l) = word
  met_rest g word (again some l e) = g
  met_rest g word (ill_formed new e) = word
  met_rest g word (overlapping new well e) = word
  met_rest {m} {r} g word (apart new well free) = (omega (arith, g.0, list_short heap t (set_bit m.map r) keeps), g.1, g.2)

  -- The invariant bounds the counts.
  counts : (m : Marking) → Invariant heap t roots m → m.peak ≤ length heap → Counts heap roots m
  counts m g low = record {
    objects = omega (arith, objects_room heap t keeps g.room, g.room.words);
    live = omega (arith, g.room.words);
    references = omega (arith, g.read, g.room.words);
    peak = low;
  }

  module _ (words : Words heap) where
    -- One move keeps it, by what is left to read.
    moves_rest : (m : Marking) (todo stack left : List ℕ) → let now : Marking = leaving m todo stack left m.references in Invariant heap t roots now → Rest (going now) → Rest (move heap t now)
    unfolding move
    moves_rest m (r ∷ todo) stack left i g = met_rest (g.0, λ k. g.1 (suc k), g.2) (g.1 0) (meet_meets heap t (leaving m todo stack left (suc m.references)) r)
    moves_rest m [] (a ∷ stack) left i g = (g.0, words_fields heap a words, g.2)
    moves_rest m [] [] (r ∷ left) i g = met_rest (g.0, g.1, λ k. g.2 (suc k)) (g.2 0) (meet_meets heap t (leaving m [] [] left (suc m.references)) r)
    moves_rest m [] [] [] i g = counts (leaving m [] [] [] m.references) i g.0

    -- At every moment the invariant holds, and the rest.
    abbrev Both : Outcome → Type 0
    Both o = Still (Invariant heap t roots) o × Rest o

    -- One move keeps both.
    both_next : (m : Marking) → Both (going m) → Both (move heap t m)
    both_next m (i, g) = (still (λ k x. x.0) (move heap t m) (move_less heap t keeps roots m i), moves_rest m m.todo m.stack m.roots i g)

    -- Whatever comes out has small numbers.
    both_numbers : (o : Outcome) → Both o → Numbers heap roots o
    both_numbers (going m) (i, g) = counts m i g.0
    both_numbers (done m) (i, g) = g
    both_numbers (refused c r) (i, g) = g

    -- The numbers of a collection are small.
    pub numbers : Words roots → Numbers heap roots (collection heap t roots)
    unfolding collection begin
    numbers named =
        let start : Rest (going (begin heap t roots)) = (list_short heap t _ keeps, λ i. omega arith, named) in
        both_numbers (collection heap t roots) (run_keeps heap t Both both_next (suc (length roots + length heap)) (going (begin heap t roots)) (begin_holds heap t keeps roots, start))
