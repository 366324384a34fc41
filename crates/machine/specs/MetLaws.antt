-- Meeting a reference, way out by way out: what the code asks for is there, and what it answers is what the machine answers.
use Rattle.std.specs.Prelude.{ℕ, suc, ◌+◌, ◌*◌, ◌/◌, ◌≤◌, ◌<◌, max, ◌≡◌, refl, ◌≢◌, Bool, true, false, List, ◌∷◌, length, Option, Some, None, Ok, Err}
use Rattle.std.proofs.Common.{sym, ◌∙◌, arith}
use Rattle.std.proofs.Math.Path.{ap}
use mathlib.Mathlib.Data.Bool.Basic.{eq-true_of_not-eq-false}
use Rattle.std.proofs.Math.Numerals.{add-one}
use Rattle.std.proofs.Math.ListN.{length-set}
use Rattle.words.specs.Header.{size_at, well_formed}
use Rattle.words.proofs.HeaderLaws.{Formed, formed}
use Rattle.words.specs.Map.{bit_at, set_bit}
use Rattle.layout.specs.LimitsLaws.{bit_inside}
use Rattle.runs.specs.Lists.{In, Holds, cut}
use Rattle.freelist.specs.Search.{holder, Sorted}
use Rattle.freelist.specs.SearchLaws.{holder_in, holder_none}
use Rattle.split.specs.Relisted.{relisted}
use Rattle.marking.specs.Marking.{going, marked, overlaps}
use Rattle.marking.specs.Meets.{New, empty, outside, again, ill_formed, overlapping, apart}
use Rattle.marking.specs.Invariant.{Room}
use Rattle.marking.proofs.MeetLaws.{overlaps_holds, meets_meet}
use Rattle.marking.proofs.InvariantLaws.{depth_room, objects_room, room_marked}
use Rattle.machine.specs.Machine.{pile, listed, Shows, Meeting, noted, pushed, Noting, Met}
use Rattle.machine.specs.PileLaws.{length-pile, pile_push}
use Rattle.machine.specs.ShowsLaws.{shows_records, shows_room, shows_sorted, shows_fits, shows_taken}
use Rattle.machine.specs.declared.Machine.{Machine}
use Rattle.machine.specs.declared.Progress.{Progress}
use Rattle.layout.specs.declared.refusal.Refusal.TheVariants.{Address, Header, Overlap}

-- The object at r, of s words, is well-formed and starts at no bit of the map.
pub record Candidate (m : Machine) (r s : ℕ) : Type 0 where
  pub new : New m.heap.now m.map.now r
  pub well : well_formed m.heap.now m.keep r ≡ true
  pub size : s ≡ size_at m.heap.now r

-- The numbers after an object is marked and pushed, where the peak is the greater of the two.
pub noted_peak : (p : Progress) (s n peak : ℕ) → peak ≡ max p.peak n
    → record { next = p.next; at = p.at; left = p.left; depth = p.depth + 1; count = n; objects = p.objects + 1; live = p.live + s; references = p.references; peak = peak } ≡ noted p s n
noted_peak p s n peak e = rw e

-- Other words in its list.
abbrev pub relist : Machine → List ℕ → Machine
relist m words = record m { list = record m.list { now = words } }

module _ {m : Machine} (x : Meeting m) {r : ℕ} where
  -- An empty reference is passed.
  pub met_empty : r ≡ 0 → Met m r m (Ok tt)
  met_empty e = record { same = meets_meet (empty e); fit = x.fit; lent = refl }

  module _ (some : r ≢ 0) where
    -- One past the heap is refused with 4.
    pub met_outside : length m.heap.now ≤ r → Met m r m (Err (record { refusal = Address; place = r }))
    met_outside l = record { same = meets_meet (outside some l); fit = tt; lent = refl }

    module _ (high : r < length m.heap.now) where
      -- The map has its bit.
      pub here : r / 32 < length m.map.now
      here = rw x.room.sized (bit_inside (length m.heap.now) r high)

      -- What the test of the bit answered.
      module _ {bit : Bool} (eb : bit ≡ bit_at m.map.now r) where
        -- A start already marked is passed.
        pub met_again : bit ≡ true → Met m r m (Ok tt)
        met_again e = record { same = meets_meet (again some high (sym eb ∙ e)); fit = x.fit; lent = refl }

        -- What the test of the header answered.
        module _ (unset : bit ≡ false) {fine : Bool} (ew : fine ≡ well_formed m.heap.now m.keep r) where
          new : New m.heap.now m.map.now r
          new = record { some = some; inside = high; unmarked = sym eb ∙ unset }

          -- A header that is not well-formed is refused with 5.
          pub met_ill : fine ≡ false → Met m r m (Err (record { refusal = Header; place = r }))
          met_ill e = record { same = meets_meet (ill_formed new (sym ew ∙ e)); fit = tt; lent = refl }

          -- Any other is a candidate, once its size is read.
          pub candidate : {s : ℕ} → fine ≡ true → s ≡ size_at m.heap.now r → Candidate m r s
          candidate good es = record { new = new; well = sym ew ∙ good; size = es }

module _ {m : Machine} (x : Meeting m) {r s : ℕ} (k : Candidate m r s) where
  is : Formed m.heap.now m.keep r
  is = formed m.heap.now m.keep r k.well

  inside : r / 32 < length m.map.now
  inside = here x k.new.some k.new.inside

  -- The search can be made.
  pub searchable : (2 * m.progress.count ≤ length m.list.now) × (r + s < 4294967296) × Sorted (listed m)
  searchable = (shows_room x.fit.shows x.fit.limits.keeps, omega (arith, k.size, is.ends, x.fit.limits.words), shows_sorted x.fit.shows x.fit.limits.keeps)

  -- A record holds the object if and only if it overlaps none.
  held_apart : Holds (listed m) r s → overlaps m.heap.now m.map.now r ≡ false
  held_apart g = (overlaps_holds m.heap.now m.keep m.map.now r x.fit.limits.keeps k.new.some is).1 (rw (shows_records x.fit.shows, k.size) at g)

  apart_held : overlaps m.heap.now m.map.now r ≡ false → Holds (listed m) r s
  apart_held e = rw (shows_records x.fit.shows, k.size) ((overlaps_holds m.heap.now m.keep m.map.now r x.fit.limits.keeps k.new.some is).0 e)

  -- What the search found.
  module _ {found : Option ℕ} (ef : found ≡ holder r s (listed m)) where
    -- An object that no record holds is refused with 6.
    pub met_over : found ≡ None → Met m r m (Err (record { refusal = Overlap; place = r }))
    met_over e = record { same = meets_meet (overlapping k.new k.well (eq-true_of_not-eq-false λ o. holder_none r s (listed m) ef e (apart_held o))); fit = tt; lent = refl }

    module _ {j : ℕ} (e : found ≡ Some j) where
      held : In (listed m) r s j
      held = holder_in r s (listed m) ef j e

      some : 1 ≤ s
      some = omega (arith, k.size, is.fewer)

      -- Its words can be taken off.
      pub takeable : ((2 * m.progress.count ≤ length m.list.now) × (r + s < 4294967296) × In (listed m) r s j) × (2 * length (cut m.keep r s (listed m) j) ≤ length m.list.now)
      takeable = ((searchable.0, searchable.1, held), shows_fits x.fit.shows x.fit.limits.keeps (omega (arith, k.new.some)) k.new.inside inside k.size some held)

      after : Room m.heap.now m.keep (set_bit m.map.now r) (r ∷ pile m.stack.now m.progress.depth) (suc m.progress.objects) (m.progress.live + size_at m.heap.now r)
      after = room_marked m.heap.now m.keep x.fit.limits.keeps x.room k.new k.well (held_apart (j, held))

      deep : m.progress.depth < length m.stack.now
      deep = omega (arith, length-pile m.stack.now m.progress.depth, x.fit.stack_size, depth_room m.heap.now m.keep x.fit.limits.keeps after)

      -- What taking off left.
      module _ {list' : List ℕ} where
        -- It can be marked and pushed.
        pub noting : Noting (relist m list') r s
        noting = record {
          here = inside;
          word = omega (arith, k.new.inside, x.fit.limits.words);
          deep = deep;
          depth = omega (arith, length-pile m.stack.now m.progress.depth, after.depth, objects_room m.heap.now m.keep x.fit.limits.keeps after, after.words, x.fit.limits.words);
          objects = omega (arith, objects_room m.heap.now m.keep x.fit.limits.keeps after, after.words, x.fit.limits.words);
          live = omega (arith, k.size, after.words, x.fit.limits.words);
        }

        module _ {n : ℕ} (en : n ≡ length (cut m.keep r s (listed m) j)) (el : list' ≡ relisted m.progress.count (cut m.keep r s (listed m) j) m.list.now) where
          shows : Shows m.heap.now m.keep (set_bit m.map.now r) list' n
          shows = shows_taken x.fit.shows x.fit.limits.keeps (omega (arith, k.new.some)) k.new.inside inside k.size some held en el

          -- Any other is marked.
          pub met_new : {m' : Machine} → m' ≡ pushed (relist m list') r s n → Met m r m' (Ok tt)
          unfolding marked
          met_new {m'} e = rw e (record {
            same = ap going (rw (shows.count, pile_push m.stack.now r m.progress.depth deep, add-one m.progress.objects, k.size) refl) ∙ meets_meet (apart k.new k.well (held_apart (j, held)));
            fit = record { limits = x.fit.limits; stack_size = length-set m.stack.now m.progress.depth r ∙ x.fit.stack_size; in_hand = x.fit.in_hand; shows = shows };
            lent = refl;
          })
