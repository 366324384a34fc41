-- One move, way out by way out.
use Rattle.std.specs.Prelude.{ℕ, zero, suc, ◌+◌, ◌-◌, ◌≤◌, ◌<◌, ◌≡◌, refl, List, [], ◌∷◌, length, get_or, take, drop, Bool, true, false, Result, Ok}
use Rattle.std.proofs.Common.{◌∙◌, arith, drop-cons}
use Rattle.std.proofs.Math.Nat.{div-le_self}
use Rattle.std.proofs.Math.Numerals.{add-one}
use Rattle.std.proofs.Math.ListN.{drop_of_length-le}
use Rattle.words.specs.Header.{header_at, fields_of}
use Rattle.words.proofs.HeaderLaws.{Formed}
use Rattle.words.specs.declared.header.Header.{Header}
use Rattle.layout.specs.Limits.{max_words, stack_words}
use Rattle.marking.specs.Marking.{meet, move}
use Rattle.marking.specs.Invariant.{AllFormed}
use Rattle.marking.proofs.InvariantLaws.{depth_room}
use Rattle.machine.specs.Machine.{pile, marking, Meeting, ComesTo, Ready, Moved}
use Rattle.machine.specs.PileLaws.{length-pile, pile_none, pile_top}
use Rattle.machine.specs.declared.Machine.{Machine}
use Rattle.machine.specs.declared.Fault.{Fault}

-- What stands from place i on begins with the word there.
next : (l : List ℕ) (i : ℕ) → i < length l → drop i l ≡ get_or l i 0 ∷ drop (i + 1) l
next l i h = rw (add-one i, drop-cons l i 0 h) refl

-- The first n of those words begin with it as well.
first : (l : List ℕ) (i n : ℕ) → 0 < n → i < length l → take n (drop i l) ≡ get_or l i 0 ∷ take (n - 1) (drop (i + 1) l)
first l i zero some h = absurd (omega arith)
first l i (suc n) some h =
    let e : suc n - 1 ≡ n = omega arith in
    rw (e, next l i h) refl

-- No word is taken.
take_none : (l : List ℕ) (n : ℕ) → n ≤ 0 → take n l ≡ []
take_none l zero h = refl
take_none l (suc n) h = absurd (omega arith)

-- After a field is read.
abbrev pub after_field : Machine → Machine
after_field m = let p = m.progress in record m { progress = record p { at = p.at + 1; left = p.left - 1; references = p.references + 1 } }

-- After a root is read.
abbrev pub after_root : Machine → Machine
after_root m = let p = m.progress in record m { progress = record p { next = p.next + 1; references = p.references + 1 } }

-- After the object at a, with n references, is popped.
abbrev pub after_pop : Machine → ℕ → ℕ → Machine
after_pop m a n = let p = m.progress in record m { progress = record p { at = a + 1; left = n; depth = p.depth - 1 } }

module _ {m : Machine} (x : Ready m) where
  -- The object in hand has a reference left.
  module _ (some : 0 < m.progress.left) where
    -- It can be met.
    pub meeting_field : Meeting (after_field m)
    meeting_field = record { fit = record { limits = x.fit.limits; stack_size = x.fit.stack_size; in_hand = omega (arith, x.fit.in_hand); shows = x.fit.shows }; room = x.invariant.room }

    -- It was met.
    pub moved_field : {r : ℕ} {m' : Machine} {o : Result Bool Fault} → r ≡ get_or m.heap.now m.progress.at 0 → ComesTo (after_field m) m' o (meet m.heap.now m.keep (marking (after_field m)) r) → Moved m m' o
    unfolding move
    moved_field e y = record { same = y.same ∙ rw (e, first m.heap.now m.progress.at m.progress.left some (omega (arith, x.fit.in_hand)), add-one m.progress.references) refl; fit = y.fit; lent = y.lent }

  -- It has none left.
  module _ (none : m.progress.left ≤ 0) where
    -- The stack has an object.
    module _ (some : 0 < m.progress.depth) where
      top_formed : Formed m.heap.now m.keep (get_or m.stack.now (m.progress.depth - 1) 0)
      top_formed =
          let all : AllFormed m.heap.now m.keep (get_or m.stack.now (m.progress.depth - 1) 0 ∷ pile m.stack.now (m.progress.depth - 1)) = rw (pile_top m.stack.now m.progress.depth some) at x.invariant.room.formed in
          all.0

      -- The last pushed can be read.
      pub top_inside : m.progress.depth - 1 < length m.stack.now
      top_inside = omega (arith, length-pile m.stack.now m.progress.depth, x.fit.stack_size, depth_room m.heap.now m.keep x.fit.limits.keeps x.invariant.room)

      -- The stack is short.
      pub top_small : m.progress.depth - 1 < max_words
      unfolding stack_words
      top_small = omega (arith, top_inside, x.fit.stack_size, div-le_self (length m.heap.now - 1) m.keep, x.fit.limits.words)

      module _ {a : ℕ} (e : a ≡ get_or m.stack.now (m.progress.depth - 1) 0) where
        is : Formed m.heap.now m.keep a
        is = rw e top_formed

        -- Its header can be read.
        pub popped_inside : a < length m.heap.now
        popped_inside = omega (arith, is.fewer, is.ends)

        -- It was popped.
        pub moved_pop : {header : Header} → header ≡ header_at m.heap.now a → Moved m (after_pop m a header.refs) (Ok true)
        unfolding move fields_of
        moved_pop eh = record {
          same = rw (take_none (drop m.progress.at m.heap.now) m.progress.left none, pile_top m.stack.now m.progress.depth some, eh, add-one a, e) refl;
          fit = record { limits = x.fit.limits; stack_size = x.fit.stack_size; in_hand = rw eh (omega (arith, is.fewer, is.ends)); shows = x.fit.shows };
          lent = refl;
        }

    -- The stack is empty.
    module _ (flat : m.progress.depth ≤ 0) where
      -- The next root was met.
      pub moved_root : {r : ℕ} {m' : Machine} {o : Result Bool Fault} → m.progress.next < length m.roots.now → r ≡ get_or m.roots.now m.progress.next 0 → ComesTo (after_root m) m' o (meet m.heap.now m.keep (marking (after_root m)) r) → Moved m m' o
      unfolding move
      moved_root l e y = record {
        same = y.same ∙ rw (e, next m.roots.now m.progress.next l, take_none (drop m.progress.at m.heap.now) m.progress.left none, pile_none m.stack.now m.progress.depth flat, add-one m.progress.references) refl;
        fit = y.fit;
        lent = y.lent;
      }

      -- There is none, and the collection is done.
      pub moved_done : length m.roots.now ≤ m.progress.next → Moved m m (Ok false)
      unfolding move
      moved_done l = record { same = rw (take_none (drop m.progress.at m.heap.now) m.progress.left none, pile_none m.stack.now m.progress.depth flat, drop_of_length-le m.roots.now l) refl; fit = x.fit; lent = refl }
