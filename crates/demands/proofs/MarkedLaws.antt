-- An object that comes on the map: what is known of map, references to be read and counts carries over.
use Rattle.std.specs.Prelude.{ℕ, suc, ◌+◌, ◌/◌, ◌≤◌, ◌<◌, max, ◌≡◌, ◌≢◌, ◌⊎◌, true, false, length}
use Rattle.std.proofs.Common.{sym, subst, ◌∙◌, inl, inr, arith}
use mathlib.Core.List.Memᴰ
use mathlib.Core.List.{List, ◌∷◌, ◌++◌, Memᴰ}
use Rattle.std.proofs.Math.Decide.{ℕ_discrete}
use Rattle.words.specs.Header.{size_at, well_formed, fields_of}
use Rattle.words.proofs.HeaderLaws.{Formed, formed}
use Rattle.words.specs.Map.{bit_at, set_bit, covered}
use Rattle.words.proofs.MapLaws.{bit_same, bit_other, length-set_bit, is_start_lem, start}
use Rattle.words.proofs.CoverLaws.{owner_covers, covered_owner}
use Rattle.layout.specs.LimitsLaws.{bit_inside}
use Rattle.runs.proofs.LongestLaws.{clash}
use Rattle.marking.specs.Marking.{overlaps}
use Rattle.marking.specs.Meets.{New}
use Rattle.marking.proofs.MeetLaws.{overlaps_some, overlaps_none}
use Rattle.demands.specs.Reach.{Reach, by_field, Overlap, Fault, overlap}
use Rattle.demands.specs.Demand2.{total}
use Rattle.demands.proofs.ReachLaws.{reach_some}
use Rattle.demands.proofs.TotalLaws.{total_more}
use Rattle.demands.specs.Tracks.{Marked, Named, a_root, a_field, Pending, Counted}

module _ (heap : List ℕ) (t : ℕ) (roots : List ℕ) where
  -- A reference that is read, and names nothing new, leaves the others.
  pub passed : {map q : List ℕ} (r : ℕ) → (r ≢ 0 → bit_at map r ≡ true) → Pending heap t roots map (r ∷ q) → Pending heap t roots map q
  passed {map} {q} r old p = record { reached = λ f i. p.reached f (Memᴰ.tail i); named = λ f k some new. later f some new (p.named f k some new) }
    where
      later : (f : ℕ) → f ≢ 0 → bit_at map f ≡ false → Memᴰ f (r ∷ q) → Memᴰ f q
      later f some new (Memᴰ.head e) = absurd (clash (old (λ z. some (e ∙ z))) (rw e at new))
      later f some new (Memᴰ.tail i) = i

  module _ {map : List ℕ} (k : Marked heap t roots map) where
    -- The words of an object on the map are covered.
    owns : (b w : ℕ) → bit_at map b ≡ true → b ≤ w → w < b + size_at heap b → covered heap map w ≡ true
    owns b w e lo hi =
        let f : Formed heap t b = formed heap t b (k.formed b e) in
        let some : b ≢ 0 = reach_some (k.reached b e) in
        owner_covers heap map w b (record { start = is_start_lem (length heap) map b (record { some = omega arith; inside = omega (arith, f.ends, f.fewer); bit = e }); low = lo; high = hi })

    -- An object that overlaps one on the map is at fault.
    pub clashes : {r : ℕ} → Reach heap t roots r → New heap map r → well_formed heap t r ≡ true → overlaps heap map r ≡ true → Fault heap t roots 6 r
    clashes {r} met new well e =
        let w = overlaps_some heap map r e in
        let o = covered_owner heap map w.0 w.3 in
        let b : ℕ = o.0 in
        let bit : bit_at map b ≡ true = (start (length heap) map b o.1.start).bit in
        let other : r ≢ b = λ same. clash bit (rw same at new.unmarked) in
        overlap met well (k.reached b bit) (k.formed b bit) other (omega (arith, w.1, o.1.high), omega (arith, w.2, o.1.low))

    -- An object that is reached, new, well-formed and apart comes on the map.
    module _ {r : ℕ} (met : Reach heap t roots r) (new : New heap map r) (well : well_formed heap t r ≡ true) (free : overlaps heap map r ≡ false) where
      -- Its bit has a word on the map.
      here : r / 32 < length map
      here = rw k.sized (bit_inside (length heap) r new.inside)

      -- What is on the map then was on it, or is this object.
      was_or_is : (a : ℕ) → bit_at (set_bit map r) a ≡ true → (a ≡ r) ⊎ (bit_at map a ≡ true)
      was_or_is a e = elim (ℕ_discrete a r) [ yes same ↦ inl same | no other ↦ inr (sym (bit_other map r a other) ∙ e) ]

      -- What is not on it then was not, and is another.
      was_not : (a : ℕ) → bit_at (set_bit map r) a ≡ false → (a ≢ r) × (bit_at map a ≡ false)
      was_not a e =
          let other : a ≢ r = λ same. clash (bit_same map r here) (rw same at e) in
          (other, sym (bit_other map r a other) ∙ e)

      -- It overlaps no object on the map.
      alone : (b : ℕ) → bit_at map b ≡ true → ¬ Overlap heap r b
      alone b e (x, y) = clash (owns b (max r b) e (omega arith) (omega (arith, (formed heap t b (k.formed b e)).fewer))) ((overlaps_none heap map r).0 free (max r b) (omega arith) (omega (arith, (formed heap t r well).fewer)))

      -- What is known of the map holds with it.
      pub marked_more : Marked heap t roots (set_bit map r)
      marked_more = record {
        sized = length-set_bit map r ∙ k.sized;
        reached = λ a e. elim (was_or_is a e) [ inl same ↦ subst (Reach heap t roots) (sym same) met | inr was ↦ k.reached a was ];
        formed = λ a e. elim (was_or_is a e) [ inl same ↦ rw same well | inr was ↦ k.formed a was ];
        apart = λ a b p q. both a b (was_or_is a p) (was_or_is b q);
      }
        where
          both : (a b : ℕ) → (a ≡ r) ⊎ (bit_at map a ≡ true) → (b ≡ r) ⊎ (bit_at map b ≡ true) → a ≢ b → ¬ Overlap heap a b
          both a b (inl p) (inl q) other = absurd (other (p ∙ sym q))
          both a b (inl p) (inr q) other = rw p (alone b q)
          both a b (inr p) (inl q) other = rw q (λ x. alone a p (x.1, x.0))
          both a b (inr p) (inr q) other = k.apart a b p q other

      -- Its references are to be read behind those of the object in hand.
      pub pending_more : (todo rest : List ℕ) → Pending heap t roots map (r ∷ (todo ++ rest)) → Pending heap t roots (set_bit map r) (todo ++ (fields_of heap r ++ rest))
      pending_more todo rest p = record { reached = λ f i. from f (Memᴰ.append_cases todo i); named = λ f n some clear. to f n some (was_not f clear) }
        where
          from_fields : (f : ℕ) → Memᴰ f (fields_of heap r) ⊎ Memᴰ f rest → f ≢ 0 → Reach heap t roots f
          from_fields f (inl i) some = by_field met well i some
          from_fields f (inr i) some = p.reached f (Memᴰ.tail (Memᴰ.append_right todo i)) some

          from : (f : ℕ) → Memᴰ f todo ⊎ Memᴰ f (fields_of heap r ++ rest) → f ≢ 0 → Reach heap t roots f
          from f (inl i) some = p.reached f (Memᴰ.tail (Memᴰ.append_left rest i)) some
          from f (inr i) some = from_fields f (Memᴰ.append_cases (fields_of heap r) i) some

          wider : (f : ℕ) → Memᴰ f todo ⊎ Memᴰ f rest → Memᴰ f (todo ++ (fields_of heap r ++ rest))
          wider f (inl i) = Memᴰ.append_left (fields_of heap r ++ rest) i
          wider f (inr i) = Memᴰ.append_right todo (Memᴰ.append_right (fields_of heap r) i)

          later : (f : ℕ) → f ≢ r → Memᴰ f (r ∷ (todo ++ rest)) → Memᴰ f (todo ++ (fields_of heap r ++ rest))
          later f other (Memᴰ.head e) = absurd (other e)
          later f other (Memᴰ.tail i) = wider f (Memᴰ.append_cases todo i)

          of_object : (f a : ℕ) → (a ≡ r) ⊎ (bit_at map a ≡ true) → Memᴰ f (fields_of heap a) → f ≢ 0 → (f ≢ r) × (bit_at map f ≡ false) → Memᴰ f (todo ++ (fields_of heap r ++ rest))
          of_object f a (inl same) i some new' = Memᴰ.append_right todo (Memᴰ.append_left rest (rw same at i))
          of_object f a (inr was) i some (other, clear) = later f other (p.named f (a_field a was i) some clear)

          to : (f : ℕ) → Named heap roots (set_bit map r) f → f ≢ 0 → (f ≢ r) × (bit_at map f ≡ false) → Memᴰ f (todo ++ (fields_of heap r ++ rest))
          to f (a_root i) some (other, clear) = later f other (p.named f (a_root i) some clear)
          to f (a_field a e i) some clear = of_object f a (was_or_is a e) i some clear

      -- It counts as one object, with its words and its references.
      pub counted_more : {n objects live references : ℕ} → Counted heap roots map n objects live references → Counted heap roots (set_bit map r) (n + length (fields_of heap r)) (suc objects) (live + size_at heap r) references
      counted_more c =
          let more : (f : ℕ → ℕ) → total (bit_at (set_bit map r)) f (length heap) ≡ total (bit_at map) f (length heap) + f r = λ f. total_more f new.unmarked (bit_same map r here) (bit_other map r) (length heap) new.inside in
          record {
            objects_are = omega (arith, c.objects_are, more (λ a. 1));
            live_is = omega (arith, c.live_is, more (size_at heap));
            references_are = omega (arith, c.references_are, more (λ a. length (fields_of heap a)));
          }
