-- Demand 3: a write in a world that stands.
use Prim.Native.Nat.{ℕ, ◌-◌, ◌<◌}
use Rattle.std.specs.Prelude.{◌≡◌, refl, ◌≢◌, true, ◌&&◌, List, set}
use Rattle.std.proofs.Common.{sym, ◌∙◌, arith, get_or-set_same, get_or-set_other}
use Rattle.std.proofs.Math.Bool.{cond, and-eq-true_iff}
use Rattle.std.proofs.Math.Decide.{ℕ_discrete}
use Rattle.std.proofs.Math.ListN.{length, get_or, length-set}
use Rattle.std.proofs.Math.Dec.{eqb}
use borrow.Author.Tests.{le-leb, eqb-true, eqb-false, eq-eqb, ne_eqb}
use Rattle.words.specs.Header.{size_at, refs_at, header_at}
use Rattle.words.proofs.HeaderLaws.{header_same, equal_size, equal_refs}
use Rattle.layout.specs.Limits.{map_words}
use Rattle.layout.specs.RefusalLaws.{by_test}
use Rattle.runs.proofs.LongestLaws.{clash}
use Rattle.runs.proofs.FreeListLaws.{list_same}
use Rattle.store.specs.Fields.{object_code, field_code, word_of, takes, Written, written, writes}
use Rattle.store.proofs.FieldsLaws.{object_field, field_there, takes_start}
use Rattle.demands.specs.World.{World, of_write, write, field_at, writes_on, after, On, effect}
use Rattle.demands.specs.History.{stores}
use Rattle.demands.specs.Stands.{free_of, Stands}
use Rattle.demands.proofs.StandsLaws.{lent_still, on_formed, objects_same}

module _ {w : World} (g : Stands w) where
  -- The number of a field is that of the object.
  pub field_code_lem : (a k : ℕ) → field_code w.state w.heap w.map a k ≡ object_code w.heap w.state.keep w.map a k
  unfolding field_code
  field_code_lem a k = rw (g.lent.bounded.suit, le-leb (map_words w.state.words) (length w.map) g.lent.map_room)

  module _ (a k v : ℕ) where
    -- A write that is accepted.
    record Accepted : Type 0 where
      pub on : On w a
      pub has : k < size_at w.heap a - 1
      pub taken : takes w.heap w.map a k v ≡ true

    -- What holds of every refusal, and of the word stored where the write is accepted, holds of every write.
    write_cases : (P : Written → Type 0) → ((n : ℕ) → n ≢ 0 → P (written n w.heap)) → (Accepted → P (written 0 (set w.heap (word_of a k) v))) → P (writes_on w a k v)
    unfolding writes
    write_cases P refused stored =
        let code : ℕ = field_code w.state w.heap w.map a k in
        by_test P (eqb code 0)
        (λ none. by_test P (takes w.heap w.map a k v)
        (λ taken. let f = object_field w.heap w.state.keep w.map a k (sym (field_code_lem a k) ∙ eqb-true code 0 none) in stored (record { on = f.0; has = f.2; taken = taken }))
        (λ untaken. refused 11 (λ e. omega arith)))
        (λ some. refused code (eqb-false code 0 some))

    -- The word is stored.
    module _ (x : Accepted) where
      -- The heap then.
      abbrev new_heap : List ℕ
      new_heap = set w.heap (word_of a k) v

      -- Every header on the map is as it was, since no object starts in another.
      stored_header : (b : ℕ) → On w b → header_at new_heap b ≡ header_at w.heap b
      stored_header b on =
          let other : b ≢ word_of a k = λ e. g.objects.apart b a on x.on (λ same. omega arith) (omega (arith, x.has), omega (arith, (on_formed g on).fewer)) in
          header_same w.heap new_heap b (get_or-set_other w.heap (word_of a k) b v 0 other)

      -- Field k of the object at a has the value.
      stored_same : get_or new_heap (word_of a k) 0 ≡ v
      stored_same = get_or-set_same w.heap (word_of a k) v 0 (field_there (on_formed g x.on) x.has)

      -- Every other field of an object on the map is as it was.
      stored_other : (b j : ℕ) → On w b → j < size_at w.heap b - 1 → ¬ ((a ≡ b) × (k ≡ j)) → get_or new_heap (word_of b j) 0 ≡ field_at w b j
      stored_other b j on has other = get_or-set_other w.heap (word_of a k) (word_of b j) v 0 λ e.
          elim (ℕ_discrete a b) [
            | yes same ↦ other (same, omega arith)
            | no apart ↦ g.objects.apart a b x.on on apart (omega (arith, x.has), omega (arith, x.has))
          ]

      -- Each reference field is empty or names an object on the map.
      stored_named : (b j : ℕ) → On w b → j < refs_at w.heap b → get_or new_heap (word_of b j) 0 ≢ 0 → On w (get_or new_heap (word_of b j) 0)
      stored_named b j on has some = go (ℕ_discrete a b) (ℕ_discrete k j)
        where
          still : ¬ ((a ≡ b) × (k ≡ j)) → On w (get_or new_heap (word_of b j) 0)
          still other =
              let same = stored_other b j on (omega (arith, (on_formed g on).fewer)) other in
              rw same (g.named b j on has (rw same at some))

          go : Dec (a ≡ b) → Dec (k ≡ j) → On w (get_or new_heap (word_of b j) 0)
          go (yes p) (yes q) =
              let here : get_or new_heap (word_of b j) 0 ≡ v = rw (← p, ← q) stored_same in
              rw here (takes_start w.heap w.map a k v x.taken (rw (p, q) has) (rw here at some))
          go (yes p) (no q) = still (λ e. q e.1)
          go (no p) d = still (λ e. p e.0)

      -- The world stands with that heap.
      stored_stands : Stands (of_write w (written 0 new_heap)).left
      stored_stands =
          let long : length new_heap ≡ length w.heap = length-set w.heap (word_of a k) v in
          let sizes : (b : ℕ) → On w b → size_at new_heap b ≡ size_at w.heap b = λ b on. equal_size (stored_header b on) in
          let refs : (b : ℕ) → On w b → refs_at new_heap b ≡ refs_at w.heap b = λ b on. equal_refs (stored_header b on) in
          let free : free_of (of_write w (written 0 new_heap)).left ≡ free_of w = list_same w.state.keep w.heap new_heap w.map w.map long (λ b. rw long) sizes in
          record {
            lent = lent_still g.lent refl refl long refl refl refl;
            bits = rw long g.bits;
            objects = objects_same w.heap new_heap long stored_header (λ b on. rw long at on) g.objects;
            named = rw long (λ b j on has some. stored_named b j on (rw (refs b on) at has) some);
            count = rw free g.count;
            listed = rw (long, free) g.listed;
          }

    -- It stands after every write.
    pub write_stands : Stands (after w (write a k v))
    unfolding effect
    write_stands = write_cases (λ x. Stands (of_write w x).left) (λ n some. g) stored_stands

    -- Every write leaves the heap's length and the headers.
    pub write_long : length (after w (write a k v)).heap ≡ length w.heap
    unfolding effect
    write_long = write_cases (λ x. length x.heap ≡ length w.heap) (λ n some. refl) (λ x. length-set w.heap (word_of a k) v)

    pub write_header : (b : ℕ) → On w b → header_at (after w (write a k v)).heap b ≡ header_at w.heap b
    unfolding effect
    write_header b on = write_cases (λ x. header_at x.heap b ≡ header_at w.heap b) (λ n some. refl) (λ x. stored_header x b on)

    -- It changes the field that it stores the value in, and no other.
    pub write_field : (b j : ℕ) → On w b → j < size_at w.heap b - 1 → field_at (after w (write a k v)) b j ≡ cond (stores w a k v b j) v (field_at w b j)
    unfolding effect stores
    write_field b j on has =
        write_cases (λ x. get_or x.heap (word_of b j) 0 ≡ cond (eqb x.code 0 && eqb a b && eqb k j) v (field_at w b j)) (λ n some. rw (ne_eqb n 0 some))
        (λ x. by_test (λ m. get_or (new_heap x) (word_of b j) 0 ≡ m) (eqb a b && eqb k j)
        (λ here. let x' = (and-eq-true_iff (eqb a b) _).0 here in rw (← eqb-true a b x'.0, ← eqb-true k j x'.1) (stored_same x))
        (λ other. stored_other x b j on has (λ e. clash (rw (eq-eqb a b e.0, eq-eqb k j e.1)) other)))
