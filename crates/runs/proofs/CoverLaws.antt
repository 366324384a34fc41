-- The objects on a map as a cover.
use Rattle.std.specs.Prelude.{ℕ, zero, suc, ◌+◌, ◌-◌, ◌/◌, ◌≤◌, ◌<◌, ◌≡◌, refl, ◌≢◌, Bool, true, false, ◌&&◌, ◌||◌, List, ◌++◌, length, take, ltb}
use Rattle.std.proofs.Common.{sym, ap, ap₂, ◌∙◌, arith, take_at, ltb-true, le-ltb}
use Rattle.std.proofs.Math.Bool.{and-false}
use Rattle.std.proofs.Math.Decide.{dec_le, ℕ_discrete}
use Rattle.words.specs.Header.{size_at}
use Rattle.words.specs.Map.{bit_at, set_bit, is_start, some_below, covered}
use Rattle.words.proofs.MapLaws.{bit_same, bit_other, bit_take, is_start_lem}
use Rattle.words.proofs.CoverLaws.{owner_covers, covered_owner}
use Rattle.layout.specs.Limits.{map_words}
use Rattle.layout.specs.LimitsLaws.{bit_inside}
use Rattle.runs.specs.Covers.{Marks, Thick}
use Rattle.runs.proofs.LongestLaws.{clash}

-- Two tests that agree below n find the same.
below_same : (n : ℕ) (p q : ℕ → Bool) → ((i : ℕ) → i < n → p i ≡ q i) → some_below n p ≡ some_below n q
unfolding some_below
below_same zero p q f = refl
below_same (suc n) p q f = ap₂ ◌||◌ (f n (omega arith)) (below_same n p q (λ i h. f i (omega arith)))

-- The starts on the map stay, but for the one that is set.
pub start_other : (h : ℕ) (map : List ℕ) (r a : ℕ) → a ≢ r → is_start h (set_bit map r) a ≡ is_start h map a
unfolding is_start
start_other h map r a other = rw (bit_other map r a other)

-- A start on the map is one on its needed part.
pub start_take : (h : ℕ) (map : List ℕ) (a : ℕ) → is_start h (take (map_words h) map) a ≡ is_start h map a
unfolding is_start
start_take h map a = go (ltb a h) refl
  where
    go : (inside : Bool) → ltb a h ≡ inside → (ltb 0 a && inside) && bit_at (take (map_words h) map) a ≡ (ltb 0 a && inside) && bit_at map a
    go true e = rw (bit_take (map_words h) map a (bit_inside h a (ltb-true a h e)))
    go false e = rw (and-false (ltb 0 a))

-- So it is one on the words in front, where these are as many as needed.
pub start_front : (h : ℕ) (front rest : List ℕ) (a : ℕ) → length front ≡ map_words h → is_start h (front ++ rest) a ≡ is_start h front a
start_front h front rest a long = sym (start_take h (front ++ rest) a) ∙ ap (λ (map : List ℕ). is_start h map a) (take_at front rest (map_words h) long)

-- An object that comes on the map covers its words, and no other.
pub covered_marks : (heap map : List ℕ) (r : ℕ) → 0 < r → r < length heap → r / 32 < length map → Marks (covered heap map) (covered heap (set_bit map r)) r (size_at heap r)
unfolding covered
covered_marks heap map r some inside room =
    record {
      below = λ w l. below_same (suc w) _ _ (λ a i. rw (start_other h map r a (λ e. omega arith)));
      inside = λ w lo hi. owner_covers heap (set_bit map r) w r (record { start = is_start_lem h (set_bit map r) r (record { some = some; inside = inside; bit = bit_same map r room }); low = lo; high = hi });
      above = λ w l. below_same (suc w) _ _ (λ a i. elim (ℕ_discrete a r) [ yes e ↦ rw (e, le-ltb w (r + size_at heap r) l) (simp and-false) | no e ↦ rw (start_other h map r a e) ]);
    }
  where
    h : ℕ
    h = length heap

-- Where every object on the map has t words, a covered stretch behind a free word has.
pub covered_thick : (heap map : List ℕ) (lo e t : ℕ) → ((a : ℕ) → is_start (length heap) map a ≡ true → t ≤ size_at heap a) → Thick (covered heap map) lo e t
covered_thick heap map lo e t sizes b l free begins w p q z =
    let o = covered_owner heap map b begins in
    let here : o.0 ≡ b =
    elim (dec_le b o.0) [ yes x ↦ omega arith | no x ↦ absurd (clash (owner_covers heap map (b - 1) o.0 (record { start = o.1.start; low = omega arith; high = omega arith })) free) ] in
    owner_covers heap map w o.0 (record { start = o.1.start; low = omega arith; high = omega (arith, sizes o.0 o.1.start) })
