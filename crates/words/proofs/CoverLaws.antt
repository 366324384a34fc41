-- Laws of covered words.
use Rattle.std.specs.Prelude.{ℕ, zero, suc, ◌+◌, ◌≤◌, ◌<◌, ◌≡◌, refl, Bool, true, false, ◌&&◌, ◌||◌, List, length, replicate, ltb}
use Rattle.std.proofs.Common.{sym, subst, ◌∙◌, arith, lt-ltb, ltb-true}
use Rattle.std.proofs.Math.Bool.{and-eq-true_iff, or-true}
use Rattle.std.proofs.lemmas.Bool.{false≢true}
use mathlib.Mathlib.Data.Bool.Basic.{eq-false_of_not-eq-true}
use Rattle.std.proofs.Math.Decide.{ℕ_discrete}
use Rattle.words.specs.Header.{size_at}
use Rattle.words.specs.Map.{is_start, some_below, covered}
use Rattle.words.proofs.MapLaws.{bit_zeros, start}

-- A number below n that passes the test is found.
pub some_below_lem : (n : ℕ) (test : ℕ → Bool) (i : ℕ) → i < n → test i ≡ true → some_below n test ≡ true
unfolding some_below
some_below_lem zero test i l e = absurd (omega arith)
some_below_lem (suc n) test i l e =
    elim (ℕ_discrete i n) [
      | yes same ↦ rw (subst (λ (j : ℕ). test j ≡ true) same e)
      | no other ↦ rw (some_below_lem n test i (omega arith) e) (or-true (test n))
    ]

-- What is found is a number below n that passes the test.
pub below_some : (n : ℕ) (test : ℕ → Bool) → some_below n test ≡ true → (i : ℕ) × (i < n) × (test i ≡ true)
unfolding some_below
below_some zero test e = absurd (false≢true e)
below_some (suc n) test e = go (λ e. below_some n test e) (test n) refl e
  where
    go : (some_below n test ≡ true → (i : ℕ) × (i < n) × (test i ≡ true)) → (b : Bool) → test n ≡ b → b || some_below n test ≡ true → (i : ℕ) × (i < suc n) × (test i ≡ true)
    go found true here e = (n, omega arith, here)
    go found false here e = let s = found e in (s.0, omega arith, s.2)

-- The object at a starts on the map, and word w is one of its words.
pub record Owner (heap map : List ℕ) (w a : ℕ) : Type 0 where
  pub start : is_start (length heap) map a ≡ true
  pub low : a ≤ w
  pub high : w < a + size_at heap a

-- A word of an object on the map is covered.
pub owner_covers : (heap map : List ℕ) (w a : ℕ) → Owner heap map w a → covered heap map w ≡ true
unfolding covered
owner_covers heap map w a o = some_below_lem (suc w) _ a (omega arith) (rw (o.start, lt-ltb w (a + size_at heap a) o.high))

-- A covered word has an object on the map.
pub covered_owner : (heap map : List ℕ) (w : ℕ) → covered heap map w ≡ true → (a : ℕ) × Owner heap map w a
unfolding covered
covered_owner heap map w e =
    let s = below_some (suc w) (λ a. is_start (length heap) map a && ltb w (a + size_at heap a)) e in
    let x = (and-eq-true_iff _ _).0 s.2 in
    (s.0, record { start = x.0; low = omega arith; high = ltb-true w (s.0 + size_at heap s.0) x.1 })

-- Where the map is zero no word is covered.
pub covered_zeros : (heap : List ℕ) (n w : ℕ) → covered heap (replicate n 0) w ≡ false
covered_zeros heap n w =
    eq-false_of_not-eq-true
    (λ e. let o = covered_owner heap (replicate n 0) w e in false≢true (sym (bit_zeros n o.0) ∙ (start (length heap) (replicate n 0) o.0 o.1.start).bit))

-- Covered words stay so where the starts on the map stay, with the sizes of their objects.
covered_stays : (heap heap' map map' : List ℕ) → ((a : ℕ) → is_start (length heap) map a ≡ true → (is_start (length heap') map' a ≡ true) × (size_at heap' a ≡ size_at heap a)) → (w : ℕ) → covered heap map w ≡ true → covered heap' map' w ≡ true
covered_stays heap heap' map map' stay w e =
    let o = covered_owner heap map w e in
    let s = stay o.0 o.1.start in
    owner_covers heap' map' w o.0 (record { start = s.0; low = o.1.low; high = omega arith })

-- Covered words go by the starts on the map and by the sizes of their objects.
pub covered_same : (heap heap' map map' : List ℕ) → ((a : ℕ) → is_start (length heap') map' a ≡ is_start (length heap) map a) → ((a : ℕ) → is_start (length heap) map a ≡ true → size_at heap' a ≡ size_at heap a) → (w : ℕ) → covered heap' map' w ≡ covered heap map w
covered_same heap heap' map map' starts sizes w =
    go (covered heap map w) (covered heap' map' w)
    (covered_stays heap heap' map map' (λ a e. (starts a ∙ e, sizes a e)) w)
    (covered_stays heap' heap map' map (λ a e. let s = sym (starts a) ∙ e in (s, sym (sizes a s))) w)
  where
    go : (b c : Bool) → (b ≡ true → c ≡ true) → (c ≡ true → b ≡ true) → c ≡ b
    go true c p q = p refl
    go false c p q = eq-false_of_not-eq-true (λ e. false≢true (q e))
