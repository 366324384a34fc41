-- Laws of refusals and of buffers that are kept.
use Rattle.std.specs.Prelude.{ℕ, ◌≤◌, ◌≡◌, refl, Bool, true, false, length, drop, replicate, eqb}
use Rattle.std.proofs.Common.{sym, ap, ◌∙◌, arith, length-append, length-drop, drop_at}
use mathlib.Core.List.Memᴰ
use mathlib.Core.List.{List, [], ◌∷◌, ◌++◌, Memᴰ}
use Rattle.std.proofs.lemmas.List.{length-replicate}
use Rattle.std.proofs.lemmas.Bool.{eqb-false}
use Rattle.layout.specs.Refusal.{unless}
use Rattle.demands.specs.Demand1.{Kept, front_cleared, Refused, Refuses}

-- A buffer that no call has written is kept.
pub kept_same : {n : ℕ} {buffer : List ℕ} → Kept n buffer buffer
kept_same = record { long = refl; past = refl }

-- A buffer is kept where only its first n words were written.
pub kept_front : {n : ℕ} (front buffer : List ℕ) → length front ≡ n → n ≤ length buffer → Kept n buffer (front ++ drop n buffer)
kept_front {n} front buffer e l = record { long = omega (arith, length-append front (drop n buffer), length-drop n buffer); past = drop_at front (drop n buffer) n e }

-- So it is where they were cleared.
pub kept_clear : {n : ℕ} (buffer : List ℕ) → n ≤ length buffer → Kept n buffer (front_cleared n buffer)
kept_clear {n} buffer l = kept_front (replicate n 0) buffer (length-replicate n 0) l

module _ {A : Type 0} {code : A → ℕ} {refuse : ℕ → A} where
  -- An outcome with the number 0 needs no refusal.
  pub success : {numbers : List ℕ} {x : A} → code x ≡ 0 → Refuses code refuse numbers x
  success e some = absurd (some e)

  module _ (own : (n : ℕ) → code (refuse n) ≡ n) where
    -- A refusal with its number, where that is one of these.
    pub refusal : {n : ℕ} {numbers : List ℕ} → Memᴰ n numbers → Refused code refuse numbers (refuse n)
    refusal {n} m = record { number = Memᴰ.cast (own n) m; whole = ap refuse (sym (own n)) }

    -- A test puts the numbers of its refusal in front of those of what comes next.
    refuses_test : (test : Bool) {n : ℕ} {numbers more : List ℕ} {next : A} → (test ≡ false → Memᴰ n numbers) → Refuses code refuse more next → Refuses code refuse (numbers ++ more) (unless test (refuse n) next)
    refuses_test true {numbers = numbers} m later some = let x = later some in record { number = Memᴰ.append_right numbers x.number; whole = x.whole }
    refuses_test false {more = more} m later some = refusal (Memᴰ.append_left more (m refl))

    -- A test with a number of its own.
    pub refuses_unless : (test : Bool) (n : ℕ) {more : List ℕ} {next : A} → Refuses code refuse more next → Refuses code refuse (n ∷ more) (unless test (refuse n) next)
    refuses_unless test n later = refuses_test test {numbers = n ∷ []} (λ e. Memᴰ.head refl) later

    -- A number that was worked out before.
    pub refuses_by : {n : ℕ} {numbers more : List ℕ} {next : A} → Refuses (λ x. x) (λ x. x) numbers n → Refuses code refuse more next → Refuses code refuse (numbers ++ more) (unless (eqb n 0) (refuse n) next)
    refuses_by {n} given later = refuses_test (eqb n 0) (λ e. (given (eqb-false n 0 e)).number) later

-- What a refusal comes to elsewhere is a refusal there, with the same number.
pub refused_through : {A B : Type 0} {code : A → ℕ} {refuse : ℕ → A} {code' : B → ℕ} {refuse' : ℕ → B} {numbers : List ℕ} {x : A} (f : A → B) → ((y : A) → code' (f y) ≡ code y) → ((n : ℕ) → f (refuse n) ≡ refuse' n) → Refused code refuse numbers x → Refused code' refuse' numbers (f x)
refused_through {code = code} {refuse' = refuse'} {x = x} f own same r = record { number = Memᴰ.cast (own x) r.number; whole = ap f r.whole ∙ same (code x) ∙ ap refuse' (sym (own x)) }

-- So is what may be a refusal.
pub refuses_through : {A B : Type 0} {code : A → ℕ} {refuse : ℕ → A} {code' : B → ℕ} {refuse' : ℕ → B} {numbers : List ℕ} {x : A} (f : A → B) → ((y : A) → code' (f y) ≡ code y) → ((n : ℕ) → f (refuse n) ≡ refuse' n) → Refuses code refuse numbers x → Refuses code' refuse' numbers (f x)
refuses_through {x = x} f own same r some = refused_through f own same (r (λ none. some (own x ∙ none)))
