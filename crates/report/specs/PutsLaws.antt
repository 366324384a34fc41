-- Laws of bytes written one behind another.
use Rattle.std.specs.Prelude.{ℕ, suc, ◌+◌, ◌≤◌, ◌≡◌, refl, Bool, true, false, cond, List, [], ◌∷◌, ◌++◌, length, set, drop, ltb}
use Rattle.std.proofs.Common.{sym, ap, ◌∙◌, arith, length-set, lt-ltb}
use Rattle.std.proofs.lemmas.List.Edits.{sets, sets-eq}
use Rattle.layout.specs.RefusalLaws.{by_test}
use Rattle.report.specs.Answer.{Output, output}
use Rattle.report.specs.Puts.{puts}

-- A choice is carried on as each of its sides is.
carried : (on : Output → Output) (test : Bool) {a b x y : Output} → x ≡ on a → y ≡ on b → cond test x y ≡ on (cond test a b)
carried on true e f = e
carried on false e f = f

-- Bytes behind bytes are written from where those end.
puts_append : (at : ℕ) (x y out : List ℕ) → puts at (x ++ y) out ≡ puts (puts at x out).count y (puts at x out).out
unfolding puts
puts_append at [] y out = refl
puts_append at (b ∷ x) y out = carried (λ (w : Output). puts w.count y w.out) (ltb at (length out)) (puts_append (suc at) x y (set out at b)) (puts_append at x y out)

-- Behind what a call wrote, bytes are written from where it ended.
pub puts_on : {r : ℕ} {o : List ℕ} (at : ℕ) (x y out : List ℕ) → output r o ≡ puts at x out → puts at (x ++ y) out ≡ puts r y o
puts_on at x y out e = rw (puts_append at x y out, ← e) refl

-- What two calls wrote, one behind the other, is written.
pub puts_then : {r r' : ℕ} {o o' : List ℕ} (at : ℕ) (x y out : List ℕ) → output r o ≡ puts at x out → output r' o' ≡ puts r y o → output r' o' ≡ puts at (x ++ y) out
puts_then at x y out e e' = e' ∙ sym (puts_on at x y out e)

-- The buffer stays as long as it is.
length-puts : (at : ℕ) (bytes out : List ℕ) → length (puts at bytes out).out ≡ length out
unfolding puts
length-puts at [] out = refl
length-puts at (b ∷ bytes) out =
    by_test (λ (w : Output). length w.out ≡ length out) (ltb at (length out))
    (λ _. length-puts (suc at) bytes (set out at b) ∙ length-set out at b)
    (λ _. length-puts at bytes out)

-- So it does when a call writes.
pub puts_long : {r : ℕ} {o : List ℕ} (at : ℕ) (x out : List ℕ) → output r o ≡ puts at x out → length o ≡ length out
puts_long at x out e = ap (λ (w : Output). length w.out) e ∙ length-puts at x out

-- Where all bytes fit they are stored one by one.
puts_sets : (at : ℕ) (bytes out : List ℕ) → at + length bytes ≤ length out → puts at bytes out ≡ output (at + length bytes) (sets out at bytes)
unfolding puts
puts_sets at [] out h = let e : at + 0 ≡ at = omega arith in rw e
puts_sets at (b ∷ bytes) out h =
    let e : at + suc (length bytes) ≡ suc at + length bytes = omega arith in
    rw (lt-ltb at (length out) (omega arith), e) (puts_sets (suc at) bytes (set out at b) (omega (arith, length-set out at b)))

-- At the front they stand before the rest.
pub puts_fits : (bytes out : List ℕ) → length bytes ≤ length out → puts 0 bytes out ≡ output (length bytes) (bytes ++ drop (length bytes) out)
puts_fits bytes out h =
    let e : 0 + length bytes ≡ length bytes = omega arith in
    rw (puts_sets 0 bytes out (omega arith), sets-eq bytes out 0 (omega arith), e)
