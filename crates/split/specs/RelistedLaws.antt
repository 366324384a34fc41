-- Laws of a list written over another.
use Rattle.std.specs.Prelude.{ℕ, ◌+◌, ◌-◌, ◌*◌, ◌≤◌, ◌≡◌, refl, List, [], ◌∷◌, ◌++◌, length, drop, replicate}
use Rattle.std.proofs.Common.{ap, ◌∙◌, append_assoc, arith, length-append, length-drop, drop_at}
use Rattle.std.proofs.lemmas.List.{length-replicate, replicate-append-replicate}
use Rattle.std.proofs.Math.Seq.{drop-append-add}
use Rattle.layout.specs.declared.Interval.{Interval}
use Rattle.layout.specs.Intervals.{flat, shown}
use Rattle.freelist.specs.Records.{records}
use Rattle.freelist.specs.RecordsLaws.{flat_records}
use Rattle.split.specs.Relisted.{relisted}

-- A list has two words for each interval.
pub length-flat : (l : List Interval) → length (flat l) ≡ 2 * length l
unfolding flat
length-flat [] = refl
length-flat (i ∷ l) = omega (arith, length-flat l)

-- The words of two lists, one behind the other.
pub flat_append : (l m : List Interval) → flat (l ++ m) ≡ flat l ++ flat m
unfolding flat
flat_append [] m = refl
flat_append (i ∷ l) m = ap (λ (t : List ℕ). i.start ∷ i.size ∷ t) (flat_append l m)

-- A list that is k records shorter leaves them zero.
pub relisted_less : (n k : ℕ) (l : List Interval) (list : List ℕ) → length l + k ≡ n → relisted n l list ≡ flat l ++ (replicate (2 * k) 0 ++ drop (2 * n) list)
unfolding relisted shown
relisted_less n k l list e =
    let zeros : 2 * n - 2 * length l ≡ 2 * k = omega arith in
    let long : length (flat l) + 2 * k ≡ 2 * n = omega (arith, length-flat l) in
    rw (zeros, length-append (flat l) (replicate (2 * k) 0), length-replicate {A = ℕ} (2 * k) 0, long) (append_assoc (flat l) (replicate (2 * k) 0) (drop (2 * n) list))

-- A list that is k records longer takes the words behind.
pub relisted_more : (n k : ℕ) (l : List Interval) (list : List ℕ) → length l ≡ n + k → relisted n l list ≡ flat l ++ drop (2 * n + 2 * k) list
unfolding relisted shown
relisted_more n k l list e =
    let zeros : 2 * n - 2 * length l ≡ 0 = omega arith in
    let long : length (flat l) + 0 ≡ 2 * n + 2 * k = omega (arith, length-flat l) in
    rw (zeros, length-append (flat l) [], long) (append_assoc (flat l) [] (drop (2 * n + 2 * k) list))

-- A list shown fills its part.
pub length-shown : (room : ℕ) (l : List Interval) → 2 * length l ≤ room → length (shown room l) ≡ room
unfolding shown
length-shown room l fits = omega (arith, length-append (flat l) (replicate (room - 2 * length l) 0), length-replicate {A = ℕ} (room - 2 * length l) 0, length-flat l)

-- A list written over another keeps the number of the words, if both have room in them.
pub length-relisted : (n : ℕ) (l : List Interval) (list : List ℕ) → 2 * n ≤ length list → 2 * length l ≤ length list → length (relisted n l list) ≡ length list
unfolding relisted shown
length-relisted n l list room fits =
    let zeros : List ℕ = replicate (2 * n - 2 * length l) 0 in
    let front : List ℕ = flat l ++ zeros in
    omega (arith, length-append front (drop (length front) list), length-drop (length front) list, length-append (flat l) zeros, length-flat l, length-replicate {A = ℕ} (2 * n - 2 * length l) 0)

-- A list shown with zeros behind it is read back.
pub records_shown : (room : ℕ) (l : List Interval) → records (length l) (shown room l) ≡ l
unfolding shown
records_shown room l = flat_records l (replicate (room - 2 * length l) 0)

-- So it is with other words behind.
pub records_front : (room : ℕ) (l : List Interval) (rest : List ℕ) → records (length l) (shown room l ++ rest) ≡ l
unfolding shown
records_front room l rest = ap (records (length l)) (append_assoc (flat l) (replicate (room - 2 * length l) 0) rest) ∙ flat_records l (replicate (room - 2 * length l) 0 ++ rest)

-- Copies of one word, cut and joined.
drop_copies : (n k all x : ℕ) → all ≡ n + k → drop n (replicate all x) ≡ replicate k x
drop_copies n k all x e = rw (e, ← replicate-append-replicate n k x) (drop_at (replicate n x) (replicate k x) n (length-replicate n x))

join_copies : (n k all x : ℕ) → all ≡ n + k → replicate n x ++ replicate k x ≡ replicate all x
join_copies n k all x e = rw e (replicate-append-replicate n k x)

-- Where a list stands with zeros behind it, so does one written over it.
pub relisted_shown : (room : ℕ) (l m : List Interval) → 2 * length l ≤ room → 2 * length m ≤ room → relisted (length l) m (shown room l) ≡ shown room m
unfolding relisted shown
relisted_shown room l m fits fits' =
    let z : ℕ = room - 2 * length l in
    let front : ℕ = 2 * length l - 2 * length m in
    let past : ℕ = 2 * length m - 2 * length l in
    let left : ℕ = room - 2 * length m - front in
    let head : List ℕ = flat m ++ replicate front 0 in
    let long : length head ≡ length (flat l) + past = omega (arith, length-append (flat m) (replicate front 0), length-replicate {A = ℕ} front 0, length-flat l, length-flat m) in
    let tail : drop (length head) (flat l ++ replicate z 0) ≡ replicate left 0 = ap (λ (n : ℕ). drop n (flat l ++ replicate z 0)) long ∙ drop-append-add (flat l) (replicate z 0) past ∙ drop_copies past left z 0 (omega arith) in
    ap (λ (t : List ℕ). head ++ t) tail ∙ append_assoc (flat m) (replicate front 0) (replicate left 0) ∙ ap (λ (t : List ℕ). flat m ++ t) (join_copies front left (room - 2 * length m) 0 (omega arith))
