-- Laws of the moves: what stands in the words while they go on, and when they are done.
use Rattle.std.specs.Prelude.{ℕ, suc, ◌+◌, ◌-◌, ◌≤◌, ◌<◌, ◌≡◌, refl, List, [], ◌∷◌, ◌++◌, length, get_or, take, drop, set}
use Rattle.std.proofs.Common.{sym, ap, ◌∙◌, append_assoc, arith, add-one, take-append-drop, length-append, length-drop, length-take-le, take-suc, take-take, take_at, drop_at, get_or-take, get_or-drop, drop-drop}
use Rattle.std.proofs.Math.ListN.{get_or-append}
use Rattle.std.proofs.Math.Seq.{slice, slice_empty, slice-cons, length-slice, append_snoc, paste, paste-zero, paste-suc, length_paste_head}
use Rattle.std.proofs.lemmas.List.{take-append-le, set_at, drop-take}
use Rattle.std.proofs.lemmas.List.Edits.{sets-eq, length-paste}
use Rattle.std.specs.List.{copy_within}
use Rattle.split.specs.Moves.{raised, lowered}
use Rattle.split.specs.OffsetLaws.{gets, drops}

-- Two stores side by side.
pub two_stores : (list : List ℕ) (at x y : ℕ) → at + 2 ≤ length list → set (set list at x) (at + 1) y ≡ take at list ++ (x ∷ y ∷ drop (at + 2) list)
two_stores list at x y h = rw add-one (sets-eq (x ∷ y ∷ []) list at h ∙ append_assoc (take at list) (x ∷ y ∷ []) (drop (at + 2) list))

-- While words go up, those from i on up to `to` stand two places higher.
abbrev pub rising : List ℕ → ℕ → ℕ → List ℕ
rising list to i = take (i + 2) list ++ (slice i to list ++ drop (to + 2) list)

-- At first nothing has moved.
pub rising_none : (list : List ℕ) (to : ℕ) → list ≡ rising list to to
rising_none list to = rw slice_empty (sym (take-append-drop (to + 2) list))

-- Each store moves one word up.
pub rising_more : (list : List ℕ) (to i j : ℕ) → suc j ≡ i → i ≤ to → to + 2 ≤ length list → set (rising list to i) (j + 2) (get_or (rising list to i) j 0) ≡ rising list to j
rising_more list to i j q h f =
    let r : List ℕ = slice i to list ++ drop (to + 2) list in
    let k : i + 2 ≡ suc (j + 2) = omega arith in
    let n : length (take (j + 2) list) ≡ j + 2 = length-take-le (j + 2) list (omega arith) in
    let t : take (i + 2) list ≡ take (j + 2) list ++ (get_or list (j + 2) 0 ∷ []) = rw k (take-suc list (j + 2) 0 (omega arith)) in
    let v : get_or (take (i + 2) list ++ r) j 0 ≡ get_or list j 0 =
    get_or-append (take (i + 2) list) r 0 j (omega (arith, length-take-le (i + 2) list (omega arith))) ∙ get_or-take (i + 2) list j 0 (omega arith) in
    let w : slice j to list ≡ get_or list j 0 ∷ slice i to list = rw (← q) (slice-cons j to list 0 (omega arith) (omega arith)) in
    rw (v, t, w)
    (ap (λ (z : List ℕ). set z (j + 2) (get_or list j 0)) (append_snoc (take (j + 2) list) (get_or list (j + 2) 0) r) ∙ set_at (take (j + 2) list) (get_or list (j + 2) 0) r (get_or list j 0) (j + 2) n)

-- A copy of all of them at once moves them so.
pub rising_copied : (list : List ℕ) (at to : ℕ) → at ≤ to → copy_within list at to (at + 2) ≡ rising list to at
rising_copied list at to h =
    let n : ℕ = to - at in
    let e : to ≡ at + n = omega arith in
    let behind : at + 2 + n ≡ to + 2 = omega arith in
    let part : slice at to list ≡ take n (drop at list) = ap (λ (k : ℕ). drop at (take k list)) e ∙ drop-take at n list in
    rw (behind, part) (append_assoc (take (at + 2) list) (take n (drop at list)) (drop (to + 2) list))

-- The length stays.
length-rising : (list : List ℕ) (to i : ℕ) → i ≤ to → to + 2 ≤ length list → length (rising list to i) ≡ length list
length-rising list to i h f = simp (length-append, length-take-le (i + 2) list (omega arith), length-slice i to list (omega arith), length-drop) (omega arith)

-- At the end the record is stored in the gap.
pub rising_done : (list : List ℕ) (at to start size : ℕ) → at ≤ to → to + 2 ≤ length list → set (set (rising list to at) at start) (at + 1) size ≡ raised at to start size list
unfolding raised
rising_done list at to start size h f =
    let r : List ℕ = slice at to list ++ drop (to + 2) list in
    let n : length (take (at + 2) list) ≡ at + 2 = length-take-le (at + 2) list (omega arith) in
    let t : take at (take (at + 2) list ++ r) ≡ take at list = take-append-le at (take (at + 2) list) r (omega arith) ∙ take-take at (at + 2) list (omega arith) in
    two_stores (rising list to at) at start size (omega (arith, length-rising list to at h f)) ∙ rw (t, drop_at (take (at + 2) list) r (at + 2) n)

-- While words go down, the first n stand two places lower.
abbrev pub falling : List ℕ → ℕ → ℕ → List ℕ
falling list at n = paste list at (drop (at + 2) list) n

-- At first nothing has moved.
pub falling_none : (list : List ℕ) (at : ℕ) → list ≡ falling list at 0
falling_none list at = paste-zero list at (drop (at + 2) list)

-- A copy of all of them at once moves them so.
pub falling_copied : (list : List ℕ) (at n : ℕ) → copy_within list (at + 2) (at + n + 2) at ≡ falling list at n
falling_copied list at n = let e : at + n + 2 - (at + 2) ≡ n = omega arith in rw e refl

-- How many words stand before the one in hand.
falling_head : (list : List ℕ) (at n : ℕ) → at + n + 2 ≤ length list → length (take at list ++ take n (drop (at + 2) list)) ≡ at + n
falling_head list at n h = length_paste_head list at (drop (at + 2) list) n (omega arith) (omega (arith, length-drop (at + 2) list))

-- The length stays.
length-falling : (list : List ℕ) (at n : ℕ) → at + n + 2 ≤ length list → length (falling list at n) ≡ length list
length-falling list at n h = length-paste list at (drop (at + 2) list) n (omega arith) (omega (arith, length-drop (at + 2) list))

-- Each store moves one word down.
pub falling_more : (list : List ℕ) (at i n m : ℕ) → at + n ≡ i → suc n ≡ m → i + 2 < length list → set (falling list at n) i (get_or (falling list at n) (i + 2) 0) ≡ falling list at m
falling_more list at i n m e q h =
    let s : List ℕ = drop (at + 2) list in
    let v : get_or (falling list at n) (at + n + 2) 0 ≡ get_or s n 0 =
    gets (take at list ++ take n s) (drop (at + n) list) 2 (at + n + 2) 0 (omega (arith, falling_head list at n (omega arith))) ∙ get_or-drop (at + n) list 2 0
    ∙ ap (λ (k : ℕ). get_or list k 0) (omega arith) ∙ sym (get_or-drop (at + 2) list n 0) in
    rw (← e, v, ← q) (paste-suc list at s n 0 (omega arith) (omega (arith, length-drop (at + 2) list)))

-- At the end zeros are stored in the record that they leave.
pub falling_done : (list : List ℕ) (at n : ℕ) → at + n + 2 ≤ length list → set (set (falling list at n) (at + n) 0) (at + n + 1) 0 ≡ lowered at n list
unfolding lowered
falling_done list at n h =
    let p : List ℕ = take at list ++ take n (drop (at + 2) list) in
    let l : length p ≡ at + n = falling_head list at n h in
    two_stores (falling list at n) (at + n) 0 0 (omega (arith, length-falling list at n h))
    ∙ rw (take_at p (drop (at + n) list) (at + n) l, drops p (drop (at + n) list) 2 (at + n + 2) (omega arith), drop-drop 2 (at + n) list) (append_assoc (take at list) (take n (drop (at + 2) list)) (0 ∷ 0 ∷ drop (at + n + 2) list))
