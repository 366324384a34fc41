-- A record replaced by its sides: the four cases of a cut, as stores.
use Prim.Native.Nat.{ℕ, suc, ◌+◌, ◌-◌, ◌*◌, ◌≤◌, ◌<◌}
use Rattle.std.specs.Prelude.{◌≡◌, set, replicate}
use Rattle.std.proofs.Common.{sym, subst, ◌∙◌, length-append, length-drop, length-take-le}
use Rattle.std.proofs.Math.Path.{ap}
use mathlib.Core.List.{List, [], ◌∷◌, ◌++◌, append_assoc}
use native.Mathlib.Omega.{arith}
use Rattle.std.proofs.Math.ListN.{length, take, drop}
use Rattle.std.proofs.Math.Seq.{split_at, take_at, take-append_seam, drop-append_seam}
use Rattle.layout.specs.declared.Interval.{Interval}
use Rattle.layout.specs.Intervals.{flat}
use Rattle.runs.specs.Runs.{kept}
use Rattle.runs.specs.Lists.{nowhere, interval_at, end, In, sides, cut, without_front}
use Rattle.runs.proofs.Sweep.{kept_cases, kept_long, kept_short}
use Rattle.freelist.specs.Records.{record_at, records}
use Rattle.freelist.specs.RecordsLaws.{length-records, record_at_lem, records_flat}
use Rattle.split.specs.Relisted.{relisted}
use Rattle.split.specs.Moves.{raised, lowered}
use Rattle.split.specs.RelistedLaws.{length-flat, flat_append, relisted_less, relisted_more}
use Rattle.split.specs.OffsetLaws.{set_behind, takes, drops}

-- How many records stand before record j of n, and how many behind it.
around : (n : ℕ) (list : List ℕ) (j : ℕ) → j < n → (length (take j (records n list)) ≡ j) × (suc j + length (drop (suc j) (records n list)) ≡ n)
around n list j h =
    let all : length (records n list) ≡ n = length-records n list in
    (length-take-le j (records n list) (omega arith), omega (arith, length-drop (suc j) (records n list)))

-- The words around record j of n: those before it, its two, those behind it, and the rest.
record Parts (n : ℕ) (list : List ℕ) (j : ℕ) (front back rest : List ℕ) (u v : ℕ) : Type 0 where
  same : list ≡ front ++ (u ∷ v ∷ (back ++ rest))
  before : length front ≡ 2 * j
  behind : 2 * j + 2 + length back ≡ 2 * n

-- Record j stands in such parts.
parts : (n : ℕ) (list : List ℕ) (j : ℕ) → j < n → 2 * n ≤ length list
    → Parts n list j (flat (take j (records n list))) (flat (drop (suc j) (records n list))) (drop (2 * n) list) (interval_at (records n list) j).start (interval_at (records n list) j).size
unfolding flat
parts n list j h f =
    let l : List Interval = records n list in
    let front : List Interval = take j l in
    let back : List Interval = drop (suc j) l in
    let rest : List ℕ = drop (2 * n) list in
    record {
      same =
          records_flat n list f ∙ ap (λ (t : List Interval). flat t ++ rest) (split_at l j nowhere (omega (arith, length-records n list))) ∙ ap (λ (t : List ℕ). t ++ rest) (flat_append front (interval_at l j ∷ back))
          ∙ append_assoc (flat front) (flat (interval_at l j ∷ back)) rest;
      before = omega (arith, length-flat front, around n list j h);
      behind = omega (arith, length-flat back, around n list j h);
    }

module _ {n : ℕ} {list : List ℕ} {j : ℕ} {front back rest : List ℕ} {u v : ℕ} (w : Parts n list j front back rest u v) where
  -- Its size is stored.
  stored_size : (x : ℕ) → set list (2 * j + 1) x ≡ front ++ (u ∷ x ∷ (back ++ rest))
  stored_size x = rw w.same (set_behind front (u ∷ v ∷ (back ++ rest)) 1 (2 * j + 1) x (omega arith))

  -- Both its words are.
  stored_both : (x y : ℕ) → set (set list (2 * j) x) (2 * j + 1) y ≡ front ++ (x ∷ y ∷ (back ++ rest))
  stored_both x y =
      rw (w.same, set_behind front (u ∷ v ∷ (back ++ rest)) 0 (2 * j) x (omega arith)) (set_behind front (x ∷ v ∷ (back ++ rest)) 1 (2 * j + 1) y (omega arith))

  -- A record comes in behind it, and its size is stored.
  stored_behind : (x y z : ℕ) → set (raised (2 * j + 2) (2 * n) y z list) (2 * j + 1) x ≡ front ++ (u ∷ x ∷ y ∷ z ∷ (back ++ drop (2 * n + 2) list))
  unfolding raised
  stored_behind x y z =
      let past : List ℕ = drop (2 * n + 2) list in
      let t : take (2 * j + 2) list ≡ front ++ (u ∷ v ∷ []) = rw w.same (takes front (u ∷ v ∷ (back ++ rest)) 2 (2 * j + 2) (omega arith)) in
      let g : take (2 * n) list ≡ front ++ (u ∷ v ∷ back) =
      rw w.same (takes front (u ∷ v ∷ (back ++ rest)) (suc (suc (length back))) (2 * n) (omega arith) ∙ ap (λ (o : List ℕ). front ++ (u ∷ v ∷ o)) (take-append_seam back rest)) in
      rw (t, g, drops front (u ∷ v ∷ back) 2 (2 * j + 2) (omega arith), append_assoc front (u ∷ v ∷ []) (y ∷ z ∷ (back ++ past))) (set_behind front (u ∷ v ∷ y ∷ z ∷ (back ++ past)) 1 (2 * j + 1) x (omega arith))

  -- It goes.
  stored_none : (k : ℕ) → 2 * j + 2 + k ≡ 2 * n → lowered (2 * j) k list ≡ front ++ (back ++ (0 ∷ 0 ∷ rest))
  unfolding lowered
  stored_none k q =
      let all : k ≡ length back = omega arith in
      rw (w.same, take_at front (u ∷ v ∷ (back ++ rest)) (2 * j) w.before, drops front (u ∷ v ∷ (back ++ rest)) 2 (2 * j + 2) (omega arith), drops front (u ∷ v ∷ (back ++ rest)) (suc (suc (length back))) (2 * j + k + 2) (omega arith), all, take-append_seam back rest, drop-append_seam back rest)

-- The words and the count of a list that took the place of n records.
abbrev pub Gave : ℕ → List ℕ → List Interval → ℕ → List ℕ → Type 0
Gave n list l count list' = (count ≡ length l) × (list' ≡ relisted n l list)

-- They are those of any equal list.
pub gave_same : (n : ℕ) (list : List ℕ) {l m : List Interval} {count : ℕ} {list' : List ℕ} → l ≡ m → Gave n list l count list' → Gave n list m count list'
gave_same n list {count = count} {list' = list'} e g = subst (λ (l : List Interval). Gave n list l count list') e g

-- A list that is k records shorter, written in two pieces, with its zeros.
gave_less : (n : ℕ) (list : List ℕ) {count : ℕ} {list' : List ℕ} (k : ℕ) (l m : List Interval) → length l + length m ≡ count → count + k ≡ n → list' ≡ flat l ++ (flat m ++ (replicate (2 * k) 0 ++ drop (2 * n) list)) → Gave n list (l ++ m) count list'
gave_less n list k l m h o t =
    let c : length (l ++ m) ≡ length l + length m = length-append l m in
    (omega arith, t ∙ sym (rw (relisted_less n k (l ++ m) list (omega arith), flat_append l m) (append_assoc (flat l) (flat m) (replicate (2 * k) 0 ++ drop (2 * n) list))))

-- A list that is one record longer, written in two pieces.
gave_more : (n : ℕ) (list : List ℕ) {list' : List ℕ} (l m : List Interval) → length l + length m ≡ n + 1 → list' ≡ flat l ++ (flat m ++ drop (2 * n + 2) list) → Gave n list (l ++ m) (n + 1) list'
gave_more n list l m h t =
    let c : length (l ++ m) ≡ length l + length m = length-append l m in
    (omega arith, t ∙ sym (rw (relisted_more n 1 (l ++ m) list (omega arith), flat_append l m) (append_assoc (flat l) (flat m) (drop (2 * n + 2) list))))

-- The four cases.
module _ (k left next right n : ℕ) (list : List ℕ) (j : ℕ) (h : j < n) (f : 2 * n ≤ length list) where
  abbrev front : List Interval
  front = take j (records n list)

  abbrev back : List Interval
  back = drop (suc j) (records n list)

  abbrev from : ℕ
  from = (interval_at (records n list) j).start

  -- Both sides are kept.
  pub both_sides : k ≤ left → k ≤ right → Gave n list (sides k left next right (records n list) j) (n + 1) (set (raised (2 * j + 2) (2 * n) next right list) (2 * j + 1) left)
  unfolding flat
  both_sides y z =
      rw (kept_long k next right back z, kept_long k from left (record { start = next; size = right } ∷ back) y)
      (gave_more n list front (record { start = from; size = left } ∷ record { start = next; size = right } ∷ back) (omega (arith, around n list j h)) (stored_behind (parts n list j h f) left next right))

  -- The left side is.
  pub left_side : k ≤ left → right < k → Gave n list (sides k left next right (records n list) j) n (set list (2 * j + 1) left)
  unfolding flat
  left_side y z =
      rw (kept_short k next right back z, kept_long k from left back y)
      (gave_less n list 0 front (record { start = from; size = left } ∷ back) (omega (arith, around n list j h)) (omega arith) (stored_size (parts n list j h f) left))

  -- The right side is.
  pub right_side : left < k → k ≤ right → Gave n list (sides k left next right (records n list) j) n (set (set list (2 * j) next) (2 * j + 1) right)
  unfolding flat
  right_side y z =
      rw (kept_long k next right back z, kept_short k from left (record { start = next; size = right } ∷ back) y)
      (gave_less n list 0 front (record { start = next; size = right } ∷ back) (omega (arith, around n list j h)) (omega arith) (stored_both (parts n list j h f) next right))

  -- Neither is.
  pub no_side : left < k → right < k → (i count : ℕ) → 2 * j + 2 + i ≡ 2 * n → count + 1 ≡ n → Gave n list (sides k left next right (records n list) j) count (lowered (2 * j) i list)
  unfolding flat
  no_side y z i count o t =
      rw (kept_short k next right back z, kept_short k from left back y) (gave_less n list 1 front back (omega (arith, around n list j h)) t (stored_none (parts n list j h f) i o))

-- What contains words is a record.
pub in_place : (n : ℕ) (list : List ℕ) (a s j : ℕ) → In (records n list) a s j → j < n
in_place n list a s j i = omega (arith, i.there, length-records n list)

-- The interval at place j, as the code has read it.
module _ (n : ℕ) (list : List ℕ) (j : ℕ) {r : Interval} (e : r ≡ record_at list j) where
  pub read_at : j < n → interval_at (records n list) j ≡ r
  read_at h = record_at_lem n list j h ∙ sym e

  pub in_read : (a s : ℕ) → In (records n list) a s j → (r.start ≤ a) × (a + s ≤ end r)
  in_read a s i =
      let here : interval_at (records n list) j ≡ r = read_at (in_place n list a s j i) in
      (rw here at i.low, rw here at i.high)

  -- The sides that a cut leaves of it.
  pub cut_sides : (k a s left right : ℕ) → j < n → r.start + left ≡ a → left + s + right ≡ r.size → sides k left (a + s) right (records n list) j ≡ cut k a s (records n list) j
  unfolding cut
  cut_sides k a s left right h x y =
      let l : left ≡ a - r.start = omega arith in
      let m : right ≡ end r - (a + s) = omega arith in
      rw (read_at h, l, m)

  -- What is left of it without its first s words.
  pub front_sides : (k s : ℕ) → j < n → s ≤ r.size → sides k 0 (r.start + s) (r.size - s) (records n list) j ≡ without_front k s (records n list) j
  front_sides k s h f =
      let starts : (interval_at (records n list) j).start ≡ r.start = ap (λ (i : Interval). i.start) (read_at h) in
      cut_sides k r.start s 0 (r.size - s) h (omega arith) (omega arith) ∙ ap (λ (a : ℕ). cut k a s (records n list) j) (sym starts)

-- Where no words are left in front the list does not grow.
pub front_fits : (k next right n : ℕ) (list : List ℕ) (j : ℕ) → 1 ≤ k → j < n → 2 * n ≤ length list → 2 * length (sides k 0 next right (records n list) j) ≤ length list
front_fits k next right n list j some h f =
    let front : List Interval = take j (records n list) in
    let back : List Interval = drop (suc j) (records n list) in
    let lengths = around n list j h in
    rw (kept_short k (interval_at (records n list) j).start 0 (kept k next right back) some, length-append front (kept k next right back))
    (kept_cases (λ m. 2 * (length front + length m) ≤ length list) k next right back (λ y. omega (arith, lengths)) (λ x. omega (arith, lengths)))
