-- Laws of the list's words and of refusal 3's rule.
use Rattle.std.specs.Prelude.{ℕ, zero, suc, ◌+◌, ◌*◌, ◌/◌, ◌≤◌, ◌<◌, ◌≡◌, refl, ◌↔◌, true, false, ◌&&◌, List, [], ◌∷◌, ◌++◌, length, get_or, take, drop, leb, ltb}
use Rattle.std.proofs.Common.{get_or-take, sym, ap, ◌∙◌, arith, drop-cons, le-leb, lt-ltb, ltb-true, leb-true}
use Rattle.std.proofs.Math.Bool.{and-eq-true_iff}
use Rattle.std.proofs.Math.Seq.{drop-length}
use Rattle.std.proofs.lemmas.Bool.{lt-leb}
use Rattle.layout.specs.declared.Interval.{Interval}
use Rattle.layout.specs.Limits.{list_room, list_words}
use Rattle.layout.specs.Intervals.{flat}
use Rattle.runs.specs.Lists.{nowhere, interval_at, end, Ordered, none, one}
use Rattle.std.specs.Simd.{first_chunks}
use Rattle.freelist.specs.Records.{record_at, intervals, records, in_order, valid_list}

-- As many intervals are read as records.
pub length-records : (n : ℕ) (list : List ℕ) → length (records n list) ≡ n
unfolding records
length-records zero list = refl
length-records (suc n) list = ap suc (length-records n (drop 2 list))

-- What stands past the first two words.
past_two : (list : List ℕ) (i : ℕ) → get_or (drop 2 list) i 0 ≡ get_or list (suc (suc i)) 0
past_two [] i = refl
past_two (x ∷ []) i = refl
past_two (x ∷ y ∷ list) i = refl

-- The interval at a place is that of its record.
pub record_at_lem : (n : ℕ) (list : List ℕ) (j : ℕ) → j < n → interval_at (records n list) j ≡ record_at list j
unfolding records
record_at_lem zero list j h = absurd (omega arith)
record_at_lem (suc n) list zero h = refl
record_at_lem (suc n) list (suc j) h =
    let even : 2 * suc j ≡ suc (suc (2 * j)) = omega arith in
    let odd : 2 * suc j + 1 ≡ suc (suc (2 * j + 1)) = omega arith in
    rw (odd, even) (record_at_lem n (drop 2 list) j (omega arith) ∙ simp past_two)

-- From record i on comes its interval, and then those behind it.
pub records_next : (n : ℕ) (list : List ℕ) (i : ℕ) → i < n → drop i (records n list) ≡ record_at list i ∷ drop (i + 1) (records n list)
records_next n list i h =
    let next : i + 1 ≡ suc i = omega arith in
    rw (next, ← record_at_lem n list i h) (drop-cons (records n list) i nowhere (omega (arith, length-records n list)))

-- From the count on comes none.
pub records_end : (n : ℕ) (list : List ℕ) (i : ℕ) → i ≡ n → drop i (records n list) ≡ []
records_end n list i e = rw (e ∙ sym (length-records n list)) (drop-length (records n list))

-- The records of a list are its words in pairs.
pub pairs_records : (n k : ℕ) (list : List ℕ) → n ≤ k → intervals (take n (first_chunks 2 k list)) ≡ records n list
unfolding records intervals
pairs_records zero k list h = refl
pairs_records (suc n) zero list h = absurd (omega arith)
pairs_records (suc n) (suc k) list h =
    let start : get_or (take 2 list) 0 0 ≡ get_or list 0 0 = get_or-take 2 list 0 0 (omega arith) in
    let size : get_or (take 2 list) 1 0 ≡ get_or list 1 0 = get_or-take 2 list 1 0 (omega arith) in
    rw (start, size, pairs_records n k (drop 2 list) (omega arith)) refl

-- There are as many intervals as pairs.
pub length-intervals : (pairs : List (List ℕ)) → length (intervals pairs) ≡ length pairs
unfolding intervals
length-intervals [] = refl
length-intervals (p ∷ pairs) = ap suc (length-intervals pairs)

-- The interval at a place is that of the pair there.
pub interval_pair : (pairs : List (List ℕ)) (i : ℕ) (d : List ℕ) → i < length pairs → interval_at (intervals pairs) i ≡ record_at (get_or pairs i d) 0
unfolding intervals
interval_pair [] i d h = absurd (omega arith)
interval_pair (p ∷ pairs) zero d h = refl
interval_pair (p ∷ pairs) (suc i) d h = interval_pair pairs i d (omega arith)

-- From place i on comes the interval there, and then those behind it.
pub interval_next : (l : List Interval) (i : ℕ) → i < length l → drop i l ≡ interval_at l i ∷ drop (i + 1) l
interval_next l i h =
    let next : i + 1 ≡ suc i = omega arith in
    rw next (drop-cons l i nowhere h)

-- The records in a list's front are the list's.
pub records_part : (n m : ℕ) (list : List ℕ) → 2 * n ≤ m → records n (take m list) ≡ records n list
unfolding records
records_part zero m list h = refl
records_part (suc n) zero list h = absurd (omega arith)
records_part (suc n) (suc zero) list h = absurd (omega arith)
records_part (suc n) (suc (suc m)) [] h = refl
records_part (suc n) (suc (suc m)) (x ∷ []) h = refl
records_part (suc n) (suc (suc m)) (x ∷ y ∷ list) h = ap (λ (l : List Interval). record_at (x ∷ y ∷ []) 0 ∷ l) (records_part n m list (omega arith))

-- The words are those of the records, and what follows them.
pub records_flat : (n : ℕ) (list : List ℕ) → 2 * n ≤ length list → list ≡ flat (records n list) ++ drop (2 * n) list
unfolding records flat
records_flat zero list h = refl
records_flat (suc n) [] h = absurd (omega arith)
records_flat (suc n) (x ∷ []) h = absurd (omega arith)
records_flat (suc n) (x ∷ y ∷ list) h =
    let e : 2 * suc n ≡ suc (suc (2 * n)) = omega arith in
    rw e (ap (λ (t : List ℕ). x ∷ y ∷ t) (records_flat n list (omega arith)))

-- What was written is read back.
pub flat_records : (l : List Interval) (rest : List ℕ) → records (length l) (flat l ++ rest) ≡ l
unfolding records flat
flat_records [] rest = refl
flat_records (i ∷ l) rest = ap (λ (t : List Interval). i ∷ t) (flat_records l rest)

-- The rule, one record at a time.
module _ (h t n : ℕ) (list : List ℕ) where
  -- A count above the room breaks it.
  pub valid_above : length list ≡ list_words h t → length list / 2 < n → valid_list h t n list ≡ false
  unfolding valid_list list_words
  valid_above e l = rw (lt-leb n (list_room h t) (omega arith))

  -- Any other leaves the records to be looked at.
  pub valid_room : length list ≡ list_words h t → n ≤ length list / 2 → valid_list h t n list ≡ in_order t h 0 (drop 0 (records n list))
  unfolding valid_list list_words
  valid_room e l = rw (le-leb n (list_room h t) (omega arith))

  -- A record that fails the test breaks it; one that passes leaves it to those behind.
  module _ (from i : ℕ) (l : i < n) {r : Interval} (e : r ≡ record_at list i) where
    here : drop i (records n list) ≡ r ∷ drop (i + 1) (records n list)
    here = rw e (records_next n list i l)

    pub order_stop : ltb from r.start && leb t r.size && leb (end r) h ≡ false → in_order t h from (drop i (records n list)) ≡ false
    unfolding in_order
    order_stop fails = rw (here, in_order, fails)

    pub order_next : ltb from r.start && leb t r.size && leb (end r) h ≡ true → in_order t h from (drop i (records n list)) ≡ in_order t h (end r) (drop (i + 1) (records n list))
    unfolding in_order
    order_next passes = rw (here, in_order, passes)

  -- Past the last nothing is left to break it.
  pub order_end : (from i : ℕ) → i ≡ n → in_order t h from (drop i (records n list)) ≡ true
  unfolding in_order
  order_end from i e = rw (records_end n list i e)

-- What passes the rule is in order.
order_sound : (t h from : ℕ) (l : List Interval) → in_order t h from l ≡ true → Ordered t 1 h (from + 1) l
unfolding in_order
order_sound t h from [] e = none
order_sound t h from (i ∷ l) e =
    let x = (and-eq-true_iff _ _).0 e in
    let y = (and-eq-true_iff _ _).0 x.0 in
    let z = (and-eq-true_iff _ _).0 y.0 in
    one {lo = from + 1} {i = i} (omega (arith, ltb-true from i.start z.0)) (leb-true t i.size z.1) (leb-true (end i) h y.1) (order_sound t h (end i) l x.1)

-- What is in order passes the rule.
order_complete : {t h lo : ℕ} {l : List Interval} (from : ℕ) → from + 1 ≡ lo → Ordered t 1 h lo l → in_order t h from l ≡ true
unfolding in_order
order_complete from e none = refl
order_complete {t} {h} from e (one {i = i} a b c o) =
    rw (lt-ltb from i.start (omega arith), le-leb t i.size b, le-leb (end i) h c) (order_complete (end i) refl o)

-- The rule for records is the order of intervals in words 1 to h-1, with a word or more between neighbours.
pub order_ordered : (t h : ℕ) (l : List Interval) → (in_order t h 0 l ≡ true) ↔ Ordered t 1 h 1 l
order_ordered t h l = (order_sound t h 0 l, λ o. order_complete 0 refl o)

-- A list that passes has its records in the needed part, and its intervals are in order.
pub valid_ordered : (h t n : ℕ) (list : List ℕ) → valid_list h t n list ≡ true → (2 * n ≤ list_words h t) × Ordered t 1 h 1 (records n list)
unfolding valid_list list_words
valid_ordered h t n list e =
    let x = (and-eq-true_iff _ _).0 e in
    let room : n ≤ list_room h t = leb-true n (list_room h t) x.0 in
    (omega (arith, room), (order_ordered t h (records n list)).0 x.1)

-- A list whose intervals are in order passes, where its count is not above the room.
pub ordered_valid : (h t n : ℕ) (list : List ℕ) → 2 * n ≤ list_words h t → Ordered t 1 h 1 (records n list) → valid_list h t n list ≡ true
unfolding valid_list list_words
ordered_valid h t n list room o = rw (le-leb n (list_room h t) (omega arith)) ((order_ordered t h (records n list)).1 o)
