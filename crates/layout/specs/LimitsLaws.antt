-- Laws of the limits and of the room figures.
use Rattle.std.specs.Prelude.{ℕ, ◌-◌, ◌*◌, ◌/◌, ◌≤◌, ◌<◌, ◌≡◌, ◌≢◌, Bool, ◌&&◌, List, length, leb, eqb, Result, Ok, Err}
use Rattle.std.proofs.Math.Path.{refl}
use Rattle.std.proofs.Common.{sym, ap, ◌∙◌, div-le_self, arith}
use Rattle.std.specs.Result.{result_unwrap_or}
use Rattle.std.proofs.Math.Bool.{true, false, and-eq-true_iff}
use Rattle.std.proofs.Math.Dec.{ltb}
use borrow.Author.Tests.{leb-true, ltb-true, eqb-true, lt-ltb, le-ltb}
use Rattle.layout.specs.Limits.{max_words, max_keep, within, suits, map_words, stack_words, list_room, list_words, rooms_of, needed, fitted}
use Rattle.layout.specs.declared.Rooms.{Rooms}
use Rattle.layout.specs.declared.State.{State}
use Rattle.layout.specs.declared.refusal.Refusal.{Refusal}
use Rattle.layout.specs.declared.refusal.Refusal.TheVariants.{Limits as OutOfLimits}

-- What the limits say of a heap of h words and a keep length of t.
pub record Limits (h t : ℕ) : Type 0 where
  pub some : 1 ≤ h
  pub words : h ≤ max_words
  pub keeps : 1 ≤ t
  pub keep : t ≤ max_keep

-- Within the limits each bound holds.
pub limits : (h t : ℕ) → within h t ≡ true → Limits h t
unfolding within
limits h t e =
    let x = (and-eq-true_iff _ _).0 e in
    let y = (and-eq-true_iff _ _).0 x.0 in
    let z = (and-eq-true_iff _ _).0 y.0 in
    record { some = leb-true 1 h z.0; words = leb-true h max_words z.1; keeps = leb-true 1 t y.1; keep = leb-true t max_keep x.1 }

-- Within the limits the figures are what is needed.
pub rooms_in : (h t : ℕ) → within h t ≡ true → rooms_of h t ≡ record { map = map_words h; stack = stack_words h t; list = list_words h t }
unfolding rooms_of
rooms_in h t e = rw e

-- Out of the limits they are 0.
pub rooms_out : (h t : ℕ) → within h t ≡ false → rooms_of h t ≡ record { map = 0; stack = 0; list = 0 }
unfolding rooms_of
rooms_out h t e = rw e

-- A figure is at most twice the most words of a heap.
pub rooms_small : (h t : ℕ) → ((rooms_of h t).map ≤ max_words) × ((rooms_of h t).stack ≤ max_words) × ((rooms_of h t).list ≤ 2 * max_words)
unfolding rooms_of map_words stack_words list_words list_room
rooms_small h t = go (within h t) refl
  where
    go : (ok : Bool) → within h t ≡ ok → ((rooms_of h t).map ≤ max_words) × ((rooms_of h t).stack ≤ max_words) × ((rooms_of h t).list ≤ 2 * max_words)
    go true e = rw e (omega (arith, limits h t e, div-le_self (h - 1) t))
    go false e = rw e (omega arith)

-- What the figures that a call has worked out say of the limits.
module _ (h t : ℕ) {rooms : Rooms} (e : rooms ≡ rooms_of h t) where
  -- The map figure tells whether they are kept.
  map_tells : ltb 0 rooms.map ≡ within h t
  unfolding map_words
  map_tells = go (within h t) refl
    where
      go : (ok : Bool) → within h t ≡ ok → ltb 0 rooms.map ≡ ok
      go true i = let needs : rooms.map ≡ map_words h = rw (e, rooms_in h t i) in lt-ltb 0 rooms.map (omega (arith, limits h t i))
      go false i = rw (e, rooms_out h t i)

  -- It is 0 only out of them.
  pub map_zero : rooms.map ≡ 0 → within h t ≡ false
  map_zero z = sym map_tells ∙ le-ltb 0 rooms.map (omega arith)

  module _ (some : rooms.map ≢ 0) where
    -- Any other is given within them, and then each figure is what is needed.
    pub allowed : within h t ≡ true
    allowed = sym map_tells ∙ lt-ltb 0 rooms.map (omega arith)

    pub map_needs : rooms.map ≡ map_words h
    map_needs = rw (e, rooms_in h t allowed)

    stack_needs : rooms.stack ≡ stack_words h t
    stack_needs = rw (e, rooms_in h t allowed)

    pub list_needs : rooms.list ≡ list_words h t
    list_needs = rw (e, rooms_in h t allowed)

-- A state that suits its heap is within the limits.
pub suits_within : (state : State) (heap : List ℕ) → suits state heap ≡ true → within state.words state.keep ≡ true
unfolding suits
suits_within state heap e = ((and-eq-true_iff _ _).0 e).0

-- So each bound holds, and the heap has its words.
pub suits_limits : (state : State) (heap : List ℕ) → suits state heap ≡ true → Limits state.words state.keep × (length heap ≡ state.words)
unfolding suits
suits_limits state heap e =
    let x = (and-eq-true_iff (within state.words state.keep) _).0 e in
    (limits state.words state.keep x.0, eqb-true (length heap) state.words x.1)

-- The same test as the code makes it, with the room figures that it has worked out.
abbrev pub suits_by : Rooms → State → List ℕ → Bool
suits_by rooms state heap = ltb 0 rooms.map && eqb (length heap) state.words

-- What is known of a state that suits its heap, and of these figures.
pub record Suited (state : State) (heap : List ℕ) (rooms : Rooms) : Type 0 where
  pub limits : within state.words state.keep ≡ true
  pub same : length heap ≡ state.words
  pub map_room : rooms.map ≡ map_words state.words
  pub stack_room : rooms.stack ≡ stack_words state.words state.keep
  pub list_room_lem : rooms.list ≡ list_words state.words state.keep

module _ (state : State) (heap : List ℕ) {rooms : Rooms} (e : rooms ≡ rooms_of state.words state.keep) where
  -- The code's test is that of the definition.
  pub suits_tells : suits_by rooms state heap ≡ suits state heap
  unfolding suits
  suits_tells = rw (map_tells state.words state.keep e)

  -- What is known where it holds.
  pub suited : suits_by rooms state heap ≡ true → Suited state heap rooms
  suited ok =
      let h : ℕ = state.words in
      let t : ℕ = state.keep in
      let x = (and-eq-true_iff (ltb 0 rooms.map) _).0 ok in
      let more : 0 < rooms.map = ltb-true 0 rooms.map x.0 in
      let some : rooms.map ≢ 0 = λ none. omega arith in
      record { limits = allowed h t e some; same = eqb-true (length heap) h x.1; map_room = map_needs h t e some; stack_room = stack_needs h t e some; list_room_lem = list_needs h t e some }

-- What the test of two buffers tells.
pub two_fit : {m n : ℕ} (map list : List ℕ) → leb m (length map) && leb n (length list) ≡ true → (m ≤ length map) × (n ≤ length list)
two_fit {m} {n} map list e =
    let x = (and-eq-true_iff (leb m (length map)) _).0 e in
    (leb-true m (length map) x.0, leb-true n (length list) x.1)

-- A list of a heap of h words has room for fewer than h intervals.
pub list_small : (h t : ℕ) → list_words h t ≤ 2 * (h - 1)
unfolding list_words list_room stack_words
list_small h t = omega (arith, div-le_self (h - 1) t)

-- A map of the needed length has a word for each bit of the heap.
pub bit_inside : (h a : ℕ) → a < h → a / 32 < map_words h
unfolding map_words
bit_inside h a l = omega arith

-- A map of the needed length, or a longer one, has a bit for each word of the heap.
pub bits_enough : (h n : ℕ) → map_words h ≤ n → h ≤ 32 * n
unfolding map_words
bits_enough h n l = omega arith

-- The figures handed out within the limits are the room figures, and the map's is not 0.
pub needed_ok : (h t : ℕ) {rooms : Rooms} → Ok rooms ≡ needed h t → (rooms ≡ rooms_of h t) × (rooms.map ≢ 0)
unfolding needed map_words
needed_ok h t {rooms} e = go (within h t) refl
  where
    go : (ok : Bool) → within h t ≡ ok → (rooms ≡ rooms_of h t) × (rooms.map ≢ 0)
    go true i =
        let told : needed h t ≡ Ok (rooms_of h t) = rw i refl in
        let same : rooms ≡ rooms_of h t = ap (λ (x : Result Rooms Refusal). result_unwrap_or x rooms) (e ∙ told) in
        (same, λ none. omega (arith, limits h t i, ap (λ (x : Rooms). x.map) (same ∙ rooms_in h t i)))
    go false i = let never : Ok rooms ≡ Err OutOfLimits = e ∙ rw i refl in absurd cc

-- The refusal is that of the limits, given only out of them.
pub needed_err : (h t : ℕ) {refusal : Refusal} → Err refusal ≡ needed h t → (refusal ≡ OutOfLimits) × (within h t ≡ false)
unfolding needed
needed_err h t {refusal} e = go (within h t) refl
  where
    go : (ok : Bool) → within h t ≡ ok → (refusal ≡ OutOfLimits) × (within h t ≡ false)
    go true i = let never : Err refusal ≡ Ok (rooms_of h t) = e ∙ rw i refl in absurd cc
    go false i = let told : needed h t ≡ Err OutOfLimits = rw i refl in let same = e ∙ told in (cc, i)

module _ (state : State) (heap : List ℕ) where
  -- The figures handed out for a state and its heap are the room figures, and the state suits the heap.
  pub fitted_ok : {rooms : Rooms} → Ok rooms ≡ fitted state heap → (rooms ≡ rooms_of state.words state.keep) × (suits state heap ≡ true)
  unfolding fitted
  fitted_ok {rooms} e = go (suits state heap) refl
    where
      go : (ok : Bool) → suits state heap ≡ ok → (rooms ≡ rooms_of state.words state.keep) × (suits state heap ≡ true)
      go true i = let told : fitted state heap ≡ Ok (rooms_of state.words state.keep) = rw i refl in (ap (λ (x : Result Rooms Refusal). result_unwrap_or x rooms) (e ∙ told), i)
      go false i = let never : Ok rooms ≡ Err OutOfLimits = e ∙ rw i refl in absurd cc

  -- The refusal is that of the limits, given only where the state does not suit the heap.
  pub fitted_err : {refusal : Refusal} → Err refusal ≡ fitted state heap → (refusal ≡ OutOfLimits) × (suits state heap ≡ false)
  unfolding fitted
  fitted_err {refusal} e = go (suits state heap) refl
    where
      go : (ok : Bool) → suits state heap ≡ ok → (refusal ≡ OutOfLimits) × (suits state heap ≡ false)
      go true i = let never : Err refusal ≡ Ok (rooms_of state.words state.keep) = e ∙ rw i refl in absurd cc
      go false i = let told : fitted state heap ≡ Err OutOfLimits = rw i refl in let same = e ∙ told in (cc, i)
