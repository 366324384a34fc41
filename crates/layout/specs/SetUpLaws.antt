-- Laws of set-up: its first list, and its ways out.
use Prim.Native.Nat.{ℕ, suc, ◌-◌, ◌≤◌, ◌<◌}
use Rattle.std.specs.Prelude.{◌≡◌, ◌≢◌, true, List, [], ◌++◌, length, set, take, drop, replicate, Result, Ok, Err}
use Rattle.std.proofs.Common.{ap, le-div_iff_mul-le}
use Rattle.std.proofs.Math.Nat.{sub-zero}
use native.Mathlib.Omega.{arith}
use Rattle.std.proofs.Math.Seq.{length-take-le}
use borrow.Author.Tests.{le-leb, lt-leb}
use Rattle.layout.specs.Intervals.{flat, shown}
use Rattle.layout.specs.Limits.{within, map_words, stack_words, list_room, list_words, rooms_of}
use Rattle.layout.specs.LimitsLaws.{map_zero, allowed, map_needs, list_needs}
use Rattle.layout.specs.declared.Rooms.{Rooms}
use Rattle.layout.specs.RefusalLaws.{number_some, number_one}
use Rattle.layout.specs.SetUp.{prepared, first_list, SetUp, set_up_refused, set_up_told, sets_up}
use Rattle.layout.specs.declared.State.{State}
use Rattle.layout.specs.declared.refusal.Refusal.{Refusal}

-- A heap with fewer words than the keep length has no list.
pub first_none : (h t : ℕ) → h - 1 < t → first_list h t ≡ []
unfolding first_list
first_none h t l = rw (lt-leb t (h - 1) l)

-- Zeros show the empty list.
pub none_shown : (h t : ℕ) → h - 1 < t → replicate (list_words h t) 0 ≡ shown (list_words h t) (first_list h t)
unfolding shown flat
none_shown h t l = rw (first_none h t l, sub-zero (list_words h t))

module _ (h t : ℕ) (keeps : 1 ≤ t) (l : t ≤ h - 1) where
  -- A heap with the keep length has one interval.
  pub first_one : length (first_list h t) ≡ 1
  unfolding first_list
  first_one = rw (le-leb t (h - 1) l)

  -- It has room for that.
  pub one_fits : 2 ≤ list_words h t
  unfolding list_words list_room stack_words
  one_fits = omega (arith, (le-div_iff_mul-le {k = t} {x = 1} {y = h - 1} keeps).1 (omega arith))

  -- Start and size stored over zeros show the list of one interval.
  pub one_shown : set (set (replicate (list_words h t) 0) 0 1) 1 (h - 1) ≡ shown (list_words h t) (first_list h t)
  unfolding shown flat first_list
  one_shown =
      let m : ℕ = list_words h t - 2 in
      let e : list_words h t ≡ suc (suc m) = omega (arith, one_fits) in
      let d : suc (suc m) - 2 ≡ m = omega arith in
      rw (le-leb t (h - 1) l, e, d)

module _ (heap : List ℕ) (t : ℕ) (map list : List ℕ) {rooms : Rooms} (e : rooms ≡ rooms_of (length heap) t) where
  -- Where the map figure is 0 set-up refuses with 1.
  pub refuses_limits : rooms.map ≡ 0 → prepared (set_up_refused 1) map list ≡ sets_up heap t map list
  unfolding sets_up
  refuses_limits z = rw (map_zero (length heap) t e z)

  module _ (some : rooms.map ≢ 0) where
    -- Else the figures are what is needed.
    within_limits : within (length heap) t ≡ true
    within_limits = allowed (length heap) t e some

    map_room : rooms.map ≡ map_words (length heap)
    map_room = map_needs (length heap) t e some

    list_room_lem : rooms.list ≡ list_words (length heap) t
    list_room_lem = list_needs (length heap) t e some

    -- With a short map it refuses with 2.
    pub refuses_map : length map < rooms.map → prepared (set_up_refused 2) map list ≡ sets_up heap t map list
    unfolding sets_up
    refuses_map l = rw (within_limits, lt-leb (map_words (length heap)) (length map) (rw map_room at l))

    module _ (m : rooms.map ≤ length map) where
      -- With a short list it refuses with 2.
      pub refuses_list : length list < rooms.list → prepared (set_up_refused 2) map list ≡ sets_up heap t map list
      unfolding sets_up
      refuses_list l =
          rw (within_limits, le-leb (map_words (length heap)) (length map) (rw map_room at m), lt-leb (list_words (length heap) t) (length list) (rw list_room_lem at l))

      -- Else the needed parts are those of a fresh heap, and the rest stays.
      pub accepts : {count : ℕ} {zeros first : List ℕ} → rooms.list ≤ length list → count ≡ length (first_list (length heap) t)
          → zeros ≡ replicate (length (take rooms.map map)) 0 → first ≡ shown (list_words (length heap) t) (first_list (length heap) t)
          → prepared (record { code = 0; state = record { words = length heap; keep = t; count = count } }) (zeros ++ drop rooms.map map) (first ++ drop rooms.list list) ≡ sets_up heap t map list
      unfolding sets_up
      accepts l ec ez ef =
          rw (within_limits, le-leb (map_words (length heap)) (length map) (rw map_room at m), le-leb (list_words (length heap) t) (length list) (rw list_room_lem at l), ec, ez, ef, length-take-le rooms.map map m, map_room, list_room_lem)

-- No two answers are told by one number and one state.
pub set_up_one : (x y : Result State Refusal) → set_up_told x ≡ set_up_told y → x ≡ y
set_up_one (Ok s) (Ok t) e = ap Ok (ap (λ (a : SetUp). a.state) e)
set_up_one (Ok s) (Err r) e = absurd (omega (arith, number_some r, ap (λ (a : SetUp). a.code) e))
set_up_one (Err r) (Ok s) e = absurd (omega (arith, number_some r, ap (λ (a : SetUp). a.code) e))
set_up_one (Err r) (Err q) e = ap Err (number_one r q (ap (λ (a : SetUp). a.code) e))
