-- Laws of an allot.
use Prim.Native.Nat.{ℕ, ◌+◌, ◌-◌, ◌*◌, ◌/◌, ◌≤◌, ◌<◌}
use Rattle.std.specs.Prelude.{◌≡◌, ◌≢◌, Bool, true, false, ◌&&◌, List, ◌++◌, length, take, drop, Option, Some, None}
use Rattle.std.proofs.Math.Path.{refl}
use Rattle.std.proofs.Common.{sym, ap, ◌∙◌, arith, length-take-le, lit<}
use Rattle.std.proofs.Math.Bool.{and-eq-true_iff}
use Rattle.std.proofs.Math.Dec.{leb}
use borrow.Author.Tests.{leb-true, ltb-true, le-leb, ne_eqb}
use Rattle.words.specs.Map.{set_bit}
use Rattle.layout.specs.Limits.{suits, map_words, list_words, rooms_of}
use Rattle.layout.specs.LimitsLaws.{Limits, suits_by, Suited, suits_tells, suited, suits_limits, two_fit, bit_inside}
use Rattle.layout.specs.RefusalLaws.{no_refusal}
use Rattle.layout.specs.declared.Interval.{Interval}
use Rattle.layout.specs.declared.Rooms.{Rooms}
use Rattle.layout.specs.declared.State.{State}
use Rattle.runs.specs.Lists.{interval_at, In, Ordered, without_front}
use Rattle.runs.proofs.OrderLaws.{ordered_last}
use Rattle.freelist.specs.Records.{record_at, records, valid_list}
use Rattle.freelist.specs.RecordsLaws.{length-records, record_at_lem, valid_ordered}
use Rattle.freelist.specs.Search.{fitting}
use Rattle.freelist.specs.SearchLaws.{fitting_in}
use Rattle.split.specs.Relisted.{relisted}
use Rattle.split.specs.SidesLaws.{in_read, front_sides, front_fits}
use Rattle.store.specs.Allot.{Allotted, Allotment, allotment, allot_refused, askable, asked_code, with_object, placed, allots_in, allots, Parts}

-- The ways out of the whole call, where the room figures are worked out.
module _ (state : State) (heap map list : List ℕ) (s p : ℕ) {rooms : Rooms} (e : rooms ≡ rooms_of state.words state.keep) where
  -- The second test as the code makes it.
  abbrev Long : Bool → Type 0
  Long b = leb rooms.map (length map) && leb rooms.list (length list) ≡ b

  -- Where the state does not suit the heap it refuses with 1.
  pub allot_limits : suits_by rooms state heap ≡ false → allotment (allot_refused 1 state) heap map list ≡ allots state heap map list s p
  unfolding allots
  allot_limits out = rw (← suits_tells state heap e, out)

  module _ (test : suits_by rooms state heap ≡ true) where
    ok : Suited state heap rooms
    ok = suited state heap e test

    -- With a short buffer it refuses with 2.
    pub allot_short : Long false → allotment (allot_refused 2 state) heap map list ≡ allots state heap map list s p
    unfolding allots
    allot_short short = rw (← suits_tells state heap e, test, ← ok.map_room, ← ok.list_room_lem, short)

    -- Else the needed parts are there, and what is left in them is left in front of the rest.
    module _ (long : Long true) where
      pub fits : (rooms.map ≤ length map) × (rooms.list ≤ length list)
      fits = two_fit map list long

      pub parts : Parts state heap (take rooms.map map) (take rooms.list list)
      parts = record {
        suit = sym (suits_tells state heap e) ∙ test;
        map_size = length-take-le rooms.map map fits.0 ∙ ok.map_room;
        list_size = length-take-le rooms.list list fits.1 ∙ ok.list_room_lem;
      }

      pub allot_parts : {r : Allotted} {heap' map' list' : List ℕ} → allotment r heap' map' list' ≡ allots_in state heap (take rooms.map map) (take rooms.list list) s p
          → allotment r heap' (map' ++ drop rooms.map map) (list' ++ drop rooms.list list) ≡ allots state heap map list s p
      unfolding allots
      allot_parts q = rw (← suits_tells state heap e, test, ← ok.map_room, ← ok.list_room_lem, long, ← q) refl

-- What is left in the needed parts, in front of what came behind them.
abbrev pub joined : State → List ℕ → List ℕ → Allotment → Allotment
joined state map list x = allotment x.answer x.heap (x.map ++ drop (map_words state.words) map) (x.list ++ drop (list_words state.words state.keep) list)

-- With the needed parts an allot is one in them.
pub allot_within : (state : State) (heap map list : List ℕ) (s p : ℕ) → let m : ℕ = map_words state.words in let n : ℕ = list_words state.words state.keep in
    suits state heap ≡ true → m ≤ length map → n ≤ length list → allots state heap map list s p ≡ joined state map list (allots_in state heap (take m map) (take n list) s p)
unfolding allots
allot_within state heap map list s p suit room-map room-list = rw (suit, le-leb (map_words state.words) (length map) room-map, le-leb (list_words state.words state.keep) (length list) room-list)

-- The number by the list and by what is asked for, where the list was tested.
module _ (h t count : ℕ) (list : List ℕ) (s p : ℕ) {valid : Bool} (v : valid ≡ valid_list h t count list) where
  pub asked_list : valid ≡ false → 3 ≡ asked_code h t count list s p
  unfolding asked_code
  asked_list bad = rw (← v, bad)

  pub asked_numbers : valid ≡ true → askable t s p ≡ false → 7 ≡ asked_code h t count list s p
  unfolding asked_code
  asked_numbers good bad = rw (← v, good, bad)

  pub asked_none : valid ≡ true → askable t s p ≡ true → 0 ≡ asked_code h t count list s p
  unfolding asked_code
  asked_none good able = rw (← v, good, able)

-- What is known before the choice, where no refusal was given.
pub record Ready (state : State) (heap map list : List ℕ) (s p : ℕ) : Type 0 where
  pub limits : Limits state.words state.keep
  pub same : length heap ≡ state.words
  pub bits : length map ≡ map_words state.words
  pub room : 2 * state.count ≤ length list
  pub ordered : Ordered state.keep 1 state.words 1 (records state.count list)
  pub least : state.keep ≤ s
  pub small : s ≤ 65535
  pub fewer : p < s

-- What is known where the interval at place j was chosen: its front has the words, and the answer is the object placed there.
pub record Chosen (state : State) (heap map list : List ℕ) (s p j : ℕ) : Type 0 where
  pub ready : Ready state heap map list s p
  pub front : In (records state.count list) (interval_at (records state.count list) j).start s j
  pub left : allots_in state heap map list s p ≡ placed state heap map list s p (Some j)

-- The answer in the needed parts, where the number is worked out.
module _ {state : State} {heap map list : List ℕ} (z : Parts state heap map list) (s p : ℕ) {code : ℕ} (e : code ≡ asked_code state.words state.keep state.count list s p) where
  -- Any number but 0 is a refusal.
  pub allot_refused_lem : code ≢ 0 → allotment (allot_refused code state) heap map list ≡ allots_in state heap map list s p
  unfolding allots_in
  allot_refused_lem some = rw (← e, ne_eqb code 0 some)

  module _ (none : code ≡ 0) where
    pub ready : Ready state heap map list s p
    unfolding asked_code
    ready =
        let h : ℕ = state.words in
        let t : ℕ = state.keep in
        let v = no_refusal (λ (n : ℕ). n) (valid_list h t state.count list) 3 _ (lit< tt) (sym e ∙ none) in
        let q = no_refusal (λ (n : ℕ). n) (askable t s p) 7 0 (lit< tt) v.1 in
        let own = suits_limits state heap z.suit in
        let o = valid_ordered h t state.count list v.0 in
        let able = (and-eq-true_iff (leb t s && leb s 65535) _).0 q.0 in
        let sizes = (and-eq-true_iff (leb t s) _).0 able.0 in
        record {
          limits = own.0;
          same = own.1;
          bits = z.map_size;
          room = omega (arith, o.0, z.list_size);
          ordered = o.1;
          least = leb-true t s sizes.0;
          small = leb-true s 65535 sizes.1;
          fewer = ltb-true p s able.1;
        }

    module _ {f : Option ℕ} (q : f ≡ fitting s (records state.count list)) where
      -- Where no interval has the words it refuses with 8.
      pub allot_full : f ≡ None → allotment (allot_refused 8 state) heap map list ≡ allots_in state heap map list s p
      unfolding allots_in placed
      allot_full nothing = rw (← e, none, ← q, nothing)

      -- Else one is chosen.
      pub chosen : {j : ℕ} → f ≡ Some j → Chosen state heap map list s p j
      unfolding allots_in
      chosen {j} at = record { ready = ready; front = fitting_in s (records state.count list) q j at; left = rw (← e, none, ← q, at) }

-- The interval at place j was chosen.
module _ {state : State} {heap map list : List ℕ} {s p j : ℕ} (x : Chosen state heap map list s p j) where
  -- The free intervals.
  abbrev l : List Interval
  l = records state.count list

  -- The start of the chosen one.
  abbrev a : ℕ
  a = (interval_at l j).start

  there : j < state.count
  there = omega (arith, x.front.there, length-records state.count list)

  -- Its front lies in the heap.
  pub ends : a + s ≤ length heap
  ends = omega (arith, x.ready.same, x.front.high, ordered_last x.ready.ordered j x.front.there)

  -- Its record can be read, and its front taken off the list.
  pub record_asks : 2 * j + 2 ≤ length list
  record_asks = omega (arith, x.ready.room, there)

  pub front_asks : ((2 * state.count ≤ length list) × (1 ≤ state.keep)) × ((a + s < 4294967296) × In l a s j)
  front_asks = ((x.ready.room, x.ready.limits.keeps), (omega (arith, ends, x.ready.same, x.ready.limits), x.front))

  -- The list without it has room in its part.
  pub front_room : 2 * length (without_front state.keep s l j) ≤ length list
  front_room =
      let n : ℕ = state.count in
      let i : Interval = record_at list j in
      let size : s ≤ i.size = omega (arith, in_read n list j refl a s x.front) in
      rw (front_sides n list j refl state.keep s there size) at (front_fits state.keep (i.start + s) (i.size - s) n list j x.ready.limits.keeps there x.ready.room)

  -- Its record was read.
  module _ {r : Interval} (e : r ≡ record_at list j) where
    starts : r.start ≡ a
    starts = ap (λ (i : Interval). i.start) (e ∙ sym (record_at_lem state.count list j there))

    -- The object can be laid there, and its bit set.
    pub lay_asks : (p < s) × (s < 65536) × (r.start + s ≤ length heap)
    lay_asks = (x.ready.fewer, omega (arith, x.ready.small), omega (arith, starts, ends))

    pub bit_asks : r.start / 32 < length map
    bit_asks = omega (arith, bit_inside state.words r.start (omega (arith, starts, ends, x.ready.same, x.ready.fewer)), x.ready.bits)

    -- What is left then.
    pub allot_placed : {count : ℕ} {heap' map' list' : List ℕ} → count ≡ length (without_front state.keep s l j) → list' ≡ relisted state.count (without_front state.keep s l j) list → heap' ≡ with_object heap r.start s p → map' ≡ set_bit map r.start
        → allotment (record { code = 0; address = r.start; state = record { words = state.words; keep = state.keep; count = count } }) heap' map' list' ≡ allots_in state heap map list s p
    unfolding placed
    allot_placed en el eh em = rw (x.left, en, el, eh, em, starts) refl
