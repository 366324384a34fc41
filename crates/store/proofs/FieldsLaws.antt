-- Laws of read and write.
use Prim.Native.Nat.{ℕ, zero, suc, ◌+◌, ◌-◌, ◌*◌, ◌≤◌, ◌<◌}
use Rattle.std.specs.Prelude.{◌≡◌, refl, ◌≢◌, ◌⊎◌, Bool, true, false, ◌||◌, get_or, drop, set, leb, ltb, eqb}
use Rattle.std.proofs.Common.{sym, ap, ◌∙◌, inl, inr, arith, get_or-take, get_or-drop, lit<}
use Rattle.std.proofs.Math.Bool.{or-true}
use mathlib.Core.List.Memᴰ
use mathlib.Core.List.{List, [], ◌∷◌, Memᴰ}
use Rattle.std.proofs.Math.ListN.{length}
use borrow.Author.Tests.{leb-true, ltb-true, lt-ltb, le-ltb, le-leb, lt-leb, eq-eqb, ne_eqb}
use Rattle.words.specs.Header.{size_at, refs_at, header_at, well_formed, fields_of}
use Rattle.words.proofs.HeaderLaws.{Formed, formed, length_fields}
use Rattle.words.specs.Map.{is_start}
use Rattle.words.specs.declared.header.Header.{Header}
use Rattle.layout.specs.Limits.{max_words, suits, map_words, rooms_of}
use Rattle.layout.specs.LimitsLaws.{suits_by, Suited, suits_tells, suited, suits_limits, bits_enough}
use Rattle.layout.specs.RefusalLaws.{no_refusal}
use Rattle.layout.specs.declared.Rooms.{Rooms}
use Rattle.layout.specs.declared.State.{State}
use Rattle.store.specs.Fields.{object_code, field_code, word_of, reads, takes, written, writes}

-- What is known of a field that is not refused: the map has a bit for each word of the heap, and the field lies in the heap.
pub record Field (heap map : List ℕ) (a k : ℕ) : Type 0 where
  pub few : length heap ≤ max_words
  pub bits : length heap ≤ 32 * length map
  pub there : word_of a k < length heap

-- The number for what stands at a, one test at a time.
module _ (heap : List ℕ) (t : ℕ) (map : List ℕ) (a k : ℕ) where
  -- Where no object starts it is 9.
  pub no_start : is_start (length heap) map a ≡ false → 9 ≡ object_code heap t map a k
  unfolding object_code
  no_start out = rw out

  module _ (starts : is_start (length heap) map a ≡ true) where
    -- With a bad header it is 5, whatever field is asked for.
    pub bad_header : well_formed heap t a ≡ false → 5 ≡ object_code heap t map a k
    unfolding object_code
    bad_header bad = rw (starts, bad)

    -- With no such field it is 10, and else 0.
    module _ (good : well_formed heap t a ≡ true) {header : Header} (e : header ≡ header_at heap a) where
      pub no_field : header.size - 1 ≤ k → 10 ≡ object_code heap t map a k
      unfolding object_code
      no_field past = rw (starts, good, le-ltb k (size_at heap a - 1) (rw e at past))

      pub has_field : k < header.size - 1 → 0 ≡ object_code heap t map a k
      unfolding object_code
      has_field has = rw (starts, good, lt-ltb k (size_at heap a - 1) (rw e at has))

-- Where it is 0, a well-formed object starts there, and has the field.
pub object_field : (heap : List ℕ) (t : ℕ) (map : List ℕ) (a k : ℕ) → object_code heap t map a k ≡ 0 → (is_start (length heap) map a ≡ true) × (well_formed heap t a ≡ true) × (k < size_at heap a - 1)
unfolding object_code
object_field heap t map a k e =
    let x = no_refusal (λ (n : ℕ). n) (is_start (length heap) map a) 9 _ (lit< tt) e in
    let y = no_refusal (λ (n : ℕ). n) (well_formed heap t a) 5 _ (lit< tt) x.1 in
    let z = no_refusal (λ (n : ℕ). n) (ltb k (size_at heap a - 1)) 10 0 (lit< tt) y.1 in
    (x.0, y.0, ltb-true k (size_at heap a - 1) z.0)

-- A field of a well-formed object lies in the heap.
pub field_there : {heap : List ℕ} {t a k : ℕ} → Formed heap t a → k < size_at heap a - 1 → word_of a k < length heap
field_there f has = omega (arith, f.ends, has)

-- The number, one test at a time, where the room figures are worked out.
module _ (state : State) (heap map : List ℕ) (a k : ℕ) {rooms : Rooms} (e : rooms ≡ rooms_of state.words state.keep) where
  -- Where the state does not suit the heap it is 1.
  pub code_limits : suits_by rooms state heap ≡ false → 1 ≡ field_code state heap map a k
  unfolding field_code
  code_limits out = rw (← suits_tells state heap e, out)

  module _ (test : suits_by rooms state heap ≡ true) where
    ok : Suited state heap rooms
    ok = suited state heap e test

    -- With a short map it is 2.
    pub code_map : length map < rooms.map → 2 ≡ field_code state heap map a k
    unfolding field_code
    code_map short = rw (← suits_tells state heap e, test, ← ok.map_room, lt-leb rooms.map (length map) short)

    module _ (long : rooms.map ≤ length map) where
      -- Else the map has a bit for each word of the heap, and the number is the object's.
      pub enough_bits : length heap ≤ 32 * length map
      enough_bits = omega (arith, ok.same, bits_enough state.words (length map) (rw ok.map_room at long))

      pub code_object : {code : ℕ} → code ≡ object_code heap state.keep map a k → code ≡ field_code state heap map a k
      unfolding field_code
      code_object q = rw (← suits_tells state heap e, test, ← ok.map_room, le-leb rooms.map (length map) long) q

-- Where the number is worked out.
module _ (state : State) (heap map : List ℕ) (a k : ℕ) {code : ℕ} (e : code ≡ field_code state heap map a k) where
  -- What is known where it is 0.
  pub field : code ≡ 0 → Field heap map a k
  unfolding field_code
  field z =
      let h : ℕ = state.words in
      let x = no_refusal (λ (n : ℕ). n) (suits state heap) 1 _ (lit< tt) (sym e ∙ z) in
      let y = no_refusal (λ (n : ℕ). n) (leb (map_words h) (length map)) 2 _ (lit< tt) x.1 in
      let l = suits_limits state heap x.0 in
      let enough : h ≤ 32 * length map = bits_enough h (length map) (leb-true (map_words h) (length map) y.0) in
      let z = object_field heap state.keep map a k y.1 in
      record { few = omega (arith, l); bits = omega (arith, l); there = field_there (formed heap state.keep a z.1) z.2 }

  -- A read is refused with any other, and else it gives the word.
  pub read_refused : code ≢ 0 → record { code = code; value = 0 } ≡ reads state heap map a k
  unfolding reads
  read_refused z = rw (← e, ne_eqb code 0 z)

  pub read_given : code ≡ 0 → record { code = code; value = get_or heap (word_of a k) 0 } ≡ reads state heap map a k
  unfolding reads
  read_given z = rw (← e, z)

  -- A write is refused with any other, then with 11, and else it stores the word.
  module _ (v : ℕ) where
    pub write_refused : code ≢ 0 → written code heap ≡ writes state heap map a k v
    unfolding writes
    write_refused z = rw (← e, ne_eqb code 0 z)

    pub write_untaken : code ≡ 0 → {b : Bool} → b ≡ takes heap map a k v → b ≡ false → written 11 heap ≡ writes state heap map a k v
    unfolding writes
    write_untaken z t b = rw (← e, z, ← t, b)

    pub write_stored : code ≡ 0 → {b : Bool} → b ≡ takes heap map a k v → b ≡ true → written 0 (set heap (word_of a k) v) ≡ writes state heap map a k v
    unfolding writes
    write_stored z t b = rw (← e, z, ← t, b)

-- A data field may be given any value, and a reference field 0 or a start on the map …
pub start_takes : (heap map : List ℕ) (a k v : ℕ) → (refs_at heap a ≤ k) ⊎ ((v ≡ 0) ⊎ (is_start (length heap) map v ≡ true)) → takes heap map a k v ≡ true
unfolding takes
start_takes heap map a k v (inl any) = rw (le-leb (refs_at heap a) k any)
start_takes heap map a k v (inr (inl none)) = rw (eq-eqb v 0 none) (rw (or-true (leb (refs_at heap a) k)))
start_takes heap map a k v (inr (inr on)) = rw on (or-true (leb (refs_at heap a) k || eqb v 0))

-- … and a reference field no other.
pub takes_start : (heap map : List ℕ) (a k v : ℕ) → takes heap map a k v ≡ true → k < refs_at heap a → v ≢ 0 → is_start (length heap) map v ≡ true
unfolding takes
takes_start heap map a k v taken inside some = rw (lt-leb (refs_at heap a) k inside, ne_eqb v 0 some) at taken

-- A reference field is the one that marking reads.
pub reference_field : (heap : List ℕ) (a k : ℕ) → k < refs_at heap a → get_or (fields_of heap a) k 0 ≡ get_or heap (word_of a k) 0
unfolding fields_of
reference_field heap a k inside =
    let next : suc a + k ≡ word_of a k = omega arith in
    get_or-take (refs_at heap a) (drop (suc a) heap) k 0 inside ∙ get_or-drop (suc a) heap k 0 ∙ ap (λ (n : ℕ). get_or heap n 0) next

-- A member of a list stands at some place of it.
member_place : {r : ℕ} {l : List ℕ} → Memᴰ r l → (k : ℕ) × (k < length l) × (get_or l k 0 ≡ r)
member_place (Memᴰ.head e) = (0, omega arith, sym e)
member_place (Memᴰ.tail m) = let p = member_place m in (suc p.0, omega arith, p.2)

-- What stands at a place of a list is a member of it.
place_member : (l : List ℕ) (k : ℕ) → k < length l → Memᴰ (get_or l k 0) l
place_member [] k there = absurd (omega arith)
place_member (x ∷ l) zero there = Memᴰ.head refl
place_member (x ∷ l) (suc k) there = Memᴰ.tail (place_member l k (omega arith))

-- The references of a well-formed object are the words of its reference fields …
pub member_field : {heap : List ℕ} {t a r : ℕ} → Formed heap t a → Memᴰ r (fields_of heap a) → (k : ℕ) × (k < refs_at heap a) × (get_or heap (word_of a k) 0 ≡ r)
member_field {heap} {t} {a} f m =
    let p = member_place m in
    let there : p.0 < refs_at heap a = rw (length_fields heap t a f) at p.1 in
    (p.0, there, sym (reference_field heap a p.0 there) ∙ p.2)

-- … all of them.
pub field_member : {heap : List ℕ} {t a : ℕ} → Formed heap t a → (k : ℕ) → k < refs_at heap a → Memᴰ (get_or heap (word_of a k) 0) (fields_of heap a)
field_member {heap} {t} {a} f k there = Memᴰ.cast (sym (reference_field heap a k there)) (place_member (fields_of heap a) k (rw (length_fields heap t a f) there))
