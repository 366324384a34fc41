-- A read and a write, each as one function from what it is lent to what it leaves.
use Rattle.std.specs.Prelude.{ℕ, ◌+◌, ◌-◌, Bool, ◌||◌, List, length, get_or, set, leb, ltb, eqb, Result, Ok, Err}
use Rattle.words.specs.Header.{size_at, refs_at, well_formed}
use Rattle.words.specs.Map.{is_start}
use Rattle.layout.specs.Limits.{suits, map_words}
use Rattle.layout.specs.Refusal.{unless, number}
use Rattle.layout.specs.declared.refusal.Refusal.{Refusal}
use Rattle.layout.specs.declared.State.{State}

-- What a read answers: the refusal's number or 0, and the field's word.
pub record Reading : Type 0 where
  pub code : ℕ
  pub value : ℕ

-- The answer in these numbers.
abbrev pub read_told : Result ℕ Refusal → Reading
read_told (Ok value) = record { code = 0; value = value }
read_told (Err refusal) = record { code = number refusal; value = 0 }

-- The number with which field k of what stands at a is refused, or 0: no object starts there, its header is bad, or it has no such field.
unfoldable pub object_code : List ℕ → ℕ → List ℕ → ℕ → ℕ → ℕ
object_code heap t map a k =
    unless (is_start (length heap) map a) 9
    (unless (well_formed heap t a) 5
    (unless (ltb k (size_at heap a - 1)) 10
    0))

-- The same with the refusals 1 and 2 before.
unfoldable pub field_code : State → List ℕ → List ℕ → ℕ → ℕ → ℕ
field_code state heap map a k =
    unless (suits state heap) 1
    (unless (leb (map_words state.words) (length map)) 2
    (object_code heap state.keep map a k))

-- The word that field k of the object at a stands in.
abbrev pub word_of : ℕ → ℕ → ℕ
word_of a k = a + 1 + k

-- A read of field k of the object at a.
unfoldable pub reads : State → List ℕ → List ℕ → ℕ → ℕ → Reading
reads state heap map a k =
    let code : ℕ = field_code state heap map a k in
    unless (eqb code 0) (record { code = code; value = 0 })
    (record { code = 0; value = get_or heap (word_of a k) 0 })

-- Field k of the object at a may be given v: a data field any value, a reference field 0 or a start on the map.
unfoldable pub takes : List ℕ → List ℕ → ℕ → ℕ → ℕ → Bool
takes heap map a k v = leb (refs_at heap a) k || eqb v 0 || is_start (length heap) map v

-- What a write answers, and what stands in the heap afterwards.
pub record Written : Type 0 where
  pub code : ℕ
  pub heap : List ℕ

-- The answer and the heap, put together.
abbrev pub written : ℕ → List ℕ → Written
written code heap = record { code = code; heap = heap }

-- A write of v to field k of the object at a.
unfoldable pub writes : State → List ℕ → List ℕ → ℕ → ℕ → ℕ → Written
writes state heap map a k v =
    let code : ℕ = field_code state heap map a k in
    unless (eqb code 0) (written code heap)
    (unless (takes heap map a k v) (written 11 heap)
    (written 0 (set heap (word_of a k) v)))
