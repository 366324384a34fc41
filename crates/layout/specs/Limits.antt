-- Limits, and how many words of each buffer a heap needs.
use Rattle.std.specs.Prelude.{ℕ, ◌+◌, ◌-◌, ◌*◌, ◌/◌, Bool, ◌&&◌, List, length, leb, eqb, Result, Ok, Err}
use Rattle.layout.specs.Refusal.{unless}
use Rattle.layout.specs.declared.Rooms.{Rooms}
use Rattle.layout.specs.declared.State.{State}
use Rattle.layout.specs.declared.refusal.Refusal.{Refusal}
use Rattle.layout.specs.declared.refusal.Refusal.TheVariants.{Limits}

-- The most words that a heap has.
abbrev pub max_words : ℕ
max_words = 65536

-- The greatest keep length.
abbrev pub max_keep : ℕ
max_keep = 65535

-- The most roots that a collection is lent.
abbrev pub max_roots : ℕ
max_roots = 65536

-- A heap of h words and a keep length of t are within the limits.
unfoldable pub within : ℕ → ℕ → Bool
within h t = leb 1 h && leb h max_words && leb 1 t && leb t max_keep

-- A state suits the heap that is lent with it: it is within the limits, and the heap has its words.
unfoldable pub suits : State → List ℕ → Bool
suits state heap = within state.words state.keep && eqb (length heap) state.words

-- The map needs a bit for each word, in words of 32 bits.
unfoldable pub map_words : ℕ → ℕ
map_words h = (h + 31) / 32

-- The stack needs a word for each object that can stand in words 1 to h-1, none shorter than t.
unfoldable pub stack_words : ℕ → ℕ → ℕ
stack_words h t = (h - 1) / t

-- The list has room for as many intervals.
unfoldable pub list_room : ℕ → ℕ → ℕ
list_room h t = stack_words h t

-- The list needs two words for each interval.
unfoldable pub list_words : ℕ → ℕ → ℕ
list_words h t = 2 * list_room h t

-- The room figures: the words needed of map, stack and list, or 0 for each out of the limits.
unfoldable pub rooms_of : ℕ → ℕ → Rooms
rooms_of h t =
    unless (within h t) (record { map = 0; stack = 0; list = 0 })
    (record { map = map_words h; stack = stack_words h t; list = list_words h t })

-- What a heap needs, where it is within the limits.
unfoldable pub needed : ℕ → ℕ → Result Rooms Refusal
needed h t = unless (within h t) (Err Limits) (Ok (rooms_of h t))

-- What the heap needs that is lent with a state, where the state suits it.
unfoldable pub fitted : State → List ℕ → Result Rooms Refusal
fitted state heap = unless (suits state heap) (Err Limits) (Ok (rooms_of state.words state.keep))
