-- A short history keeps the premises, and an object is held after it: demand 3 is not said of nothing.
use Rattle.std.specs.Prelude.{refl}
use Rattle.std.proofs.Common.{subst, sym, inr, arith}
use mathlib.Core.List.Memᴰ
use mathlib.Core.List.{[], ◌∷◌, Memᴰ}
use Rattle.words.specs.Header.{size_at, refs_at, header_word, well_formed}
use Rattle.words.specs.Map.{bit_at, set_bit, is_start}
use Rattle.layout.specs.Intervals.{flat, shown}
use Rattle.layout.specs.Limits.{within, suits, map_words, stack_words, list_room, list_words}
use Rattle.layout.specs.SetUp.{first_list, sets_up}
use Rattle.runs.specs.Runs.{kept}
use Rattle.runs.specs.Lists.{cut}
use Rattle.freelist.specs.Records.{records, in_order, valid_list}
use Rattle.freelist.specs.Search.{first_from, fitting}
use Rattle.split.specs.Relisted.{relisted}
use Rattle.store.specs.Allot.{asked_code, with_object, placed, allots_in, allots}
use Rattle.store.specs.Fields.{object_code, field_code, takes, writes}
use Rattle.demands.specs.Reach.{by_root}
use Rattle.demands.specs.World.{allot, write, collect, On, new_world, effect}
use Rattle.demands.specs.History.{History, ◌then◌, world, Premise, Keeps, gives, Held}
use Rattle.demands.specs.Examples.{laid, set_up_of, littered}

-- An allot, a write and a collection after set-up.
abbrev short : History
short = set_up_of littered then allot 3 1 then write 1 1 7 then collect (1 ∷ [])

-- It keeps the premises, and the object at 1 is held.
pub short_keeps : Keeps short × Held short 1
unfolding
    Keeps Premise Held gives world new_world effect set_up_of laid
    sets_up first_list within suits map_words stack_words list_room list_words flat shown
    size_at refs_at header_word well_formed bit_at set_bit is_start
    allots allots_in placed with_object asked_code records in_order valid_list first_from fitting cut kept relisted
    object_code field_code takes writes
short_keeps = (
  (((record { bounded = record { suit = refl; few = omega arith }; map_room = omega arith; stack_room = omega arith; list_room_lem = omega arith }, tt), tt), record { few = omega arith; named = λ r i. inr (subst (On (world (set_up_of littered then allot 3 1 then write 1 1 7))) (sym (Memᴰ.eq_of_singleton i)) refl) }),
  (inr refl, by_root (Memᴰ.head refl) (λ e. omega arith)),
)
