-- The worked examples hold, by computing.
use Rattle.std.specs.Prelude.{◌≡◌, refl, map}
use Rattle.words.specs.Header.{size_at, refs_at, header_word, well_formed, fields_of}
use Rattle.words.specs.Map.{bit_at, set_bit, is_start, some_below, covered}
use Rattle.layout.specs.Intervals.{flat, shown}
use Rattle.layout.specs.Limits.{within, suits, map_words, stack_words, list_room, list_words}
use Rattle.layout.specs.SetUp.{first_list, sets_up}
use Rattle.runs.specs.Runs.{kept, runs_from, runs, free_list}
use Rattle.runs.specs.Lists.{cut, listed}
use Rattle.freelist.specs.Records.{records, in_order, valid_list}
use Rattle.freelist.specs.Search.{first_from, fitting}
use Rattle.freelist.specs.Figures.{largest, fragment_of}
use Rattle.split.specs.Relisted.{relisted}
use Rattle.marking.specs.Marking.{marked, overlaps, meet, move, run, begin, collection}
use Rattle.collector.specs.Collect.{collects_in, collects}
use Rattle.store.specs.Allot.{asked_code, with_object, placed, allots_in, allots}
use Rattle.store.specs.Fields.{object_code, field_code, reads, takes, writes}
use Rattle.store.specs.Survey.{surveys}
use Rattle.demands.specs.World.{new_world, effect}
use Rattle.demands.specs.History.{world, onward}
use Rattle.demands.specs.Examples.{Example, laid, set_up_of, seen, table}

-- Every example in the table gives what is expected.
pub examples_hold : map seen table ≡ map Example.expected table
unfolding
    table seen set_up_of laid
    new_world effect world onward
    sets_up first_list within suits map_words stack_words list_room list_words flat shown
    collects collects_in collection begin run move meet marked overlaps
    free_list runs runs_from kept size_at refs_at header_word well_formed fields_of bit_at set_bit is_start some_below covered
    allots allots_in placed with_object asked_code records in_order valid_list first_from fitting cut relisted
    object_code field_code reads takes writes surveys listed largest fragment_of
examples_hold = refl
