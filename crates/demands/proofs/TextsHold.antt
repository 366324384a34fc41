-- The worked examples of the text program hold, by computing.
use Rattle.std.specs.Prelude.{◌≡◌, refl, map}
use Rattle.image.specs.Bytes.{index_after, index_of}
use Rattle.words.specs.Header.{size_at, refs_at, header_word, well_formed, fields_of}
use Rattle.words.specs.Map.{bit_at, set_bit, is_start, some_below, covered}
use Rattle.layout.specs.Intervals.{flat, shown}
use Rattle.layout.specs.Limits.{within, suits, map_words, stack_words, list_room, list_words}
use Rattle.layout.specs.SetUp.{first_list, sets_up}
use Rattle.runs.specs.Runs.{kept, runs_from, runs, free_list}
use Rattle.runs.specs.Lists.{listed}
use Rattle.freelist.specs.Records.{records, in_order, valid_list}
use Rattle.freelist.specs.Figures.{largest, fragment_of}
use Rattle.marking.specs.Marking.{marked, overlaps, meet, move, run, begin, collection}
use Rattle.collector.specs.Collect.{collects_in, collects}
use Rattle.store.specs.Survey.{surveys}
use Rattle.image.specs.Ascii.{ascii}
use Rattle.image.specs.Decimal.{is_digit, digits_on, is_plain, decimal_of, pair_of}
use Rattle.image.specs.Lines.{first_line, lines_of}
use Rattle.image.specs.Image.{on_if, starts, takes_line, read_on, text_of}
use Rattle.report.specs.Printed.{spelled, free_lines}
use Rattle.report.specs.Answer.{count_lines, lines_after, image_lines_in, image_lines, answer}
use Rattle.demands.specs.Texts.{Printing, printings}

-- Every text in the table is answered with the bytes that are expected.
pub printings_hold : map (λ (p : Printing). answer (ascii p.given)) printings ≡ map (λ (p : Printing). ascii p.printed) printings
unfolding
    printings ascii answer text_of read_on lines_of first_line index_of index_after takes_line starts on_if
    decimal_of is_plain digits_on is_digit pair_of image_lines image_lines_in lines_after count_lines free_lines spelled
    sets_up first_list within suits map_words stack_words list_room list_words flat shown
    collects collects_in collection begin run move meet marked overlaps
    free_list runs runs_from kept size_at refs_at header_word well_formed fields_of bit_at set_bit is_start some_below covered
    surveys records in_order valid_list listed largest fragment_of
printings_hold = refl
