-- `reading::take`: the key tells which case of the definition it is.
use Rattle.std.proofs.Common.{sym, ◌∙◌}
use Rattle.image.specs.Ascii.{ascii}
use Rattle.image.specs.LinesLaws.{part_behind}
use Rattle.image.specs.ImageLaws.{starts_as, line_words, line_keep, line_root, line_word, line_other}
use Rattle.image.proofs.reading.take.Goals as goal

pub returns-then-starts_with : goal.returns-then-starts_with
unfolding ascii
returns-then-starts_with c =
    let line = c.args.line.now in
    let test = sym (starts_as (ascii "words=") line) ∙ sym c.starts_with.ensures.value ∙ c.if-starts_with.true in
    c.take_words.ensures c.args.roots.now ∙ rw (c.decimal_of.ensures, part_behind line 6) (line_words _ line test)

pub returns-then-starts_with-2 : goal.returns-then-starts_with-2
unfolding ascii
returns-then-starts_with-2 c =
    let line = c.args.line.now in
    let words = sym (starts_as (ascii "words=") line) ∙ sym c.starts_with.ensures.value ∙ c.if-starts_with.false in
    let test = sym (starts_as (ascii "keep=") line) ∙ sym c.starts_with-2.ensures.value ∙ c.if-starts_with-2.true in
    c.take_keep.ensures c.args.roots.now c.args.heap.now ∙ rw (c.decimal_of-then-starts_with-2.ensures, part_behind line 5) (line_keep _ line words test)

pub returns-then-starts_with-3 : goal.returns-then-starts_with-3
unfolding ascii
returns-then-starts_with-3 c =
    let line = c.args.line.now in
    let words = sym (starts_as (ascii "words=") line) ∙ sym c.starts_with.ensures.value ∙ c.if-starts_with.false in
    let keep = sym (starts_as (ascii "keep=") line) ∙ sym c.starts_with-2.ensures.value ∙ c.if-starts_with-2.false in
    let test = sym (starts_as (ascii "root=") line) ∙ sym c.starts_with-3.ensures.value ∙ c.if-starts_with-3.true in
    c.take_root.ensures c.args.heap.now ∙ rw (c.decimal_of-then-starts_with-3.ensures, part_behind line 5) (line_root _ line words keep test)

pub returns-then-starts_with-4 : goal.returns-then-starts_with-4
unfolding ascii
returns-then-starts_with-4 c =
    let line = c.args.line.now in
    let words = sym (starts_as (ascii "words=") line) ∙ sym c.starts_with.ensures.value ∙ c.if-starts_with.false in
    let keep = sym (starts_as (ascii "keep=") line) ∙ sym c.starts_with-2.ensures.value ∙ c.if-starts_with-2.false in
    let root = sym (starts_as (ascii "root=") line) ∙ sym c.starts_with-3.ensures.value ∙ c.if-starts_with-3.false in
    let test = sym (starts_as (ascii "word=") line) ∙ sym c.starts_with-4.ensures.value ∙ c.if-starts_with-4.true in
    c.take_word.ensures c.args.roots.now ∙ rw (c.pair_of.ensures, part_behind line 5) (line_word _ line words keep root test)

pub returns : goal.returns
unfolding ascii
returns c =
    let line = c.args.line.now in
    let words = sym (starts_as (ascii "words=") line) ∙ sym c.starts_with.ensures.value ∙ c.if-starts_with.false in
    let keep = sym (starts_as (ascii "keep=") line) ∙ sym c.starts_with-2.ensures.value ∙ c.if-starts_with-2.false in
    let root = sym (starts_as (ascii "root=") line) ∙ sym c.starts_with-3.ensures.value ∙ c.if-starts_with-3.false in
    let word = sym (starts_as (ascii "word=") line) ∙ sym c.starts_with-4.ensures.value ∙ c.if-starts_with-4.false in
    line_other _ line words keep root word
