-- The program's answer, as a function from the input's bytes to the output's.
use Rattle.std.specs.Prelude.{ℕ, List, ◌++◌, length, drop, replicate, leb, eqb}
use Rattle.layout.specs.Refusal.{unless}
use Rattle.layout.specs.SetUp.{Prepared, sets_up}
use Rattle.collector.specs.Collect.{Left, collects}
use Rattle.collector.specs.Collect.{Collected}
use Rattle.freelist.specs.Records.{records}
use Rattle.freelist.specs.declared.figures.Figures.{Figures}
use Rattle.store.specs.Survey.{surveys}
use Rattle.store.specs.Survey.{Surveyed}
use Rattle.image.specs.Ascii.{ascii}
use Rattle.image.specs.Image.{Text, right, wrong, text_of}
use Rattle.report.specs.Printed.{said, free_lines}

-- The two lines that come first, and alone after a refusal.
abbrev pub code_lines : ℕ → ℕ → List ℕ
code_lines code place = said (ascii "code=") code ++ said (ascii "where=") place

-- After a success: the collection's counts, and the survey's figures.
unfoldable pub count_lines : Collected → Figures → List ℕ
count_lines c f =
    code_lines 0 0 ++ said (ascii "objects=") c.objects ++ said (ascii "live=") c.live ++ said (ascii "references=") c.references ++ said (ascii "peak=") c.peak
    ++ said (ascii "listed=") f.listed ++ said (ascii "largest=") f.largest ++ said (ascii "fragment=") f.fragment

-- What is printed once a collection has answered and left a list: a refusal, or the counts, the figures of a survey, and the free list.
unfoldable pub lines_after : Collected → List ℕ → List ℕ
lines_after c list =
    let s : Surveyed = surveys c.state list in
    unless (eqb c.code 0) (code_lines c.code c.place)
    (unless (eqb s.code 0) (code_lines s.code 0)
    (count_lines c s.figures ++ free_lines (records c.state.count list)))

-- What is printed for an image: set-up and collection in lent buffers, and then a survey.
unfoldable pub image_lines_in : List ℕ → ℕ → List ℕ → List ℕ → List ℕ → List ℕ → List ℕ
image_lines_in heap t roots map stack list =
    let fresh : Prepared = sets_up heap t map list in
    let c : Left = collects fresh.answer.state heap roots fresh.map stack fresh.list in
    lines_after c.answer c.list

-- The program's map, clear, and long enough for 4,096 words.
abbrev pub clear_map : List ℕ
clear_map = replicate 128 0

-- The program's stack, clear, and long enough for 4,096 words with any keep length.
abbrev pub clear_stack : List ℕ
clear_stack = replicate 4095 0

-- The program's list, likewise.
abbrev pub clear_list : List ℕ
clear_list = replicate 8190 0

-- What the program prints for an image.
unfoldable pub image_lines : List ℕ → ℕ → List ℕ → List ℕ
image_lines heap t roots = image_lines_in heap t roots clear_map clear_stack clear_list

-- The answer to a text.
abbrev pub answer_to : Text → List ℕ
answer_to (right image) = image_lines image.heap image.keep image.roots
answer_to (wrong line) = code_lines 12 line

-- The whole answer: from the input's bytes to the output's.
unfoldable pub answer : List ℕ → List ℕ
answer text = answer_to (text_of text)

-- How many bytes are lent for an answer.
abbrev pub answer_room : ℕ
answer_room = 65536

-- How many bytes were written, and what the output buffer then holds.
pub record Output : Type 0 where
  pub count : ℕ
  pub out : List ℕ

-- Both, put together.
abbrev pub output : ℕ → List ℕ → Output
output count out = record { count = count; out = out }

-- The answer at the front of the output buffer and its length; 0 and no byte where the buffer is too short.
unfoldable pub reports : List ℕ → List ℕ → Output
reports text out =
    unless (leb answer_room (length out)) (output 0 out)
    (output (length (answer text)) (answer text ++ drop (length (answer text)) out))
