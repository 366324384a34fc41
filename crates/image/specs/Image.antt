-- An image text: its lines in order, and what they stand for.
use Rattle.std.specs.Prelude.{ℕ, ◌+◌, Bool, true, false, cond, not, ◌&&◌, List, [], ◌∷◌, ◌++◌, length, drop, set, replicate, leb, ltb, eqb, Option, Some, None}
use Rattle.layout.specs.Limits.{max_keep}
use Rattle.layout.specs.Refusal.{unless}
use Rattle.image.specs.Ascii.{ascii}
use Rattle.image.specs.Decimal.{decimal_of, pair_of}
use Rattle.image.specs.Lines.{first_line, lines_of}

-- The most bytes of a text.
abbrev pub max_text : ℕ
max_text = 60000

-- The most words of an image's heap.
abbrev pub max_heap : ℕ
max_heap = 4096

-- The most roots of an image.
abbrev pub max_image_roots : ℕ
max_image_roots = 1024

-- What the lines so far stand for: how many they are, the address that the last `word` line names (0 before the first), keep length, roots, heap.
pub record Image : Type 0 where
  pub lines : ℕ
  pub last : ℕ
  pub keep : ℕ
  pub roots : List ℕ
  pub heap : List ℕ

-- Before the first line.
abbrev pub blank : Image
blank = record { lines = 0; last = 0; keep = 0; roots = []; heap = [] }

-- What one line more makes: an image, or a line that is wrong where it stands.
pub data Taken : Type 0 where
  on : Image → Taken
  off : Taken

-- The image where the test holds; else the line is wrong.
unfoldable pub on_if : Bool → Image → Taken
on_if true image = on image
on_if false image = off

-- `words` is the first line: the heap has so many words, all 0.
abbrev pub takes_words : Image → Option ℕ → Taken
takes_words image (Some n) =
    on_if (eqb image.lines 0 && leb 1 n && leb n max_heap)
    (record { lines = 1; last = image.last; keep = image.keep; roots = image.roots; heap = replicate n 0 })
takes_words image None = off

-- `keep` is the second line.
abbrev pub takes_keep : Image → Option ℕ → Taken
takes_keep image (Some n) =
    on_if (eqb image.lines 1 && leb 1 n && leb n max_keep)
    (record { lines = 2; last = image.last; keep = n; roots = image.roots; heap = image.heap })
takes_keep image None = off

-- A `root` line stands behind these and before any `word` line, while there is room.
abbrev pub takes_root : Image → Option ℕ → Taken
takes_root image (Some n) =
    on_if (leb 2 image.lines && eqb image.last 0 && ltb (length image.roots) max_image_roots)
    (record { lines = image.lines + 1; last = 0; keep = image.keep; roots = image.roots ++ n ∷ []; heap = image.heap })
takes_root image None = off

-- A `word` line stands behind these; its address is above the last one and in the heap, and its value is not 0.
abbrev pub takes_word : Image → Option (ℕ × ℕ) → Taken
takes_word image (Some (a, v)) =
    on_if (leb 2 image.lines && ltb image.last a && ltb a (length image.heap) && not (eqb v 0))
    (record { lines = image.lines + 1; last = a; keep = image.keep; roots = image.roots; heap = set image.heap a v })
takes_word image None = off

-- A list of bytes starts with these.
unfoldable pub starts : List ℕ → List ℕ → Bool
starts [] line = true
starts (k ∷ key) [] = false
starts (k ∷ key) (b ∷ line) = eqb k b && starts key line

-- One line more: its key says what the part after the equals sign is.
unfoldable pub takes_line : Image → List ℕ → Taken
takes_line image line =
    cond (starts (ascii "words=") line) (takes_words image (decimal_of (drop 6 line)))
    (cond (starts (ascii "keep=") line) (takes_keep image (decimal_of (drop 5 line)))
    (cond (starts (ascii "root=") line) (takes_root image (decimal_of (drop 5 line)))
    (cond (starts (ascii "word=") line) (takes_word image (pair_of (drop 5 line)))
    off)))

-- What a text is: an image, or wrong, with the number of its first wrong line, or with 0 if it is too long.
pub data Text : Type 0 where
  right : Image → Text
  wrong : ℕ → Text

-- On to the next line, or the number of this one.
abbrev pub or_wrong : ℕ → (Image → Text) → Taken → Text
or_wrong n next (on image) = next image
or_wrong n next off = wrong n

-- The lines that are left; a missing line is the one after the last.
unfoldable pub read_on : Image → List (List ℕ) → Text
read_on image [] = unless (leb 2 image.lines) (wrong (image.lines + 1)) (right image)
read_on image (line ∷ rest) = or_wrong (image.lines + 1) (λ next. read_on next rest) (takes_line image (first_line line))

-- A text of at most 60,000 bytes is read line by line; a longer one is wrong, with 0 for its line.
unfoldable pub text_of : List ℕ → Text
text_of text = unless (leb (length text) max_text) (wrong 0) (read_on blank (lines_of text))
