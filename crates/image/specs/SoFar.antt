-- How the numbers of the code and the words that it is lent stand for an image.
use Rattle.std.specs.Prelude.{ℕ, ◌≤◌, ◌<◌, List, length, take, Option, Some, None, Result, Ok, Err, ⊤}
use Rattle.image.specs.Image.{max_text, max_heap, max_image_roots, Image, Taken, on, off, Text, right, wrong}
use Rattle.image.specs.declared.so_far.SoFar.{SoFar}
use Rattle.image.specs.declared.reading.WrongText.{WrongText}
use Rattle.image.specs.declared.reading.WrongText.TheVariants.{TooLong, Line}

-- The image: roots and heap are the fronts of the lent words.
abbrev pub shows : SoFar → List ℕ → List ℕ → Image
shows b roots heap = record { lines = b.lines; last = b.last; keep = b.keep; roots = take b.roots roots; heap = take b.words heap }

-- What one line more made: an image, or none where the line is wrong where it stands.
abbrev pub shows_next : Option SoFar → List ℕ → List ℕ → Taken
shows_next (Some b) roots heap = on (shows b roots heap)
shows_next None roots heap = off

-- The number of the first wrong line, or 0 where the text is too long.
abbrev pub wrong_line : WrongText → ℕ
wrong_line TooLong = 0
wrong_line (Line n) = n

-- A wrong line has a number from 1 on, so that 0 is that of a text that is too long alone.
abbrev pub Numbered : WrongText → Type 0
Numbered TooLong = ⊤
Numbered (Line n) = 1 ≤ n

-- What a text is.
abbrev pub shows_text : Result SoFar WrongText → List ℕ → List ℕ → Text
shows_text (Ok b) roots heap = right (shows b roots heap)
shows_text (Err e) roots heap = wrong (wrong_line e)

-- There is room for any image, and a line may follow.
pub record LineFits (b : SoFar) (roots heap : List ℕ) : Type 0 where
  pub few : b.lines < max_text
  pub root_room : max_image_roots ≤ length roots
  pub word_room : max_heap ≤ length heap
