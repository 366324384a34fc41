-- Laws of reading a text line by line.
use Rattle.std.specs.Prelude.{ℕ, suc, ◌+◌, ◌≤◌, ◌<◌, ◌≡◌, refl, ◌≢◌, Bool, true, false, ◌&&◌, List, [], length, drop, leb, eqb, Option, Some, None}
use Rattle.std.proofs.Math.Path.{sym}
use Rattle.std.proofs.Common.{◌∙◌, ap, subst, le_refl, le-add_left, arith, length-drop, drop_of_length-le, drop-drop}
use Rattle.std.proofs.Math.Bool.{and-eq-true_iff}
use borrow.Author.Tests.{eqb-true, le-leb, lt-leb}
use Rattle.image.specs.Bytes.{index_of}
use Rattle.layout.specs.Limits.{max_keep}
use Rattle.layout.specs.RefusalLaws.{by_test}
use Rattle.image.specs.Ascii.{ascii}
use Rattle.image.specs.Decimal.{decimal_of, pair_of}
use Rattle.image.specs.Lines.{first_line, lines_of}
use Rattle.image.specs.LinesLaws.{line_length, line_inside, line_alone, lines_next}
use Rattle.image.specs.Image.{max_text, max_heap, max_image_roots, Image, blank, Taken, on, off, on_if, takes_words, takes_keep, takes_root, takes_word, starts, takes_line, right, wrong, or_wrong, read_on, text_of}
use Rattle.image.specs.SoFar.{shows, shows_next, LineFits}
use Rattle.image.specs.declared.so_far.SoFar.{SoFar}

-- P holds of the image that a line has made, if the line was right.
abbrev pub IfOn : (Image → Type 0) → Taken → Type 0
IfOn P (on next) = P next
IfOn P off = Unit {0}

-- It is so where P holds of the image that a test lets through.
pub if_tested : (P : Image → Type 0) (test : Bool) (next : Image) → (test ≡ true → P next) → IfOn P (on_if test next)
unfolding on_if
if_tested P true next k = k refl
if_tested P false next k = tt

-- It is so of any line where it is so of each kind.
pub if_line : (P : Image → Type 0) (image : Image) (line : List ℕ) → ((n : Option ℕ) → IfOn P (takes_words image n)) → ((n : Option ℕ) → IfOn P (takes_keep image n)) → ((n : Option ℕ) → IfOn P (takes_root image n))
    → ((p : Option (ℕ × ℕ)) → IfOn P (takes_word image p)) → IfOn P (takes_line image line)
unfolding takes_line
if_line P image line words keep root word =
    by_test (IfOn P) (starts (ascii "words=") line) (λ e. words (decimal_of (drop 6 line))) (λ e.
    by_test (IfOn P) (starts (ascii "keep=") line) (λ e. keep (decimal_of (drop 5 line))) (λ e.
    by_test (IfOn P) (starts (ascii "root=") line) (λ e. root (decimal_of (drop 5 line))) (λ e.
    by_test (IfOn P) (starts (ascii "word=") line) (λ e. word (pair_of (drop 5 line))) (λ e. tt))))

-- A line is not right and wrong.
on≢off : {image : Image} → on image ≡ off → ⊥
on≢off e = subst IsOn e tt
  where
    IsOn : Taken → Type 0
    IsOn (on next) = Unit {0}
    IsOn off = ⊥

-- No bytes are no right line.
none_off : (image : Image) → takes_line image [] ≡ off
unfolding takes_line starts ascii
none_off image = refl

-- An image has at most one line more than another.
abbrev OneMore : Image → Image → Type 0
OneMore image next = next.lines ≤ image.lines + 1

-- So has one after any line.
one_more : (image : Image) (line : List ℕ) → IfOn (OneMore image) (takes_line image line)
one_more image line = if_line (OneMore image) image line words keep root word
  where
    words : (number : Option ℕ) → IfOn (OneMore image) (takes_words image number)
    words (Some n) = if_tested (OneMore image) _ _ (λ e. le-add_left 1 image.lines)
    words None = tt

    keep : (number : Option ℕ) → IfOn (OneMore image) (takes_keep image number)
    keep (Some n) = if_tested (OneMore image) (eqb image.lines 1 && leb 1 n && leb n max_keep) _ (λ e. omega (arith, eqb-true image.lines 1 ((and-eq-true_iff _ (leb 1 n)).0 ((and-eq-true_iff (eqb image.lines 1 && leb 1 n) _).0 e).0).0))
    keep None = tt

    root : (number : Option ℕ) → IfOn (OneMore image) (takes_root image number)
    root (Some n) = if_tested (OneMore image) _ _ (λ e. le_refl (image.lines + 1))
    root None = tt

    word : (pair : Option (ℕ × ℕ)) → IfOn (OneMore image) (takes_word image pair)
    word (Some (a, v)) = if_tested (OneMore image) _ _ (λ e. le_refl (image.lines + 1))
    word None = tt

-- What is known between two lines: the lines that are left decide what the text is.
pub record Between (text roots heap : List ℕ) (b : SoFar) (at : ℕ) : Type 0 where
  pub inside : at ≤ length text
  pub short : length text ≤ max_text
  pub lines_in : b.lines ≤ at
  pub root_room : max_image_roots ≤ length roots
  pub word_room : max_heap ≤ length heap
  pub rest : read_on (shows b roots heap) (lines_of (drop at text)) ≡ text_of text

-- A longer text is wrong.
pub text_long : (text : List ℕ) → max_text < length text → wrong 0 ≡ text_of text
unfolding text_of
text_long text long = rw (lt-leb (length text) max_text long)

-- At the end a line is missing where fewer than two were read.
pub ends_missing : (image : Image) → image.lines < 2 → wrong (image.lines + 1) ≡ read_on image []
unfolding read_on
ends_missing image few = rw (lt-leb 2 image.lines few)

-- Else the text is right.
pub ends_right : (image : Image) → 2 ≤ image.lines → right image ≡ read_on image []
unfolding read_on
ends_right image enough = rw (le-leb 2 image.lines enough)

-- Any other begins.
pub text_begins : (text roots heap : List ℕ) {b : SoFar} → shows b roots heap ≡ blank → length text ≤ max_text → max_image_roots ≤ length roots → max_heap ≤ length heap → Between text roots heap b 0
unfolding text_of
text_begins text roots heap none short r h =
    record { inside = omega arith; short = short; lines_in = omega (arith, ap (λ (i : Image). i.lines) none); root_room = r; word_room = h; rest = rw (none, le-leb (length text) max_text short) }

module _ {text roots heap : List ℕ} {b : SoFar} {at : ℕ} (g : Between text roots heap b at) where
  -- At the end of the text no line is left.
  pub text_ends : length text ≤ at → read_on (shows b roots heap) [] ≡ text_of text
  unfolding lines_of
  text_ends le = rw (drop_of_length-le text le) at g.rest

  -- Before the end there is a line.
  module _ (more : at < length text) where
    -- It may be read.
    pub line_fits : LineFits b roots heap
    line_fits = record { few = omega (arith, g.lines_in, g.short); root_room = g.root_room; word_room = g.word_room }

    -- What is left of the text.
    abbrev unread : List ℕ
    unread = drop at text

    -- There is some.
    some_unread : 0 < length unread
    some_unread = omega (arith, length-drop at text)

    -- What is left to read, that line first.
    line_first : read_on (shows b roots heap) (lines_of unread) ≡ or_wrong (b.lines + 1) (λ next. read_on next (lines_of (drop (suc (index_of 10 unread)) unread))) (takes_line (shows b roots heap) (first_line unread))
    unfolding read_on
    line_first = rw (lines_next unread some_unread, line_alone unread)

    module _ {line : List ℕ} (here : line ≡ first_line unread) where
      -- A line that is wrong where it stands makes the text wrong.
      pub line_stops : {came : Option SoFar} → came ≡ None → (roots' heap' : List ℕ) → shows_next came roots' heap' ≡ takes_line (shows b roots heap) line → wrong (b.lines + 1) ≡ text_of text
      line_stops told roots' heap' e =
          let is_off : takes_line (shows b roots heap) (first_line unread) ≡ off = ap (takes_line (shows b roots heap)) (sym here) ∙ sym e ∙ ap (λ (n : Option SoFar). shows_next n roots' heap') told in
          sym (line_first ∙ ap (or_wrong (b.lines + 1) _) is_off) ∙ g.rest

      -- Any other is ended by an LF.
      module _ {came : Option SoFar} {next : SoFar} (told : came ≡ Some next) (roots' heap' : List ℕ) (e : shows_next came roots' heap' ≡ takes_line (shows b roots heap) line) where
        -- It makes the next image.
        goes : takes_line (shows b roots heap) (first_line unread) ≡ on (shows next roots' heap')
        goes = ap (takes_line (shows b roots heap)) (sym here) ∙ sym e ∙ ap (λ (n : Option SoFar). shows_next n roots' heap') told

        -- It is not empty.
        some : first_line unread ≢ []
        some none = on≢off (sym goes ∙ ap (takes_line (shows b roots heap)) none ∙ none_off (shows b roots heap))

        -- Its LF stands behind it.
        behind : suc (index_of 10 unread) ≡ length line + 1
        behind = omega (arith, ap length here, line_length unread some)

        -- The next line begins behind it, in the text.
        pub next_inside : at + (length line + 1) ≤ length text
        next_inside = omega (arith, behind, line_inside unread some, length-drop at text)

        -- And so it goes on.
        pub line_goes : max_image_roots ≤ length roots' → max_heap ≤ length heap' → Between text roots' heap' next (at + (length line + 1))
        line_goes r h =
            let count : next.lines ≤ b.lines + 1 = subst (IfOn (OneMore (shows b roots heap))) goes (one_more (shows b roots heap) (first_line unread)) in
            let left_then : drop (suc (index_of 10 unread)) unread ≡ drop (at + (length line + 1)) text = rw behind (drop-drop (length line + 1) at text) in
            record {
              inside = next_inside;
              short = g.short;
              lines_in = omega (arith, count, g.lines_in);
              root_room = r;
              word_room = h;
              rest = ap (λ (l : List ℕ). read_on (shows next roots' heap') (lines_of l)) (sym left_then) ∙ sym (line_first ∙ ap (or_wrong (b.lines + 1) _) goes) ∙ g.rest;
            }
