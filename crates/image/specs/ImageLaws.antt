-- Laws of an image text: keys, and what a line with each key is.
use Rattle.std.specs.Prelude.{ℕ, ◌≡◌, refl, Bool, true, false, ◌&&◌, List, [], ◌∷◌, drop, eqb}
use Rattle.std.specs.List.{starts_with}
use Rattle.std.proofs.Common.{ap}
use Rattle.image.specs.Ascii.{ascii}
use Rattle.image.specs.Decimal.{decimal_of, pair_of}
use Rattle.image.specs.Image.{Image, off, takes_words, takes_keep, takes_root, takes_word, starts, takes_line}

-- A line starts with a key where the library's search for it says so.
pub starts_as : (key line : List ℕ) → starts_with eqb line key ≡ starts key line
unfolding starts
starts_as [] line = refl
starts_as (k ∷ key) [] = refl
starts_as (k ∷ key) (b ∷ line) = ap (λ (t : Bool). eqb k b && t) (starts_as key line)

-- What a line is, key by key.
module _ (image : Image) (line : List ℕ) where
  -- The key `words` tells first.
  pub line_words : starts (ascii "words=") line ≡ true → takes_words image (decimal_of (drop 6 line)) ≡ takes_line image line
  unfolding takes_line
  line_words e = rw e

  module _ (words : starts (ascii "words=") line ≡ false) where
    -- Else the key `keep`.
    pub line_keep : starts (ascii "keep=") line ≡ true → takes_keep image (decimal_of (drop 5 line)) ≡ takes_line image line
    unfolding takes_line
    line_keep e = rw (words, e)

    module _ (keep : starts (ascii "keep=") line ≡ false) where
      -- Else the key `root`.
      pub line_root : starts (ascii "root=") line ≡ true → takes_root image (decimal_of (drop 5 line)) ≡ takes_line image line
      unfolding takes_line
      line_root e = rw (words, keep, e)

      module _ (root : starts (ascii "root=") line ≡ false) where
        -- Else the key `word`.
        pub line_word : starts (ascii "word=") line ≡ true → takes_word image (pair_of (drop 5 line)) ≡ takes_line image line
        unfolding takes_line
        line_word e = rw (words, keep, root, e)

        -- A line with none of them is wrong.
        pub line_other : starts (ascii "word=") line ≡ false → off ≡ takes_line image line
        unfolding takes_line
        line_other e = rw (words, keep, root, e)
