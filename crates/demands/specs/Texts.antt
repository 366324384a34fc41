-- Worked examples of the text program, in one table: what it is given, and what it prints.
use Prim.Native.String.{String}
use Rattle.std.specs.Prelude.{List, [], ◌∷◌}

-- A text, and what the program prints for it.
pub record Printing : Type 0 where
  pub given : String
  pub printed : String

-- A row of the table.
abbrev prints : String → String → Printing
prints given printed = record { given = given; printed = printed }

-- The table: images first, then wrong texts.
unfoldable pub printings : List Printing
printings =
    -- The example of the rules, whole.
    prints "words=16\nkeep=2\nroot=1\nword=1,65539\nword=2,8\nword=8,2\n" "code=0\nwhere=0\nobjects=2\nlive=5\nreferences=2\npeak=2\nlisted=10\nlargest=6\nfragment=400\nfree=4,4\nfree=10,6\n" ∷
    -- P11: the heap is word 0 alone.
    prints "words=1\nkeep=1\n" "code=0\nwhere=0\nobjects=0\nlive=0\nreferences=0\npeak=0\nlisted=0\nlargest=0\nfragment=0\n" ∷
    -- The keep length may exceed the words; a root may be empty.
    prints "words=2\nkeep=65535\nroot=0\n" "code=0\nwhere=0\nobjects=0\nlive=0\nreferences=1\npeak=0\nlisted=0\nlargest=0\nfragment=0\n" ∷
    -- A root outside the heap, P10's header and P6's overlap are refused.
    prints "words=8\nkeep=2\nroot=4294967295\n" "code=4\nwhere=4294967295\n" ∷
    prints "words=8\nkeep=2\nroot=1\nword=1,131074\n" "code=5\nwhere=1\n" ∷
    prints "words=8\nkeep=2\nroot=1\nroot=2\nword=1,4\nword=2,2\n" "code=6\nwhere=2\n" ∷
    -- A line is missing.
    prints "" "code=12\nwhere=1\n" ∷
    prints "words=16\n" "code=12\nwhere=2\n" ∷
    -- The last line has no LF, also where the collection would be refused.
    prints "words=16\nkeep=2" "code=12\nwhere=2\n" ∷
    prints "words=8\nkeep=2\nroot=9\nword=1,2" "code=12\nwhere=4\n" ∷
    -- A blank line, CR, a space, NUL, a key that is none.
    prints "words=16\n\nkeep=2\n" "code=12\nwhere=2\n" ∷
    prints "words=16\r\nkeep=2\n" "code=12\nwhere=1\n" ∷
    prints "words =16\nkeep=2\n" "code=12\nwhere=1\n" ∷
    prints "words=16\nkeep=2\nroot=1\0\n" "code=12\nwhere=3\n" ∷
    prints "words=16\nkeep=2\nroots=1\n" "code=12\nwhere=3\n" ∷
    -- A leading zero, a sign, no digit, 2 ^ 32, and 2 ^ 64 + 1.
    prints "words=016\nkeep=2\n" "code=12\nwhere=1\n" ∷
    prints "words=16\nkeep=+2\n" "code=12\nwhere=2\n" ∷
    prints "words=16\nkeep=2\nroot=\n" "code=12\nwhere=3\n" ∷
    prints "words=16\nkeep=2\nroot=4294967296\n" "code=12\nwhere=3\n" ∷
    prints "words=16\nkeep=2\nroot=18446744073709551617\n" "code=12\nwhere=3\n" ∷
    -- Numbers just out of their limits.
    prints "words=0\nkeep=2\n" "code=12\nwhere=1\n" ∷
    prints "words=4097\nkeep=2\n" "code=12\nwhere=1\n" ∷
    prints "words=16\nkeep=65536\n" "code=12\nwhere=2\n" ∷
    prints "words=16\nkeep=0\n" "code=12\nwhere=2\n" ∷
    -- An address 0, H, twice; a value 0; no comma, and two.
    prints "words=16\nkeep=2\nword=0,1\n" "code=12\nwhere=3\n" ∷
    prints "words=16\nkeep=2\nword=16,1\n" "code=12\nwhere=3\n" ∷
    prints "words=16\nkeep=2\nword=3,1\nword=3,1\n" "code=12\nwhere=4\n" ∷
    prints "words=16\nkeep=2\nword=3,0\n" "code=12\nwhere=3\n" ∷
    prints "words=16\nkeep=2\nword=3\n" "code=12\nwhere=3\n" ∷
    prints "words=16\nkeep=2\nword=3,1,1\n" "code=12\nwhere=3\n" ∷
    -- Lines in another order, or twice.
    prints "keep=2\nwords=16\n" "code=12\nwhere=1\n" ∷
    prints "words=16\nwords=16\nkeep=2\n" "code=12\nwhere=2\n" ∷
    prints "words=16\nkeep=2\nkeep=2\n" "code=12\nwhere=3\n" ∷
    prints "words=16\nkeep=2\nword=3,1\nroot=1\n" "code=12\nwhere=4\n" ∷
    []
