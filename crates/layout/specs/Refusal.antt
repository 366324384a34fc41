-- How a call refuses.
use Rattle.std.specs.Prelude.{ℕ, Bool, cond, Result, Ok, Err}
use Rattle.layout.specs.declared.refusal.Refusal.{Refusal}
use Rattle.layout.specs.declared.refusal.Refusal.TheVariants.{Limits, Room, List, Address, Header, Overlap, Size, Full, Object, Field, Target, Text}

-- The refusal unless the test holds, else what comes next.
abbrev pub unless {ℓ} : {A : Type ℓ} → Bool → A → A → A
unless test refusal next = cond test next refusal

-- The number of a refusal.
abbrev pub number : Refusal → ℕ
number Limits = 1
number Room = 2
number List = 3
number Address = 4
number Header = 5
number Overlap = 6
number Size = 7
number Full = 8
number Object = 9
number Field = 10
number Target = 11
number Text = 12

-- The number of an answer: 0, or that of its refusal.
abbrev pub code_told : {A : Type 0} → Result A Refusal → ℕ
code_told (Ok x) = 0
code_told (Err refusal) = number refusal
