-- `first_list`: zeros, and over them one record if the heap has the keep length.
use Prim.Native.Nat.{◌≤◌}
use mathlib.Core.Path.{sym, ap, ◌∙◌}
use native.Mathlib.Omega.{arith}
use lib.ListN.{length, length-set}
use Rattle.layout.specs.Limits.{list_words}
use Rattle.layout.specs.LimitsLaws.{limits}
use Rattle.layout.specs.SetUpLaws.{first_none, none_shown, first_one, one_fits, one_shown}
use Rattle.layout.proofs.first_list.Goals as goal
use Rattle.layout.proofs.first_list.Goals.{Else-all-keep}

pub overflow_sub-all : goal.overflow_sub-all
overflow_sub-all c = (limits _ _ c.requires.0).some

pub returns-then-all-keep : goal.returns-then-all-keep
returns-then-all-keep c =
    let short = c.if-all-keep.true in record { value = sym (ap length (first_none _ _ short)); list_after = c.clear.ensures ∙ rw c.requires.1 (none_shown c.args.words c.args.keep short) }

keeps : (c : Else-all-keep) → 1 ≤ c.args.keep
keeps c = (limits _ _ c.requires.0).keeps

fits : (c : Else-all-keep) → 2 ≤ list_words c.args.words c.args.keep
fits c = one_fits _ _ (keeps c) c.if-all-keep.false

pub bounds-list-0 : goal.bounds-list-0
bounds-list-0 c = omega (arith, fits c)

pub overflow_cast-list : goal.overflow_cast-list
overflow_cast-list c = omega (arith, limits _ _ c.requires.0)

pub bounds-list-1 : goal.bounds-list-1
bounds-list-1 c = simp length-set (omega (arith, fits c))

pub returns : goal.returns
returns c =
    let t = c.args in record { value = sym (first_one _ _ (keeps c) c.if-all-keep.false); list_after = rw (c.clear.ensures, c.requires.1) (one_shown t.words t.keep (keeps c) c.if-all-keep.false) }
