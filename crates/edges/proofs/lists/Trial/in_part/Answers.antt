-- `lists::Trial::in_part` is safe: a list that passed is ordered within the heap, what is found is contained, and the list stays in
-- its part.
use Rattle.std.proofs.Common.{sym, ◌∙◌, arith}
use Rattle.freelist.specs.Records.{records}
use Rattle.freelist.specs.RecordsLaws.{valid_ordered}
use Rattle.freelist.specs.SearchLaws.{ordered_sorted, fitting_in, holder_in}
use Rattle.layout.specs.LimitsLaws.{limits}
use Rattle.runs.proofs.OrderLaws.{ordered_last, cut_fits}
use Rattle.runs.proofs.SumLaws.{ordered_listed}
use Rattle.edges.proofs.lists.Trial.in_part.Goals as goal

pub below-requires : goal.below-requires
below-requires g c = omega (arith, (valid_ordered _ _ _ _ (sym c.are_valid.ensures ∙ c.if-not-are_valid.false)).0)

pub of-figures-requires : goal.of-figures-requires
of-figures-requires g c = rw c.below.ensures (omega (arith, ordered_listed (valid_ordered _ _ _ _ (sym c.are_valid.ensures ∙ c.if-not-are_valid.false)).1, limits _ _ c.requires.0))

pub below-requires-in-Front : goal.below-requires-in-Front
below-requires-in-Front g c = omega (arith, (valid_ordered _ _ _ _ (sym c.are_valid.ensures ∙ c.if-not-are_valid.false)).0)

pub take_front-left-requires : goal.take_front-left-requires
take_front-left-requires g c =
    let t = c.args in
    let o = valid_ordered _ _ _ _ (sym c.are_valid.ensures ∙ c.if-not-are_valid.false) in
    let l = limits _ _ c.requires.0 in
    let here = fitting_in t.self.s (records t.count t.list.now) (rw c.below-in-Front.ensures at c.fitting.ensures) c.in-Some.j c.in-Some.is in
    record {
      room = (omega (arith, o.0), l.keeps);
      listed = (omega (arith, here.high, ordered_last o.1 c.in-Some.j here.there, l), here);
    }

pub below-requires-in-Off-2 : goal.below-requires-in-Off-2
below-requires-in-Off-2 g c = omega (arith, (valid_ordered _ _ _ _ (sym c.are_valid.ensures ∙ c.if-not-are_valid.false)).0)

pub holding-requires : goal.holding-requires
holding-requires g c =
    let o = valid_ordered _ _ _ _ (sym c.are_valid.ensures ∙ c.if-not-are_valid.false) in
    (omega (arith, limits _ _ c.requires.0), rw c.below-in-Off-2.ensures (ordered_sorted (omega arith) o.1))

pub take_off-left-requires : goal.take_off-left-requires
take_off-left-requires g c =
    let t = c.args in
    let o = valid_ordered _ _ _ _ (sym c.are_valid.ensures ∙ c.if-not-are_valid.false) in
    let l = limits _ _ c.requires.0 in
    let here = holder_in t.self.a t.self.s (records t.count t.list.now) (rw c.below-in-Off-2.ensures at c.holding.ensures) c.in-Some-holding.j c.in-Some-holding.is in
    record {
      listed = (omega (arith, o.0), omega (arith, l), here);
      room = omega (arith, cut_fits l.keeps (omega arith) o.1 c.in-Some-holding.j here);
    }
