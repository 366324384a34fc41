-- `Machine::advance`: each way out is a case of the machine's move.
use Rattle.std.proofs.Common.{rules, ◌≡◌, Err, arith}
use Rattle.machine.specs.MoveLaws.{meeting_field, moved_field, top_inside, top_small, popped_inside, moved_pop, moved_root, moved_done}
use Rattle.machine.proofs.Machine.advance.Goals as goal

pub meet-requires : goal.meet-requires
meet-requires c =
    meeting_field c.requires c.if-self-gt0.true

pub returns-then-self-gt0 : goal.returns-then-self-gt0
returns-then-self-gt0 c =
    moved_field c.requires c.if-self-gt0.true c.wide-r.ensures.0 c.in_ok-meet.ensures

pub returns-in_err-meet : goal.returns-in_err-meet
returns-in_err-meet c =
    let e : c.from_residual.result ≡ Err c.in_err-meet.field-0.0 = search rules in
    rw e (moved_field c.requires c.if-self-gt0.true c.wide-r.ensures.0 c.in_err-meet.ensures)

pub offset_bounds-self-top : goal.offset_bounds-self-top
offset_bounds-self-top c = omega (arith, top_small c.requires c.if-self-gt0.false c.if-self-gt0-2.true)

pub bounds-self-top : goal.bounds-self-top
bounds-self-top c = top_inside c.requires c.if-self-gt0.false c.if-self-gt0-2.true

pub at-header-requires : goal.at-header-requires
at-header-requires c = popped_inside c.requires c.if-self-gt0.false c.if-self-gt0-2.true c.wide-a.ensures.0

pub returns-then-self-gt0-2 : goal.returns-then-self-gt0-2
returns-then-self-gt0-2 c = moved_pop c.requires c.if-self-gt0.false c.if-self-gt0-2.true c.wide-a.ensures.0 c.at-header.ensures

pub returns-then-self : goal.returns-then-self
returns-then-self c =
    moved_root c.requires c.if-self-gt0.false c.if-self-gt0-2.false c.if-self.true c.wide-r-then-self.ensures.0 c.in_ok-meet-2.ensures

pub returns-in_err-meet-2 : goal.returns-in_err-meet-2
returns-in_err-meet-2 c =
    let e : c.from_residual-in_err-meet-2.result ≡ Err c.in_err-meet-2.field-0.0 = search rules in
    rw e (moved_root c.requires c.if-self-gt0.false c.if-self-gt0-2.false c.if-self.true c.wide-r-then-self.ensures.0 c.in_err-meet-2.ensures)

pub returns : goal.returns
returns c = moved_done c.requires c.if-self-gt0.false c.if-self-gt0-2.false c.if-self.false
