-- `Machine::meet`: each way out is one of the reasons that the machine has.
use mathlib.Core.Path.{ap}
use Rattle.machine.specs.MetLaws.{Candidate, met_empty, met_outside, here, met_again, met_ill, candidate, searchable, met_over, takeable, noting, met_new}
use Rattle.words.specs.declared.header.Header.{Header}
use Rattle.machine.proofs.Machine.meet.Goals as goal
use Rattle.machine.proofs.Machine.meet.Goals.{After-at-header}

-- The reference is a candidate.
known : (c : After-at-header) → Candidate c.args.self.now c.args.r c.at-header.result.size
known c =
    candidate c.requires c.if-r-eq0.false c.if-self-r.false c.is_marked.ensures c.if-is_marked.false c.is_formed.ensures c.if-not-is_formed.false
    (ap (λ (x : Header). x.size) c.at-header.ensures)

pub returns-then-r-eq0 : goal.returns-then-r-eq0
returns-then-r-eq0 c = met_empty c.requires c.if-r-eq0.true

pub returns-then-self-r : goal.returns-then-self-r
returns-then-self-r c = met_outside c.requires c.if-r-eq0.false c.if-self-r.true

pub is_marked-requires : goal.is_marked-requires
is_marked-requires c = here c.requires c.if-r-eq0.false c.if-self-r.false

pub returns-then-is_marked : goal.returns-then-is_marked
returns-then-is_marked c = met_again c.requires c.if-r-eq0.false c.if-self-r.false c.is_marked.ensures c.if-is_marked.true

pub returns-then-not-is_formed : goal.returns-then-not-is_formed
returns-then-not-is_formed c = met_ill c.requires c.if-r-eq0.false c.if-self-r.false c.is_marked.ensures c.if-is_marked.false c.is_formed.ensures c.if-not-is_formed.true

pub holding-requires : goal.holding-requires
holding-requires c = searchable c.requires (known c)

pub returns-in_default : goal.returns-in_default
returns-in_default c =
    met_over c.requires (known (goal.at.returns-in_default c).After-at-header) c.holding.ensures c.in_default.is

pub take_off-n-requires : goal.take_off-n-requires
take_off-n-requires c =
    let able = takeable c.requires (known (goal.at.take_off-n-requires c).After-at-header) c.holding.ensures c.in-Some.is in
    record { listed = able.0; room = able.1 }

pub note-requires : goal.note-requires
note-requires c = noting c.requires (known (goal.at.note-requires c).After-at-header) c.holding.ensures c.in-Some.is

pub returns : goal.returns
returns c =
    let off = c.take_off-n.ensures in
    met_new c.requires (known (goal.at.returns c).After-at-header) c.holding.ensures c.in-Some.is off.value off.list_after c.note.ensures
