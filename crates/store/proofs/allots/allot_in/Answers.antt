-- `allot_in`: each way out is a law of `allots_in`.
use Rattle.std.proofs.Common.{rules, ◌≡◌, refl, arith, Ok, Err, Result}
use Prim.{Unit, tt}
use Rattle.layout.specs.Refusal.{number}
use Rattle.layout.specs.RefusalLaws.{number_some}
use Rattle.store.specs.Allot.{asked_code, allot_told, allot_refused}
use Rattle.layout.specs.declared.refusal.Refusal.{Refusal}
use Rattle.store.proofs.AllotLaws.{Ready, Chosen, ready, chosen, allot_refused_lem, allot_full, record_asks, front_asks, lay_asks, bit_asks, allot_placed}
use Rattle.store.proofs.allots.allot_in.Goals as goal
use Rattle.store.proofs.allots.allot_in.Goals.{In_ok-map_err, In_err-map_err, In-Some}

-- No refusal was given.
unrefused : (c : In_ok-map_err) → let t = c.args in 0 ≡ asked_code t.state.words t.state.keep t.state.count t.list.now t.s t.p
unrefused c =
    let ok : ◌≡◌ {A = Result (Unit {0}) Refusal} c.asked.result (Ok tt) = search rules in
    rw ok at c.asked.ensures

-- So a choice may be made.
is-ready : (c : In_ok-map_err) → let t = c.args in Ready t.state t.heap.now t.map.now t.list.now t.s t.p
is-ready c = ready c.requires c.args.s c.args.p (unrefused c) refl

-- An interval was chosen.
is-chosen : (c : In-Some) → let t = c.args in Chosen t.state t.heap.now t.map.now t.list.now t.s t.p c.in-Some.j
is-chosen c = chosen c.requires c.args.s c.args.p (unrefused (goal.at.In-Some c).In_ok-map_err) refl (rw c.below.ensures at c.fitting.ensures) c.in-Some.is

-- A refusal was given, and goes on with the state.
refused : (c : In_err-map_err) → (r : Refusal) × (c.asked.result ≡ Err r)
refused c = search rules

pub returns-in_err-map_err : goal.returns-in_err-map_err
returns-in_err-map_err c =
    let r = refused (goal.at.returns-in_err-map_err c).In_err-map_err in
    let told : allot_told c.from_residual.result ≡ allot_refused (number r.0) c.args.state = search rules in
    rw told (allot_refused_lem c.requires c.args.s c.args.p (rw r.1 at c.asked.ensures) (λ none. omega (arith, number_some r.0)))

pub below-requires : goal.below-requires
below-requires c = (is-ready c).room

pub returns-in_default : goal.returns-in_default
returns-in_default c = allot_full c.requires c.args.s c.args.p (unrefused (goal.at.returns-in_default c).In_ok-map_err) refl (rw c.below.ensures at c.fitting.ensures) c.in_default.is

pub at-record-requires : goal.at-record-requires
at-record-requires c = record_asks (is-chosen (goal.at.at-record-requires c).In-Some)

pub take_front-left-requires : goal.take_front-left-requires
take_front-left-requires c =
    let asks = front_asks (is-chosen (goal.at.take_front-left-requires c).In-Some) in
    record { room = asks.0; listed = asks.1 }

pub lay-requires : goal.lay-requires
lay-requires c = lay_asks (is-chosen (goal.at.lay-requires c).In-Some) c.at-record.ensures.value

pub set-requires : goal.set-requires
set-requires c = bit_asks (is-chosen (goal.at.set-requires c).In-Some) c.at-record.ensures.value

pub returns : goal.returns
returns c = allot_placed (is-chosen (goal.at.returns c).In-Some) c.at-record.ensures.value c.take_front-left.ensures.value c.take_front-left.ensures.list_after c.lay.ensures c.set.ensures
