-- `asked_code`: its tests, in their order, are those of `asked_code`.
use Rattle.store.proofs.AllotLaws.{asked_list, asked_numbers, asked_none}
use Rattle.store.proofs.allots.asked.Goals as goal

pub returns-then-not-are_valid : goal.returns-then-not-are_valid
returns-then-not-are_valid c = let t = c.args in asked_list t.words t.keep t.count t.list.now t.s t.p c.are_valid.ensures c.if-not-are_valid.true

pub returns-then-not-keep-s : goal.returns-then-not-keep-s
returns-then-not-keep-s c = let t = c.args in asked_numbers t.words t.keep t.count t.list.now t.s t.p c.are_valid.ensures c.if-not-are_valid.false c.if-not-keep-s.true

pub returns : goal.returns
returns c = let t = c.args in asked_none t.words t.keep t.count t.list.now t.s t.p c.are_valid.ensures c.if-not-are_valid.false c.if-not-keep-s.false
