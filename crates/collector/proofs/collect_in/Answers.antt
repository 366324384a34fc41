-- `collect_in`: the parts cleared, the machine run, and what it left.
use mathlib.Core.Path.{◌≡◌, refl, ◌∙◌}
use lib.ListN.{length}
use Rattle.collector.proofs.CollectLaws.{begun, leaves_done, leaves_refused}
use Rattle.collector.proofs.collect_in.Goals as goal
use Rattle.collector.proofs.collect_in.Goals.{After-run-end}

-- The run keeps the lengths of map and list.
long-map : (c : After-run-end) → length c.run-end.new.map ≡ length c.args.map.now
long-map c = c.run-end.auto.map ∙ c.clear.auto.part

long-list : (c : After-run-end) → length c.run-end.new.list ≡ length c.args.list.now
long-list c = c.run-end.auto.list ∙ c.first_list-count.auto.list

pub run-end-requires : goal.run-end-requires
run-end-requires c = begun c.requires c.clear.ensures c.first_list-count.ensures.value c.first_list-count.ensures.list_after

pub returns-in-Ok : goal.returns-in-Ok
returns-in-Ok c =
    leaves_done c.requires c.run-end.ensures c.run-end.auto.stack c.clear-2.ensures c.in-Ok.is

pub returns-in-Err : goal.returns-in-Err
returns-in-Err c =
    leaves_refused c.requires c.run-end.ensures c.run-end.auto.stack c.clear-2.ensures c.in-Err.is (long-map (goal.at.returns-in-Err c).After-run-end) c.clear-in-Err.ensures (long-list (goal.at.returns-in-Err c).After-run-end) c.clear-in-Err-2.ensures refl
