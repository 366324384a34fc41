-- `lay`: the header stored and the words behind it cleared make the new object.
use Prim.Native.Nat.{ℕ, ◌+◌, ◌-◌}
use mathlib.Core.Path.{◌≡◌}
use mathlib.Core.List.{List}
use lib.ListN.{length, take, drop, set, replicate}
use Rattle.store.proofs.ObjectLaws.{laid}
use Rattle.store.proofs.allots.lay.Goals as goal

pub returns : goal.returns
returns c =
    let t = c.args in
    let behind : List ℕ = take (t.a + t.s - (t.a + 1)) (drop (t.a + 1) (set t.heap.now t.a c.word.result)) in
    let zeros : c.clear.new.part ≡ replicate (length behind) 0 = c.clear.ensures in
    laid t.heap.now t.a t.s t.p c.requires.0 c.requires.2 c.word.ensures zeros
