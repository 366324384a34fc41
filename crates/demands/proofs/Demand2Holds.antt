-- Demand 2 holds of whatever `collects` leaves.
use Rattle.std.specs.Prelude.{ℕ, ◌≤◌, ◌≡◌, refl, ◌≢◌, List}
use Rattle.std.proofs.Common.{arith}
use Rattle.layout.specs.LimitsLaws.{suits_limits}
use Rattle.layout.specs.declared.State.{State}
use Rattle.marking.specs.Marking.{Outcome, going, done, refused, collection}
use Rattle.marking.proofs.InvariantLaws.{ends}
use Rattle.collector.specs.Collect.{settles, collects_in, collects}
use Rattle.demands.specs.Lent.{Lent}
use Rattle.demands.specs.Demand2.{Demand2}
use Rattle.demands.specs.Tracks.{Told}
use Rattle.demands.proofs.TracksLaws.{collection_told}
use Rattle.demands.proofs.ReachLaws.{unsound, fault_above}
use Rattle.demands.proofs.SettledLaws.{settled_sound}
use Rattle.demands.proofs.FindsLaws.{done_finds}
use Rattle.demands.proofs.FirstLaws.{stops}
use Rattle.demands.proofs.LentLaws.{in_front, lent_parts}

-- It holds of a collection in the needed parts, whatever stands behind them.
parts_demand_2 : (heap : List ℕ) (t : ℕ) (roots : List ℕ) → 1 ≤ t → (map stack list : List ℕ) → Demand2 heap t roots (in_front (collects_in heap t roots) map stack list)
unfolding collects_in
parts_demand_2 heap t roots keeps map stack list = go (collection heap t roots) refl (collection_told heap t roots)
  where
    go : (o : Outcome) → collection heap t roots ≡ o → Told heap t roots o → Demand2 heap t roots (in_front (settles heap t o) map stack list)
    go (going m) e g = absurd (rw e at (ends heap t keeps roots))
    go (done m) e g = record { succeeds = (λ _. settled_sound g, λ _. refl); finds = λ _. done_finds keeps g e map list; refuses = λ some. absurd (some refl); first = λ some. absurd (some refl) }
    go (refused c r) e g =
        let some : c ≢ 0 = λ none. omega (arith, fault_above g) in
        record { succeeds = (λ none. absurd (some none), λ sound. absurd (unsound g sound)); finds = λ none. absurd (some none); refuses = λ _. g; first = λ _. stops heap t roots e }

-- It holds within the limits.
pub demand_2 : (state : State) (heap roots map stack list : List ℕ) → Lent state heap roots map stack list → Demand2 heap state.keep roots (collects state heap roots map stack list)
demand_2 state heap roots map stack list lent =
    rw (lent_parts state heap roots map stack list lent) (parts_demand_2 heap state.keep roots (suits_limits state heap lent.bounded.suit).0.keeps _ _ _)
