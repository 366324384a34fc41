-- Wrong builds that demand 3 shuts out, by its fields and by what is held alone.
use Rattle.std.specs.Prelude.{ℕ, ◌≤◌, ◌≡◌, ◌≢◌, true, List, length, replicate}
use Rattle.std.proofs.Common.{arith}
use Rattle.words.specs.Map.{is_start}
use Rattle.words.proofs.MapLaws.{bit_zeros, start}
use Rattle.layout.specs.declared.Interval.{Interval}
use Rattle.runs.proofs.LongestLaws.{clash}
use Rattle.store.specs.Allot.{askable}
use Rattle.demands.specs.Reach.{Reach}
use Rattle.demands.specs.Demand2.{Tells}
use Rattle.demands.specs.World.{collect, allots_on}
use Rattle.demands.specs.History.{History, ◌then◌, world, keep_of, Held}
use Rattle.demands.specs.Demand3.{FreeRun, Demand3}

-- A collection that returns the old map: where it has found a held object unreachable, that map does not hold what is held then.
pub no_old_map : {past : History} → Demand3 past → {roots : List ℕ} {a : ℕ} → Held past a → ¬ Reach (world past).heap (keep_of past) roots a → ¬ Tells (is_start (length (world past).heap) (world past).map) (Held (past then collect roots))
unfolding Held
no_old_map d {a = a} held unreached tells = unreached ((tells a).0 ((d.starts a).1 held)).1

-- One that clears the map: where it reaches a held object, a clear map does not hold what is held then.
pub no_clear_map : (past : History) {roots : List ℕ} {a : ℕ} (h n : ℕ) → Held past a → Reach (world past).heap (keep_of past) roots a → ¬ Tells (is_start h (replicate n 0)) (Held (past then collect roots))
unfolding Held
no_clear_map past {a = a} h n held reached tells = clash (start h (replicate n 0) a ((tells a).1 (held, reached))).bit (bit_zeros n a)

-- An allot that answers 8 for everything: where a free run has the words of what may be asked for, 8 is wrong.
pub no_always_full : {past : History} → Demand3 past → (s p : ℕ) (i : Interval) → askable (keep_of past) s p ≡ true → FreeRun past i → s ≤ i.size → (allots_on (world past) s p).answer.code ≢ 8
no_always_full d s p i able run fits e = omega (arith, ((d.room s p).lacks.0 e).1 i run)
