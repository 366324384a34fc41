-- A history of calls from C is a history of calls: what holds of the one holds of the other.
use Rattle.std.specs.Prelude.{ℕ, ◌≤◌, ◌≡◌, refl, List, length, drop}
use Rattle.std.proofs.Common.{ap, ◌∙◌, arith, length-append, length-drop, le-leb}
use Rattle.firmware.specs.Lent.{state_room, state_words, fronted}
use Rattle.firmware.specs.Calls.{hx_sets_up, hx_collects, hx_allots, hx_reads, hx_writes, hx_surveys}
use Rattle.layout.specs.declared.State.{State}
use Rattle.demands.specs.World.{World, Call, allot, read, write, collect, survey, effect, answers, after, new_world, allots_on, collects_on}
use Rattle.demands.specs.History.{History, world, Keeps}
use Rattle.demands.specs.Demand3.{Demand3}
use Rattle.demands.proofs.Demand3Holds.{demand_3}
use Rattle.demands.specs.FromC.{Handed}
use Rattle.demands.proofs.FromCHolds.{handed}
use Rattle.demands.specs.Station.{Station, world_in, answer_words, happens, new_station, StandsAfter, at_set_up, at_call}

-- A call from C leaves the world that the call itself leaves, and answers the same numbers.
pub happens_effect : (z : Station) (c : Call) (answer : List ℕ) → Handed (answer_words c) z.state answer → (world_in (happens z c answer).left ≡ after (world_in z) c) × ((happens z c answer).answer ≡ answers (world_in z) c)
unfolding happens effect hx_allots hx_reads hx_writes hx_collects hx_surveys
happens_effect z (allot s p) answer h = rw (handed h) (refl, refl)
happens_effect z (read a k) answer h = rw (handed h) (refl, refl)
happens_effect z (write a k v) answer h = rw (le-leb state_room (length z.state) h.state_room_lem) (refl, refl)
happens_effect z (collect roots) answer h = rw (handed h) (refl, refl)
happens_effect z survey answer h = rw (handed h) (refl, refl)

-- With a state at its front a buffer has its length still.
state_long : (s : State) (state : List ℕ) → state_room ≤ length state → length (fronted (state_words s) state) ≡ length state
state_long s state long = omega (arith, length-append (state_words s) (drop state_room state), length-drop state_room state)

-- The state's words are as many after a call as before it, so that what was lent for them once is enough.
pub happens_long : (z : Station) (c : Call) (answer : List ℕ) → Handed (answer_words c) z.state answer → length (happens z c answer).left.state ≡ length z.state
unfolding happens hx_allots hx_collects
happens_long z (allot s p) answer h = rw (handed h) (state_long (allots_on (world_in z) s p).answer.state z.state h.state_room_lem)
happens_long z (read a k) answer h = refl
happens_long z (write a k v) answer h = refl
happens_long z (collect roots) answer h = rw (handed h) (state_long (collects_on (world_in z) roots).answer.state z.state h.state_room_lem)
happens_long z survey answer h = refl

-- After a history from C the station's words stand for the world that the history leaves.
pub stands_world : {past : History} {z : Station} → StandsAfter past z → world_in z ≡ world past
unfolding world new_world new_station hx_sets_up
stands_world (at_set_up heap t map stack list state long) = rw (le-leb state_room (length state) long) refl
stands_world (at_call {z = z} stands c answer h) = (happens_effect z c answer h).0 ∙ ap (λ (w : World). after w c) (stands_world stands)

-- A call after it answers as one after the history does.
pub stands_answers : {past : History} {z : Station} → StandsAfter past z → (c : Call) (answer : List ℕ) → Handed (answer_words c) z.state answer → (happens z c answer).answer ≡ answers (world past) c
stands_answers {z = z} stands c answer h = (happens_effect z c answer h).1 ∙ ap (λ (w : World). answers w c) (stands_world stands)

-- So demand 3 holds of every history of calls from C that keeps its premises.
pub station_demand_3 : {past : History} {z : Station} → Keeps past → StandsAfter past z → Demand3 past × (world_in z ≡ world past)
station_demand_3 {past} keeps stands = (demand_3 past keeps, stands_world stands)
