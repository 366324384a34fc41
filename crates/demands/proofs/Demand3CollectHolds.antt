-- Demand 3: a collection leaves a world that stands, where all that is reached is sound; and so it is in a world that stands.
use Rattle.std.specs.Prelude.{ℕ, ◌≡◌, ◌↔◌}
use Rattle.std.proofs.Math.Path.{refl, ap}
use Rattle.std.proofs.Common.{sym, ◌∙◌, inl, inr, arith}
use mathlib.Core.List.{List, []}
use Rattle.std.proofs.Math.ListN.{length}
use Rattle.words.proofs.HeaderLaws.{formed}
use Rattle.words.specs.Map.{covered}
use Rattle.runs.specs.Runs.{free_list}
use Rattle.freelist.specs.Records.{records}
use Rattle.freelist.specs.RecordsLaws.{length-records}
use Rattle.collector.specs.Collect.{Left}
use Rattle.store.proofs.FieldsLaws.{member_field, field_member}
use Rattle.demands.specs.Reach.{Reach, by_field, Sound}
use Rattle.demands.proofs.ReachLaws.{reach_least}
use Rattle.demands.specs.Lent.{Lent}
use Rattle.demands.specs.Demand1.{CollectEnds, Succeeded}
use Rattle.demands.proofs.Demand1CollectHolds.{collect_ends}
use Rattle.demands.specs.Demand2.{Demand2, Finds}
use Rattle.demands.proofs.Demand2Holds.{demand_2}
use Rattle.demands.specs.World.{World, collect, collects_on, after, On, effect}
use Rattle.demands.specs.History.{Rooted}
use Rattle.demands.specs.Stands.{Stands}
use Rattle.demands.proofs.StandsLaws.{rerooted, lent_still, objects_same, on_formed}

-- A collection of what is sound, within the limits.
module _ {w : World} {roots : List ℕ} (lent : Lent w.state w.heap roots w.map w.stack w.list) (sound : Sound w.heap w.state.keep roots) where
  -- Demand 2 holds of it, and demand 1 as ever.
  meets : Demand2 w.heap w.state.keep roots (collects_on w roots)
  meets = demand_2 w.state w.heap roots w.map w.stack w.list lent

  ends : CollectEnds w.state w.heap roots w.map w.stack w.list (collects_on w roots)
  ends = collect_ends w.state w.heap roots w.map w.stack w.list

  -- It succeeds.
  pub sound_succeeds : (collects_on w roots).answer.code ≡ 0
  sound_succeeds = meets.succeeds.1 sound

  -- It finds what is reached.
  pub sound_finds : Finds w.heap w.state.keep roots (collects_on w roots).answer (collects_on w roots).map (collects_on w roots).list
  sound_finds = meets.finds sound_succeeds

  -- Afterwards just what is reached is on the map.
  sound_starts : (a : ℕ) → On (after w (collect roots)) a ↔ Reach w.heap w.state.keep roots a
  unfolding effect
  sound_starts = sound_finds.starts

  -- The keep length stays.
  sound_keep : (collects_on w roots).answer.state.keep ≡ w.state.keep
  sound_keep = (ends.succeeds sound_succeeds).keep

  -- The list is the new free list.
  list_is : records (collects_on w roots).answer.state.count (collects_on w roots).list ≡ free_list w.state.keep w.heap (collects_on w roots).map
  unfolding free_list
  list_is = sound_finds.lists.swept (covered w.heap (collects_on w roots).map) sound_finds.covers

  -- The world stands afterwards.
  pub sound_stands : Stands (after w (collect roots))
  unfolding effect
  sound_stands =
      let f = sound_finds in
      let out : Left = collects_on w roots in
      let s : Succeeded w.state w.stack out = ends.succeeds sound_succeeds in
      record {
        lent = lent_still (rerooted lent [] (omega arith)) s.words s.keep refl ends.keeps_map.long ends.keeps_stack.long ends.keeps_list.long;
        bits = λ a e. (f.starts a).1 ((f.bits a).0 e);
        objects = rw s.keep (objects_same w.heap w.heap refl (λ a p. refl) (λ a e. (f.starts a).0 e) sound);
        named = λ a k e has some. let p = (f.starts a).0 e in (f.starts _).1 (by_field p (sound.formed a p) (field_member (formed w.heap w.state.keep a (sound.formed a p)) k has) some);
        count = rw s.keep (sym (length-records out.answer.state.count out.list) ∙ ap length list_is);
        listed = rw (s.keep, ← list_is) f.lists.zeros;
      }

-- A collection in a world that stands.
module _ {w : World} (g : Stands w) {roots : List ℕ} (rooted : Rooted w roots) where
  -- Whatever is reached is on the map.
  pub reached_on : {a : ℕ} → Reach w.heap w.state.keep roots a → On w a
  reached_on = reach_least (On w) (λ r i some. elim (rooted.named r i) [ inl none ↦ absurd (some none) | inr on ↦ on ]) (λ a r on well i some. let m = member_field (on_formed g on) i in rw m.2 at (g.named a m.0 on m.1 (rw m.2 some)))

  -- So all is sound.
  is_sound : Sound w.heap w.state.keep roots
  is_sound = objects_same w.heap w.heap refl (λ a p. refl) (λ a p. reached_on p) g.objects

  -- All that is lent is within the limits.
  is_lent : Lent w.state w.heap roots w.map w.stack w.list
  is_lent = rerooted g.lent roots rooted.few

  -- So it succeeds,
  pub collect_succeeds : (collects_on w roots).answer.code ≡ 0
  collect_succeeds = sound_succeeds is_lent is_sound

  -- just what is reached is on the map,
  pub collect_starts : (a : ℕ) → On (after w (collect roots)) a ↔ Reach w.heap w.state.keep roots a
  collect_starts = sound_starts is_lent is_sound

  -- the keep length stays,
  pub collect_keep : (collects_on w roots).answer.state.keep ≡ w.state.keep
  collect_keep = sound_keep is_lent is_sound

  -- and the world stands.
  pub collect_stands : Stands (after w (collect roots))
  collect_stands = sound_stands is_lent is_sound
