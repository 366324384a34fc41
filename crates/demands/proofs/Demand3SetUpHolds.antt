-- Demand 3: set-up leaves a world that stands, with nothing on its map.
use Rattle.std.specs.Prelude.{ℕ, ◌≡◌, refl, true, List, [], ◌++◌, length, drop, replicate}
use Rattle.std.proofs.Common.{sym, ◌∙◌, take_at}
use Rattle.std.proofs.lemmas.List.{length-replicate}
use borrow.Author.Tests.{le-leb}
use Rattle.words.specs.Map.{is_start}
use Rattle.words.proofs.MapLaws.{bit_zeros, start}
use Rattle.layout.specs.Intervals.{shown}
use Rattle.layout.specs.Limits.{map_words, list_words}
use Rattle.layout.specs.LimitsLaws.{suits_within, suits_limits}
use Rattle.layout.specs.SetUp.{first_list, sets_up}
use Rattle.runs.proofs.LongestLaws.{clash}
use Rattle.runs.proofs.CoverLaws.{start_front}
use Rattle.runs.proofs.FreeListLaws.{list_first, list_same}
use Rattle.demands.specs.Lent.{Lent}
use Rattle.demands.specs.Demand1.{front_cleared}
use Rattle.demands.proofs.Demand1Holds.{first_long}
use Rattle.demands.proofs.RefusesLaws.{kept_front, kept_clear}
use Rattle.demands.specs.World.{made, new_world, On}
use Rattle.demands.specs.Stands.{Stands}
use Rattle.demands.proofs.StandsLaws.{lent_still}

module _ {heap : List ℕ} {t : ℕ} {map stack list : List ℕ} (lent : Lent (record { words = length heap; keep = t; count = 0 }) heap [] map stack list) where
  -- How many words the heap has, and how many are needed of map and list.
  abbrev h : ℕ
  h = length heap

  abbrev m : ℕ
  m = map_words h

  abbrev n : ℕ
  n = list_words h t

  -- The map, clear in its needed part.
  abbrev clear : List ℕ
  clear = front_cleared m map

  -- What set-up leaves.
  pub set_up_left : new_world heap t map stack list ≡ made heap (record { words = h; keep = t; count = length (first_list h t) }) clear stack (shown n (first_list h t) ++ drop n list)
  unfolding new_world sets_up
  set_up_left =
      let allowed = suits_within (record { words = h; keep = t; count = 0 }) heap lent.bounded.suit in
      rw (allowed, le-leb m (length map) lent.map_room, le-leb n (length list) lent.list_room_lem)

  -- The map's starts are those of zeros, so nothing is on it.
  start_clear : (a : ℕ) → is_start h clear a ≡ is_start h (replicate m 0) a
  start_clear a = start_front h (replicate m 0) (drop m map) a (length-replicate m 0)

  pub set_up_none : (a : ℕ) → ¬ On (new_world heap t map stack list) a
  set_up_none a = rw set_up_left λ on. clash (start h (replicate m 0) a (sym (start_clear a) ∙ on)).bit (bit_zeros m a)

  -- The world stands.
  pub set_up_stands : Stands (new_world heap t map stack list)
  set_up_stands =
      let keeps = (suits_limits (record { words = h; keep = t; count = 0 }) heap lent.bounded.suit).0.keeps in
      let free = list_same t heap heap (replicate m 0) clear refl start_clear (λ a on. refl) ∙ list_first t heap m in
      let first = first_long heap t keeps in
      let none : (a : ℕ) → ¬ (is_start h clear a ≡ true) = λ a. rw set_up_left at (set_up_none a) in
      rw set_up_left (record {
        lent = lent_still lent refl refl refl (kept_clear map lent.map_room).long refl (kept_front (shown n (first_list h t)) list first lent.list_room_lem).long;
        bits = λ a e. absurd (clash (rw (take_at (replicate m 0) (drop m map) m (length-replicate m 0)) at e) (bit_zeros m a));
        objects = record { formed = λ a on. absurd (none a on); apart = λ a b on. absurd (none a on) };
        named = λ a k on. absurd (none a on);
        count = rw free;
        listed = rw free (take_at (shown n (first_list h t)) (drop n list) n first);
      })
