-- A new object in a world that stands.
use Rattle.std.specs.Prelude.{ℕ, ◌+◌, ◌-◌, ◌*◌, ◌≤◌, ◌<◌, ◌≡◌, refl, ◌≢◌, ◌⊎◌, true, List, ◌++◌, length, get_or, take, drop}
use Rattle.std.proofs.Common.{sym, ap, ◌∙◌, inl, inr, arith, length-take-le, take_at}
use Rattle.std.proofs.Math.Decide.{dec_le, ℕ_discrete}
use Rattle.words.specs.Header.{size_at, refs_at, header_at, well_formed}
use Rattle.words.proofs.HeaderLaws.{is_formed, header_same, equal_size, equal_refs}
use Rattle.words.specs.Map.{bit_at, set_bit, is_start, covered}
use Rattle.words.proofs.MapLaws.{length-set_bit, bit_same, bit_other, is_start_lem}
use Rattle.words.proofs.CoverLaws.{owner_covers}
use Rattle.layout.specs.Intervals.{shown}
use Rattle.layout.specs.Limits.{map_words, list_words}
use Rattle.layout.specs.LimitsLaws.{bit_inside}
use Rattle.layout.specs.declared.Interval.{Interval}
use Rattle.runs.specs.Runs.{free_list}
use Rattle.runs.specs.Lists.{interval_at, In, Longest, without_front}
use Rattle.runs.proofs.LongestLaws.{Covered, runs_longest}
use Rattle.runs.proofs.CoverLaws.{start_other, start_take, start_front}
use Rattle.runs.proofs.FreeListLaws.{list_same, list_cut, list_fits}
use Rattle.split.specs.RelistedLaws.{length-shown}
use Rattle.store.specs.Allot.{with_object}
use Rattle.store.specs.Fields.{word_of}
use Rattle.store.proofs.ObjectLaws.{length-laid, new_header, new_others, new_zeros}
use Rattle.demands.specs.Reach.{Overlap, Objects}
use Rattle.demands.proofs.RefusesLaws.{kept_front}
use Rattle.demands.specs.World.{World, made, field_at, On}
use Rattle.demands.specs.Stands.{free_of, Stands}
use Rattle.demands.proofs.StandsLaws.{lent_still, objects_same, sized, keep_some, on_formed}

-- The front of the free interval at place j has s words, and an object of them with p references may be asked for.
pub record Picked (w : World) (s p j : ℕ) : Type 0 where
  pub front : In (free_of w) (interval_at (free_of w) j).start s j
  pub least : w.state.keep ≤ s
  pub small : s ≤ 65535
  pub fewer : p < s

module _ {w : World} (g : Stands w) {s p j : ℕ} (x : Picked w s p j) where
  -- The new object's address.
  abbrev pub place : ℕ
  place = (interval_at (free_of w) j).start

  -- The interval is a run of words that no object covers.
  free_run : Longest w.state.keep (Covered (covered w.heap w.map)) 1 (length w.heap) (interval_at (free_of w) j)
  unfolding free_list
  free_run = (runs_longest w.state.keep (length w.heap) (covered w.heap w.map) (interval_at (free_of w) j) (keep_some g)).0 (j, x.front.there, refl)

  -- The new object ends within the heap.
  inside : place + s ≤ length w.heap
  inside = omega (arith, x.front.high, free_run.high)

  -- Each object on the map ends before it or starts behind it.
  pub beside_new : (b : ℕ) → On w b → (b + size_at w.heap b ≤ place) ⊎ (place + s ≤ b)
  beside_new b on = go (dec_le (b + size_at w.heap b) place) (dec_le (place + s) b) (dec_le place b)
    where
      owns : (c : ℕ) → b ≤ c → c < b + size_at w.heap b → covered w.heap w.map c ≡ true
      owns c lo hi = owner_covers w.heap w.map c b (record { start = on; low = lo; high = hi })

      go : Dec (b + size_at w.heap b ≤ place) → Dec (place + s ≤ b) → Dec (place ≤ b) → (b + size_at w.heap b ≤ place) ⊎ (place + s ≤ b)
      go (yes before) d e = inl before
      go (no m) (yes behind) e = inr behind
      go (no m) (no n) (yes low) = absurd (free_run.free b low (omega (arith, x.front.high)) (owns b (omega arith) (omega (arith, (on_formed g on).fewer))))
      go (no m) (no n) (no low) = absurd (free_run.free place (omega arith) (omega (arith, x.front.high, x.fewer)) (owns place (omega arith) (omega arith)))

  -- No object on the map starts there.
  unheld : ¬ On w place
  unheld on = elim (beside_new place on) [ inl before ↦ omega (arith, (on_formed g on).fewer) | inr behind ↦ omega (arith, x.fewer) ]

  -- The heap with the new object.
  abbrev pub new_heap : List ℕ
  new_heap = with_object w.heap place s p

  heap_long : length new_heap ≡ length w.heap
  heap_long = length-laid w.heap place s p x.fewer inside

  -- It has the header asked for, and zeros.
  pub new_header_is : header_at new_heap place ≡ record { size = s; refs = p }
  new_header_is = new_header w.heap place s p x.fewer inside (omega (arith, x.small))

  pub new_field_is : (k : ℕ) → k < s - 1 → get_or new_heap (word_of place k) 0 ≡ 0
  new_field_is k has = new_zeros w.heap place s p x.fewer inside (word_of place k) (omega arith) (omega (arith, has))

  -- Every object on the map keeps its header and its fields.
  old_word_is : (b k : ℕ) → On w b → k < size_at w.heap b → get_or new_heap (b + k) 0 ≡ get_or w.heap (b + k) 0
  old_word_is b k on has =
      new_others w.heap place s p x.fewer inside (b + k) (elim (beside_new b on) [ inl before ↦ inl (omega arith) | inr behind ↦ inr (omega arith) ])

  pub old_header_is : (b : ℕ) → On w b → header_at new_heap b ≡ header_at w.heap b
  old_header_is b on =
      let here : b + 0 ≡ b = omega arith in
      header_same w.heap new_heap b (rw here at (old_word_is b 0 on (omega (arith, (on_formed g on).fewer))))

  pub old_field_is : (b k : ℕ) → On w b → k < size_at w.heap b - 1 → get_or new_heap (word_of b k) 0 ≡ field_at w b k
  old_field_is b k on has =
      let here : b + (1 + k) ≡ word_of b k = omega arith in
      rw here at (old_word_is b (1 + k) on (omega (arith, has)))

  -- How many words are needed of the map, and of the list.
  abbrev m : ℕ
  m = map_words (length w.heap)

  abbrev n : ℕ
  n = list_words (length w.heap) w.state.keep

  -- The map with the new object's bit, in its needed part and behind.
  abbrev part : List ℕ
  part = set_bit (take m w.map) place

  abbrev pub new_map : List ℕ
  new_map = part ++ drop m w.map

  part_long : length (take m w.map) ≡ m
  part_long = length-take-le m w.map (rw (sized g) g.lent.map_room)

  new_long : length part ≡ m
  new_long = length-set_bit (take m w.map) place ∙ part_long

  -- Its starts are those of that part: the new object, and what was there.
  start_part : (b : ℕ) → is_start (length new_heap) new_map b ≡ is_start (length w.heap) part b
  start_part b = rw heap_long (start_front (length w.heap) part (drop m w.map) b new_long)

  pub start_new : is_start (length new_heap) new_map place ≡ true
  start_new =
      let in_heap : place < length w.heap = omega (arith, inside, x.fewer) in
      start_part place ∙ is_start_lem (length w.heap) part place (record { some = omega (arith, free_run.low); inside = in_heap; bit = bit_same (take m w.map) place (rw part_long (bit_inside (length w.heap) place in_heap)) })

  start_still : (b : ℕ) → b ≢ place → is_start (length new_heap) new_map b ≡ is_start (length w.heap) w.map b
  start_still b other = start_part b ∙ start_other (length w.heap) (take m w.map) place b other ∙ start_take (length w.heap) w.map b

  -- The free list without the new object's words.
  abbrev pub new_free : List Interval
  new_free = without_front w.state.keep s (free_of w) j

  -- It is the free list of what is left.
  free_is : free_list w.state.keep new_heap new_map ≡ new_free
  free_is =
      let t : ℕ = w.state.keep in
      let front : List ℕ = take m w.map in
      let size : size_at new_heap place ≡ s = equal_size new_header_is in
      let in_heap : place < length new_heap = omega (arith, heap_long, inside, x.fewer) in
      let sizes : (b : ℕ) → is_start (length w.heap) w.map b ≡ true → size_at new_heap b ≡ size_at w.heap b = λ b on. equal_size (old_header_is b on) in
      let before : free_list t new_heap front ≡ free_of w = list_same t w.heap new_heap w.map front heap_long (λ b. rw heap_long (start_take (length w.heap) w.map b)) sizes in
      let in_part : free_list t new_heap new_map ≡ free_list t new_heap part = list_same t new_heap new_heap part new_map refl (λ b. start_part b ∙ rw heap_long refl) (λ b on. refl) in
      let taken : In (free_list t new_heap front) place (size_at new_heap place) j = rw (before, size) x.front in
      in_part ∙ list_cut t new_heap front (keep_some g) place j free_run.low in_heap (rw part_long (bit_inside (length w.heap) place (rw heap_long at in_heap))) (omega (arith, size, x.fewer)) taken ∙ rw (before, size) refl

  -- The list with it.
  abbrev pub new_list : List ℕ
  new_list = shown n new_free ++ drop n w.list

  -- Its part has room for it.
  pub new_fits : 2 * length new_free ≤ n
  new_fits = rw (free_is, heap_long) at (list_fits w.state.keep new_heap new_map (keep_some g))

  list_is : take n new_list ≡ shown n new_free
  list_is = take_at (shown n new_free) (drop n w.list) n (length-shown n new_free new_fits)

  -- The world with the new object.
  abbrev grown : World
  grown = made new_heap (record { words = w.state.words; keep = w.state.keep; count = length new_free }) new_map w.stack new_list

  -- What is on its map is the new object, or was there.
  pub grown_cases : (P : ℕ → Type 0) → P place → ((b : ℕ) → On w b → P b) → (b : ℕ) → On grown b → P b
  grown_cases P new old b on = elim (ℕ_discrete b place) [ yes same ↦ rw same new | no other ↦ old b (sym (start_still b other) ∙ on) ]

  -- What was there is.
  pub grown_still : (b : ℕ) → On w b → On grown b
  grown_still b on = start_still b (λ same. unheld (rw same at on)) ∙ on

  -- Its objects are well-formed and disjoint.
  grown_objects : Objects new_heap w.state.keep (On grown)
  grown_objects = record {
    formed = grown_cases (λ b. well_formed new_heap w.state.keep b ≡ true) new still.formed;
    apart = λ a b on on'. grown_cases (λ a. a ≢ b → ¬ Overlap new_heap a b)
        (grown_cases (λ b. place ≢ b → ¬ Overlap new_heap place b) (λ other. absurd (other refl)) (λ b old other x. beside b old (x.1, x.0)) b on')
        (λ a old. grown_cases (λ b. a ≢ b → ¬ Overlap new_heap a b) (λ other. beside a old) (λ b old'. still.apart a b old old') b on')
        a on;
  }
    where
      still : Objects new_heap w.state.keep (On w)
      still = objects_same w.heap new_heap heap_long old_header_is (λ b on. on) g.objects

      size : size_at new_heap place ≡ s
      size = equal_size new_header_is

      refs : refs_at new_heap place ≡ p
      refs = equal_refs new_header_is

      new : well_formed new_heap w.state.keep place ≡ true
      new = is_formed new_heap w.state.keep place (record { least = rw size x.least; fewer = rw (size, refs) x.fewer; ends = rw (size, heap_long) inside })

      beside : (b : ℕ) → On w b → ¬ Overlap new_heap b place
      beside b old o =
          let same : size_at new_heap b ≡ size_at w.heap b = equal_size (old_header_is b old) in
          elim (beside_new b old) [ inl before ↦ omega (arith, o, size, same) | inr behind ↦ omega (arith, o, size, same) ]

  -- Each reference field of one is empty or names one.
  grown_named : (b : ℕ) → On grown b → (k : ℕ) → k < refs_at new_heap b → get_or new_heap (word_of b k) 0 ≢ 0 → On grown (get_or new_heap (word_of b k) 0)
  grown_named = grown_cases (λ b. (k : ℕ) → k < refs_at new_heap b → get_or new_heap (word_of b k) 0 ≢ 0 → On grown (get_or new_heap (word_of b k) 0))
      (λ k has some. let refs : refs_at new_heap place ≡ p = equal_refs new_header_is in absurd (some (new_field_is k (omega (arith, has, refs, x.fewer)))))
      (λ b on k has some.
      let refs : refs_at new_heap b ≡ refs_at w.heap b = equal_refs (old_header_is b on) in
      let same = old_field_is b k on (omega (arith, has, refs, (on_formed g on).fewer)) in
      rw same (grown_still (field_at w b k) (g.named b k on (rw refs at has) (rw same at some))))

  -- Each bit in the map's needed words is an object's.
  grown_bits : (b : ℕ) → bit_at part b ≡ true → On grown b
  grown_bits b set =
      elim (ℕ_discrete b place) [
        | yes same ↦ rw same start_new
        | no other ↦ start_still b other ∙ g.bits b (sym (bit_other (take m w.map) place b other) ∙ set)
      ]

  -- It stands.
  pub grown_stands : Stands grown
  grown_stands = record {
    lent = lent_still g.lent refl refl heap_long (kept_front part w.map new_long (rw (sized g) g.lent.map_room)).long refl (kept_front (shown n new_free) w.list (length-shown n new_free new_fits) (rw (sized g) g.lent.list_room_lem)).long;
    bits = λ b set. grown_bits b (rw (heap_long, take_at part (drop m w.map) m new_long) at set);
    objects = grown_objects;
    named = λ b k on. grown_named b on k;
    count = sym (ap length free_is);
    listed = rw (heap_long, free_is) list_is;
  }
