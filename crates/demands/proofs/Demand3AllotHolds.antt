-- Demand 3: an allot in a world that stands.
use Rattle.std.specs.Prelude.{ℕ, ◌+◌, ◌-◌, ◌*◌, ◌≤◌, ◌<◌, ◌≡◌, ◌≢◌, ◌↔◌, ◌⊎◌, Bool, true, false, ◌&&◌, get_or, take, eqb, Option, Some, None}
use Rattle.std.proofs.Math.Path.{refl}
use Rattle.std.proofs.Common.{sym, inl, inr, arith, take-append-drop, length-take-le, eqb-true, eq-eqb, ne_eqb}
use mathlib.Core.List.Memᴰ
use Rattle.std.proofs.Math.ListN.{length}
use Rattle.words.specs.Header.{size_at, header_at}
use Rattle.layout.specs.Limits.{map_words, list_words}
use Rattle.layout.specs.declared.Interval.{Interval}
use Rattle.runs.specs.Lists.{interval_at, Member}
use Rattle.runs.proofs.LongestLaws.{clash}
use Rattle.freelist.specs.Records.{records}
use Rattle.freelist.specs.Search.{fitting}
use Rattle.freelist.specs.SearchLaws.{fitting_none}
use Rattle.split.specs.RelistedLaws.{relisted_shown}
use Rattle.store.specs.Allot.{Allotment, askable, asked_code, placed, allots_in, Parts}
use Rattle.store.proofs.AllotLaws.{joined, allot_within, asked_numbers, asked_none, allot_refused_lem, allot_full, Chosen, chosen}
use Rattle.store.specs.Fields.{word_of}
use Rattle.demands.proofs.Demand1AllotHolds.{refuse}
use Rattle.demands.specs.World.{World, allot, field_at, allots_on, of_allot, after, On, effect}
use Rattle.demands.specs.History.{gives_by, gives}
use Rattle.demands.specs.Demand3.{AllotAnswers}
use Rattle.demands.specs.Stands.{free_of, Stands}
use Rattle.demands.proofs.StandsLaws.{sized, list_part, part_read, free_fits, list_valid}
use Rattle.demands.proofs.PlacedLaws.{Picked, place, beside_new, new_heap, new_header_is, new_field_is, old_header_is, old_field_is, new_map, start_new, new_free, new_fits, new_list, grown_cases, grown_still, grown_stands}

module _ {w : World} (g : Stands w) where
  -- How many words are needed of the map, and of the list.
  abbrev m : ℕ
  m = map_words w.state.words

  abbrev n : ℕ
  n = list_words w.state.words w.state.keep

  -- The needed parts.
  parts : Parts w.state w.heap (take m w.map) (take n w.list)
  parts = record { suit = g.lent.bounded.suit; map_size = length-take-le m w.map g.lent.map_room; list_size = length-take-le n w.list g.lent.list_room_lem }

  module _ (s p : ℕ) where
    -- The allot in the needed parts.
    abbrev inner : Allotment
    inner = allots_in w.state w.heap (take m w.map) (take n w.list) s p

    -- The number by the list and by what is asked.
    abbrev asked_code_lem : ℕ
    asked_code_lem = asked_code w.state.words w.state.keep w.state.count (take n w.list) s p

    -- With what came behind them, the allot is that one.
    in_parts : allots_on w s p ≡ joined w.state w.map w.list inner
    in_parts = allot_within w.state w.heap w.map w.list s p g.lent.bounded.suit g.lent.map_room g.lent.list_room_lem

    -- What is left where the new object has its place.
    abbrev given : (j : ℕ) → Picked w s p j → Allotment
    given j x = record {
      answer = record { code = 0; address = place g x; state = record { words = w.state.words; keep = w.state.keep; count = length (new_free g x) } };
      heap = new_heap g x;
      map = new_map g x;
      list = new_list g x;
    }

    -- What was chosen is a place for it.
    picked : {j : ℕ} → Chosen w.state w.heap (take m w.map) (take n w.list) s p j → Picked w s p j
    picked x = record { front = rw (part_read g) at x.front; least = x.ready.least; small = x.ready.small; fewer = x.ready.fewer }

    -- And there it is placed.
    placed_given : {j : ℕ} (x : Picked w s p j) → joined w.state w.map w.list (placed w.state w.heap (take m w.map) (take n w.list) s p (Some j)) ≡ given j x
    unfolding placed
    placed_given {j} x =
        let fits : 2 * length (new_free g x) ≤ n = rw (sized g) at (new_fits g x) in
        rw (part_read g, g.count, list_part g, relisted_shown n (free_of w) (new_free g x) (free_fits g) fits, sized g) refl

    -- Every free interval is too short.
    abbrev Short : Type 0
    Short = (i : Interval) → Member (free_of w) i → i.size < s

    -- What holds of refusals 7 and 8, each for its reason, and of the new object in its place, holds of every allot.
    allot_cases : (P : Allotment → Type 0) → (askable w.state.keep s p ≡ false → P (refuse w.state w.heap w.map w.list 7)) → (askable w.state.keep s p ≡ true → Short → P (refuse w.state w.heap w.map w.list 8)) → (askable w.state.keep s p ≡ true → (j : ℕ) (x : Picked w s p j) → P (given j x)) → P (allots_on w s p)
    allot_cases P seven eight new = rw in_parts (go (askable w.state.keep s p) refl)
      where
        refused : (code : ℕ) → refuse w.state w.heap (take m w.map) (take n w.list) code ≡ inner → P (refuse w.state w.heap w.map w.list code) → P (joined w.state w.map w.list inner)
        refused code e q = rw (← e, take-append-drop m w.map, take-append-drop n w.list) q

        found : asked_code_lem ≡ 0 → askable w.state.keep s p ≡ true → (f : Option ℕ) → f ≡ fitting s (records w.state.count (take n w.list)) → P (joined w.state w.map w.list inner)
        found none e None q =
            let short = rw (part_read g) at (fitting_none s (records w.state.count (take n w.list)) q refl) in
            refused 8 (allot_full parts s p refl none q refl) (eight e (λ i m. rw m.2 at (short m.0 m.1)))
        found none e (Some j) q =
            let x = chosen parts s p refl none q refl in
            rw (x.left, placed_given (picked x)) (new e j (picked x))

        go : (b : Bool) → askable w.state.keep s p ≡ b → P (joined w.state w.map w.list inner)
        go false e = refused 7 (allot_refused_lem parts s p (asked_numbers w.state.words w.state.keep w.state.count (take n w.list) s p refl (list_valid g) e) (λ z. omega arith)) (seven e)
        go true e = found (sym (asked_none w.state.words w.state.keep w.state.count (take n w.list) s p refl (list_valid g) e)) e (fitting s (records w.state.count (take n w.list))) refl

-- What an allot of s words with p references does to a world.
pub record AllotLeaves (w : World) (s p : ℕ) (x : Allotment) : Type 0 where
  -- The world still stands, with as many words and the keep length that it had.
  pub stands : Stands (of_allot w x).left
  pub words : x.answer.state.words ≡ w.state.words
  pub keep : x.answer.state.keep ≡ w.state.keep
  -- On the map is what was there, and the new object.
  pub on : (b : ℕ) → On (of_allot w x).left b ↔ On w b ⊎ (gives_by x.answer b ≡ true)
  -- The new one has no word of another, and has the header asked for and zeros.
  pub beside : (b c : ℕ) → gives_by x.answer b ≡ true → On w c → (c + size_at w.heap c ≤ b) ⊎ (b + s ≤ c)
  pub new_header : (b : ℕ) → gives_by x.answer b ≡ true → header_at x.heap b ≡ record { size = s; refs = p }
  pub new_field : (b k : ℕ) → gives_by x.answer b ≡ true → k < s - 1 → get_or x.heap (word_of b k) 0 ≡ 0
  -- The others keep their headers and fields.
  pub old_header : (b : ℕ) → On w b → header_at x.heap b ≡ header_at w.heap b
  pub old_field : (b k : ℕ) → On w b → k < size_at w.heap b - 1 → get_or x.heap (word_of b k) 0 ≡ field_at w b k

module _ {w : World} (g : Stands w) (s p : ℕ) where
  -- A refusal leaves the world as it was.
  refused_leaves : (code : ℕ) → code ≢ 0 → AllotLeaves w s p (refuse w.state w.heap w.map w.list code)
  refused_leaves code some = record {
    stands = g;
    words = refl;
    keep = refl;
    on = λ b. (inl, λ e. elim e [ inl on ↦ on | inr e ↦ absurd (clash e (none b)) ]);
    beside = λ b c e. absurd (clash e (none b));
    new_header = λ b e. absurd (clash e (none b));
    new_field = λ b k e. absurd (clash e (none b));
    old_header = λ b on. refl;
    old_field = λ b k on has. refl;
  }
    where
      none : (b : ℕ) → eqb code 0 && eqb 0 b ≡ false
      none b = rw (ne_eqb code 0 some)

  -- The new object in its place.
  given_leaves : (j : ℕ) (x : Picked w s p j) → AllotLeaves w s p (given g s p j x)
  given_leaves j x = record {
    stands = grown_stands g x;
    words = refl;
    keep = refl;
    on = λ b. (grown_cases g x (λ b. On w b ⊎ (eqb (place g x) b ≡ true)) (inr (eq-eqb (place g x) (place g x) refl)) (λ b on. inl on) b, λ e. elim e [ inl on ↦ grown_still g x b on | inr e ↦ rw (← here b e) (start_new g x) ]);
    beside = λ b c e. rw (← here b e) (beside_new g x c);
    new_header = λ b e. rw (← here b e) (new_header_is g x);
    new_field = λ b k e. rw (← here b e) (new_field_is g x k);
    old_header = old_header_is g x;
    old_field = old_field_is g x;
  }
    where
      here : (b : ℕ) → eqb (place g x) b ≡ true → place g x ≡ b
      here b e = eqb-true (place g x) b e

  -- What every allot does.
  pub allot_leaves : AllotLeaves w s p (allots_on w s p)
  allot_leaves = allot_cases g s p (AllotLeaves w s p) (λ e. refused_leaves 7 (λ z. omega arith)) (λ e short. refused_leaves 8 (λ z. omega arith)) (λ e. given_leaves)

  -- What every allot answers.
  pub allot_code : AllotAnswers w.state.keep (Member (free_of w)) s p (allots_on w s p).answer.code
  allot_code = allot_cases g s p (λ x. AllotAnswers w.state.keep (Member (free_of w)) s p x.answer.code)
      (λ e. record { unasked = (λ z. e, λ z. refl); lacks = (λ z. absurd (omega arith), λ z. absurd (clash z.0 e)); others = λ z. Memᴰ.head refl })
      (λ e short. record { unasked = (λ z. absurd (omega arith), λ z. absurd (clash e z)); lacks = (λ z. (e, short), λ z. refl); others = λ z. Memᴰ.tail (Memᴰ.head refl) })
      (λ e j x. record {
        unasked = (λ z. absurd (omega arith), λ z. absurd (clash e z));
        lacks = (λ z. absurd (omega arith), λ z. absurd (omega (arith, z.1 (interval_at (free_of w) j) (j, x.front.there, refl), x.front.high)));
        others = λ z. absurd (z refl);
      })

  -- The fields of the new object are 0.
  pub allot_zeros : (a k : ℕ) → gives w s p a ≡ true → k < s - 1 → field_at (after w (allot s p)) a k ≡ 0
  unfolding effect gives
  allot_zeros = allot_leaves.new_field
