-- A collection is refused for what it is lent, or it is one in the needed parts.
use Rattle.std.specs.Prelude.{ℕ, ◌≡◌, refl, Bool, true, ◌&&◌, List, ◌++◌, length, drop, leb}
use Rattle.std.proofs.Math.Bool.{and-eq-true_iff}
use Rattle.std.proofs.Common.{leb-true, le-leb}
use Rattle.layout.specs.Limits.{max_roots, suits, map_words, stack_words, list_words}
use Rattle.layout.specs.RefusalLaws.{by_test}
use Rattle.layout.specs.declared.State.{State}
use Rattle.runs.proofs.LongestLaws.{clash}
use Rattle.collector.specs.Collect.{Left, left, collects_in, collects}
use Rattle.collector.proofs.CollectLaws.{three_fit}
use Rattle.demands.specs.Lent.{Bounded, Lent}
use Rattle.demands.specs.Demand1.{lent_refused}

-- The needed parts in front of the rest.
abbrev pub in_front : Left → List ℕ → List ℕ → List ℕ → Left
in_front parts map stack list = left parts.answer (parts.map ++ map) (parts.stack ++ stack) (parts.list ++ list)

-- What is left in the needed parts, in front of what came behind them.
abbrev pub joined : State → List ℕ → List ℕ → List ℕ → Left → Left
joined state map stack list parts =
    let h : ℕ = state.words in
    let t : ℕ = state.keep in
    in_front parts (drop (map_words h) map) (drop (stack_words h t) stack) (drop (list_words h t) list)

module _ (state : State) (heap roots map stack list : List ℕ) where
  -- A collection in the needed parts.
  abbrev pub in_parts : Left
  in_parts = joined state map stack list (collects_in heap state.keep roots)

  -- The test for 1.
  abbrev allowed : Bool
  allowed = suits state heap && leb (length roots) max_roots

  -- The test for 2.
  abbrev long : Bool
  long = leb (map_words state.words) (length map) && leb (stack_words state.words state.keep) (length stack) && leb (list_words state.words state.keep) (length list)

  -- What is within the limits passes the first.
  bounded_passes : Bounded state heap roots → allowed ≡ true
  bounded_passes x = rw (x.suit, le-leb (length roots) max_roots x.few)

  -- And only that does.
  passes_bounded : allowed ≡ true → Bounded state heap roots
  passes_bounded ok =
      let x = (and-eq-true_iff (suits state heap) _).0 ok in
      record { suit = x.0; few = leb-true (length roots) max_roots x.1 }

  -- What is lent passes the second.
  lent_long : Lent state heap roots map stack list → long ≡ true
  lent_long x =
      let h : ℕ = state.words in
      let t : ℕ = state.keep in
      rw (le-leb (map_words h) (length map) x.map_room, le-leb (stack_words h t) (length stack) x.stack_room, le-leb (list_words h t) (length list) x.list_room_lem)

  -- What passes both is lent.
  lent_both : allowed ≡ true → long ≡ true → Lent state heap roots map stack list
  lent_both ok enough =
      let y = three_fit map stack list enough in
      record { bounded = passes_bounded ok; map_room = y.0; stack_room = y.1; list_room_lem = y.2 }

  -- What holds of a collection in the needed parts, of a refusal with 1 out of the limits, and of one with 2 where a buffer is too short, holds of every collection.
  pub lent_cases : (P : Left → Type 0) → (Lent state heap roots map stack list → P in_parts) → (¬ Bounded state heap roots → P (lent_refused state map stack list 1))
      → (Bounded state heap roots → ¬ Lent state heap roots map stack list → P (lent_refused state map stack list 2)) → P (collects state heap roots map stack list)
  unfolding collects
  lent_cases P given one two =
      by_test P allowed (λ ok. by_test P long (λ enough. given (lent_both ok enough)) (λ short. two (passes_bounded ok) (λ x. clash (lent_long x) short)))
      (λ out. one (λ x. clash (bounded_passes x) out))

  -- Within the limits it is the one in the needed parts.
  pub lent_parts : Lent state heap roots map stack list → collects state heap roots map stack list ≡ in_parts
  lent_parts = lent_cases (λ out. Lent state heap roots map stack list → out ≡ in_parts) (λ _ _. refl) (λ out lent. absurd (out lent.bounded)) (λ ok none lent. absurd (none lent))
