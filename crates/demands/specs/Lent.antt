-- What must be lent for marking to begin.
use Rattle.std.specs.Prelude.{ℕ, ◌≤◌, ◌≡◌, true, List, length}
use Rattle.layout.specs.Limits.{max_roots, suits, map_words, stack_words, list_words}
use Rattle.layout.specs.declared.State.{State}

-- State, heap and roots are within the limits.
pub record Bounded (state : State) (heap roots : List ℕ) : Type 0 where
  pub suit : suits state heap ≡ true
  pub few : length roots ≤ max_roots

-- What is lent to a collection is within the limits, and no buffer is shorter than needed.
pub record Lent (state : State) (heap roots map stack list : List ℕ) : Type 0 where
  pub bounded : Bounded state heap roots
  pub map_room : map_words state.words ≤ length map
  pub stack_room : stack_words state.words state.keep ≤ length stack
  pub list_room_lem : list_words state.words state.keep ≤ length list
