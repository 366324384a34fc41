-- How read and write answer in a history, said of what is held and of what was last written.
use Rattle.store.specs.Fields.{Reading}
use Rattle.std.specs.Prelude.{ℕ, ◌-◌, ◌≤◌, ◌<◌, ◌≡◌, ◌≢◌, ◌⊎◌}
use Rattle.demands.specs.History.{History, Held, allotted_as, last_written}

module _ (past : History) (a k : ℕ) where
  -- The object at a is held, and has a field k.
  abbrev pub HasField : Type 0
  HasField = Held past a × (k < (allotted_as past a).size - 1)

  -- How a read of field k of the object at a answers.
  pub record ReadAnswers (answer : Reading) : Type 0 where
    -- It gives what was last written there.
    pub given : HasField → answer ≡ record { code = 0; value = last_written past a k }
    -- It is refused with 10 where a held object has no such field.
    pub fieldless : Held past a → (allotted_as past a).size - 1 ≤ k → answer ≡ record { code = 10; value = 0 }
    -- It is refused with 9 where no object is held.
    pub unheld : ¬ Held past a → answer ≡ record { code = 9; value = 0 }

  -- How a write of v to it answers.
  pub record WriteAnswers (v code : ℕ) : Type 0 where
    -- It is accepted in a data field, and in a reference field if the value is 0 or names a held object.
    pub stored : HasField → ((allotted_as past a).refs ≤ k) ⊎ ((v ≡ 0) ⊎ Held past v) → code ≡ 0
    -- It is refused with 11 for any other value in a reference field.
    pub untaken : HasField → k < (allotted_as past a).refs → v ≢ 0 → ¬ Held past v → code ≡ 11
    -- It is refused with 10 where a held object has no such field.
    pub fieldless : Held past a → (allotted_as past a).size - 1 ≤ k → code ≡ 10
    -- It is refused with 9 where no object is held.
    pub unheld : ¬ Held past a → code ≡ 9
