-- What the text program tells of an image, said of what its roots reach.
use Rattle.collector.specs.Collect.{Collected}
use Rattle.std.specs.Prelude.{ℕ, ◌≡◌, List, ◌++◌}
use Rattle.freelist.specs.Records.{records}
use Rattle.freelist.specs.Figures.{figures_of}
use Rattle.marking.specs.Marking.{Marking, refused, move}
use Rattle.report.specs.Printed.{free_lines}
use Rattle.report.specs.Answer.{code_lines, count_lines}
use Rattle.demands.specs.Reach.{Sound, Fault}
use Rattle.demands.specs.Demand2.{Moment, Finds}

-- A collection has found what is reached, and its counts, the figures of its list and the list itself are printed.
pub record PrintsFound (heap : List ℕ) (t : ℕ) (roots printed : List ℕ) : Type 0 where
  pub collection : Collected
  pub map : List ℕ
  pub list : List ℕ
  pub finds : Finds heap t roots collection map list
  pub lines : let free = records collection.state.count list in printed ≡ count_lines collection (figures_of free) ++ free_lines free

-- A reference is at fault, the first in marking order, and its number and its value are printed.
pub record PrintsFault (heap : List ℕ) (t : ℕ) (roots printed : List ℕ) : Type 0 where
  pub code : ℕ
  pub place : ℕ
  pub fault : Fault heap t roots code place
  pub first : (n : ℕ) × (m : Marking) × Moment heap t roots n m × (move heap t m ≡ refused code place)
  pub lines : printed ≡ code_lines code place

-- What is printed for an image: what a collection has found, where all that is reached is sound, and else a fault.
pub data Prints (heap : List ℕ) (t : ℕ) (roots printed : List ℕ) : Type 0 where
  sound : Sound heap t roots → PrintsFound heap t roots printed → Prints heap t roots printed
  unsound : ¬ Sound heap t roots → PrintsFault heap t roots printed → Prints heap t roots printed
