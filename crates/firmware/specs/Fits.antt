-- Numbers that stand in words.
use Rattle.layout.specs.declared.State.{State}
use Rattle.marking.specs.Numbers.{Word}
use Rattle.freelist.specs.declared.figures.Figures.{Figures}
use Rattle.collector.specs.Collect.{Collected}
use Rattle.store.specs.Allot.{Allotted}

-- The numbers of a state stand in words.
pub record StateFits (s : State) : Type 0 where
  pub words : Word s.words
  pub keep : Word s.keep
  pub count : Word s.count

-- Those of a collection's answer do, and those of its state.
pub record CollectedFits (c : Collected) : Type 0 where
  pub place : Word c.place
  pub objects : Word c.objects
  pub live : Word c.live
  pub references : Word c.references
  pub peak : Word c.peak
  pub state : StateFits c.state

-- Those of a survey's answer do.
pub record FiguresFit (f : Figures) : Type 0 where
  pub listed : Word f.listed
  pub largest : Word f.largest
  pub fragment : Word f.fragment

-- Those of an allot's answer do, and those of its state.
pub record AllottedFits (r : Allotted) : Type 0 where
  pub address : Word r.address
  pub state : StateFits r.state
