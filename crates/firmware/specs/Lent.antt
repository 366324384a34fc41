-- States and answers in words that C lends: each stands at the front of its buffer.
use Rattle.std.specs.Prelude.{ℕ, List, [], ◌∷◌, ◌++◌, length, get_or, drop}
use Rattle.layout.specs.declared.State.{State}
use Rattle.freelist.specs.declared.figures.Figures.{Figures}
use Rattle.collector.specs.Collect.{Collected}

-- How many words a state has.
abbrev pub state_room : ℕ
state_room = 3

-- The state in a buffer: H, T and the list's count.
abbrev pub state_in : List ℕ → State
state_in words = record { words = get_or words 0 0; keep = get_or words 1 0; count = get_or words 2 0 }

-- The words of a state.
abbrev pub state_words : State → List ℕ
state_words s = s.words ∷ s.keep ∷ s.count ∷ []

-- The words of a collection's answer: where, objects, live words, references read, peak.
abbrev pub collected_words : Collected → List ℕ
collected_words c = c.place ∷ c.objects ∷ c.live ∷ c.references ∷ c.peak ∷ []

-- The words of a survey's answer: listed words, the largest interval, the fragment figure.
abbrev pub figures_words : Figures → List ℕ
figures_words f = f.listed ∷ f.largest ∷ f.fragment ∷ []

-- A buffer with these words at its front, and behind them what it had.
abbrev pub fronted : List ℕ → List ℕ → List ℕ
fronted words buffer = words ++ drop (length words) buffer
