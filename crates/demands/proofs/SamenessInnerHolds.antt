-- For each public function that only this project's own crates call, but `machine::run`, `records::below` and `image::read`: two outcomes that its contract allows for one input are equal.
use Rattle.std.specs.Prelude.{◌≡◌}
use borrow.Fn.Kinds.{ended_of}
use Rattle.std.proofs.Common.{sym, ◌∙◌}
use Rattle.words.proofs.wide as wide
use Rattle.words.proofs.header.Header.at as header_at
use Rattle.words.proofs.header.Header.word as header_word
use Rattle.words.proofs.header.Header.is_formed as is_formed
use Rattle.words.proofs.bits.is_set as is_set
use Rattle.words.proofs.bits.is_start as is_start
use Rattle.words.proofs.bits.set as set
use Rattle.layout.proofs.first_list as first_list
use Rattle.layout.proofs.parts.clear as clear
use Rattle.layout.proofs.refusal.Refusal.number as number
use Rattle.layout.proofs.Rooms.needed as needed
use Rattle.layout.proofs.State.rooms as fitted
use Rattle.freelist.proofs.records.at as record_at
use Rattle.freelist.proofs.records.interval as interval
use Rattle.freelist.proofs.records.are_valid as are_valid
use Rattle.freelist.proofs.search.fitting as fitting
use Rattle.freelist.proofs.search.holding as holding
use Rattle.freelist.proofs.figures.Figures.of as figures
use Rattle.split.proofs.take_off as take_off
use Rattle.split.proofs.take_front as take_front
use Rattle.image.proofs.reading.WrongText.line as line
use Rattle.demands.specs.Sameness.{Same}

-- Two things equal to a third are equal.
agree : {A : Type 0} {x y z : A} → x ≡ z → y ≡ z → x ≡ y
agree p q = p ∙ sym q

-- The functions of `words`.

-- The contract of `wide` allows one number.
pub wide_same : Same (ended_of _ wide.Kinds.ps wide.Kinds.r) wide.Reads.Learnt
wide_same κs a x y p q i = (agree p.0 q.0 i, x.1)

-- That of `Header::at` allows one header.
pub header_at_same : Same (ended_of _ header_at.Kinds.ps header_at.Kinds.r) header_at.Reads.Learnt
header_at_same κs a x y p q i = (agree p q i, x.1)

-- That of `Header::word` allows one word.
pub header_word_same : Same (ended_of _ header_word.Kinds.ps header_word.Kinds.r) header_word.Reads.Learnt
header_word_same κs a x y p q i = (agree p q i, x.1)

-- That of `Header::is_formed` allows one answer.
pub is_formed_same : Same (ended_of _ is_formed.Kinds.ps is_formed.Kinds.r) is_formed.Reads.Learnt
is_formed_same κs a x y p q i = (agree p q i, x.1)

-- That of `bits::is_set` allows one answer.
pub is_set_same : Same (ended_of _ is_set.Kinds.ps is_set.Kinds.r) is_set.Reads.Learnt
is_set_same κs a x y p q i = (agree p q i, x.1)

-- That of `bits::is_start` allows one answer.
pub is_start_same : Same (ended_of _ is_start.Kinds.ps is_start.Kinds.r) is_start.Reads.Learnt
is_start_same κs a x y p q i = (agree p q i, x.1)

-- That of `bits::set` allows one map.
pub set_same : Same (ended_of _ set.Kinds.ps set.Kinds.r) set.Reads.Learnt
set_same κs a x y p q i = (x.0, (agree p q i, x.1.1))

-- The functions of `layout`.

-- The contract of `first_list` allows one count and one list.
pub first_list_same : Same (ended_of _ first_list.Kinds.ps first_list.Kinds.r) first_list.Reads.Learnt
first_list_same κs a x y p q i = (agree p.0 q.0 i, (tt, (tt, (agree p.1 q.1 i, tt))))

-- That of `parts::clear` allows one content of the part.
pub clear_same : Same (ended_of _ clear.Kinds.ps clear.Kinds.r) clear.Reads.Learnt
clear_same κs a x y p q i = (x.0, (agree p q i, x.1.1))

-- That of `Refusal::number` allows one number.
pub number_same : Same (ended_of _ number.Kinds.ps number.Kinds.r) number.Reads.Learnt
number_same κs a x y p q i = (agree p q i, x.1)

-- That of `Rooms::needed` allows one answer.
pub needed_same : Same (ended_of _ needed.Kinds.ps needed.Kinds.r) needed.Reads.Learnt
needed_same κs a x y p q i = (agree p q i, x.1)

-- That of `State::rooms` allows one answer.
pub fitted_same : Same (ended_of _ fitted.Kinds.ps fitted.Kinds.r) fitted.Reads.Learnt
fitted_same κs a x y p q i = (agree p q i, x.1)

-- The functions of `freelist`.

-- The contract of `records::at` allows one interval.
pub record_at_same : Same (ended_of _ record_at.Kinds.ps record_at.Kinds.r) record_at.Reads.Learnt
record_at_same κs a x y p q i = (agree p.0 q.0 i, x.1)

-- That of `records::interval` allows one interval.
pub interval_same : Same (ended_of _ interval.Kinds.ps interval.Kinds.r) interval.Reads.Learnt
interval_same κs a x y p q i = (agree p.0 q.0 i, x.1)

-- That of `records::are_valid` allows one answer.
pub are_valid_same : Same (ended_of _ are_valid.Kinds.ps are_valid.Kinds.r) are_valid.Reads.Learnt
are_valid_same κs a x y p q i = (agree p q i, x.1)

-- That of `search::fitting` allows one answer.
pub fitting_same : Same (ended_of _ fitting.Kinds.ps fitting.Kinds.r) fitting.Reads.Learnt
fitting_same κs a x y p q i = (agree p q i, x.1)

-- That of `search::holding` allows one answer.
pub holding_same : Same (ended_of _ holding.Kinds.ps holding.Kinds.r) holding.Reads.Learnt
holding_same κs a x y p q i = (agree p q i, x.1)

-- That of `Figures::of` allows one answer.
pub figures_same : Same (ended_of _ figures.Kinds.ps figures.Kinds.r) figures.Reads.Learnt
figures_same κs a x y p q i = (agree p q i, x.1)

-- The functions of `split`.

-- The contract of `take_off` allows one count and one list.
pub take_off_same : Same (ended_of _ take_off.Kinds.ps take_off.Kinds.r) take_off.Reads.Learnt
take_off_same κs a x y p q i = (agree p.0 q.0 i, (agree p.1 q.1 i, x.1.1))

-- That of `take_front` allows one count and one list.
pub take_front_same : Same (ended_of _ take_front.Kinds.ps take_front.Kinds.r) take_front.Reads.Learnt
take_front_same κs a x y p q i = (agree p.0 q.0 i, (agree p.1 q.1 i, x.1.1))

-- The function of `image`.

-- The contract of `WrongText::line` allows one number.
pub line_same : Same (ended_of _ line.Kinds.ps line.Kinds.r) line.Reads.Learnt
line_same κs a x y p q i = (agree p q i, x.1)
