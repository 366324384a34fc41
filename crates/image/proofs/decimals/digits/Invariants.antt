-- `decimals::digits`: what the number read so far makes with the bytes left is what all of them make.
use Rattle.std.proofs.Common.{◌<◌, ◌^◌, ◌≡◌, drop}
use Rattle.image.specs.Decimal.{digits_on}
use Rattle.image.proofs.decimals.digits.Given as goal

abbrev pub invariant-loop-byte : goal.invariant-loop-byte
invariant-loop-byte l = (l.n < 2 ^ 32) × (digits_on l.n (drop l.byte-index l.part) ≡ digits_on 0 l.part)
