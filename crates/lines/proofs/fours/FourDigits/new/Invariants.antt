-- The digits of each number below the next one stand in its place.
use Rattle.std.proofs.Common.{◌≡◌, ◌<◌, ℕ, [], length, get_or}
use Rattle.lines.specs.Digits.{four_digits}
use Rattle.lines.proofs.fours.FourDigits.new.Given as goal

abbrev pub invariant-loop-n : goal.invariant-loop-n
invariant-loop-n l = record {
  places : length l.digits ≡ 10000;
  below : (k : ℕ) → k < l.n → get_or l.digits k [] ≡ four_digits k;
}
