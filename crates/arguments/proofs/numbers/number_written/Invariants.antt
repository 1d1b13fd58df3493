use Rattle.std.proofs.Common.{◌≡◌, ◌≤◌, min, drop}
use Rattle.arguments.specs.Digits.{highest, written, all_digits}
use Rattle.arguments.proofs.numbers.number_written.Given as goal

abbrev pub invariant-loop-byte : goal.invariant-loop-byte
invariant-loop-byte l = record {
  fits : l.number ≤ highest;
  digits : all_digits l.word ≡ all_digits (drop l.byte-index l.word);
  value : min (written 0 l.word) highest ≡ min (written l.number (drop l.byte-index l.word)) highest;
}
