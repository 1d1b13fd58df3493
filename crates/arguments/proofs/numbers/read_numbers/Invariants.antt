use Rattle.std.proofs.Common.{◌≡◌, map, take, Some, string_bytes}
use Rattle.arguments.specs.Digits.{number_written}
use Rattle.arguments.proofs.numbers.read_numbers.Given as goal

abbrev pub invariant-loop-word : goal.invariant-loop-word
invariant-loop-word l =
    map Some l.numbers.items ≡ map (λ word. number_written (string_bytes word)) (take l.word-index l.words)
