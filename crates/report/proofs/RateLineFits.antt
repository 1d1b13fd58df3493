-- A number has at most 20 digits, and no word before one is longer than "refused ". The line without a number is
-- shorter still.
use Rattle.std.specs.Prelude.{Option, Some, None, Result, Ok, Err}
use Prim.Native.Nat.{ℕ, ◌≤◌}
use native.Mathlib.Omega.{arith}
use mathlib.Core.List.{List}
use lib.ListN.{length, length-append}
use Rattle.text.proofs.Digits.{decimal_at_most}
use Rattle.refusals.specs.declared.Refusal.{Refusal}
use Rattle.refusals.specs.Grounds.{refusal_number}
use Rattle.report.specs.RateLine.{found_line, line_of, rate_line_with, rate_line_room}
use Rattle.ventilation.specs.Lowest.{lowest_with}
use Rattle.ventilation.specs.declared.LowestRate.{LowestRate}

found_fits : (rate : Option ℕ) → length (found_line rate) ≤ rate_line_room
found_fits (Some v) = simp length-append (omega (arith, decimal_at_most v))
found_fits None = omega arith

pub line_fits : (answer : Result LowestRate Refusal) → length (line_of answer) ≤ rate_line_room
unfolding line_of
line_fits (Ok lowest) = found_fits lowest.rate
line_fits (Err refusal) = simp length-append (omega (arith, decimal_at_most (refusal_number refusal)))

pub rate_line_fits : (job second : List ℕ) → length (rate_line_with job second) ≤ rate_line_room
rate_line_fits job second = line_fits (lowest_with job second)
