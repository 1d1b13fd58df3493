-- A number below 10,000 has one digit and one more for each of 10, 100 and 1,000 that it reaches.
use Rattle.std.proofs.Common.{ℕ, arith}
use Rattle.std.proofs.lemmas.Bool.Decides.{nat_tests}
use Rattle.text.proofs.Digits.{digits_counted, zero_counted}
use Rattle.lines.proofs.before.digit_count.Goals as goal

pub returns : goal.returns
returns c =
    let n = c.args.n in
    let long = λ (k : ℕ). digits_counted n k (omega arith) in
    grind (arith, nat_tests, long 0, long 1, long 2, long 3, zero_counted)
