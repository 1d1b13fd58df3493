-- The closure is asked of each chunk, and reads its first number.
use Rattle.std.proofs.Common.{rules, arith, ◌/◌, ◌+◌, length, nat_lt}
use Rattle.std.proofs.lemmas.Option.{IfSome_then}
use Rattle.book.specs.Rates.{max_rate}
use Rattle.minutes.specs.Minutes.{rate_of}
use Rattle.minutes.specs.Periods.{period_rate_too_high}
use Rattle.minutes.proofs.Chunked.{some_of_run}
use Rattle.minutes.proofs.checks.some_rate_too_high.Goals as goal

pub returns : goal.returns
unfolding period_rate_too_high
returns c =
    let periods = c.args.periods.now in
    let run = c.any.ensures.runs in
    let given = c.chunks.ensures in
    let cut = rw (run.1, given.size, given.rest) at (given.runs run.0 run.0.seen) in
    let chunks = cut (omega arith) in
    some_of_run run.0 ((length periods + 1) / 2) (λ p. nat_lt max_rate (rate_of periods p)) (λ a b q call. search rules)
    (λ whole. omega (arith, chunks.1 whole))
    (λ k. IfSome_then (run.0.at k) (chunks.2 k) (λ x h. (omega (arith, h.1), λ b call. search rules)))
    c.any.result
    run.2
