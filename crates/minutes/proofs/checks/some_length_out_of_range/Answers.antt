-- The closure is asked of each whole chunk, and reads its second number.
use Rattle.std.proofs.Common.{rules, arith}
use Rattle.std.proofs.lemmas.Option.{IfSome_then}
use Rattle.numbers.specs.Tests.{outside}
use Rattle.minutes.specs.Minutes.{minutes_of}
use Rattle.minutes.specs.Periods.{max_minutes, period_count}
use Rattle.minutes.proofs.Chunked.{some_of_run}
use Rattle.minutes.proofs.checks.some_length_out_of_range.Goals as goal

pub returns : goal.returns
returns c =
    let periods = c.args.periods.now in
    let run = c.any.ensures.runs in
    let given = c.chunks_exact.ensures in
    let cut = rw (run.1, given.size, given.rest) at (given.runs run.0 run.0.seen) in
    let chunks = cut (omega arith) in
    some_of_run run.0 (period_count periods) (λ p. outside 1 max_minutes (minutes_of periods p))
    (λ a b q call. search rules) chunks.1
    (λ k. IfSome_then (run.0.at k) (chunks.2 k) (λ x h. (omega (arith, h.1), λ b call. search rules)))
    c.any.result
    run.2
