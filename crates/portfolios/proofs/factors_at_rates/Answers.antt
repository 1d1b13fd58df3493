-- The lists are left as the call's definitions have them, and keep what is promised.
use Rattle.portfolios.proofs.Promised.{answers_as_defined, rows_as_defined, kept}
use Rattle.portfolios.proofs.factors_at_rates.Goals as goal

pub returns-clause-answers : goal.returns-clause-answers
returns-clause-answers c =
    let a = c.args in
    answers_as_defined a.rates.now a.answers.now c.min-count.ensures a.book.now a.width a.rows.now
    (rw c.read_chain-chain.ensures at c.run_rates.ensures.answers)

pub returns-clause-rows : goal.returns-clause-rows
returns-clause-rows c =
    let a = c.args in
    rows_as_defined a.rates.now a.answers.now c.min-count.ensures a.book.now a.width a.rows.now
    (rw c.read_chain-chain.ensures at c.run_rates.ensures.rows)

pub returns-clause-sound : goal.returns-clause-sound
returns-clause-sound c =
    let a = c.args in
    kept a.rates.now a.book.now a.width a.answers.now a.rows.now (returns-clause-answers c) (returns-clause-rows c)
