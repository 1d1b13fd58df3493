use Rattle.std.proofs.Common.{rules, refl}
use Rattle.std.proofs.lemmas.Iterator.{serves_from_Range}
use Rattle.numbers.proofs.Tested.{some_of_any}
use Rattle.numbers.proofs.tests.some_below.Goals as goal

pub any-requires-clause-callable : goal.any-requires-clause-callable
any-requires-clause-callable g c = serves_from_Range (λ x q k. search rules) (λ x low high. search rules)

pub returns : goal.returns
returns g c = λ p computes.
    some_of_any _ p c.any.ensures.ran refl refl (λ x b q k. search rules)
    (λ x b q l k. computes x b l (search (rules, k.met)))
