-- The array has each of the five in its place.
use Rattle.std.proofs.Common.{rules, arith, sym, ◌∙◌}
use lib.Seq.{ext_get_or}
use Rattle.book.specs.Fields.{coefficient_at}
use Rattle.numbers.proofs.Made.{made_by}
use Rattle.book.proofs.HeldFields.{five_at}
use Rattle.book.proofs.coefficients.coefficients_at.Goals as goal

pub returns : goal.returns
returns c =
    let number = coefficient_at c.args.bytes.now c.args.at in
    ext_get_or 0 _ _ c.from_fn.ensures.items.long
    (λ k l.
    made_by number c.from_fn.ensures.items (λ which y q calls. search rules) k
    (omega (arith, c.from_fn.ensures.items.long, l))
    ∙ sym (five_at number k (omega (arith, c.from_fn.ensures.items.long, l))))
