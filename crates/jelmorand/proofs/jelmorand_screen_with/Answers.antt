-- The number is that of the call's answer: a count tells that the promise holds.
use Rattle.std.proofs.Common.{rules, sym, ◌∙◌, w64, FitsSigned}
use Rattle.std.proofs.lemmas.Int.{to_z-of_z}
use Rattle.figures.proofs.Counted.{told}
use Rattle.jelmorand.proofs.jelmorand_screen_with.Goals as goal

pub returns-clause-sound : goal.returns-clause-sound
returns-clause-sound c n e =
    let fits : FitsSigned w64 c.answer_number.result = search rules in
    told c.screen_numbers.result n c.screen_numbers.ensures.sound
    (sym c.answer_number.ensures ∙ sym (to_z-of_z w64 c.answer_number.result fits) ∙ e)
