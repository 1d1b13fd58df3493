-- Each turn takes one digit more.
use Rattle.std.proofs.Common.{◌∙◌, ap₂, sym, ◌+◌, ◌*◌}
use native.Mathlib.Omega.{arith}
use Rattle.printed.proofs.FewDigits.{one_more, next_small, next_fits}
use Rattle.printed.proofs.places.number_at.Goals as goal

pub overflow_mul-number : goal.overflow_mul-number
overflow_mul-number c =
    omega (arith, next_fits {digit = 0} c.loop-k.k c.loop-k.invariant.1 (omega arith) c.requires.1 c.loop-k-test.true)

pub overflow_add-number : goal.overflow_add-number
overflow_add-number c =
    omega (arith, next_fits c.loop-k.k c.loop-k.invariant.1 c.digit_at.ensures.small c.requires.1 c.loop-k-test.true)

pub loop-k-preserved : goal.loop-k-preserved
loop-k-preserved c = (
  ap₂ (λ n d. n * 10 + d) c.loop-k.invariant.0 c.digit_at.ensures.digit
      ∙ sym (one_more c.args.bytes.now c.args.at c.loop-k.k),
  next_small c.loop-k.k c.loop-k.invariant.1 c.digit_at.ensures.small,
)
