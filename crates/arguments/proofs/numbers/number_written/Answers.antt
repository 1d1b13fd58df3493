use Rattle.std.proofs.Common.{◌≡◌, ◌≢◌, length, arith, sym, ap, ◌∙◌, drop, [], true, min}
use Rattle.std.proofs.lemmas.Bool.Decides.{nat_tests}
use Rattle.std.proofs.lemmas.List.{drop_all}
use Rattle.arguments.specs.Digits.{highest, written, all_digits}
use Rattle.arguments.proofs.Capped.{value_passed, digit_passed, all_written}
use Rattle.arguments.proofs.numbers.number_written.Goals as goal

pub loop-byte-preserved : goal.loop-byte-preserved
loop-byte-preserved c =
    let loop = c.loop-byte in
    let digit = c.if-not-is_ascii_digit.ensures.cases in
    record {
      fits = omega arith;
      digits =
          loop.invariant.digits ∙ digit_passed c.args.word.now loop.byte-index c.loop-byte-test.true digit.0 digit.1;
      value =
          loop.invariant.value ∙ value_passed c.args.word.now loop.byte-index loop.number c.with_digit-number.result
          c.loop-byte-test.true c.with_digit-number.ensures;
    }

pub returns : goal.returns
returns c =
    let loop = c.loop-byte in
    let word = c.args.word.now in
    let over : drop loop.byte-index word ≡ [] = drop_all loop.byte-index word c.loop-byte-test.false in
    let some : length word ≢ 0 = grind (arith, nat_tests) in
    let digits : all_digits word ≡ true = loop.invariant.digits ∙ ap all_digits over in
    let value : min (written 0 word) highest ≡ loop.number =
    loop.invariant.value ∙ ap (λ rest. min (written loop.number rest) highest) over
    ∙ (omega (arith, loop.invariant.fits)) in
    sym (all_written word loop.number some digits value)
