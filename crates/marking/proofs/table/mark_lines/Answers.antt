-- One line after the other is read; the first that is not of the form ends it.
use Rattle.std.proofs.Common.{◌*◌, ◌∙◌, ap, sym, refl, arith}
use native.Mathlib.Nat.{mul-le-mul, pos_of_ne-zero}
use native.Mathlib.Numerals.{lt_of_le_of_ne}
use mathlib.Core.Bool.{true, false}
use borrow.Author.Tests.{eqb-true}
use Rattle.book.specs.Fields.{members}
use Rattle.book.proofs.Ranges.{few_members}
use Rattle.marking.specs.Marks.{mark_at}
use Rattle.marking.specs.Private.Counted.{entries_in}
use Rattle.marking.proofs.TableMarks.{begin, parted, too_many, misformed, one_more}
use Rattle.marking.proofs.TableMarks.{no_line, all_formed, all_marked}
use Rattle.marking.proofs.LineForm.{told_form}
use Rattle.marking.proofs.Told.{all_told}
use Rattle.marking.proofs.table.mark_lines.Goals as goal

pub loop-rest-init : goal.loop-rest-init
loop-rest-init c = begin c.args.chain.chain.now.bytes.now c.args.text.now

pub line_of_form-requires : goal.line_of_form-requires
line_of_form-requires c =
    omega (arith, few_members c.args.chain.chain.now.bytes.now c.args.chain.accepted, c.members.ensures.value)

pub returns-then-number-eq-MAX_RATES : goal.returns-then-number-eq-MAX_RATES
returns-then-number-eq-MAX_RATES c =
    rw (too_many c.loop-rest.invariant c.first_length.ensures.first c.if-number-eq-MAX_RATES.true) refl

pub returns-then-not-line_of_form : goal.returns-then-not-line_of_form
returns-then-not-line_of_form c =
    let rest = c.loop-rest.rest.now in
    let split = c.split_at.ensures in
    let next = parted rest c.first_length.result c.first_length.ensures.first split.front split.back in
    let form = told_form _ false c.members.ensures.value c.line_of_form.ensures c.if-not-line_of_form.true in
    rw (misformed c.loop-rest.invariant next form) refl

pub mark_line-marks-requires-clause-few : goal.mark_line-marks-requires-clause-few
mark_line-marks-requires-clause-few c =
    let book = c.args.chain.chain.now.bytes.now in
    let so = c.loop-rest.invariant in
    let few = few_members book c.args.chain.accepted in
    let told =
    ap entries_in so.told ∙ all_told (members book) (mark_at book c.args.text.now) (c.loop-rest.number * members book)
    in
    (omega (arith, told, mul-le-mul so.few few), omega (arith, so.few))

pub loop-rest-preserved : goal.loop-rest-preserved
loop-rest-preserved c =
    let rest = c.loop-rest.rest.now in
    let split = c.split_at.ensures in
    let next = parted rest c.first_length.result c.first_length.ensures.first split.front split.back in
    one_more c.loop-rest.invariant next refl
    (lt_of_le_of_ne c.loop-rest.invariant.few c.if-number-eq-MAX_RATES.false)
    (told_form _ true c.members.ensures.value c.line_of_form.ensures c.if-not-line_of_form.false)
    c.mark_line-marks.ensures

pub returns-then-number-eq0 : goal.returns-then-number-eq0
returns-then-number-eq0 c =
    let empty = eqb-true _ _ (sym c.is_empty.ensures ∙ c.loop-rest-test.false) in
    rw (no_line c.loop-rest.invariant empty c.if-number-eq0.true) refl

pub returns : goal.returns
returns c =
    let so = c.loop-rest.invariant in
    let empty = eqb-true _ _ (sym c.is_empty.ensures ∙ c.loop-rest-test.false) in
    rw (all_formed so empty (pos_of_ne-zero c.if-number-eq0.false), sym (all_marked so empty)) refl
