-- A line of the form is read, the factors at its rate are filled in, and one entry after the other is counted.
use Rattle.std.proofs.Common.{◌<◌, ◌∙◌, ◌+◌, ap, ap₂, sym, arith, drop, replicate}
use Rattle.book.specs.Fields.{members}
use Rattle.book.proofs.Ranges.{few_members}
use Rattle.balance.proofs.Promised.{factor_at_most_g}
use Rattle.balance.specs.Factors.{factor_at}
use Rattle.marking.specs.Lines.{rate_in, share_in}
use Rattle.marking.specs.Marks.{mark_in}
use Rattle.marking.specs.Private.Counted.{counted}
use Rattle.marking.proofs.LineForm.{readable, low_rate, four_digits_in}
use Rattle.marking.proofs.LineMarks.{filled_at, marked}
use Rattle.marking.proofs.Counting.{none_to, one_to, entries_to}
use Rattle.marking.proofs.table.mark_line.Goals as goal

pub rate_in-requires : goal.rate_in-requires
rate_in-requires c =
    let few = few_members c.args.chain.chain.now.bytes.now c.args.chain.accepted in
    readable c.args.line.now c.members-count.ensures.value few c.requires.of_form

pub overflow_cast-v : goal.overflow_cast-v
overflow_cast-v c =
    let low = low_rate c.args.line.now c.rate_in.ensures c.members-count.ensures.value c.requires.of_form in
    omega (arith, low)

pub invariant_of-v : goal.invariant_of-v
invariant_of-v c =
    let low = low_rate c.args.line.now c.rate_in.ensures c.members-count.ensures.value c.requires.of_form in
    record { within = low }

pub fill_accepted-requires : goal.fill_accepted-requires
fill_accepted-requires c = few_members c.args.chain.chain.now.bytes.now c.args.chain.accepted

pub loop-i-init : goal.loop-i-init
loop-i-init c =
    sym (none_to c.args.marks (mark_in c.args.chain.chain.now.bytes.now c.args.line.now) c.args.number)

pub bounds-factors-i : goal.bounds-factors-i
bounds-factors-i c =
    let few = few_members c.args.chain.chain.now.bytes.now c.args.chain.accepted in
    omega (arith, few, c.members-count.ensures.value, c.loop-i-test.true)

pub share_in-requires-clause-readable : goal.share_in-requires-clause-readable
share_in-requires-clause-readable c =
    let few = few_members c.args.chain.chain.now.bytes.now c.args.chain.accepted in
    readable c.args.line.now c.members-count.ensures.value few c.requires.of_form

pub raised-requires : goal.raised-requires
raised-requires c =
    let book = c.args.chain.chain.now.bytes.now in
    let member : c.loop-i.i < members book = omega (arith, c.members-count.ensures.value, c.loop-i-test.true) in
    let is =
    filled_at book c.rate_in.result c.args.chain.accepted (drop (members book) (replicate 16 0))
    c.fill_accepted.ensures.filled c.loop-i.i member
    in (
      omega (arith, c.members-count.ensures.range, c.loop-i-test.true),
      rw is (factor_at_most_g book c.rate_in.result c.loop-i.i c.args.chain.accepted member),
    )

pub mark_of-mark-requires : goal.mark_of-mark-requires
mark_of-mark-requires c =
    four_digits_in c.args.line.now c.loop-i.i c.share_in.ensures c.members-count.ensures.value c.requires.of_form
    c.loop-i-test.true

pub counted-marks-requires : goal.counted-marks-requires
counted-marks-requires c =
    let before =
    entries_to c.args.marks (mark_in c.args.chain.chain.now.bytes.now c.args.line.now) c.args.number c.loop-i.i
    in
    rw c.loop-i.invariant
    (omega (arith, before, c.requires.few.0, c.members-count.ensures.range, c.loop-i-test.true))

pub loop-i-preserved : goal.loop-i-preserved
loop-i-preserved c =
    let book = c.args.chain.chain.now.bytes.now in
    let line = c.args.line.now in
    let i = c.loop-i.i in
    let count = c.members-count.ensures.value in
    let member : i < members book = omega (arith, count, c.loop-i-test.true) in
    let left =
    filled_at book c.rate_in.result c.args.chain.accepted (drop (members book) (replicate 16 0))
    c.fill_accepted.ensures.filled i member
    in
    let rate = c.rate_in.ensures ∙ ap (λ n. rate_in n line) count in
    let mark =
    marked book line i c.mark_of-mark.ensures.answered (c.share_in.ensures ∙ ap (λ n. share_in n line i) count)
    (left ∙ ap (λ v. factor_at book v i) rate) c.raised.ensures
    in
    c.counted-marks.ensures
    ∙ ap₂ (λ marks one. counted marks one (record { line = c.args.number + 1; member = i })) c.loop-i.invariant mark
    ∙ sym (one_to c.args.marks (mark_in book line) c.args.number i)
