-- A line has its rate's digits, a space and nine characters for each member, and a line feed.
use Rattle.std.proofs.Common.{◌≡◌, refl, ℕ, zero, suc, ◌+◌, ◌*◌, ◌++◌, length, arith, length-append}
use Rattle.text.specs.Words.{ascii, decimal}
use Rattle.entry.specs.declared.scaling.Share.{Share}
use Rattle.entry.specs.Form.{form}
use Rattle.entry.proofs.Promised.{form_nine}
use Rattle.marking.specs.Lines.{spaced_shares, line_of}

pub shares_length : (share : ℕ → Share) (n : ℕ) → length (spaced_shares share n) ≡ n * (1 + 9)
unfolding spaced_shares
shares_length share zero = omega arith
shares_length share (suc n) =
    let d = (share n).thousandths in
    let e = (share n).exponent in
    let front = spaced_shares share n in
    let long : length (front ++ ascii " " ++ form d e) ≡ length front + 1 + length (form d e) =
    rw (length-append (front ++ ascii " ") (form d e), length-append front (ascii " ")) refl
    in
    omega (arith, long, shares_length share n, form_nine d e)

pub line_length :
    (n rate : ℕ) (share : ℕ → Share) → length (line_of n rate share) ≡ length (decimal rate) + (n * (1 + 9) + 1)
line_length n rate share = simp length-append (omega (arith, shares_length share n))
