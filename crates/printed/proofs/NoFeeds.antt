-- No byte that a table's line has before its last is a line feed, which is 10: a digit is 48 or more, and the other
-- characters of a number are above 10 too.
use Rattle.std.proofs.Common.{◌≢◌, ℕ, zero, suc, ◌+◌, ◌/◌, ◌%◌, ◌<◌, Bool, true, false, cond, ltb}
use Rattle.std.proofs.Common.{List, [], ◌∷◌, ◌++◌, length, get_or, arith}
use Rattle.text.specs.Words.{decimal_up_to, decimal}
use Rattle.entry.specs.Form.{digit, form}

abbrev pub NoFeed : List ℕ → Type 0
NoFeed bytes = (j : ℕ) → j < length bytes → get_or bytes j 0 ≢ 10

abbrev pub AllAbove : List ℕ → Type 0
AllAbove [] = Unit {0}
AllAbove (byte ∷ bytes) = (10 < byte) × AllAbove bytes

pub no_feed : (bytes : List ℕ) → AllAbove bytes → NoFeed bytes
no_feed [] above j within = absurd (omega arith)
no_feed (byte ∷ bytes) above zero within = λ is. omega (arith, above.0)
no_feed (byte ∷ bytes) above (suc j) within = no_feed bytes above.1 j (omega arith)

pub both_above : (xs ys : List ℕ) → AllAbove xs → AllAbove ys → AllAbove (xs ++ ys)
both_above [] ys first others = others
both_above (x ∷ xs) ys first others = (first.0, both_above xs ys first.1 others)

up_to_above : (m n : ℕ) → AllAbove (decimal_up_to m n)
up_to_above zero n = (omega arith, tt)
up_to_above (suc m) n = by_size (ltb n 10) (up_to_above m (n / 10))
  where
    by_size :
        (t : Bool) → AllAbove (decimal_up_to m (n / 10)) →
        AllAbove (cond t ((48 + n) ∷ []) (decimal_up_to m (n / 10) ++ ((48 + n % 10) ∷ [])))
    by_size true others = (omega arith, tt)
    by_size false others = both_above (decimal_up_to m (n / 10)) ((48 + n % 10) ∷ []) others (omega arith, tt)

pub decimal_above : (n : ℕ) → AllAbove (decimal n)
unfolding decimal
decimal_above n = up_to_above 19 n

digit_above : (n : ℕ) → 10 < digit n
digit_above n = omega arith

signed : (d e minus : ℕ) → 10 < minus →
    AllAbove (
    digit (d / 1000) ∷ 46 ∷ digit (d / 100) ∷ digit (d / 10) ∷ digit d ∷ 69 ∷ minus ∷ digit (e / 10) ∷ digit e ∷ []
    )
signed d e minus above =
    let f = digit_above in
    let point : 10 < 46 = omega arith in
    let power : 10 < 69 = omega arith in
    (f (d / 1000), (point, (f (d / 100), (f (d / 10), (f d, (power, (above, (f (e / 10), (f e, tt)))))))))

pub form_above : (d e : ℕ) → AllAbove (form d e)
form_above d zero = signed d 0 43 (omega arith)
form_above d (suc e) = signed d (suc e) 45 (omega arith)
