-- The lines of many rates of one book (document 02, R-9): a line a rate.
use Rattle.std.specs.Prelude.{ℕ, ◌+◌, ◌*◌, Result, Ok, Err, List, ◌++◌}
use Rattle.refusals.specs.declared.Refusal.{Refusal}
use Rattle.refusals.specs.Grounds.{refusal_number}
use Rattle.text.specs.Words.{ascii, decimal, most_digits, line_feed, each}
use Rattle.book.specs.Limits.{max_members}
use Rattle.balance.specs.Factors.{factor_answer, factors_at}

-- A space and a factor in grains, whichever member's it is.
abbrev pub spaced_factor : ℕ → List ℕ
spaced_factor factor = ascii " " ++ decimal factor

abbrev pub factors_text : List ℕ → List ℕ
factors_text factors = each (λ member. spaced_factor) 0 factors

-- What stands after the rate: the factor of each member, or `refused` and the refusal's number.
abbrev pub answer_text : Result ℕ Refusal → List ℕ → List ℕ
answer_text (Ok n) factors = factors_text factors
answer_text (Err refusal) factors = ascii " refused " ++ decimal (refusal_number refusal)

-- The rate as whole hundredths, what the factor call answers there to a list with room for every book, and a line feed.
abbrev pub rate_line : List ℕ → ℕ → List ℕ
rate_line book v = decimal v ++ answer_text (factor_answer v book max_members) (factors_at book v) ++ line_feed

-- Per rate one line.
abbrev pub lines_text : List ℕ → List ℕ → List ℕ
lines_text book rates = each (λ k. rate_line book) 0 rates

-- No line is longer: a rate, a space and a factor for each member, or `refused` and a number, and a line feed, each
-- number with as many digits as any has.
abbrev pub line_room : ℕ
line_room = most_digits + (1 + most_digits) * max_members + 1
