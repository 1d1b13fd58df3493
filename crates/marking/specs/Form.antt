-- Whether a text is a table of R-3's form, and ground 24 (document 02, R-8).
use Rattle.std.specs.Prelude.{ℕ, Bool, not, ◌&&◌, ◌||◌, List, [], length, get_or, nat_eq}
use Rattle.std.specs.Cmp.Lexicographic.{pointwise}
use Rattle.numbers.specs.Tests.{outside, some_below}
use Rattle.book.specs.Rates.{rate_too_high}
use Rattle.tables.specs.Answers.{max_rates}
use Rattle.printed.specs.Places.{of_form}
use Rattle.marking.specs.Lines.{lines, line_of, rate_in, share_in}

-- A line is of the form where the numbers at its places, written again, give its bytes, the rate is at most 100,000,
-- and each member's number is one of the form.
unfoldable pub line_of_form : ℕ → List ℕ → Bool
line_of_form n line =
    pointwise nat_eq line (line_of n (rate_in n line) (share_in n line)) && not (rate_too_high (rate_in n line))
    && not (some_below n (λ i. not (of_form (share_in n line i))))

-- 24. The text isn't 1 to 200 lines of the form, of n numbers each.
unfoldable pub table_not_of_form : ℕ → List ℕ → Bool
table_not_of_form n text =
    outside 1 max_rates (length (lines text))
    || some_below (length (lines text)) (λ k. not (line_of_form n (get_or (lines text) k [])))
