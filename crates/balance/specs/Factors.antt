-- The factor call: a rate, a book and a lent list in; checks 3, 9 to 19.
use Rattle.refusals.specs.declared.Refusal.{Refusal}
use Rattle.std.specs.Prelude.{ℕ, ◌-◌, List, [], ◌∷◌, ◌++◌, length, ltb, Result}
use Rattle.book.specs.Rates.{rate_too_high, rates_at}
use Rattle.book.specs.Fields.{members, scale_of}
use Rattle.refusals.specs.Grounds.{Ground, ground_of, first_met, answer_if, written_if}
use Rattle.book.specs.BookGrounds.{book_grounds}
use Rattle.balance.specs.Chain.{chain_of}
use Rattle.balance.specs.Balance.{reported, reported_factor}
use Rattle.refusals.specs.declared.Refusal.TheVariants.{RateTooHigh, ListTooShort}

-- The factors of a book's members at rate v, in grains.
abbrev pub factors_at : List ℕ → ℕ → List ℕ
factors_at book v = reported (scale_of book) (chain_of book) (rates_at book v) (members book - 1)

-- Member i's.
abbrev pub factor_at : List ℕ → ℕ → ℕ → ℕ
factor_at book v i = reported_factor (scale_of book) (chain_of book) (rates_at book v) i

-- 3; the book's grounds; 19. the lent list is shorter than n.
abbrev pub factor_grounds : ℕ → List ℕ → ℕ → List Ground
factor_grounds v book capacity =
    ground_of RateTooHigh (rate_too_high v) ∷ book_grounds book
    ++ (ground_of ListTooShort (ltb capacity (members book)) ∷ [])

-- Accepted, the call answers n, and the first n places of the list hold the factors.
abbrev pub factor_answer : ℕ → List ℕ → ℕ → Result ℕ Refusal
factor_answer v book capacity = answer_if (first_met (factor_grounds v book capacity)) (members book)

abbrev pub factor_list : ℕ → List ℕ → List ℕ → List ℕ
factor_list v book list = written_if (first_met (factor_grounds v book (length list))) (factors_at book v) list
