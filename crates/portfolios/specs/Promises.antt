-- What is promised of many rates.
use Rattle.std.specs.Prelude.{ℕ, ℤ, pos, ◌+◌, ◌*◌, ◌≤◌, ◌<◌, ◌≡◌, List, length, take, drop, get_or}
use Rattle.refusals.specs.Grounds.{answer_number}
use Rattle.book.specs.Fields.{scale_of}
use Rattle.book.specs.Rates.{rates_at}
use Rattle.balance.specs.Chain.{chain_of}
use Rattle.balance.specs.Factors.{factor_answer, factor_list}
use Rattle.balance.specs.Promises.{FactorPromise}
use Rattle.portfolios.specs.Rows.{rows_at, answers_at}

-- Row k: the k-th `width` places.
abbrev pub row : ℕ → ℕ → List ℕ → List ℕ
row width k list = take width (drop (k * width) list)

-- Of the answers and the rows of some rates:
-- where answer k is n, place i below n of row k keeps member i's promise at rate k.
abbrev pub RowsPromise : List ℕ → List ℕ → ℕ → List ℤ → List ℕ → Type 0
RowsPromise rates book width answers rows =
    (k n i : ℕ) → k < length rates → get_or answers k (pos 0) ≡ pos n → i < n →
    FactorPromise (scale_of book) (chain_of book) (rates_at book (get_or rates k 0)) i (get_or rows (k * width + i) 0)

pub record RunPromises : Type 0 where
  -- answer k and row k are what the factor call answers and leaves for rate k and that row
  pub as_called :
      (width : ℕ) (book rates list : List ℕ) (k : ℕ) → k < length rates →
      (get_or (answers_at width book rates list) k (pos 0)
      ≡ answer_number (factor_answer (get_or rates k 0) book (length (row width k list))))
      × (row width k (rows_at width book rates list) ≡ factor_list (get_or rates k 0) book (row width k list))
  -- and what stands past the last row is as it was
  pub past_the_last :
      (width : ℕ) (book rates list : List ℕ) →
      drop (length rates * width) (rows_at width book rates list) ≡ drop (length rates * width) list
  -- so the factor call's promise holds of each row
  pub of_each_row :
      (width : ℕ) (book rates list : List ℕ) →
      RowsPromise rates book width (answers_at width book rates list) (rows_at width book rates list)
  -- and of two rows the one at the higher rate holds nothing larger
  pub of_two_rows :
      (width : ℕ) (book rates list : List ℕ) (j k n m i : ℕ) → j < length rates → k < length rates →
      get_or rates j 0 ≤ get_or rates k 0 →
      get_or (answers_at width book rates list) j (pos 0) ≡ pos n →
      get_or (answers_at width book rates list) k (pos 0) ≡ pos m → i < n →
      get_or (rows_at width book rates list) (k * width + i) 0
      ≤ get_or (rows_at width book rates list) (j * width + i) 0
