-- What demand 3 promises of the factors, for every rate from 0 to 100,000 and every book that the checks accept.
use Rattle.refusals.specs.declared.Refusal.{Refusal}
use Rattle.refusals.specs.Grounds.{answer_number}
use Rattle.std.specs.Prelude.{ℕ, pos, ◌+◌, ◌*◌, ◌≤◌, ◌<◌, ◌≡◌, List, length, get_or, Result}
use Rattle.book.specs.Fields.{members, scale_of}
use Rattle.book.specs.BookGrounds.{Accepted}
use Rattle.book.specs.Rates.{max_rate, rates_at}
use Rattle.balance.specs.Chain.{Chain, chain_of}
use Rattle.balance.specs.Sound.{Sound}
use Rattle.balance.specs.Balance.{G, reported_factor}
use Rattle.balance.specs.Exact.{numerator, denominator}
use Rattle.balance.specs.Factors.{factor_answer, factor_list}

-- Of a number that is reported as member i's factor, in grains. Each comparison with the exact factor,
-- numerator / denominator, is multiplied out.
pub record FactorPromise (scale : ℕ) (chain : Chain) (rate : ℕ → ℕ) (i factor : ℕ) : Type 0 where
  -- the exact factor lies in 0 to 1
  pub exact_at_most_one : numerator scale chain rate i ≤ denominator scale chain rate i
  -- the reported factor is never above the exact one
  pub never_above : factor * denominator scale chain rate i ≤ numerator scale chain rate i * G
  -- and the parent's is equal to it
  pub parent_equal : i ≡ 0 → factor * denominator scale chain rate i ≡ numerator scale chain rate i * G
  -- and a later member's is less than 2i grains below it
  pub less_than_2i_below : 0 < i → numerator scale chain rate i * G < (factor + 2 * i) * denominator scale chain rate i

-- Of member i's exact factors at rates and at higher ones:
-- neither is larger at the higher; and so of the reported ones.
pub record FallPromise (scale : ℕ) (chain : Chain) (rate higher : ℕ → ℕ) (i : ℕ) : Type 0 where
  pub exact_falls :
      numerator scale chain higher i * denominator scale chain rate i
      ≤ numerator scale chain rate i * denominator scale chain higher i
  pub reported_falls : reported_factor scale chain higher i ≤ reported_factor scale chain rate i

-- Of the list that a call leaves, by its answer:
-- where n factors are filled in, place i below n keeps member i's promise.
abbrev pub ListPromise : ℕ → List ℕ → Result ℕ Refusal → List ℕ → Type 0
ListPromise v book answer list =
    (n i : ℕ) → answer_number answer ≡ pos n → i < n →
    FactorPromise (scale_of book) (chain_of book) (rates_at book v) i (get_or list i 0)

pub record FactorPromises : Type 0 where
  -- of any scale, any sound chain and any rate of each member
  pub of_any_chain :
      (scale : ℕ) (chain : Chain) (rate : ℕ → ℕ) (i : ℕ) → 0 < scale → Sound scale chain → i < chain.count →
      FactorPromise scale chain rate i (reported_factor scale chain rate i)
  pub of_higher_rates :
      (scale : ℕ) (chain : Chain) (rate higher : ℕ → ℕ) (i : ℕ) → 0 < scale → Sound scale chain → i < chain.count →
      ((k : ℕ) → rate k ≤ higher k) → FallPromise scale chain rate higher i
  -- an accepted book's chain is sound
  pub book_sound : (book : List ℕ) → Accepted book → Sound (scale_of book) (chain_of book)
  -- so of a book, at a rate and at two
  pub at_a_rate :
      (book : List ℕ) (v i : ℕ) → Accepted book → v ≤ max_rate → i < members book →
      FactorPromise (scale_of book) (chain_of book) (rates_at book v) i
      (reported_factor (scale_of book) (chain_of book) (rates_at book v) i)
  pub at_two_rates :
      (book : List ℕ) (v w i : ℕ) → Accepted book → v ≤ w → w ≤ max_rate → i < members book →
      FallPromise (scale_of book) (chain_of book) (rates_at book v) (rates_at book w) i
  -- of what the factor call answers and leaves in the lent list
  pub of_the_list : (v : ℕ) (book list : List ℕ) →
      ListPromise v book (factor_answer v book (length list)) (factor_list v book list)
  -- of two calls: at the higher rate no place of the list holds more
  pub of_two_lists :
      (v w : ℕ) (book list other : List ℕ) (n m i : ℕ) → v ≤ w →
      answer_number (factor_answer v book (length list)) ≡ pos n →
      answer_number (factor_answer w book (length other)) ≡ pos m → i < n →
      get_or (factor_list w book other) i 0 ≤ get_or (factor_list v book list) i 0
