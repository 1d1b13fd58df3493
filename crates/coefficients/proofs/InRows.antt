-- What stands in the rows: each member's numbers in use, in the array and in its first places alone.
use Prim.Native.Nat.{ℕ, ◌<◌}
use mathlib.Core.Path.{◌≡◌, ap, sym, ◌∙◌}
use mathlib.Core.List.{List, []}
use lib.ListN.{length, get_or, take, replicate}
use lib.Seq.{take_at}
use Rattle.book.specs.Limits.{max_members}
use Rattle.book.specs.Fields.{members, coefficient_count}
use Rattle.book.specs.Held.{up_to}
use Rattle.book.proofs.Filled.{length_up_to, up_to_at, filled_at}
use Rattle.book.proofs.HeldFields.{five_at}
use Rattle.coefficients.specs.Sets.{coefficient_in_use}
use Rattle.coefficients.specs.Rows.{row_in_use, rows_in_use}

module _ (book second : List ℕ) where
  number_in_row : {row : List ℕ} (i which : ℕ) → row ≡ row_in_use book second i → which < coefficient_count →
      get_or row which 0 ≡ coefficient_in_use book second i which
  number_in_row i which is w =
      ap (λ row. get_or row which 0) is ∙ five_at (coefficient_in_use book second i) which w

module _ (book second : List ℕ) {rows : List (List ℕ)} where
  pub number_in_array : rows ≡ rows_in_use book second → (i which : ℕ) → i < members book → which < coefficient_count →
      get_or (get_or rows i []) which 0 ≡ coefficient_in_use book second i which
  number_in_array read i which l =
      number_in_row book second i which
      (ap (λ rows. get_or rows i []) read
      ∙ filled_at (members book) (row_in_use book second) (replicate max_members (replicate coefficient_count 0)) i []
      l)

  pub number_in_front :
      rows ≡ up_to (members book) (row_in_use book second) → (i which : ℕ) → i < members book →
      which < coefficient_count → get_or (get_or rows i []) which 0 ≡ coefficient_in_use book second i which
  number_in_front front i which l =
      number_in_row book second i which
      (ap (λ rows. get_or rows i []) front ∙ up_to_at (members book) (row_in_use book second) i [] l)

  pub front_length : rows ≡ up_to (members book) (row_in_use book second) → length rows ≡ members book
  front_length front = ap length front ∙ length_up_to (members book) (row_in_use book second)

  pub front_of : {n : ℕ} → n ≡ members book → rows ≡ rows_in_use book second →
      take n rows ≡ up_to (members book) (row_in_use book second)
  front_of {n} counted read =
      ap (take n) read
      ∙ take_at (up_to (members book) (row_in_use book second)) _ n
      (length_up_to (members book) (row_in_use book second) ∙ sym counted)
