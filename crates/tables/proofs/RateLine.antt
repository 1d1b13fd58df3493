-- The line of a rate: as long as its rate has digits and its book has members, and made of the factors that the factor
-- call leaves.
use Prim.Native.Nat.{ℕ, ◌+◌, ◌-◌, ◌*◌}
use native.Mathlib.Omega.{arith}
use mathlib.Core.Path.{◌≡◌}
use mathlib.Core.List.{List, ◌++◌}
use lib.ListN.{length, take, drop, replicate, length-append}
use lib.Seq.{take_at, length-take-le}
use Rattle.book.specs.Limits.{max_members}
use Rattle.book.specs.Fields.{members, scale_of}
use Rattle.book.specs.BookGrounds.{Accepted}
use Rattle.book.proofs.Ranges.{few_members}
use Rattle.book.specs.Rates.{rates_at}
use Rattle.balance.specs.Chain.{chain_of}
use Rattle.balance.specs.Factors.{factors_at}
use Rattle.balance.proofs.AnyChain.Reported.{reported_at}
use Rattle.balance.proofs.Call.CallAnswers.{factors_length}
use Rattle.balance.proofs.Promised.{factor_at_most_g}
use Rattle.text.specs.Words.{decimal}
use Rattle.text.proofs.Pieces.{each_as_long}
use Rattle.entry.proofs.Promised.{entry_nine}
use Rattle.tables.specs.Table.{spaced_entry, rate_line}
use Rattle.tables.specs.Private.Tabulable.{NoneAboveParent}

pub spaced_ten : (member factor : ℕ) → length (spaced_entry member factor) ≡ 10
spaced_ten member factor = omega (arith, entry_nine factor)

module _ (book : List ℕ) (accepted : Accepted book) (v : ℕ) where
  pub line_length : (k : ℕ) → length (rate_line book k v) ≡ length (decimal v) + (members book * 10 + 1)
  line_length k =
      let entries = each_as_long spaced_entry 10 spaced_ten 0 (factors_at book v) in
      simp length-append (omega (arith, factors_length book v accepted))

  pub none_above_parent : NoneAboveParent (factors_at book v)
  none_above_parent =
      record {
        at_most = λ i l.
            let n = factors_length book v accepted in
            let is =
            reported_at (scale_of book) (chain_of book) (rates_at book v) (members book - 1) i (omega arith)
            in
            rw is (factor_at_most_g book v i accepted (omega arith));
      }

  -- The first places of the array, as many as the members that the code counts.
  pub factors_left :
      {n : ℕ} {list : List ℕ} → n ≡ members book →
      list ≡ factors_at book v ++ drop (members book) (replicate max_members 0) → take n list ≡ factors_at book v
  factors_left counted is =
      rw (is, counted) (take_at (factors_at book v) _ (members book) (factors_length book v accepted))

-- What the line is made of once the call has left its factors in the array.
pub ruleset left = (few_members, factors_left, none_above_parent, length-take-le)
