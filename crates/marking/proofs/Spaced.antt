-- A line's numbers are handed over one after the other: after i turns those of the first i members, and the next has
-- room, since all of them together have.
use Prim.Native.Nat.{ℕ, suc, ◌+◌, ◌≤◌, ◌<◌}
use native.Mathlib.Numerals.{add-one}
use native.Mathlib.Omega.{arith}
use mathlib.Core.Path.{◌≡◌, refl}
use mathlib.Core.List.{List, [], ◌++◌, append_assoc}
use lib.ListN.{length}
use Rattle.text.specs.Words.{ascii}
use Rattle.text.specs.Sinks.{SinkLaws}
use Rattle.text.proofs.Pieces.{and_then}
use Rattle.entry.specs.declared.scaling.Share.{Share}
use Rattle.entry.specs.Form.{form}
use Rattle.entry.proofs.Promised.{form_nine}
use Rattle.marking.specs.Lines.{spaced_shares}
use Rattle.marking.proofs.LineLengths.{shares_length}

pub none_spaced : (share : ℕ → Share) → spaced_shares share 0 ≡ []
unfolding spaced_shares
none_spaced share = refl

pub nine_characters :
    (share : Share) {text : List ℕ} → text ≡ form share.thousandths share.exponent → length text ≡ 9
nine_characters share is = rw is (form_nine share.thousandths share.exponent)

one_more :
    (share : ℕ → Share) (i : ℕ) →
    spaced_shares share (suc i)
    ≡ spaced_shares share i ++ (ascii " " ++ form (share i).thousandths (share i).exponent)
unfolding spaced_shares
one_more share i = append_assoc (spaced_shares share i) (ascii " ") (form (share i).thousandths (share i).exponent)

module _ {Sink : Type 0} {room : Sink → ℕ} {Took : Sink → List ℕ → Sink → Type 0} (laws : SinkLaws room Took)
    (share : ℕ → Share) where
  pub none : (start : Sink) → Took start (spaced_shares share 0) start
  none start = rw (none_spaced share) (laws.nothing start)

  module _ {start now : Sink} (i : ℕ) (took : Took start (spaced_shares share i) now) where
    pub roomy : {n : ℕ} → i < n → length (spaced_shares share n) ≤ room start → 10 ≤ room now
    roomy {n} turn fits = omega (arith, laws.less _ _ _ took, shares_length share i, shares_length share n)

    pub more :
        {mid next : Sink} → Took now (ascii " ") mid →
        Took mid (form (share i).thousandths (share i).exponent) next → Took start (spaced_shares share (i + 1)) next
    more space number = rw (add-one i, one_more share i) (and_then laws took (and_then laws space number))
