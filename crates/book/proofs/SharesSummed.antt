-- Summing the shares out of every member in one pass:
-- after j feeds each sum is that of the first j feeds' shares out of its member.
use Prim.Native.Nat.{ℕ, suc, ◌+◌, ◌*◌, ◌≤◌, ◌<◌, ◌^◌}
use mathlib.Core.Path.{◌≡◌, refl, sym, ◌∙◌, ap, ap₂}
use mathlib.Core.Bool.{Bool, true, false, cond}
use mathlib.Core.List.{List}
use native.Mathlib.Numerals.{add-one}
use native.Mathlib.Omega.{arith}
use lib.Dec.{eqb}
use lib.ListN.{length, get_or, set, replicate, length-set, length-replicate, get_or-replicate}
use lib.Seq.{get_or-set_same, get_or-set_other}
use borrow.Author.Tests.{eqb-true, eqb-false}
use Rattle.book.specs.Limits.{max_members}
use Rattle.book.specs.Fields.{feed_count, share, from}
use Rattle.book.specs.BookGrounds.{share_out}
use Rattle.numbers.specs.Sums.{sum_below}

pub record Summing (book : List ℕ) (count j : ℕ) (sums : List ℕ) : Type 0 where
  pub feeds : count ≡ feed_count book
  pub turns : j ≤ count
  pub few : count < 2 ^ 8
  pub size : length sums ≡ max_members
  pub so_far : (i : ℕ) → i < max_members → get_or sums i 0 ≡ sum_below j (λ k. share_out book i (suc k))
  pub small : (i : ℕ) → i < max_members → get_or sums i 0 ≤ 2 ^ 32 * j

-- A share is added to its member's sum alone.
module _ (sums : List ℕ) (at i part : ℕ) (h : i < length sums) where
  raised : (b : Bool) → eqb at i ≡ b →
      get_or (set sums at (get_or sums at 0 + part)) i 0 ≡ get_or sums i 0 + cond b part 0
  raised true t =
      let same : at ≡ i = eqb-true at i t in
      rw same (get_or-set_same sums i (get_or sums i 0 + part) 0 h)
  raised false t = omega (arith, get_or-set_other sums at i (get_or sums at 0 + part) 0 (λ e. eqb-false at i t (sym e)))

at_most : (b : Bool) (part : ℕ) → cond b part 0 ≤ part
at_most true part = omega arith
at_most false part = omega arith

pub summing_none : {book : List ℕ} {count : ℕ} {sums : List ℕ} → count ≡ feed_count book → count < 2 ^ 8 →
    sums ≡ replicate max_members 0 → Summing book count 0 sums
unfolding sum_below
summing_none {book} {count} {sums} e f z =
    rw z
    record {
      feeds = e;
      turns = omega arith;
      few = f;
      size = length-replicate {A = ℕ} max_members 0;
      so_far = λ i l. get_or-replicate max_members i 0 0 l;
      small = λ i l. omega (arith, get_or-replicate {A = ℕ} max_members i 0 0 l);
    }

module _ {book : List ℕ} {count j : ℕ} {sums : List ℕ} (s : Summing book count j sums) where
  pub summing_more : {at part : ℕ} {sums' : List ℕ} → j < count → at ≡ from book (j + 1) → part ≡ share book (j + 1) →
      part < 2 ^ 32 → sums' ≡ set sums at (get_or sums at 0 + part) → Summing book count (j + 1) sums'
  unfolding sum_below
  summing_more {at} {part} {sums'} l e q low w =
      let term : (i : ℕ) → i < max_members → get_or sums' i 0 ≡ get_or sums i 0 + cond (eqb at i) part 0 =
      λ i h. rw w (raised sums at i part (omega arith) (eqb at i) refl)
      in
      record {
        feeds = s.feeds;
        turns = omega arith;
        few = s.few;
        size = rw w (length-set sums at _ ∙ s.size);
        so_far = λ i h. rw add-one
            (term i h
            ∙ ap₂ (λ a b. a + b) (s.so_far i h)
            (ap₂ (λ a b. cond (eqb a i) b 0) (e ∙ ap (λ k. from book k) (add-one j))
            (q ∙ ap (λ k. share book k) (add-one j))));
        small = λ i h. omega (arith, term i h, s.small i h, at_most (eqb at i) part);
      }
