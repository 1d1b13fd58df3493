-- No accepted book is longer than `longest_book`, since it has at most 16 members and 64 feeds.
-- A longer one is refused by ground 10 or 11, and those read its two counts and its length: so
-- as many bytes of it as are one too many are refused as it is.
use Rattle.std.specs.Prelude.{Err}
use Prim.Native.Nat.{ℕ, ◌+◌, ◌*◌, ◌<◌}
use native.Mathlib.Omega.{arith}
use mathlib.Core.Path.{◌≡◌, refl, ap, ap₂, ◌∙◌}
use mathlib.Core.Bool.{Bool, true, false, not, cond, ◌||◌}
use mathlib.Core.List.{List}
use lib.Dec.{ltb, eqb}
use lib.ListN.{length, take}
use lib.Seq.{get_or-take, length-take-le}
use borrow.Author.Tests.{ltb-false, le-ltb, ne_eqb}
use Rattle.refusals.specs.Grounds.{first_met, Checked}
use Rattle.refusals.specs.declared.Refusal.{Refusal}
use Rattle.refusals.proofs.FirstMet.{neither}
use Rattle.book.specs.Limits.{max_members, max_feeds}
use Rattle.book.specs.Fields.{header_length, member_length, feed_length, members, feed_count, longest_book}
use Rattle.numbers.specs.Tests.{outside}
use Rattle.book.specs.BookGrounds.{book_too_short, count_out_of_range, book_length_wrong, book_grounds}

-- The ground on which a longer book is refused.
abbrev pub ground_of_long : ℕ → ℕ → Refusal
ground_of_long n m = cond (outside 1 max_members n || ltb max_feeds m) Refusal.CountOutOfRange Refusal.BookLengthWrong

length_wrong :
    (n m size : ℕ) → longest_book < size → (outside 1 max_members n || ltb max_feeds m) ≡ false →
    not (eqb size (header_length + member_length * n + feed_length * m)) ≡ true
length_wrong n m size long counts =
    let both = neither (outside 1 max_members n) (ltb max_feeds m) counts in
    let few = neither (ltb n 1) (ltb max_members n) both.0 in
    ap not
    (ne_eqb size (header_length + member_length * n + feed_length * m)
    (λ e. omega (arith, ltb-false max_members n few.1, ltb-false max_feeds m both.1)))

count_or_length :
    (short counts wrong : Bool) (first second third : Refusal) (rest : Checked) → short ≡ false →
    (counts ≡ false → wrong ≡ true) → cond short (Err first) (cond counts (Err second) (cond wrong (Err third) rest))
    ≡ Err (cond counts second third)
count_or_length short true wrong first second third rest long otherwise = rw long
count_or_length short false wrong first second third rest long otherwise = rw (long, otherwise refl)

pub long_book : (book : List ℕ) → longest_book < length book →
    first_met (book_grounds book) ≡ Err (ground_of_long (members book) (feed_count book))
unfolding book_too_short count_out_of_range book_length_wrong
long_book book long =
    count_or_length (book_too_short book) (count_out_of_range book) (book_length_wrong book) _ _ _ _
    (le-ltb (length book) header_length (omega arith))
    (length_wrong (members book) (feed_count book) (length book) long)

-- One byte too many is enough to tell.
pub long_book_cut :
    (book : List ℕ) → longest_book < length book →
    first_met (book_grounds (take (longest_book + 1) book)) ≡ Err (ground_of_long (members book) (feed_count book))
long_book_cut book long =
    let size = length-take-le (longest_book + 1) book (omega arith) in
    long_book (take (longest_book + 1) book) (omega arith)
    ∙ ap₂ (λ n m. Err (ground_of_long n m)) (get_or-take (longest_book + 1) book 0 0 (omega arith))
    (get_or-take (longest_book + 1) book 1 0 (omega arith))
