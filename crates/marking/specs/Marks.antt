-- The marks of a table's entries against a book, in reading order (document 02, R-8).
use Rattle.std.specs.Prelude.{ℕ, zero, suc, ◌+◌, ◌*◌, ◌/◌, ◌%◌, cond, Bool, true, false, List, [], length, get_or}
use Rattle.std.specs.Prelude.{Option, Some, None}
use Rattle.std.specs.Option.{option_map, option_or}
use Rattle.numbers.specs.Sums.{sum_below}
use Rattle.book.specs.Fields.{members}
use Rattle.balance.specs.Balance.{raised}
use Rattle.balance.specs.Factors.{factor_at}
use Rattle.printed.specs.Mark.{mark_of}
use Rattle.printed.specs.declared.mark.Mark.{Mark}
use Rattle.printed.specs.declared.mark.Mark.TheVariants.{Right, Close, Wrong}
use Rattle.marking.specs.Lines.{lines, rate_in, share_in}
use Rattle.marking.specs.declared.tally.Marks.{Marks}
use Rattle.marking.specs.declared.tally.Place.{Place}

-- The mark of member i's entry on a line, for the interval from the reported factor to 2i grains above it, at most G.
unfoldable pub mark_in : List ℕ → List ℕ → ℕ → Mark
mark_in book line i =
    let n = members book in
    let factor = factor_at book (rate_in n line) i in
    mark_of (share_in n line i) factor (raised i factor)

-- Entry k in reading order, counted from 0, is that of member k % n on line k / n, where these count from 0 too.
abbrev pub mark_at : List ℕ → List ℕ → ℕ → Mark
mark_at book text k = mark_in book (get_or (lines text) (k / members book) []) (k % members book)

-- Its line, which a person counts from 1, and its member.
abbrev pub place_of : ℕ → ℕ → Place
place_of n k = record { line = k / n + 1; member = k % n }

abbrev pub same_mark : Mark → Mark → Bool
same_mark Right Right = true
same_mark Close Close = true
same_mark Wrong Wrong = true
same_mark a b = false

-- How many of the first k marks are this one.
abbrev pub count_of : Mark → (ℕ → Mark) → ℕ → ℕ
count_of mark marks k = sum_below k (λ j. cond (same_mark mark (marks j)) 1 0)

-- The first of them that is wrong, if one is.
unfoldable pub first_wrong : (ℕ → Mark) → ℕ → Option ℕ
first_wrong marks zero = None
first_wrong marks (suc k) = option_or (first_wrong marks k) (cond (same_mark Wrong (marks k)) (Some k) None)

-- The tally of the first k entries, of n members each line: how many have each mark, and the line and member of the
-- first wrong one.
abbrev pub tally_of : ℕ → (ℕ → Mark) → ℕ → Marks
tally_of n marks k =
    record {
      right = count_of Right marks k;
      close = count_of Close marks k;
      wrong = count_of Wrong marks k;
      first = option_map (place_of n) (first_wrong marks k);
    }

-- And so of the whole table.
unfoldable pub marks_of : List ℕ → List ℕ → Marks
marks_of book text = tally_of (members book) (mark_at book text) (length (lines text) * members book)
