-- Counting one entry after another counts them all.
use Rattle.std.proofs.Common.{◌≡◌, ℕ, zero, suc, ◌+◌, refl, arith, add-one}
use Rattle.printed.specs.declared.mark.Mark.{Mark}
use Rattle.printed.specs.declared.mark.Mark.TheVariants.{Right, Close, Wrong}
use Rattle.marking.specs.declared.tally.Marks.{Marks}
use Rattle.marking.specs.declared.tally.Place.{Place}
use Rattle.marking.specs.Private.Counted.{counted, counted_to, entries_in}

-- One entry more.
one_entry : (marks : Marks) (mark : Mark) (place : Place) → entries_in (counted marks mark place) ≡ entries_in marks + 1
unfolding counted
one_entry marks Right place = omega arith
one_entry marks Close place = omega arith
one_entry marks Wrong place = omega arith

pub entries_to :
    (marks : Marks) (mark : ℕ → Mark) (number i : ℕ) →
    entries_in (counted_to marks mark number i) ≡ entries_in marks + i
unfolding counted_to
entries_to marks mark number zero = omega arith
entries_to marks mark number (suc i) =
    omega (
      arith,
      one_entry (counted_to marks mark number i) (mark i) (record { line = number + 1; member = i }),
      entries_to marks mark number i,
    )

pub none_to : (marks : Marks) (mark : ℕ → Mark) (number : ℕ) → counted_to marks mark number 0 ≡ marks
unfolding counted_to
none_to marks mark number = refl

pub one_to :
    (marks : Marks) (mark : ℕ → Mark) (number i : ℕ) →
    counted_to marks mark number (i + 1)
    ≡ counted (counted_to marks mark number i) (mark i) (record { line = number + 1; member = i })
unfolding counted_to
one_to marks mark number i = rw (add-one i) refl
