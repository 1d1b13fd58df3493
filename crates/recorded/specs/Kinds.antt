-- The numbers of the kinds of recorded cases.
use Rattle.std.specs.Prelude.{◌≡◌, ◌<◌, ℕ, Result, MatchResult}
use Rattle.recorded.specs.declared.kind.Kind.{Kind}
use Rattle.recorded.specs.declared.kind.UnknownKind.{UnknownKind}

abbrev pub number_of : Kind → ℕ
number_of Kind.Report = 0
number_of Kind.Lowest = 1
number_of Kind.Factors = 2
number_of Kind.Table = 3
number_of Kind.Opening = 4
number_of Kind.Partner = 5
number_of Kind.Marks = 6
number_of Kind.Rates = 7

-- The kind of a number, or that no kind has it.
abbrev pub Names : ℕ → Result Kind UnknownKind → Type 0
Names number found =
    MatchResult found (λ kind. number_of kind ≡ number) (λ unknown. (unknown.0 ≡ number) × (7 < number))
