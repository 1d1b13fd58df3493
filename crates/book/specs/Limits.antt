-- The limits of a chain book.
use Rattle.std.specs.Prelude.{ℕ, ◌^◌}

abbrev pub max_members : ℕ
max_members = 16

abbrev pub max_feeds : ℕ
max_feeds = 64

-- A half-life is in nanoseconds.
abbrev pub max_parent_half_life : ℕ
max_parent_half_life = 10 ^ 15

abbrev pub max_half_life : ℕ
max_half_life = 60000000000000

abbrev pub max_coefficient : ℕ
max_coefficient = 4000000000

-- A share is in hundred-thousandths: this many are the whole.
abbrev pub whole_share : ℕ
whole_share = 100000
