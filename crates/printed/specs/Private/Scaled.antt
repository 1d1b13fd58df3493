-- The most that a product is kept at: more than any number of four digits comes to with half a unit besides.
use Rattle.std.specs.Prelude.{ℕ, ◌*◌}
use Rattle.balance.specs.Balance.{G}

abbrev pub most_scaled : ℕ
most_scaled = 10000 * G
