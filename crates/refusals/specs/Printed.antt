-- What a program prints of a refusal: `refused` with its number.
use Rattle.std.specs.Prelude.{ℕ, List, ◌++◌}
use Rattle.std.specs.Fmt.{decimal}
use lib.Chars.{codes}
use Rattle.refusals.specs.Grounds.{refusal_number}
use Rattle.refusals.specs.declared.Refusal.{Refusal}

abbrev pub refused_text : Refusal → List ℕ
refused_text refusal = codes "refused " ++ decimal (refusal_number refusal)
