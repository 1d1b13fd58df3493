-- What comes of a reader where it is read until there is enough or no more, and what it has left.
use Rattle.std.proofs.Common.{◌≡◌, sym, subst, ℕ, ◌<◌, ◌≤◌, List, [], ◌∷◌, ◌++◌}
use Rattle.std.proofs.Common.{length, take, drop, Option, Some, None, arith}
use Rattle.std.specs.Prelude.{IfSome}
use Rattle.std.specs.Io.KnownBytes.{Consumes, IsAtEnd}
use Rattle.std.proofs.lemmas.Grind.{common_steps}

pub taken_first :
    (a b : Option (List ℕ)) (bytes : List ℕ) (most : ℕ) → length bytes ≤ most → Consumes a b bytes →
    (length bytes < most → IsAtEnd b) → IfSome a (λ all. bytes ≡ take most all)
taken_first None b bytes most fits read end = tt
taken_first (Some all) None bytes most fits read end = absurd read
taken_first (Some all) (Some []) bytes most fits read end = grind (arith, common_steps)
taken_first (Some all) (Some (x ∷ left)) bytes most fits read end = grind (arith, common_steps)

pub left_after :
    (a b : Option (List ℕ)) (bytes : List ℕ) (most : ℕ) → length bytes ≤ most → Consumes a b bytes →
    (length bytes < most → IsAtEnd b) → IfSome a (λ all. b ≡ Some (drop most all))
left_after None b bytes most fits read end = tt
left_after (Some all) None bytes most fits read end = absurd read
left_after (Some all) (Some []) bytes most fits read end = grind (arith, common_steps)
left_after (Some all) (Some (x ∷ left)) bytes most fits read end = grind (arith, common_steps)

-- The same of a list that a read filled from its start, cut where the read ended.
module _ (a b : Option (List ℕ)) (bytes into old : List ℕ) (n most len : ℕ)
    (within : n ≤ length into) (size : length into ≡ most) (room : len ≡ most)
    (read : Consumes a b (take n into)) (end : n < length into → IsAtEnd b)
    (cut : bytes ≡ take n (take len (into ++ drop (length into) old))) where
  same : bytes ≡ take n into
  same = grind (arith, common_steps)

  count : length bytes ≡ n
  count = grind (arith, common_steps, same)

  whole : length bytes < most → IsAtEnd b
  whole l = end (omega (arith, count, size, l))

  pub cut_first : IfSome a (λ all. bytes ≡ take most all)
  cut_first =
      taken_first a b bytes most (omega (arith, count, within, size)) (subst (Consumes a b) (sym same) read) whole

  pub cut_after : IfSome a (λ all. b ≡ Some (drop most all))
  cut_after =
      left_after a b bytes most (omega (arith, count, within, size)) (subst (Consumes a b) (sym same) read) whole
