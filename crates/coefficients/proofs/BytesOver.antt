-- A list with bytes written over some of its own: there it has those bytes, and elsewhere what it had.
use Prim.Native.Nat.{ℕ, ◌+◌, ◌-◌, ◌≤◌, ◌<◌}
use native.Mathlib.Nat.{add-sub_of_le}
use native.Mathlib.Omega.{arith}
use mathlib.Core.Logic.{inl, inr}
use mathlib.Core.Path.{◌≡◌, ap, ◌∙◌}
use mathlib.Core.List.{List, ◌++◌}
use lib.ListN.{length, get_or, take, drop, length-append, length-drop, get_or-append}
use lib.Seq.{get_or-take, get_or-drop, length-take-le}
use Rattle.std.proofs.lemmas.Bool.{cases_lt}
use Rattle.std.proofs.lemmas.List.{get_or-append_right}
use Rattle.coefficients.specs.WrittenOver.{bytes_over}

module _ (at : ℕ) (bytes list : List ℕ) (fits : at + length bytes ≤ length list) where
  abbrev front : List ℕ
  front = take at list ++ bytes

  abbrev rest : List ℕ
  rest = drop (at + length bytes) list

  before : length (take at list) ≡ at
  before = length-take-le at list (omega arith)

  length_front : length front ≡ at + length bytes
  length_front = omega (arith, before, length-append (take at list) bytes)

  pub length_over : length (bytes_over at bytes list) ≡ length list
  length_over = omega (arith, length_front, length-append front rest, length-drop (at + length bytes) list)

  pub byte_written : (r : ℕ) → r < length bytes → get_or (bytes_over at bytes list) (at + r) 0 ≡ get_or bytes r 0
  byte_written r l =
      get_or-append front rest 0 (at + r) (omega (arith, length_front))
      ∙ get_or-append_right (take at list) bytes at (at + r) 0 before (omega arith)
      ∙ ap (λ j. get_or bytes j 0) (omega arith)

  earlier_kept : (k : ℕ) → k < at → get_or (bytes_over at bytes list) k 0 ≡ get_or list k 0
  earlier_kept k l =
      get_or-append front rest 0 k (omega (arith, length_front))
      ∙ get_or-append (take at list) bytes 0 k (omega (arith, before))
      ∙ get_or-take at list k 0 l

  later_kept : (k : ℕ) → at + length bytes ≤ k → get_or (bytes_over at bytes list) k 0 ≡ get_or list k 0
  later_kept k l =
      get_or-append_right front rest (at + length bytes) k 0 length_front l
      ∙ get_or-drop (at + length bytes) list (k - (at + length bytes)) 0
      ∙ ap (λ j. get_or list j 0) (add-sub_of_le l)

  pub byte_kept :
      (k : ℕ) → (at ≤ k → at + length bytes ≤ k) → get_or (bytes_over at bytes list) k 0 ≡ get_or list k 0
  byte_kept k outside = elim (cases_lt k at) [ inl l ↦ earlier_kept k l | inr l ↦ later_kept k (outside l) ]
