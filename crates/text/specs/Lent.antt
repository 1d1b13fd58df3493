-- A text in a lent list of bytes.
use Rattle.std.specs.Prelude.{ℕ, ◌+◌, ◌-◌, ◌≡◌, List, ◌++◌, length, take, drop}
use Rattle.text.specs.declared.Writer.{Writer}

-- How many bytes the list has after what is written.
abbrev pub unwritten : Writer → ℕ
unwritten writer = length writer.out.now - writer.written

-- The piece stands after what was written before, in the same list, whose other bytes are as they were.
pub record Written (before : Writer) (piece : List ℕ) (after : Writer) : Type 0 where
  pub same_list : after.out.ghost_name ≡ before.out.ghost_name
  pub place : after.written ≡ before.written + length piece
  pub text : take after.written after.out.now ≡ take before.written before.out.now ++ piece
  pub rest : drop after.written after.out.now ≡ drop after.written before.out.now
