-- A text whose bytes are counted.
use Rattle.std.specs.Prelude.{ℕ, ◌+◌, ◌-◌, ◌^◌, ◌≡◌, List, length}
use Rattle.text.specs.declared.Counter.{Counter}

-- How many more bytes are counted in a word of 64 bits.
abbrev pub uncounted : Counter → ℕ
uncounted counter = 2 ^ 64 - 1 - counter.bytes

abbrev pub Counted : Counter → List ℕ → Counter → Type 0
Counted before text after = after.bytes ≡ before.bytes + length text
