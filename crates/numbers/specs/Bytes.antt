-- Little-endian numbers in a list of bytes. Past the end a byte reads as 0, so that every definition is total.
use Rattle.std.specs.Prelude.{ℕ, ◌+◌, ◌*◌, ◌^◌, List, get_or}

abbrev pub u8_at : List ℕ → ℕ → ℕ
u8_at bytes at = get_or bytes at 0

abbrev pub u16_at : List ℕ → ℕ → ℕ
u16_at bytes at = u8_at bytes at + 2 ^ 8 * u8_at bytes (at + 1)

abbrev pub u32_at : List ℕ → ℕ → ℕ
u32_at bytes at = u16_at bytes at + 2 ^ 16 * u16_at bytes (at + 2)

abbrev pub u64_at : List ℕ → ℕ → ℕ
u64_at bytes at = u32_at bytes at + 2 ^ 32 * u32_at bytes (at + 4)
