-- The response code: the high byte of a status word, in two's complement.
use Rattle.std.specs.Prelude.{ℕ, ◌/◌, ℤ}
use Rattle.std.specs.Int.{w8}
use Rattle.std.proofs.Common.{to_z, of_z}

-- the response code of a status word
abbrev pub code_of : ℕ → ℤ
code_of status = to_z w8 (status / 256)

-- the byte of a response code
abbrev pub byte_of : ℤ → ℕ
byte_of code = of_z w8 code
