-- CRC-CCITT-16, bit by bit: the message is divided by the polynomial x^16 + x^12 + x^5 + 1 over the field of two
-- elements, and the checksum is the remainder that a sixteen-bit register holds at the end. The register starts at 0,
-- and the bits of a byte go in highest first.
use Rattle.std.specs.Prelude.{ℕ, zero, suc, ◌-◌, ◌*◌, ◌/◌, ◌%◌, ◌^◌, ◌<◌, List, [], ◌∷◌, bit_xor, slice_index}

-- the polynomial: bit k stands for x^k
abbrev pub generator : ℕ
generator = 0x11021

-- The register moves up by one bit. Where a 1 falls out at the top, the generator is taken away.
unfoldable pub shift_bit : ℕ → ℕ
shift_bit register = bit_xor (register * 2) (register / 2 ^ 15 * generator)

-- The register moves up by n bits.
unfoldable pub shift : ℕ → ℕ → ℕ
shift zero register = register
shift (suc n) register = shift n (shift_bit register)

-- n bits of data are added to the top of the register, which then moves up by n bits.
unfoldable pub feed : ℕ → ℕ → ℕ → ℕ
feed n register «data» = shift n (bit_xor register («data» * 2 ^ (16 - n)))

-- the register after a byte string, from a register
unfoldable pub crc_from : ℕ → List ℕ → ℕ
crc_from register [] = register
crc_from register (byte ∷ bytes) = crc_from (feed 8 register byte) bytes

-- the checksum of a byte string
abbrev pub crc_of : List ℕ → ℕ
crc_of bytes = crc_from 0 bytes

-- a checksum as it is sent: two bytes, the high one first
abbrev pub crc_bytes : ℕ → List ℕ
crc_bytes crc = crc / 256 ∷ crc % 256 ∷ []

-- every element is a byte
abbrev pub Bytes : List ℕ → Type 0
Bytes bytes = (i : ℕ) → slice_index bytes i < 256

-- The table's rule, for tables over n bits of data: entry k is what n shifts make of k at the top of the register.
abbrev pub table_entry : ℕ → ℕ → ℕ
table_entry n k = shift n (k * 2 ^ (16 - n))
