-- Bytes with their checksum behind them have checksum 0; the checksum of bytes fits sixteen bits.
use Rattle.std.proofs.Common.{◌≡◌, ℕ, zero, suc, ◌/◌, ◌%◌, ◌<◌, List, [], ◌∷◌, ◌++◌, sym, refl, ap, ◌∙◌, div-add-mod', mul-one, arith}
use lib.Bits.{bit_xor, xor_self}
use Rattle.crc.specs.Crc.{shift_bit, shift, feed, crc_from, crc_bytes}
use Rattle.crc.proofs.Steps.{feed_add}

pub crc_append : (xs ys : List ℕ) (c : ℕ) → crc_from c (xs ++ ys) ≡ crc_from (crc_from c xs) ys
unfolding crc_from
crc_append [] ys c = refl
crc_append (x ∷ xs) ys c = crc_append xs ys (feed 8 c x)

shift_zero : (n : ℕ) → shift n 0 ≡ 0
unfolding shift shift_bit
shift_zero zero = refl
shift_zero (suc n) = shift_zero n

-- A register that is fed itself is cleared.
feed_self : (c : ℕ) → feed 16 c c ≡ 0
unfolding feed
feed_self c = ap (shift 16) (ap (bit_xor c) (mul-one c) ∙ xor_self c) ∙ shift_zero 16

pub crc_sealed : (c : ℕ) → c < 65536 → crc_from c (crc_bytes c) ≡ 0
unfolding crc_from
crc_sealed c h =
    sym (feed_add 8 8 c (c / 256) (c % 256) (omega arith) (omega arith)) ∙ ap (feed 16 c) (div-add-mod' c 256) ∙ feed_self c
