-- The checksum as a fold over the bytes, in the two forms that the proof of `checksum` looks for.
use Rattle.std.proofs.Common.{◌≡◌, ℕ, ◌<◌, List, [], ◌∷◌, ◌++◌, sym, refl, ap, ◌∙◌}
use Rattle.std.specs.List.{fold}
use Rattle.crc.specs.Crc.{crc_from, crc_of, crc_bytes, feed}
use Rattle.crc.proofs.Sealed.{crc_append, crc_sealed}

-- a register that is fed each byte in turn
crc_from_fold : (bytes : List ℕ) (register : ℕ) → fold (feed 8) register bytes ≡ crc_from register bytes
unfolding crc_from
crc_from_fold [] register = refl
crc_from_fold (byte ∷ bytes) register = crc_from_fold bytes (feed 8 register byte)

-- what the fold gives is the checksum
pub crc_of_fold : (result : ℕ) (bytes : List ℕ) → result ≡ fold (feed 8) 0 bytes → result ≡ crc_of bytes
crc_of_fold result bytes e = e ∙ crc_from_fold bytes 0

-- with the two bytes of what the fold gives behind them, bytes have checksum 0
pub sealed_by_fold : (result : ℕ) (bytes : List ℕ) → result ≡ fold (feed 8) 0 bytes → result < 65536 → crc_of (bytes ++ crc_bytes result) ≡ 0
sealed_by_fold result bytes e h =
    crc_append bytes (crc_bytes result) 0 ∙ ap (λ x. crc_from x (crc_bytes result)) (sym (crc_of_fold result bytes e)) ∙ crc_sealed result h
