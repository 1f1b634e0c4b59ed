-- The laws of the division's steps, over the number of bits: a table for bytes and one for half bytes are two instances.
use Rattle.std.proofs.Common.{◌≡◌, ℕ, zero, suc, ◌+◌, ◌-◌, ◌*◌, ◌/◌, ◌%◌, ◌^◌, ◌<◌, ◌≤◌, sym, ap, ◌∙◌, ap₂, lt_of_lt_of_le, add-zero, mod-lt, mul_assoc, add-mul, suc-add, div-add-mod', zero-add, mul-one, arith, pow_pos, pow_mono, pow-add}
use native.Mathlib.Nat.{pow-succ', div-eq_of_lt}
use lib.Bits.{bit_xor, xor_assoc, xor_comm, xor_block, xor_shr, xor_shifted, xor_zero_r}
use Rattle.std.proofs.lemmas.Nat.{shl_below}
use Rattle.crc.specs.Crc.{generator, shift_bit, shift, feed, table_entry}

-- exclusive or, its last two operands exchanged
xor_swap : (a b c : ℕ) → bit_xor (bit_xor a b) c ≡ bit_xor (bit_xor a c) b
xor_swap a b c = xor_assoc a b c ∙ ap (bit_xor a) (xor_comm b c) ∙ sym (xor_assoc a c b)

-- a shift to the left goes through an exclusive or
pub xor_shl : (a b k : ℕ) → bit_xor a b * 2 ^ k ≡ bit_xor (a * 2 ^ k) (b * 2 ^ k)
xor_shl a b k =
    sym
    (ap₂ bit_xor (sym (add-zero (a * 2 ^ k))) (sym (add-zero (b * 2 ^ k))) ∙ xor_block k a b 0 0 (pow_pos k) (pow_pos k)
    ∙ add-zero (bit_xor a b * 2 ^ k))

-- What lies below the top bit moves up and meets no generator.
shift_bit_low : (x y : ℕ) → y < 2 ^ 15 → shift_bit (bit_xor x y) ≡ bit_xor (shift_bit x) (y * 2)
unfolding shift_bit
shift_bit_low x y h =
    let top : bit_xor x y / 2 ^ 15 ≡ x / 2 ^ 15 =
    xor_shr x y 15 ∙ ap (bit_xor (x / 2 ^ 15)) (div-eq_of_lt h) ∙ xor_zero_r (x / 2 ^ 15) in
    ap₂ bit_xor (xor_shl x y 1) (ap (λ t. t * generator) top) ∙ xor_swap (x * 2) (y * 2) (x / 2 ^ 15 * generator)

pub shift_low : (k n x y : ℕ) → k + n ≤ 16 → y < 2 ^ k → shift n (bit_xor x y) ≡ bit_xor (shift n x) (y * 2 ^ n)
unfolding shift
shift_low k zero x y b h = ap (bit_xor x) (sym (mul-one y))
shift_low k (suc n) x y b h =
    let low : y < 2 ^ 15 = lt_of_lt_of_le h (pow_mono {i = k} {j = 15} (omega arith)) in
    let moved : y * 2 < 2 ^ (k + 1) = shl_below y k 1 h in
    ap (shift n) (shift_bit_low x y low) ∙ shift_low (k + 1) n (shift_bit x) (y * 2) (omega arith) moved
    ∙ ap (bit_xor (shift n (shift_bit x))) (mul_assoc y 2 (2 ^ n) ∙ ap (λ p. y * p) (sym (pow-succ' 2 n)))

pub shift_add : (m n c : ℕ) → shift (m + n) c ≡ shift n (shift m c)
unfolding shift
shift_add zero n c = ap (λ k. shift k c) (zero-add n)
shift_add (suc m) n c = ap (λ k. shift k c) (suc-add m n) ∙ shift_add m n (shift_bit c)

-- m bits and then n bits are m + n bits.
pub feed_add : (m n c d e : ℕ) → m + n ≤ 16 → e < 2 ^ n → feed (m + n) c (d * 2 ^ n + e) ≡ feed n (feed m c d) e
unfolding feed
feed_add m n c d e b h =
    let r : ℕ = 16 - (m + n) in
    let nr : n + r ≡ 16 - m = omega arith in
    let rm : r + m ≡ 16 - n = omega arith in
    let small : e * 2 ^ r < 2 ^ (16 - m) = rw (← nr) (shl_below e n r h) in
    let high : d * 2 ^ n * 2 ^ r ≡ d * 2 ^ (16 - m) =
    mul_assoc d (2 ^ n) (2 ^ r) ∙ ap (λ p. d * p) (sym (pow-add 2 n r) ∙ ap (λ k. 2 ^ k) nr) in
    let placed : (d * 2 ^ n + e) * 2 ^ r ≡ bit_xor (d * 2 ^ (16 - m)) (e * 2 ^ r) =
    add-mul (d * 2 ^ n) e (2 ^ r) ∙ ap (λ x. x + e * 2 ^ r) high ∙ sym (xor_shifted d (16 - m) (e * 2 ^ r) small) in
    let low : e * 2 ^ r * 2 ^ m ≡ e * 2 ^ (16 - n) =
    mul_assoc e (2 ^ r) (2 ^ m) ∙ ap (λ p. e * p) (sym (pow-add 2 r m) ∙ ap (λ k. 2 ^ k) rm) in
    ap (λ x. shift (m + n) (bit_xor c x)) placed ∙ shift_add m n _
    ∙ ap (λ x. shift n (shift m x)) (sym (xor_assoc c (d * 2 ^ (16 - m)) (e * 2 ^ r)))
    ∙ ap (shift n) (shift_low (16 - m) m (bit_xor c (d * 2 ^ (16 - m))) (e * 2 ^ r) (omega arith) small ∙ ap (bit_xor (shift m (bit_xor c (d * 2 ^ (16 - m))))) low)

-- Feeding n bits by a table: the entry for the top n bits and the data, and the rest of the register moved up.
pub feed_table : (n c d : ℕ) → n ≤ 16 → feed n c d ≡ bit_xor (c % 2 ^ (16 - n) * 2 ^ n) (table_entry n (bit_xor (c / 2 ^ (16 - n)) d))
unfolding feed
feed_table n c d b =
    let k : ℕ = 16 - n in
    let hi : ℕ = c / 2 ^ k in
    let lo : ℕ = c % 2 ^ k in
    let small : lo < 2 ^ k = mod-lt c (pow_pos k) in
    let parts : c ≡ bit_xor (hi * 2 ^ k) lo = sym (xor_shifted hi k lo small ∙ div-add-mod' c (2 ^ k)) in
    let placed : bit_xor c (d * 2 ^ k) ≡ bit_xor (bit_xor hi d * 2 ^ k) lo =
    ap (λ x. bit_xor x (d * 2 ^ k)) parts ∙ xor_swap (hi * 2 ^ k) lo (d * 2 ^ k) ∙ ap (λ x. bit_xor x lo) (sym (xor_shl hi d k)) in
    ap (shift n) placed ∙ shift_low k n (bit_xor hi d * 2 ^ k) lo (omega arith) small ∙ xor_comm (shift n (bit_xor hi d * 2 ^ k)) (lo * 2 ^ n)
