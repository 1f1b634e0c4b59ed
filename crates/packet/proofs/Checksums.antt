-- Words as bytes, and byte strings that end in their checksum.
use Rattle.std.proofs.Common.{◌≡◌, ℕ, zero, suc, ◌+◌, ◌-◌, ◌*◌, ◌/◌, ◌%◌, ◌<◌, ◌≤◌, true, List, [], ◌∷◌, ◌++◌, length, get_or, take, drop, sym, refl, ap, ◌∙◌, ap₂, div-add-mod', add-sub_cancel, arith, eq-eqb}
use Rattle.std.proofs.lemmas.List.{append_assoc, length-append, get_or-append-add, get_or-drop, take_at, take-append-drop, length-drop}
use Rattle.std.specs.Int.{w16, to_be_bytes}
use Rattle.crc.specs.Crc.{crc_from, crc_of, crc_bytes, Bytes}
use Rattle.crc.proofs.Sealed.{crc_append}
use Rattle.packet.specs.Layout.{be_bytes, be_word, with_checksum}
use Rattle.packet.specs.Reading.{byte_at, word_at, ends_in_checksum}

-- a list of one length, written out
pub two_long : (xs : List ℕ) → length xs ≡ 2 → xs ≡ get_or xs 0 0 ∷ get_or xs 1 0 ∷ []
two_long [] e = absurd (omega arith)
two_long (a ∷ []) e = absurd (omega arith)
two_long (a ∷ b ∷ []) e = refl
two_long (a ∷ b ∷ c ∷ xs) e = absurd (omega arith)

pub four_long : (xs : List ℕ) → length xs ≡ 4 → xs ≡ get_or xs 0 0 ∷ get_or xs 1 0 ∷ get_or xs 2 0 ∷ get_or xs 3 0 ∷ []
four_long [] e = absurd (omega arith)
four_long (a ∷ []) e = absurd (omega arith)
four_long (a ∷ b ∷ xs) e = ap (λ t. a ∷ b ∷ t) (two_long xs (omega arith))

-- bytes below 256 are those of the word that they make
pub be_back : (high low : ℕ) → high < 256 → low < 256 → be_bytes (be_word high low) ≡ high ∷ low ∷ []
be_back high low h l =
    let a : (high * 256 + low) / 256 ≡ high = omega arith in
    let b : (high * 256 + low) % 256 ≡ low = omega arith in
    ap₂ (λ x y. x ∷ y ∷ []) a b

-- the library's bytes of a word are those that are sent
pub sent : (word : ℕ) → word < 65536 → to_be_bytes w16 word ≡ be_bytes word
sent word small = let high : word / 256 % 256 ≡ word / 256 = omega arith in ap (λ h. h ∷ word % 256 ∷ []) high

pub bytes_take : (n : ℕ) (xs : List ℕ) → Bytes xs → Bytes (take n xs)
bytes_take zero xs h i = omega arith
bytes_take (suc n) [] h i = omega arith
bytes_take (suc n) (x ∷ xs) h zero = h zero
bytes_take (suc n) (x ∷ xs) h (suc i) = bytes_take n xs (λ j. h (suc j)) i

pub bytes_drop : (n : ℕ) (xs : List ℕ) → Bytes xs → Bytes (drop n xs)
bytes_drop zero xs h i = h i
bytes_drop (suc n) [] h i = omega arith
bytes_drop (suc n) (x ∷ xs) h i = bytes_drop n xs (λ j. h (suc j)) i

pub length_sealed : (xs : List ℕ) → length (with_checksum xs) ≡ length xs + 2
unfolding with_checksum
length_sealed xs = length-append xs (crc_bytes (crc_of xs))

-- What carries its checksum ends in it ..
pub sealed_ends : (xs : List ℕ) → ends_in_checksum (with_checksum xs) ≡ true
unfolding with_checksum ends_in_checksum
sealed_ends xs =
    let tail : List ℕ = crc_bytes (crc_of xs) in
    let n : length (xs ++ tail) - 2 ≡ length xs = ap (λ k. k - 2) (length-append xs tail) ∙ add-sub_cancel (length xs) 2 in
    let first : get_or (xs ++ tail) (length xs) 0 ≡ crc_of xs / 256 = ap (λ k. get_or (xs ++ tail) k 0) (omega arith) ∙ get_or-append-add xs tail 0 0 in
    let second : get_or (xs ++ tail) (length xs + 1) 0 ≡ crc_of xs % 256 = get_or-append-add xs tail 1 0 in
    let word : word_at (xs ++ tail) (length xs) ≡ crc_of xs = ap₂ be_word first second ∙ div-add-mod' (crc_of xs) 256 in
    rw n (eq-eqb _ _ (word ∙ sym (ap crc_of (take_at xs tail (length xs) refl))))

-- .. and bytes that end in their checksum are their front with the checksum behind it.
pub ends_back : (p : List ℕ) → Bytes p → 2 ≤ length p → ends_in_checksum p ≡ true → p ≡ with_checksum (take (length p - 2) p)
unfolding with_checksum ends_in_checksum
ends_back p bytes long e =
    let n : ℕ = length p - 2 in
    let end : length (drop n p) ≡ 2 = length-drop n p ∙ omega arith in
    let same : drop n p ≡ get_or (drop n p) 0 0 ∷ get_or (drop n p) 1 0 ∷ [] = two_long (drop n p) end in
    let high : get_or (drop n p) 0 0 ≡ get_or p n 0 = get_or-drop n p 0 0 ∙ ap (λ k. get_or p k 0) (omega arith) in
    let low : get_or (drop n p) 1 0 ≡ get_or p (n + 1) 0 = get_or-drop n p 1 0 in
    let word : word_at p n ≡ crc_of (take n p) = grind arith in
    let tail : crc_bytes (crc_of (take n p)) ≡ drop n p =
    ap be_bytes (sym word) ∙ be_back (byte_at p n) (byte_at p (n + 1)) (bytes n) (bytes (n + 1)) ∙ sym (same ∙ ap₂ (λ x y. x ∷ y ∷ []) high low) in
    sym (ap (λ t. take n p ++ t) tail ∙ take-append-drop n p)

-- Behind bytes of checksum 0 the checksum of what follows is that of all.
pub sealed_behind : (xs ys : List ℕ) → crc_of xs ≡ 0 → xs ++ with_checksum ys ≡ with_checksum (xs ++ ys)
unfolding with_checksum
sealed_behind xs ys zeroed =
    let same : crc_of (xs ++ ys) ≡ crc_of ys = crc_append xs ys 0 ∙ ap (λ r. crc_from r ys) zeroed in
    sym (ap (λ k. (xs ++ ys) ++ crc_bytes k) same ∙ append_assoc xs ys (crc_bytes (crc_of ys)))
