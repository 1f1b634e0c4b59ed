-- Bytes laid behind one another over the front of a buffer.
use Rattle.std.proofs.Common.{◌≡◌, ℕ, ◌+◌, ◌-◌, ◌≤◌, List, ◌++◌, length, take, drop, sym, ap, ◌∙◌, ap₂, refl, arith}
use native.Mathlib.Nat.{add-sub_cancel_left}
use Rattle.std.proofs.lemmas.List.{append_assoc, length-append, length-drop, length-take, take-take, take_at, drop_at, drop-drop}
use Rattle.crc.specs.Crc.{crc_of, crc_bytes}
use Rattle.packet.specs.Layout.{laid, over, with_checksum}

-- One part more, right behind those that have been laid.
pub over_more : (xs part out : List ℕ) (n : ℕ) → length xs ≡ n → laid (over xs out) n part ≡ over (xs ++ part) out
over_more xs part out n e =
    let m : ℕ = length part in
    let rest : drop (n + m) (xs ++ drop (length xs) out) ≡ drop (length (xs ++ part)) out =
    sym (drop-drop m n (xs ++ drop (length xs) out)) ∙ ap (drop m) (drop_at xs (drop (length xs) out) n e)
    ∙ drop-drop m (length xs) out ∙ ap (λ k. drop k out) (sym (length-append xs part)) in
    ap₂ (λ a b. a ++ (part ++ b)) (take_at xs (drop (length xs) out) n e) rest ∙ sym (append_assoc xs part (drop (length (xs ++ part)) out))

-- The same where the part is copied into a range of the buffer.
pub over_range : (xs part out : List ℕ) (n : ℕ) → length xs ≡ n →
    take n (over xs out) ++ (part ++ drop (n + length part - n) (drop n (over xs out))) ≡ over (xs ++ part) out
over_range xs part out n e =
    let m : ℕ = length part in
    ap (λ k. take n (over xs out) ++ (part ++ drop k (drop n (over xs out)))) (add-sub_cancel_left n m)
    ∙ ap (λ rest. take n (over xs out) ++ (part ++ rest)) (drop-drop m n (over xs out)) ∙ over_more xs part out n e

-- What has been laid is the front of the buffer, cut off two bytes further on and without the last two.
pub laid_front : (xs out : List ℕ) (n : ℕ) → length xs ≡ n → n + 2 ≤ length out →
    take (length (take (n + 2) (over xs out)) - 2) (take (n + 2) (over xs out)) ≡ xs
laid_front xs out n e fits =
    let all : List ℕ = over xs out in
    let whole : length all ≡ length xs + length (drop (length xs) out) = length-append xs (drop (length xs) out) in
    let long : length (take (n + 2) all) - 2 ≡ n = omega (arith, whole, e, length-take (n + 2) all, length-drop (length xs) out) in
    ap (λ k. take k (take (n + 2) all)) long ∙ take-take n (n + 2) all (omega arith) ∙ take_at xs (drop (length xs) out) n e

-- The same of the checksum of what has been laid, where the front of the buffer that ends behind it is sealed.
pub over_sealed : (xs out : List ℕ) (n : ℕ) → length xs ≡ n → n + 2 ≤ length out →
    with_checksum (take (length (take (n + 2) (over xs out)) - 2) (take (n + 2) (over xs out))) ++ drop (n + 2) (over xs out) ≡ over (with_checksum xs) out
unfolding with_checksum
over_sealed xs out n e fits =
    let rest : List ℕ = drop (n + 2) (over xs out) in
    ap (λ bytes. with_checksum bytes ++ rest) (laid_front xs out n e fits) ∙ append_assoc xs (crc_bytes (crc_of xs)) rest
    ∙ ap (λ bytes. bytes ++ (crc_bytes (crc_of xs) ++ rest)) (sym (take_at xs (drop (length xs) out) n e))
    ∙ over_more xs (crc_bytes (crc_of xs)) out n e

-- The same where what stands behind a front is sealed, and not the front.
pub over_sealed_behind : (xs part out : List ℕ) (n k : ℕ) → length xs ≡ n → k ≡ length part + 2 → n + k ≤ length out →
    take n (over (xs ++ part) out)
    ++ (with_checksum (take (length (take k (drop n (over (xs ++ part) out))) - 2) (take k (drop n (over (xs ++ part) out)))) ++ drop k (drop n (over (xs ++ part) out)))
    ≡ over (xs ++ with_checksum part) out
over_sealed_behind xs part out n k e size fits =
    let m : ℕ = length part in
    let rest : List ℕ = drop (length (xs ++ part)) out in
    let behind : rest ≡ drop m (drop n out) = ap (λ i. drop i out) (length-append xs part ∙ ap (λ i. i + m) e) ∙ sym (drop-drop m n out) in
    let front : take n (over (xs ++ part) out) ≡ xs = ap (take n) (append_assoc xs part rest) ∙ take_at xs (part ++ rest) n e in
    let back : drop n (over (xs ++ part) out) ≡ over part (drop n out) =
    ap (drop n) (append_assoc xs part rest) ∙ drop_at xs (part ++ rest) n e ∙ ap (λ r. part ++ r) behind in
    let long : m + 2 ≤ length (drop n out) = omega (arith, length-drop n out) in
    let sealed_at : ℕ → List ℕ → List ℕ = λ i x. with_checksum (take (length (take i x) - 2) (take i x)) ++ drop i x in
    let last : drop (length (with_checksum part)) (drop n out) ≡ drop (length (xs ++ with_checksum part)) out =
    drop-drop (length (with_checksum part)) n out ∙ ap (λ i. drop i out) (ap (λ i. i + length (with_checksum part)) (sym e) ∙ sym (length-append xs (with_checksum part))) in
    ap₂ (λ a x. a ++ sealed_at k x) front back ∙ ap (λ i. xs ++ sealed_at i (over part (drop n out))) size
    ∙ ap (λ x. xs ++ x) (over_sealed part (drop n out) m refl long ∙ ap (λ x. with_checksum part ++ x) last)
    ∙ sym (append_assoc xs (with_checksum part) (drop (length (xs ++ with_checksum part)) out))
