-- A number and its words, whatever their count: each law by an induction over the words.
use Rattle.std.specs.Prelude.{◌≡◌, ℕ, zero, suc, ◌+◌, ◌*◌, ◌/◌, ◌%◌, ◌^◌, ◌<◌, List, [], ◌∷◌, length, slice_index, refl}
use Rattle.std.proofs.Common.{ap, ap₂, ◌∙◌, pow-suc, arith}
use Rattle.words.specs.Words.{Words, number_words, word_size, words_number}

-- a number has as many words as are asked for
pub length-number_words : (n v : ℕ) → length (number_words n v) ≡ n
length-number_words zero v = refl
length-number_words (suc n) v = ap suc (length-number_words n (v / word_size))

-- each of them has sixteen bits
number_words_below : (n v k : ℕ) → slice_index (number_words n v) k < word_size
number_words_below zero v k = omega arith
number_words_below (suc n) v zero = omega arith
number_words_below (suc n) v (suc k) = number_words_below n (v / word_size) k

-- what they are, all in one
pub number_words_size : (n v : ℕ) → Words n (number_words n v)
number_words_size n v = (length-number_words n v, number_words_below n v)

-- the words behind the first
pub Words_behind : (n w : ℕ) (ws : List ℕ) → Words (suc n) (w ∷ ws) → Words n ws
Words_behind n w ws h = (omega (arith, h.0), λ k. h.1 (suc k))

-- the number of so many words is below as many powers of a word's size
pub words_number_fits : (n : ℕ) (ws : List ℕ) → Words n ws → words_number n ws < word_size ^ n
words_number_fits zero ws h = omega arith
words_number_fits (suc n) [] h = absurd (omega (arith, h.0))
words_number_fits (suc n) (w ∷ ws) h =
    omega (arith, h.1 0, words_number_fits n ws (Words_behind n w ws h), pow-suc word_size n)

-- a number that has so many words is the number of these words
pub words_number-number_words : (n v : ℕ) → v < word_size ^ n → words_number n (number_words n v) ≡ v
words_number-number_words zero v h = omega arith
words_number-number_words (suc n) v h =
    let high : v / word_size < word_size ^ n = omega (arith, pow-suc word_size n) in
    omega (arith, words_number-number_words n (v / word_size) high)

-- words are those of their number
pub number_words-words_number : (n : ℕ) (ws : List ℕ) → Words n ws → number_words n (words_number n ws) ≡ ws
number_words-words_number zero [] h = refl
number_words-words_number zero (w ∷ ws) h = absurd (omega (arith, h.0))
number_words-words_number (suc n) [] h = absurd (omega (arith, h.0))
number_words-words_number (suc n) (w ∷ ws) h =
    let m = words_number n ws in
    let low : (w + word_size * m) % word_size ≡ w = omega (arith, h.1 0) in
    let high : (w + word_size * m) / word_size ≡ m = omega (arith, h.1 0) in
    ap₂ ◌∷◌ low (ap (number_words n) high ∙ number_words-words_number n ws (Words_behind n w ws h))
