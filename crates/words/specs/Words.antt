-- A value as a list of sixteen-bit words, low word first.
use Rattle.std.specs.Prelude.{◌≡◌, ℕ, zero, suc, ◌+◌, ◌*◌, ◌/◌, ◌%◌, ◌<◌, cond, List, [], ◌∷◌, length, drop, ℤ, Ok, Err, Result, ◌==◌, slice_index}
use Rattle.std.specs.Int.{w32}
use Rattle.std.proofs.Common.{to_z, of_z}
use Rattle.words.specs.declared.Region.{Region}
use Rattle.words.specs.declared.WrongSize.{WrongSize}

-- how many numbers a word can be
abbrev pub word_size : ℕ
word_size = 65536

-- so many words, each of sixteen bits
abbrev pub Words : ℕ → List ℕ → Type 0
Words count words = (length words ≡ count) × ((k : ℕ) → slice_index words k < word_size)

-- a number's lowest words, the lowest first
abbrev pub number_words : ℕ → ℕ → List ℕ
number_words zero number = []
number_words (suc count) number = number % word_size ∷ number_words count (number / word_size)

-- the number of so many words, of which the first is the lowest
abbrev pub words_number : ℕ → List ℕ → ℕ
words_number zero words = 0
words_number (suc count) words = slice_index words 0 + word_size * words_number count (drop 1 words)

-- a signed number's two words, in two's complement
abbrev pub signed_words : ℤ → List ℕ
signed_words number = number_words 2 (of_z w32 number)

-- the signed number of two words in two's complement
abbrev pub words_signed : List ℕ → ℤ
words_signed words = to_z w32 (words_number 2 words)

-- a region's words: the column and the row of its start, then those of its end
abbrev pub region_words : Region → List ℕ
region_words region =
    region.start_column ∷ region.start_row ∷ region.end_column ∷ region.end_row ∷ []

-- the region of four words
abbrev pub words_region : List ℕ → Region
words_region words =
    record { start_column = slice_index words 0; start_row = slice_index words 1; end_column = slice_index words 2; end_row = slice_index words 3 }

-- a region whose four numbers are words
abbrev pub RegionFits : Region → Type 0
RegionFits region =
    (region.start_column < word_size)
    × (region.start_row < word_size)
    × (region.end_column < word_size)
    × (region.end_row < word_size)

-- the answer on a slice of so many words, and a refusal on any other
abbrev pub sized : {A : Type 0} → ℕ → List ℕ → A → Result A WrongSize
sized count slice value = cond (length slice == count) (Ok value) (Err (record {}))

-- a slice after words were put into it: these words, or all as it was if the size is another
abbrev pub filled : ℕ → List ℕ → List ℕ → List ℕ
filled count words slice = cond (length slice == count) words slice

-- the number by which the refusal is known outside
abbrev pub refusal_number : WrongSize → ℕ
refusal_number refusal = 6
