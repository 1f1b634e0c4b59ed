-- The laws of a codec, and that the codecs of numbers, of signed numbers and of regions keep them.
use Rattle.std.specs.Prelude.{◌≡◌, ℕ, ◌^◌, ◌<◌, List, FitsSigned}
use Rattle.std.specs.Int.{w32}
use Rattle.std.proofs.Common.{ap, ◌∙◌, rules, arith}
use Rattle.std.proofs.lemmas.Int.{of_z-to_z}
use Rattle.std.proofs.lemmas.List.{places, same_lists}
use Rattle.words.specs.Words.{RegionFits, Words, number_words, region_words, signed_words, word_size, words_number, words_region, words_signed}
use Rattle.words.specs.Numbers.{number_words-words_number, number_words_size, words_number-number_words, words_number_fits}

-- the laws of a codec, of which fits says that a value is one of the type
pub record IsCodec {A : Type 0} (count : ℕ) (fits : A → Type 0) (encoded : A → List ℕ) (decoded : List ℕ → A) : Type 0 where
  -- a value has that many words, each of sixteen bits
  pub size : (v : A) → fits v → Words count (encoded v)
  -- what was put is taken back
  pub back : (v : A) → fits v → decoded (encoded v) ≡ v
  -- the words that are taken are those that the value puts: no value has two spellings
  pub same : (ws : List ℕ) → Words count ws → encoded (decoded ws) ≡ ws
  -- what is taken is a value of the type
  pub taken : (ws : List ℕ) → Words count ws → fits (decoded ws)

-- the codec of numbers of so many words
pub number_words_codec : (n : ℕ) → IsCodec n (λ v. v < word_size ^ n) (number_words n) (words_number n)
number_words_codec n =
    record {
      size = λ v h. number_words_size n v;
      back = words_number-number_words n;
      same = number_words-words_number n;
      taken = words_number_fits n;
    }

-- the codec of signed numbers of two words
pub signed_words_codec : IsCodec 2 (FitsSigned w32) signed_words words_signed
signed_words_codec =
    record {
      size = search rules;
      back = search rules;
      same = λ ws h. ap (number_words 2) (of_z-to_z w32 (words_number 2 ws) (words_number_fits 2 ws h)) ∙ number_words-words_number 2 ws h;
      taken = search rules;
    }

-- the codec of regions
pub region_words_codec : IsCodec 4 RegionFits region_words words_region
region_words_codec =
    record {
      size = search rules;
      back = search rules;
      same = λ ws h. same_lists (region_words (words_region ws)) ws (omega (arith, h.0)) (λ k d l. grind (arith, places));
      taken = search rules;
    }
