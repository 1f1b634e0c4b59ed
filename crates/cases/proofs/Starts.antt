-- The cameras of the worked sequences have all their words, each of sixteen bits: each list is tested, by computing.
use Rattle.std.proofs.Common.{◌≡◌, ℕ, zero, suc, ◌<◌, ◌≤◌, Bool, true, false, cond, eqb, List, [], ◌∷◌, length, replicate, None, Some, pos, refl, sym, ap, subst, arith, w8, SFits, lit<}
use Rattle.std.specs.Prelude.{◌==◌, slice_index}
use Rattle.checks.specs.Tests.{both}
use Rattle.words.specs.Words.{Words as Filled}
use Rattle.camera.specs.declared.attribute.Kind.TheVariants.{Set}
use Rattle.camera.specs.Attributes.{all_at_most, attribute_at, is_saved, size_of, start_words}
use Rattle.camera.specs.Execution.{only_saved}
use Rattle.camera.specs.State.{Words}
use Rattle.calls.proofs.CameraTable.{number_bound, settable_from_saved}
use Rattle.cases.specs.Sequences.{StartsArePossible}

-- the test of one list, and what it shows
fits : ℕ → List ℕ → Bool
fits n ws = both (length ws == n) (all_at_most 65535 ws)

low : (ws : List ℕ) → all_at_most 65535 ws ≡ true → (k : ℕ) → slice_index ws k < 65536
unfolding all_at_most
low [] e k = omega arith
low (w ∷ ws) e zero = let here : w ≤ 65535 = grind (arith, e) in omega (arith, here)
low (w ∷ ws) e (suc k) = let rest : all_at_most 65535 ws ≡ true = grind (arith, e) in low ws rest k

filled : (n : ℕ) (ws : List ℕ) → fits n ws ≡ true → Filled n ws
unfolding fits
filled n ws e =
    let size : length ws ≡ n = grind (arith, e) in
    let each : all_at_most 65535 ws ≡ true = grind (arith, e) in
    (size, low ws each)

-- the test of the words of all attributes below a number
all_fit : (ℕ → List ℕ) → ℕ → Bool
all_fit words zero = true
all_fit words (suc n) = both (fits (size_of n) (words n)) (all_fit words n)

each_fits : (words : ℕ → List ℕ) (n : ℕ) → all_fit words n ≡ true → (k : ℕ) → k < n → fits (size_of k) (words k) ≡ true
unfolding all_fit
each_fits words zero e k short = absurd (omega arith)
each_fits words (suc n) e k short =
    let last : fits (size_of n) (words n) ≡ true = grind (arith, e) in
    let rest : all_fit words n ≡ true = grind (arith, e) in
    go last (λ below. each_fits words n rest k below) (eqb k n) refl
  where
    go : fits (size_of n) (words n) ≡ true → (k < n → fits (size_of k) (words k) ≡ true) → (b : Bool) → eqb k n ≡ b → fits (size_of k) (words k) ≡ true
    go last others true is = let same : k ≡ n = grind (arith, is) in subst (λ j. fits (size_of j) (words j) ≡ true) (sym same) last
    go last others false is = others (grind (arith, is, short))

all_filled : (words : ℕ → List ℕ) → all_fit words 20 ≡ true → (k : ℕ) → k < 20 → Filled (size_of k) (words k)
all_filled words e k short = filled (size_of k) (words k) (each_fits words 20 e k short)

-- the start words pass, the words saved do, and the registers
start_words_filled : (k : ℕ) → k < 20 → Filled (size_of k) (start_words k)
unfolding all_fit fits all_at_most attribute_at start_words
start_words_filled = all_filled start_words refl

data_filled : Filled 16 (replicate 16 0)
unfolding fits all_at_most
data_filled = filled 16 (replicate 16 0) refl

block_filled : Filled 512 (replicate 512 0)
unfolding fits all_at_most
block_filled = filled 512 (replicate 512 0) refl

defaults : ℕ → List ℕ
defaults k = cond (k == 12) (100 ∷ 0 ∷ []) (start_words k)

defaults_filled : (k : ℕ) → k < 20 → Filled (size_of k) (defaults k)
unfolding all_fit fits all_at_most attribute_at start_words defaults
defaults_filled = all_filled defaults refl

saved_filled : (k : ℕ) → is_saved k ≡ true → Filled (size_of k) (only_saved defaults k)
unfolding only_saved
saved_filled k e =
    subst (Filled (size_of k)) (sym (ap (λ b. cond b (defaults k) []) e))
    (defaults_filled k (number_bound Set k (settable_from_saved k e)))

saved_before_filled : (words : Words) → Some (only_saved defaults) ≡ Some words → (k : ℕ) → is_saved k ≡ true → Filled (size_of k) (words k)
saved_before_filled words is k e =
    let same : only_saved defaults ≡ words = cc in
    subst (λ w. Filled (size_of k) (w k)) same (saved_filled k e)

nothing_saved : (words : Words) → None ≡ Some words → (k : ℕ) → is_saved k ≡ true → Filled (size_of k) (words k)
nothing_saved words is k e = absurd cc

zero_bits : SFits w8 (pos 0)
zero_bits = record { sfits = omega arith }

pub starts : StartsArePossible
unfolding defaults
starts =
    record {
      at_rest = λ coming marks.
          record {
            size_bits = lit< tt;
            data_full = data_filled;
            block_full = block_filled;
            code_bits = zero_bits;
            count_bits = lit< tt;
            words_full = start_words_filled;
            saved_full = nothing_saved;
          };
      boots = λ polls coming marks.
          record {
            size_bits = lit< tt;
            data_full = data_filled;
            block_full = block_filled;
            code_bits = zero_bits;
            count_bits = lit< tt;
            words_full = start_words_filled;
            saved_full = nothing_saved;
          };
      counts = λ count coming marks below.
          record {
            size_bits = lit< tt;
            data_full = data_filled;
            block_full = block_filled;
            code_bits = zero_bits;
            count_bits = below;
            words_full = start_words_filled;
            saved_full = nothing_saved;
          };
      has_saved =
          record {
            size_bits = lit< tt;
            data_full = data_filled;
            block_full = block_filled;
            code_bits = zero_bits;
            count_bits = lit< tt;
            words_full = start_words_filled;
            saved_full = saved_before_filled;
          };
    }
