use Rattle.std.proofs.Common.{◌≡◌, ℕ, zero, suc, ◌+◌, ◌*◌, ◌/◌, ◌^◌, ◌<◌, List, rules, arith, slice_index, bit_and, subst, sym, ap, ◌∙◌, pow-add}
use Rattle.std.specs.Fn.{Called}
use Rattle.std.specs.Array.{IsFromFnResultFrom}
use Rattle.std.proofs.Math.Nat.{div-div-eq-div-mul}
use Rattle.std.proofs.lemmas.Nat.{and_mask}
use Rattle.std.proofs.lemmas.Grind.{same_number_lists}
use denote.Param.Members.{Mut}
use Rattle.words.specs.Words.{number_words, word_size}
use Rattle.words.specs.Numbers.{length-number_words}
use Rattle.words.proofs.low_words.Goals as goal

-- What calls made, of which each gives the value of a function at its index.
made : {F : Type 0} {g : Mut F (ℕ × Unit {0}) ℕ} {f : F} (h : ℕ → ℕ) → ((i y : ℕ) (q : F) → Called g f (i, tt) y q → (q ≡ f) × (y ≡ h i))
    → (ys : List ℕ) (i n : ℕ) → IsFromFnResultFrom g f ys i n → (j k : ℕ) → i + j ≡ k → j < n → slice_index ys k ≡ h k
made h call ys i zero e j k at below = absurd (omega arith)
made h call ys i (suc n) (q, y, here, called, rest) zero k at below =
    let same : i ≡ k = omega arith in
    subst (λ x. slice_index ys x ≡ h x) same (here.1 0 ∙ (call i y q called).1)
made {g = g} h call ys i (suc n) (q, y, here, called, rest) (suc j) k at below =
    made h call ys (i + 1) n (subst (λ s. IsFromFnResultFrom g s ys (i + 1) n) (call i y q called).0 rest) j k (omega arith) (omega arith)

-- A word of a number is what is left of the number's shift to the right.
number_words_at : (n v k : ℕ) → k < n → slice_index (number_words n v) k ≡ bit_and (v / 2 ^ (16 * k)) 0xffff
number_words_at zero v k h = absurd (omega arith)
number_words_at (suc n) v zero h = omega (arith, and_mask (v / 1) 16)
number_words_at (suc n) v (suc k) h =
    let shifted : v / word_size / 2 ^ (16 * k) ≡ v / 2 ^ (16 * suc k) =
    div-div-eq-div-mul v word_size (2 ^ (16 * k)) ∙ ap (λ d. v / d) (sym (pow-add 2 16 (16 * k)) ∙ ap (λ e. 2 ^ e) (omega arith)) in
    number_words_at n (v / word_size) k (omega arith) ∙ ap (λ x. bit_and x 0xffff) shifted

pub returns : goal.returns
returns g c =
    let word = λ (k : ℕ). bit_and (c.args.number / 2 ^ (16 * k)) 0xffff in
    record {
      value = same_number_lists c.from_fn.result (number_words g.row.N c.args.number)
          (c.from_fn.ensures.items.long ∙ sym (length-number_words g.row.N c.args.number))
          (λ k h. made word (λ i y q e. search rules) _ 0 g.row.N c.from_fn.ensures.items.each k k (omega arith) (omega (arith, c.from_fn.ensures.items.long))
          ∙ sym (number_words_at g.row.N c.args.number k (omega (arith, c.from_fn.ensures.items.long))));
    }
