use Rattle.std.proofs.Common.{rules, arith, ap, refl, sym, ◌∙◌, ◌≡◌, ℕ, ◌*◌, ◌/◌, ◌%◌, ◌==◌, ◌<◌, get_or, length, List, Bool, cond, true, false, nat_le}
use Rattle.camera.specs.Attributes.{colour_fits, colours_fit}
use Rattle.camera.proofs.Lists.{all_is}
use Rattle.camera.proofs.limits.colours_fit.Goals as goal

-- where each word of an even place is 255 at most, each word fits its place
fits : (xs : List ℕ) → ((k : ℕ) → k * 2 < length xs → nat_le (get_or xs (k * 2) 0) 255 ≡ true) → (i : ℕ) → i < length xs → colour_fits i (get_or xs i 0) ≡ true
fits xs all i l = cases (get_or xs i 0) (i % 2 == 0) (λ even. let same : i / 2 * 2 ≡ i = grind arith in ap (λ j. nat_le (get_or xs j 0) 255) (sym same) ∙ all (i / 2) (omega arith))
  where
    cases : (w : ℕ) (b : Bool) → (b ≡ true → nat_le w 255 ≡ true) → cond b (nat_le w 255) true ≡ true
    cases w true h = h refl
    cases w false h = refl

-- where one is more, it does not fit
misses : (k : ℕ) (w : ℕ) → nat_le w 255 ≡ false → colour_fits (k * 2) w ≡ false
misses k w e = grind arith

pub returns : goal.returns
unfolding colours_fit
returns c =
    let xs = c.args.words.now in
    let all : c.all.result ≡ true → (k : ℕ) → k * 2 < length xs → nat_le (get_or xs (k * 2) 0) 255 ≡ true = λ e k h. search rules in
    let miss : c.all.result ≡ false → (k : ℕ) × (k * 2 < length xs) × (nat_le (get_or xs (k * 2) 0) 255 ≡ false) = λ e. search rules in
    record {
      value = all_is colour_fits colours_fit (λ _. refl) (λ _ _ _. refl) xs 0 c.all.result (λ e. fits xs (all e))
          (λ e. ((miss e).0 * 2, (miss e).1, misses (miss e).0 _ (miss e).2));
    }
