use Rattle.std.proofs.Common.{◌≡◌, ℕ, zero, suc, ◌*◌, ◌%◌, ◌^◌, ◌<◌, ◌≤◌, List, [], ◌∷◌, reverse, rules, arith, bit_or, refl, ap, ◌∙◌}
use Rattle.std.specs.List.{fold}
use Rattle.std.proofs.Math.Nat.{pow-le-pow_right}
use Rattle.std.proofs.lemmas.List.{reverse-append}
use Rattle.std.proofs.lemmas.List.Sums.{fold_push}
use Rattle.std.proofs.lemmas.Grind.{or_after_shift}
use Rattle.words.specs.Words.{Words, words_number, word_size}
use Rattle.words.specs.Numbers.{Words_behind, words_number_fits}
use Rattle.words.proofs.number_of.Goals as goal

-- a word, put behind the words of a number
abbrev behind : ℕ → ℕ → ℕ
behind high word = bit_or (high * word_size % 2 ^ 64) word

folded : (n : ℕ) (ws : List ℕ) → n ≤ 4 → Words n ws → fold behind 0 (reverse ws) ≡ words_number n ws
folded zero [] few h = refl
folded zero (w ∷ ws) few h = absurd (omega (arith, h.0))
folded (suc n) [] few h = absurd (omega (arith, h.0))
folded (suc n) (w ∷ ws) few h =
    let m = words_number n ws in
    let is : fold behind 0 (reverse ws) ≡ m = folded n ws (omega arith) (Words_behind n w ws h) in
    let top : word_size ^ n ≤ word_size ^ 3 = pow-le-pow_right (omega arith) {i = n} {j = 3} (omega arith) in
    let room : m * word_size < 2 ^ 64 = omega (arith, words_number_fits n ws (Words_behind n w ws h)) in
    ap (fold behind 0) (reverse-append (w ∷ []) ws) ∙ fold_push behind 0 (reverse ws) w ∙ ap (λ high. behind high w) is
    ∙ or_after_shift m word_size (2 ^ 64) w refl (h.1 0) room ∙ (omega arith)

pub returns : goal.returns
returns g c =
    let words : Words g.row.N c.args.words.now = (omega arith, λ k. search rules) in
    let run : c.fold.result ≡ fold behind 0 (reverse c.args.words.now) = search rules in
    let value : c.fold.result ≡ words_number g.row.N c.args.words.now = run ∙ folded g.row.N c.args.words.now c.requires words in
    record { answer = search rules; bound = omega (arith, words_number_fits g.row.N c.args.words.now words) }
