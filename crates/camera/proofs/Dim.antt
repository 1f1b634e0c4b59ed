-- Whether no word of a list is above a greatest one, word by word and by parts of the list.
use Rattle.std.proofs.Common.{◌≡◌, ℕ, ◌+◌, ◌<◌, Bool, true, false, leb, List, [], ◌∷◌, ◌++◌, length, get_or, take, drop, ◌&&◌, refl, sym, ap, ◌∙◌, take-append-drop}
use Rattle.std.proofs.lemmas.List.{at_drop_more}
use Rattle.checks.specs.Tests.{both}
use Rattle.camera.specs.Attributes.{all_at_most}

nested : (b c d : Bool) → both b (both c d) ≡ both (both b c) d
nested true c d = refl
nested false c d = refl

-- one word on
pub one_on : (greatest i : ℕ) (words : List ℕ) (so_far : Bool) → i < length words →
    both so_far (all_at_most greatest (drop i words)) ≡ both (so_far && leb (get_or words i 0) greatest) (all_at_most greatest (drop (i + 1) words))
unfolding all_at_most
one_on greatest i words so_far h =
    ap (both so_far) (at_drop_more (all_at_most greatest) words i 0 h) ∙ joined so_far (leb (get_or words i 0) greatest) (all_at_most greatest (drop (i + 1) words))
  where
    joined : (b c d : Bool) → both b (both c d) ≡ both (b && c) d
    joined true c d = refl
    joined false c d = refl

in_parts : (greatest : ℕ) (part rest : List ℕ) → all_at_most greatest (part ++ rest) ≡ both (all_at_most greatest part) (all_at_most greatest rest)
unfolding all_at_most
in_parts greatest [] rest = refl
in_parts greatest (word ∷ part) rest = ap (both (leb word greatest)) (in_parts greatest part rest) ∙ nested (leb word greatest) (all_at_most greatest part) (all_at_most greatest rest)

-- the first words, and those behind them
pub first_and_rest : (greatest n : ℕ) (words part rest : List ℕ) → part ≡ take n words → rest ≡ drop n words →
    all_at_most greatest words ≡ both (all_at_most greatest part) (all_at_most greatest rest)
first_and_rest greatest n words part rest is_part is_rest =
    ap (all_at_most greatest) (sym (take-append-drop n words))
    ∙ ap (λ ws. all_at_most greatest (ws ++ drop n words)) (sym is_part)
    ∙ ap (λ ws. all_at_most greatest (part ++ ws)) (sym is_rest)
    ∙ in_parts greatest part rest
