-- The words of a new head's attributes.
use Rattle.std.proofs.Common.{◌≡◌, ℕ, ◌<◌, ◌≤◌, Bool, true, false, leb, List, [], ◌∷◌, length, get_or, take, replicate, refl, sym, ap, ◌∙◌, arith}
use mathlib.Core.Path.{fun_ext}
use Rattle.camera.specs.Registers.{over}
use Rattle.camera.specs.Attributes.{asked, size_of, start_words}
use Rattle.camera.specs.Execution.{with_one}
use Rattle.camera.specs.State.{Words}
use Rattle.words.specs.Words.{number_words}
use Rattle.head.specs.declared.inner.Record.{Record}
use Rattle.head.specs.Making.{made_words}
use Rattle.head.specs.Meaning.{blank, words_in}
use Rattle.head.proofs.Tables.{size_past}

-- A table is filled up to a place: the records below it have their start words.
pub record Begun (records : List Record) (n : ℕ) : Type 0 where
  pub size : length records ≡ 20
  pub below : (k : ℕ) → k < n → take (size_of k) (get_or records k blank).words ≡ start_words k

-- A table whose records have their start words has all of them: past it there are none.
pub started_words : (records : List Record) → ((k : ℕ) → k < 20 → take (size_of k) (get_or records k blank).words ≡ start_words k) → words_in records ≡ start_words
unfolding words_in start_words
started_words records all = fun_ext (λ k. go k (leb 20 k) refl)
  where
    go : (k : ℕ) (b : Bool) → leb 20 k ≡ b → take (size_of k) (get_or records k blank).words ≡ take (size_of k) (over (asked (λ a. a.start) [] k) (replicate 512 0))
    go k true e =
        let far : 20 ≤ k = grind (arith, e) in
        ap (λ m. take m (get_or records k blank).words) (size_past k far) ∙ sym (ap (λ m. take m (over (asked (λ a. a.start) [] k) (replicate 512 0))) (size_past k far))
    go k false e = all k (grind (arith, e))

-- The serial number and the sensor's temperature over the start words are the words of a new head.
pub new_words : (serial fpa : ℕ) (f s : List ℕ) (started f_set s_set : Words) → f ≡ fpa ∷ [] → s ≡ number_words 4 serial →
    started ≡ start_words → f_set ≡ with_one 3 f started → s_set ≡ with_one 2 s f_set → s_set ≡ made_words serial fpa
unfolding made_words with_one
new_words serial fpa f s started f_set s_set is_f is_s is e_f e_s =
    e_s ∙ ap (λ ws. with_one 2 ws f_set) is_s ∙ ap (with_one 2 (number_words 4 serial)) (e_f ∙ ap (λ ws. with_one 3 ws started) is_f ∙ ap (with_one 3 (fpa ∷ [])) is)
