-- One record changed, and the saved records put back, as the words of the attributes see it.
use Rattle.std.proofs.Common.{◌≡◌, ℕ, ◌<◌, ◌≤◌, Bool, true, false, cond, eqb, leb, ◌≢◌, List, [], length, get_or, take, set, None, sym, refl, ap, ◌∙◌, arith}
use mathlib.Core.Path.{fun_ext}
use Rattle.std.proofs.lemmas.List.{get_or-set_same, get_or-set_other}
use Rattle.std.proofs.lemmas.Option.{slice_get_past}
use Rattle.camera.specs.Attributes.{attribute_at, attributes, is_saved, size_of}
use Rattle.camera.specs.Execution.{only_saved, put_back, with_one}
use Rattle.camera.proofs.Changes.{with_one_same, with_one_other}
use Rattle.head.specs.declared.inner.Record.{Record}
use Rattle.head.specs.Meaning.{after_restore, blank, words_in}

-- past the table there is no attribute, and so there are no words
past : (k : ℕ) → 20 ≤ k → attribute_at k ≡ None
unfolding attribute_at
past k h = slice_get_past attributes k h

pub size_past : (k : ℕ) → 20 ≤ k → size_of k ≡ 0
unfolding attribute_at
size_past k h = rw (past k h, size_of)

saved_past : (k : ℕ) → 20 ≤ k → is_saved k ≡ false
unfolding attribute_at
saved_past k h = rw (past k h, is_saved)

-- One record exchanged, or none past the table, exchanges the words of one attribute.
pub set_words : (records : List Record) (n : ℕ) (r : Record) → length records ≡ 20 →
    words_in (set records n r) ≡ with_one n (take (size_of n) r.words) (words_in records)
unfolding words_in
set_words records n r full = fun_ext (λ k. go k (eqb k n) refl)
  where
    own : (b : Bool) → leb 20 n ≡ b → take (size_of n) (get_or (set records n r) n blank).words ≡ take (size_of n) r.words
    own true e =
        let none : size_of n ≡ 0 = size_past n (grind (arith, e)) in
        ap (λ m. take m (get_or (set records n r) n blank).words) none ∙ sym (ap (λ m. take m r.words) none)
    own false e =
        let short : n < length records = grind (arith, e, full) in
        ap (λ x. take (size_of n) x.words) (get_or-set_same records n r blank short)

    go : (k : ℕ) (b : Bool) → eqb k n ≡ b → take (size_of k) (get_or (set records n r) k blank).words ≡ with_one n (take (size_of n) r.words) (words_in records) k
    go k true e =
        let same : k ≡ n = grind (arith, e) in
        ap (λ j. take (size_of j) (get_or (set records n r) j blank).words) same ∙ own (leb 20 n) refl
        ∙ sym (ap (with_one n (take (size_of n) r.words) (words_in records)) same ∙ with_one_same n (take (size_of n) r.words) (words_in records))
    go k false e =
        let other : k ≢ n = λ same. grind (arith, e) in
        ap (λ x. take (size_of k) x.words) (get_or-set_other records n k r blank other)
        ∙ sym (with_one_other n (take (size_of n) r.words) (words_in records) k e)

-- The records of a table after a restore have the saved words beside the others.
pub merged_words : (records saved old : List Record) → ((k : ℕ) → k < 20 → get_or records k blank ≡ after_restore saved old k) →
    words_in records ≡ put_back (only_saved (words_in saved)) (words_in old)
unfolding words_in put_back only_saved
merged_words records saved old all = fun_ext (λ k. go k (leb 20 k) refl)
  where
    go : (k : ℕ) (b : Bool) → leb 20 k ≡ b → words_in records k ≡ put_back (only_saved (words_in saved)) (words_in old) k
    go k true e =
        let far : 20 ≤ k = grind (arith, e) in
        ap (λ m. take m (get_or records k blank).words) (size_past k far)
        ∙ sym (ap (λ m. take m (get_or old k blank).words) (size_past k far))
        ∙ sym (ap (λ b. cond b (cond b (words_in saved k) []) (words_in old k)) (saved_past k far))
    go k false e = split (is_saved k) (ap (λ r. take (size_of k) r.words) (all k (grind (arith, e))))
      where
        split : (b : Bool) → take (size_of k) (get_or records k blank).words ≡ take (size_of k) (cond b (get_or saved k blank) (get_or old k blank)).words →
            take (size_of k) (get_or records k blank).words ≡ cond b (cond b (take (size_of k) (get_or saved k blank).words) []) (take (size_of k) (get_or old k blank).words)
        split true e = e
        split false e = e

-- Putting back has come to a place: below it the records are those after a restore, from there on they are as they were.
pub record Turn (records saved old : List Record) (n : ℕ) : Type 0 where
  pub size : length records ≡ 20
  pub below : (k : ℕ) → k < n → get_or records k blank ≡ after_restore saved old k
  pub above : (k : ℕ) → n ≤ k → get_or records k blank ≡ get_or old k blank
