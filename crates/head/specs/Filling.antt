-- The words of a head's attributes are as many as they should be, and of sixteen bits each.
use Rattle.std.specs.Prelude.{◌≡◌, ℕ, zero, suc, ◌<◌, ◌≤◌, true, cond, List, [], ◌∷◌, length, take, Some, None, Option, slice_index, slice_index_or}
use Rattle.std.proofs.Common.{sym, ◌∙◌, ap, subst, arith}
use Rattle.std.proofs.lemmas.List.{length-take-le}
use Rattle.words.specs.Words.{Words as Filled}
use Rattle.camera.specs.Attributes.{is_saved, size_of}
use Rattle.camera.specs.Execution.{only_saved}
use Rattle.camera.specs.State.{Words}
use Rattle.camera.proofs.Sizes.{size_bound}
use Rattle.head.specs.declared.inner.Record.{Record}
use Rattle.head.specs.declared.inner.Table.{Table}
use Rattle.head.specs.Meaning.{blank, saved_in, words_in}

take_bits : (n : ℕ) (ws : List ℕ) → ((k : ℕ) → slice_index ws k < 65536) → (k : ℕ) → slice_index (take n ws) k < 65536
take_bits zero ws all k = omega arith
take_bits (suc n) [] all k = omega arith
take_bits (suc n) (x ∷ ws) all zero = all zero
take_bits (suc n) (x ∷ ws) all (suc k) = take_bits n ws (λ j. all (suc j)) k

pub words_filled : (records : List Record) (k : ℕ) → Filled (size_of k) (words_in records k)
unfolding words_in
words_filled records k =
    let r = slice_index_or records k blank in
    let fits : size_of k ≤ length r.words = omega (arith, size_bound k, r.full.0) in
    (length-take-le (size_of k) r.words fits, take_bits (size_of k) r.words r.full.1)

only_saved_at : (words : Words) (k : ℕ) → is_saved k ≡ true → only_saved words k ≡ words k
unfolding only_saved
only_saved_at words k is = ap (λ b. cond b (words k) []) is

pub saved_filled : (o : Option Table) (words : Words) → saved_in o ≡ Some words → (k : ℕ) → is_saved k ≡ true → Filled (size_of k) (words k)
saved_filled None words e k is = grind arith
saved_filled (Some table) words e k is =
    let same : only_saved (words_in table.records) ≡ words = cc in
    subst (Filled (size_of k)) (sym (only_saved_at (words_in table.records) k is) ∙ ap (λ w. w k) same) (words_filled table.records k)
