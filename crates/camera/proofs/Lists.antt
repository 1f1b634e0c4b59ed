-- What the camera's proofs need of lists.
use Rattle.std.proofs.Common.{◌≡◌, ℕ, zero, suc, ◌+◌, ◌<◌, get_or, Bool, true, false, List, [], ◌∷◌, length, Some, None, Option, sym, refl, ap, ◌∙◌, ap₂, add-zero, zero-add, add-suc, suc-add, arith, Bor}
use Rattle.std.proofs.lemmas.Option.{slice_get_read, slice_get_past}
use Rattle.std.specs.Option.{option_map}
use Rattle.std.specs.Slice.{IsGetResult}
use Rattle.std.specs.List.{slice_get}
use Rattle.checks.specs.Tests.{both}

-- what `get` at an index gives of a table
pub item_nth : {X : Type 0} (xs : List X) (i : ℕ) (r : Option (Bor X)) → IsGetResult xs i i r → option_map (λ x. x.now) r ≡ slice_get xs i
item_nth xs i None h = sym (slice_get_past xs i h.3)
item_nth xs i (Some x) h = sym (slice_get_read xs (length xs) i x.now refl h.3.0 h.1)

-- a test of the places and entries of a list, counted from one on
abbrev pub every : {A : Type 0} → (ℕ → A → Bool) → ℕ → List A → Bool
every f i [] = true
every f i (x ∷ xs) = both (f i x) (every f (suc i) xs)

pub every_at : {A : Type 0} (f : ℕ → A → Bool) (i : ℕ) (xs : List A) → every f i xs ≡ true → (k : ℕ) (x : A) → slice_get xs k ≡ Some x → f (i + k) x ≡ true
every_at f i [] all k x e = grind arith
every_at f i (y ∷ xs) all zero x e =
    let here : f i y ≡ true = grind (arith, all) in
    let same : y ≡ x = grind arith in
    ap₂ f (add-zero i) (sym same) ∙ here
every_at f i (y ∷ xs) all (suc k) x e =
    let rest : every f (suc i) xs ≡ true = grind (arith, all) in
    ap (λ n. f n x) (add-suc i k ∙ sym (suc-add i k)) ∙ every_at f (suc i) xs rest k x e

-- A test of the places and entries of a list by recursion, F, which counts from a place on.
module _ {A : Type 0} (f : ℕ → A → Bool) (F : ℕ → List A → Bool) (none : (n : ℕ) → F n [] ≡ true)
    (step : (n : ℕ) (x : A) (xs : List A) → F n (x ∷ xs) ≡ both (f n x) (F (suc n) xs)) where
  holds : (n : ℕ) (xs : List A) (d : A) → ((i : ℕ) → i < length xs → f (n + i) (get_or xs i d) ≡ true) → F n xs ≡ true
  holds n [] d h = none n
  holds n (x ∷ xs) d h =
      let here : f n x ≡ true = ap (λ k. f k x) (sym (add-zero n)) ∙ h 0 (omega arith) in
      step n x xs
      ∙ ap (λ b. both b (F (suc n) xs)) here
      ∙ holds (suc n) xs d (λ i l. ap (λ k. f k (get_or xs i d)) (suc-add n i ∙ sym (add-suc n i)) ∙ h (suc i) (omega arith))

  fails : (n : ℕ) (xs : List A) (d : A) (i : ℕ) → i < length xs → f (n + i) (get_or xs i d) ≡ false → F n xs ≡ false
  fails n [] d i l e = absurd (omega arith)
  fails n (x ∷ xs) d zero l e = step n x xs ∙ ap (λ b. both b (F (suc n) xs)) (ap (λ k. f k x) (sym (add-zero n)) ∙ e)
  fails n (x ∷ xs) d (suc i) l e =
      step n x xs
      ∙ ap (both (f n x)) (fails (suc n) xs d i (omega arith) (ap (λ k. f k (get_or xs i d)) (suc-add n i ∙ sym (add-suc n i)) ∙ e))
      ∙ both_false (f n x)
    where
      both_false : (b : Bool) → both b false ≡ false
      both_false true = refl
      both_false false = refl

  -- It is what `all` answers of them.
  pub all_is : (xs : List A) (d : A) (r : Bool) → (r ≡ true → (i : ℕ) → i < length xs → f i (get_or xs i d) ≡ true) →
      (r ≡ false → (i : ℕ) × (i < length xs) × (f i (get_or xs i d) ≡ false)) → r ≡ F 0 xs
  all_is xs d true all miss = sym (holds 0 xs d (λ i l. ap (λ k. f k (get_or xs i d)) (zero-add i) ∙ all refl i l))
  all_is xs d false all miss =
      let at = miss refl in
      sym (fails 0 xs d at.0 at.1 (ap (λ k. f k (get_or xs at.0 d)) (zero-add at.0) ∙ at.2))
