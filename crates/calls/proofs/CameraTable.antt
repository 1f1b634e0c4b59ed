-- What the table of attributes tells of numbers that have a command.
use Rattle.std.proofs.Common.{◌≡◌, ℕ, suc, ◌<◌, ◌≤◌, Bool, true, false, cond, not, eqb, leb, [], ◌∷◌, length, Some, None, Option, sym, refl, ap, ◌∙◌, arith}
use Rattle.checks.specs.Tests.{both}
use Rattle.camera.proofs.CommandWords.{one_word}
use Rattle.camera.proofs.Lists.{every_at}
use Rattle.camera.proofs.Sizes.{size_bound}
use Rattle.camera.specs.declared.attribute.Attribute.{Attribute}
use Rattle.camera.specs.declared.attribute.Kind.{Kind}
use Rattle.camera.specs.Attributes.{attributes, attribute_at, colour_table, has, is_saved, is_settable, offers, size_of, status, user_defaults}
use Rattle.camera.specs.Commands.{command, command_of, word_with}
use Rattle.camera.specs.Execution.{by_data}
use Rattle.camera.specs.State.{Interpreter, saved_flag, shown}
use Rattle.calls.specs.Accesses.{word_for}
use Rattle.calls.proofs.CameraWords.{room}

-- an attribute that has a command is in the table
record Found (number : ℕ) : Type 0 where
  attribute : Attribute
  here : attribute_at number ≡ Some attribute

found : (kind : Kind) (number : ℕ) → offers kind number ≡ true → Found number
found kind number = go (attribute_at number) refl
  where
    go : (o : Option Attribute) → attribute_at number ≡ o → (elim o as (λ _. Bool) [ None ↦ false | Some a ↦ has a.kinds kind ]) ≡ true → Found number
    go None is e = grind arith
    go (Some a) is e = record { attribute = a; here = is }

numbered : ℕ → Attribute → Bool
numbered k a = leb (suc k) 20

pub number_bound : (kind : Kind) (number : ℕ) → offers kind number ≡ true → number < 20
unfolding attribute_at numbered
number_bound kind number e =
    let f = found kind number e in
    grind (arith, every_at numbered 0 attributes refl number f.attribute f.here)

-- the command word of a command that there is
pub command_there : (kind : Kind) (number : ℕ) → offers kind number ≡ true → command_of (word_for (command kind number)) ≡ Some (command kind number)
command_there kind number e =
    let f = found kind number e in
    (one_word (word_for (command kind number))).command_of_word (command kind number)
    (ap (λ o. elim o as (λ _. Option ℕ) [ None ↦ None | Some a ↦ Some (word_with kind a.base) ]) f.here
    ∙ ap (λ o. Some (elim o as (λ _. ℕ) [ None ↦ 0 | Some a ↦ word_with kind a.base ])) (sym f.here))

-- an attribute's words have room where they pass
room_for : (size : ℕ) → size ≤ 512 → size ≤ room (leb size 16)
room_for size short = go (leb size 16) refl
  where
    go : (b : Bool) → leb size 16 ≡ b → size ≤ room b
    go true e = grind (arith, e)
    go false e = short

pub has_room : (number : ℕ) → size_of number ≤ room (by_data number)
has_room number = room_for (size_of number) (size_bound number)

-- what is saved can be set
pub settable_from_saved : (k : ℕ) → is_saved k ≡ true → is_settable k ≡ true
settable_from_saved k e = go (is_settable k) (eqb k colour_table) e
  where
    go : (b d : Bool) → both b (not d) ≡ true → b ≡ true
    go true d e = refl
    go false d e = e

same_number : (k n : ℕ) → eqb k n ≡ true → k ≡ n
same_number k n e = grind (arith, e)

-- an attribute that can be set shows what it holds
pub settable_shown : (i : Interpreter) (k : ℕ) → is_settable k ≡ true → shown i k ≡ i.words k
unfolding shown attribute_at
settable_shown i k e = go (eqb k status) (eqb k user_defaults) refl refl
  where
    go : (b d : Bool) → eqb k status ≡ b → eqb k user_defaults ≡ d →
        cond b (0 ∷ 0 ∷ i.count ∷ 0 ∷ []) (cond d (saved_flag i.saved ∷ 0 ∷ []) (i.words k)) ≡ i.words k
    go true d is is' = let no : false ≡ true = sym (ap is_settable (same_number k status is)) ∙ e in grind arith
    go false true is is' = let no : false ≡ true = sym (ap is_settable (same_number k user_defaults is')) ∙ e in grind arith
    go false false is is' = refl

-- an attribute shows as many words as it has
pub shown_size : (i : Interpreter) (k : ℕ) → length (i.words k) ≡ size_of k → length (shown i k) ≡ size_of k
unfolding shown attribute_at
shown_size i k full = go (eqb k status) (eqb k user_defaults) refl refl
  where
    go : (b d : Bool) → eqb k status ≡ b → eqb k user_defaults ≡ d →
        length (cond b (0 ∷ 0 ∷ i.count ∷ 0 ∷ []) (cond d (saved_flag i.saved ∷ 0 ∷ []) (i.words k))) ≡ size_of k
    go true d is is' = sym (ap size_of (same_number k status is))
    go false true is is' = sym (ap size_of (same_number k user_defaults is'))
    go false false is is' = full
