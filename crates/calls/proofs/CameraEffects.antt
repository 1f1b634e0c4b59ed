-- What a command leaves of what the interpreter holds, beside the ledger.
use Rattle.std.proofs.Common.{◌≡◌, ℕ, Bool, true, false, cond, eqb, List, [], length, ℤ, pos, Some, None, Option, sym, refl, ap, ◌∙◌, arith, w8, SFits}
use Rattle.checks.proofs.Passing.{refusal_among}
use Rattle.camera.specs.declared.attribute.Kind.{Kind}
use Rattle.camera.specs.declared.attribute.Kind.TheVariants.{Set}
use Rattle.camera.specs.Attributes.{is_saved, size_of}
use Rattle.camera.specs.Execution.{command_tests, only_saved, put_back, restored, verdict, with_one}
use Rattle.camera.specs.State.{Interpreter, Registers, Words, with_saved, with_words}
use Rattle.calls.specs.History.{Ledger, copied, copied_back, put_into}
use Rattle.calls.proofs.CameraTable.{number_bound, settable_from_saved}
use Rattle.calls.proofs.Keeping.{Agrees, InterpreterFull, SavedAlike}

-- What a command that was carried out leaves, beside a ledger in which it is entered.
pub record Carried (l : Ledger) (before after : Interpreter) : Type 0 where
  pub full : InterpreterFull after
  pub count : after.count ≡ before.count
  pub code : after.code ≡ pos 0
  pub agrees : Agrees after l

-- what the user defaults keep, and what they give back
only_saved_is : (words : Words) (k : ℕ) → is_saved k ≡ true → only_saved words k ≡ words k
unfolding only_saved
only_saved_is words k e = ap (λ b. cond b (words k) []) e

saved_put : (b : Bool) (words words' noted noted' : List ℕ) → (b ≡ true → words ≡ noted) → words' ≡ noted' → cond b words words' ≡ cond b noted noted'
saved_put true words words' noted noted' e e' = e refl
saved_put false words words' noted noted' e e' = e'

saved_size : (b : Bool) (words words' : List ℕ) (size : ℕ) → (b ≡ true → length words ≡ size) → length words' ≡ size → length (cond b words words') ≡ size
saved_size true words words' size e e' = e refl
saved_size false words words' size e e' = e'

module _ (i : Interpreter) (l : Ledger) (full : InterpreterFull i) (agrees : Agrees i l) (zero_code : i.code ≡ pos 0) where
  -- nothing changes
  pub none_carried : Carried l i i
  none_carried = record { full = full; count = refl; code = zero_code; agrees = agrees }

  -- one attribute does
  pub set_carried : (number : ℕ) (words : List ℕ) → length words ≡ size_of number → Carried (put_into number words l) i (with_words (with_one number words i.words) i)
  unfolding with_one
  set_carried number words size =
      record {
        full = record {
          words_full = λ k short.
              saved_size (eqb k number) words (i.words k) (size_of k) (λ is. size ∙ ap size_of (same k is)) (full.words_full k short);
          saved_full = full.saved_full;
          code_bits = full.code_bits;
        };
        count = refl;
        code = zero_code;
        agrees = record {
          put = λ k settable. saved_put (eqb k number) words (i.words k) words (l.put k) (λ _. refl) (agrees.put k settable);
          saved = agrees.saved;
        };
      }
    where
      same : (k : ℕ) → eqb k number ≡ true → number ≡ k
      same k is = grind (arith, is)

  -- the user defaults do
  save_carried : Carried (copied l) i (with_saved (Some (only_saved i.words)) i)
  save_carried =
      record {
        full = record {
          words_full = full.words_full;
          saved_full = λ saved is k e.
              let same : only_saved i.words ≡ saved = cc in
              ap (λ w. length (w k)) (sym same)
              ∙ ap length (only_saved_is i.words k e)
              ∙ full.words_full k (number_bound Set k (settable_from_saved k e));
          code_bits = full.code_bits;
        };
        count = refl;
        code = zero_code;
        agrees = record {
          put = agrees.put;
          saved = λ k e. only_saved_is i.words k e ∙ agrees.put k (settable_from_saved k e) ∙ sym (ap (λ b. cond b (l.put k) []) e);
        };
      }

  -- the saved attributes do
  restore_carried : (saved : Option Words) (noted : Option (ℕ → List ℕ)) → i.saved ≡ saved → l.saved ≡ noted → SavedAlike saved noted →
      Carried (copied_back noted l) i (restored saved i)
  unfolding put_back
  restore_carried None None is is' same = none_carried
  restore_carried None (Some noted) is is' same = absurd same
  restore_carried (Some saved) None is is' same = absurd same
  restore_carried (Some saved) (Some noted) is is' same =
      record {
        full = record {
          words_full = λ k short. saved_size (is_saved k) (saved k) (i.words k) (size_of k) (full.saved_full saved is k) (full.words_full k short);
          saved_full = full.saved_full;
          code_bits = full.code_bits;
        };
        count = refl;
        code = zero_code;
        agrees = record {
          put = λ k settable. saved_put (is_saved k) (saved k) (i.words k) (noted k) (l.put k) (same k) (agrees.put k settable);
          saved = agrees.saved;
        };
      }

  pub run_carried : (save restores : Bool) →
      Carried (cond save (copied l) (cond restores (copied_back l.saved l) l)) i
      (cond save (with_saved (Some (only_saved i.words)) i) (cond restores (restored i.saved i) i))
  run_carried true restores = save_carried
  run_carried false true = restore_carried i.saved l.saved refl refl agrees.saved
  run_carried false false = none_carried

-- A command that a test refuses has a code that is not 0 and has eight bits.
pub refused_code : (kind : Kind) (number : ℕ) (r : Registers) (i : Interpreter) (code : ℤ) → verdict kind number r i ≡ Some code → (code ≡ pos 0 → ⊥) × SFits w8 code
refused_code kind number r i code e =
    refusal_among (λ c. (c ≡ pos 0 → ⊥) × SFits w8 c) (command_tests kind number r i) code (
      (λ z. grind arith, record { sfits = omega arith }),
      (
        (λ z. grind arith, record { sfits = omega arith }),
        (
          (λ z. grind arith, record { sfits = omega arith }),
          ((λ z. grind arith, record { sfits = omega arith }), ((λ z. grind arith, record { sfits = omega arith }), tt)),
        ),
      ),
    )
    e
