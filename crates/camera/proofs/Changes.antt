-- What commands change.
use Rattle.std.proofs.Common.{◌≡◌, ℕ, Bool, true, false, cond, eqb, List, [], ◌∷◌, ℤ, pos, Some, None, Ok, Err, Option, Result, refl, ap, ◌∙◌, subst, arith, eq-eqb}
use Rattle.camera.specs.declared.attribute.Kind.{Kind}
use Rattle.camera.specs.declared.attribute.Kind.TheVariants.{Get, Set, Run}
use Rattle.camera.specs.declared.command.Command.{Command as Asked}
use Rattle.camera.specs.Attributes.{is_saved, user_defaults, restore}
use Rattle.camera.specs.Commands.{command, command_of}
use Rattle.camera.specs.State.{CameraState, Interpreter, Words, with_boot, with_busy}
use Rattle.checks.specs.Tests.{AllPass}
use Rattle.checks.proofs.Passing.{all_pass, refusal_among}
use Rattle.camera.specs.Execution.{answered, carried_out, command_tests, commanded, executed, judged, only_saved, put_back, restore_done, restored, save_done, standing, taken, verdict, with_one}
use Rattle.camera.specs.declared.fault.Fault.{Fault}
use Rattle.camera.specs.declared.mode.Mode.{Mode}
use Rattle.camera.specs.declared.mode.Mode.TheVariants.{Hung, Booting, Busy, Idle}
use Rattle.camera.specs.declared.register.Register.{Register}
use Rattle.camera.specs.declared.register.Register.TheVariants.{Power, Status, Command, Length, Data, Block}
use Rattle.camera.specs.Registers.{register_at}
use Rattle.camera.specs.Steps.{Outcome, access, after_read, after_write, at_status, marked, mode, next_ack, read_effect, read_step, unless_unacknowledged, write_effect, write_step}
use Rattle.camera.specs.Laws.{Access, reads, writes, words_of, CarriedOut, SetChangesOne, SetsChangeOne, GetChangesNone, GetsChangeNone, DefaultsComeBack, after}

-- the state after a command word that asks for a command
commanded_is : (s : CameraState) (word : ℕ) (c : Asked) → command_of word ≡ Some c → commanded word s ≡ executed (Some c) (taken s)
unfolding commanded
commanded_is s word c e = ap (λ o. executed o (taken s)) e

-- a refused command's code is not 0
refusing : (kind : Kind) (number : ℕ) (s : CameraState) (code : ℤ) → verdict kind number s.registers s.interpreter ≡ Some code → code ≡ pos 0 → ⊥
refusing kind number s code e =
    refusal_among (λ c. c ≡ pos 0 → ⊥) (command_tests kind number s.registers s.interpreter) code
    (λ z. grind arith, (λ z. grind arith, (λ z. grind arith, (λ z. grind arith, (λ z. grind arith, tt))))) e

pub with_one_same : (number : ℕ) (ws : List ℕ) (words : Words) → with_one number ws words number ≡ ws
unfolding with_one
with_one_same number ws words = ap (λ b. cond b ws (words number)) (eq-eqb number number refl)

pub with_one_other : (number : ℕ) (ws : List ℕ) (words : Words) (k : ℕ) → eqb k number ≡ false → with_one number ws words k ≡ words k
unfolding with_one
with_one_other number ws words k e = ap (λ b. cond b ws (words k)) e

set_judged : (s : CameraState) (number : ℕ) (o : Option ℤ) → verdict Set number (taken s).registers (taken s).interpreter ≡ o → SetChangesOne s (judged o Set number (taken s)) number
set_judged s number None v =
    record {
      own = λ _. with_one_same number (standing number s.registers) s.interpreter.words;
      others = λ k e. with_one_other number (standing number s.registers) s.interpreter.words k e;
      defaults = refl;
    }
set_judged s number (Some code) v = record { own = λ z. absurd (refusing Set number (taken s) code v z); others = λ k e. refl; defaults = refl }

pub sets_change_one : SetsChangeOne
sets_change_one s word number e =
    rw (commanded_is s word (command Set number) e)
    (set_judged s number (verdict Set number (taken s).registers (taken s).interpreter) refl)

get_judged : (s : CameraState) (number : ℕ) (o : Option ℤ) → GetChangesNone s (judged o Get number (taken s))
get_judged s number None = record { attributes = λ k. refl; defaults = refl }
get_judged s number (Some code) = record { attributes = λ k. refl; defaults = refl }

pub gets_change_none : GetsChangeNone
gets_change_none s word number e =
    rw (commanded_is s word (command Get number) e) (get_judged s number (verdict Get number (taken s).registers (taken s).interpreter))

-- Once something is saved, it stays.
Kept : Words → CameraState → Type 0
Kept saved s = s.interpreter.saved ≡ Some saved

run_kept : (saved : Words) (number : ℕ) (s : CameraState) → Kept saved s → verdict Run number s.registers s.interpreter ≡ None → Kept saved (carried_out Run number (answered (pos 0) s))
unfolding Kept
run_kept saved number s kept v = go (eqb number user_defaults) (eqb number restore) refl
  where
    t : CameraState
    t = answered (pos 0) s

    pass : AllPass (command_tests Run number s.registers s.interpreter)
    pass = all_pass (command_tests Run number s.registers s.interpreter) v

    restored_kept : (o : Option Words) → o ≡ Some saved → (restored o t.interpreter).saved ≡ Some saved
    restored_kept None e = kept
    restored_kept (Some words) e = kept

    go : (b d : Bool) → eqb number user_defaults ≡ b → (cond b (save_done t) (cond d (restore_done t) t)).interpreter.saved ≡ Some saved
    go true d is = absurd (grind (arith, pass.1.1.1.0, is, kept))
    go false true is = restored_kept s.interpreter.saved kept
    go false false is = kept

judged_kept : (saved : Words) (kind : Kind) (number : ℕ) (s : CameraState) (o : Option ℤ) → verdict kind number s.registers s.interpreter ≡ o → Kept saved s → Kept saved (judged o kind number s)
unfolding Kept
judged_kept saved Get number s None v kept = kept
judged_kept saved Set number s None v kept = kept
judged_kept saved Run number s None v kept = run_kept saved number s kept v
judged_kept saved kind number s (Some code) v kept = kept

commanded_kept : (saved : Words) (word : ℕ) (s : CameraState) → Kept saved s → Kept saved (commanded word s)
unfolding commanded Kept
commanded_kept saved word s kept = go (command_of word)
  where
    go : (o : Option Asked) → (executed o (taken s)).interpreter.saved ≡ Some saved
    go None = kept
    go (Some c) = judged_kept saved c.kind c.number (taken s) (verdict c.kind c.number (taken s).registers (taken s).interpreter) refl kept

written_kept : (saved : Words) (m : Mode) (register : Register) (word : ℕ) (s : CameraState) → Kept saved s → Kept saved (after_write m register word s)
unfolding Kept
written_kept saved Hung register word s kept = kept
written_kept saved (Booting left) register word s kept = kept
written_kept saved (Busy left) register word s kept = kept
written_kept saved Idle Power word s kept = kept
written_kept saved Idle Status word s kept = kept
written_kept saved Idle Command word s kept = commanded_kept saved word s kept
written_kept saved Idle Length word s kept = kept
written_kept saved Idle (Data place) word s kept = kept
written_kept saved Idle (Block place) word s kept = kept

-- what holds of a state at every register
at_status_either : {A : Type 0} (P : A → Type 0) (register : Register) (x y : A) → P x → P y → P (at_status register x y)
at_status_either P Power x y px py = py
at_status_either P Status x y px py = px
at_status_either P Command x y px py = py
at_status_either P Length x y px py = py
at_status_either P (Data place) x y px py = py
at_status_either P (Block place) x y px py = py

read_kept : (saved : Words) (m : Mode) (register : Register) (s : CameraState) → Kept saved s → Kept saved (after_read m register s)
unfolding Kept
read_kept saved Hung register s kept = kept
read_kept saved (Booting left) register s kept = at_status_either (λ t. t.interpreter.saved ≡ Some saved) register (with_boot left s) s kept kept
read_kept saved (Busy left) register s kept = at_status_either (λ t. t.interpreter.saved ≡ Some saved) register (with_busy left s) s kept kept
read_kept saved Idle register s kept = kept

-- What holds with a mark used up, and after the effect on every register, holds after an access.
pub access_after : {A : Type 0} (P : CameraState → Type 0) (found : Result Register Fault) (address : ℕ) (s : CameraState)
    (effect : Register → CameraState → Outcome CameraState A Fault) →
    P s → P (marked s) → ((register : Register) → P (effect register (marked s)).after) → P (access found address s effect).after
access_after P (Err fault) address s effect here used done = here
access_after P (Ok register) address s effect here used done = go (next_ack s.acks)
  where
    go : (ack : Bool) → P (unless_unacknowledged ack address (marked s) (effect register (marked s))).after
    go true = done register
    go false = used

after_kept : (saved : Words) (accesses : List Access) (s : CameraState) → Kept saved s → Kept saved (after accesses s)
unfolding Kept read_step write_step
after_kept saved [] s kept = kept
after_kept saved (reads address ∷ accesses) s kept =
    after_kept saved accesses (read_step s address).after
    (access_after (Kept saved) (register_at address) address s read_effect kept kept (λ register. read_kept saved (mode (marked s)) register (marked s) kept))
after_kept saved (writes address word ∷ accesses) s kept =
    after_kept saved accesses (write_step s address word).after
    (access_after (Kept saved) (register_at address) address s (write_effect word) kept kept
    (λ register. written_kept saved (mode (marked s)) register word (marked s) kept))

-- A command that was carried out met no failing test.
no_refusal : (kind : Kind) (number : ℕ) (s : CameraState) → CarriedOut (judged (verdict kind number s.registers s.interpreter) kind number s) →
    verdict kind number s.registers s.interpreter ≡ None
no_refusal kind number s = go (verdict kind number s.registers s.interpreter) refl
  where
    go : (o : Option ℤ) → verdict kind number s.registers s.interpreter ≡ o → CarriedOut (judged o kind number s) → verdict kind number s.registers s.interpreter ≡ None
    go None v z = v
    go (Some code) v z = absurd (refusing kind number s code v z)

put_back_saved : (words present : Words) (k : ℕ) → is_saved k ≡ true → put_back (only_saved words) present k ≡ words k
unfolding put_back only_saved
put_back_saved words present k e = ap (λ b. cond b (cond b (words k) []) (present k)) e

put_back_other : (saved present : Words) (k : ℕ) → is_saved k ≡ false → put_back saved present k ≡ present k
unfolding put_back
put_back_other saved present k e = ap (λ b. cond b (saved k) (present k)) e

-- a run that is carried out
run_is : (s : CameraState) (word number : ℕ) → command_of word ≡ Some (command Run number) → CarriedOut (commanded word s) →
    commanded word s ≡ carried_out Run number (answered (pos 0) (taken s))
run_is s word number e z =
    let c : Asked = command Run number in
    let is = commanded_is s word c e in
    let v = no_refusal Run number (taken s) (subst CarriedOut is z) in
    is ∙ ap (λ o. judged o Run number (taken s)) v

restored_words : (o : Option Words) (saved : Words) (i : Interpreter) → o ≡ Some saved → (restored o i).words ≡ put_back saved i.words
restored_words None saved i e = grind arith
restored_words (Some words) saved i e = let same : words ≡ saved = cc in ap (λ w. put_back w i.words) same

pub defaults_come_back : DefaultsComeBack
unfolding Kept
defaults_come_back s save_word restore_word between is_save is_restore saved_now restored_now =
    let words : Words = words_of s in
    let t : CameraState = after between (commanded save_word s) in
    let kept : Kept (only_saved words) (commanded save_word s) =
    ap (λ u. u.interpreter.saved) (run_is s save_word user_defaults is_save saved_now) in
    let still = after_kept (only_saved words) between (commanded save_word s) kept in
    let end : words_of (commanded restore_word t) ≡ put_back (only_saved words) (words_of t) =
    ap words_of (run_is t restore_word restore is_restore restored_now)
    ∙ restored_words t.interpreter.saved (only_saved words) (answered (pos 0) (taken t)).interpreter still in
    record {
      saved = λ k e. ap (λ w. w k) end ∙ put_back_saved words (words_of t) k e;
      others = λ k e. ap (λ w. w k) end ∙ put_back_other (only_saved words) (words_of t) k e;
    }
