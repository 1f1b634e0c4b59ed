-- Where every access is acknowledged, commands are answered.
use Rattle.std.proofs.Common.{◌≡◌, ℕ, zero, suc, ◌<◌, Bool, true, false, cond, eqb, List, [], ◌∷◌, set as exchanged, ℤ, pos, negsuc, Some, None, Ok, Err, Option, Result, sym, refl, ap, ◌∙◌, subst, arith}
use Rattle.words.specs.Code.{code_of}
use Rattle.camera.specs.declared.attribute.Kind.{Kind}
use Rattle.camera.specs.declared.attribute.Kind.TheVariants.{Get, Set, Run}
use Rattle.camera.specs.declared.command.Command.{Command}
use Rattle.camera.specs.declared.fault.Fault.{Fault}
use Rattle.camera.specs.declared.register.Register.TheVariants.{Status, Command as CommandRegister, Length}
use Rattle.camera.specs.Attributes.{user_defaults, restore}
use Rattle.camera.specs.Commands.{command, command_of}
use Rattle.camera.specs.Execution.{answered, bank, by_data, commanded, executed, judged, moved, next_busy, restore_done, save_done, taken, verdict, with_bank}
use Rattle.camera.specs.State.{CameraState, Registers, Interpreter}
use Rattle.camera.specs.Steps.{Outcome, ended, idle_status, later_acks, next_ack}
use Rattle.calls.specs.declared.refusal.Refusal.{Refusal}
use Rattle.calls.specs.declared.refusal.Refusal.TheVariants.{Bus}
use Rattle.calls.specs.declared.stage.Stage.TheVariants.{Waiting, Reading}
use Rattle.calls.specs.Calls.{Session, ready, parked, Call, wake, get, set, run, resume, Served, served, buffer_of, refused_first}
use Rattle.calls.specs.Outcomes.{Fetched, by_answer, by_code, carried, collected, delivered, is_free, issued, outcome, polled, read_out}
use Rattle.calls.specs.Accesses.{camera, command_written, place_register, register_written, sent, with_word, word_for, words_read, words_written}
use Rattle.calls.specs.Progress.{AllMarked, Idle, is_command, budget_of, Answered, Progress}
use Rattle.calls.proofs.UpAccesses.{up, writes_idle, reads_idle, reads_busy, stored_one, free_idle}

first_marked : (acks : List Bool) → AllMarked acks → next_ack acks ≡ true
first_marked [] all = refl
first_marked (mark ∷ acks) all = all.0

later_marked : (acks : List Bool) → AllMarked acks → AllMarked (later_acks acks)
later_marked [] all = tt
later_marked (mark ∷ acks) all = all.1

-- a command is sent: the camera is up, with so many busy polls left and no mark missing
record SendsOn (busy : ℕ) (o : Outcome CameraState (Unit {0}) Fault) : Type 0 where
  acks : List Bool
  marks : AllMarked acks
  registers : Registers
  interpreter : Interpreter
  is : o ≡ ended (Ok tt) (up busy acks registers interpreter)

-- words are written; what commands work on stays
record WritesOn (i : Interpreter) (o : Outcome CameraState (Unit {0}) Fault) : Type 0 where
  acks : List Bool
  marks : AllMarked acks
  registers : Registers
  is : o ≡ ended (Ok tt) (up 0 acks registers i)

words_on : (through : Bool) (place : ℕ) (words : List ℕ) (acks : List Bool) (r : Registers) (i : Interpreter) → AllMarked acks →
    WritesOn i (words_written through place words (up 0 acks r i))
unfolding words_written
words_on through place [] acks r i all = record { acks = acks; marks = all; registers = r; is = refl }
words_on through place (word ∷ words) acks r i all =
    let next : Unit {0} → CameraState → Outcome CameraState (Unit {0}) Fault = λ _ t. words_written through (suc place) words t in
    let stop : Fault → CameraState → Outcome CameraState (Unit {0}) Fault = λ fault t. ended (Err fault) t in
    let one = writes_idle (place_register through place) word acks r i (first_marked acks all) ∙ ap (ended (Ok tt)) (stored_one through place word (later_acks acks) r i) in
    let rest = words_on through (suc place) words (later_acks acks) (with_bank through (exchanged (bank through r) place word) r) i (later_marked acks all) in
    record { acks = rest.acks; marks = rest.marks; registers = rest.registers; is = ap (λ o. by_answer o next stop) one ∙ rest.is }

-- A command word leaves a camera that is up, busy for the next number of polls.
commanded_up : (word : ℕ) (acks : List Bool) (r : Registers) (i : Interpreter) →
    let t : CameraState = commanded word (up 0 acks r i) in
    t ≡ up (next_busy i.coming) acks t.registers t.interpreter
unfolding commanded
commanded_up word acks r i = by_command (command_of word)
  where
    s : CameraState
    s = taken (up 0 acks r i)

    IsUp : CameraState → Type 0
    IsUp t = t ≡ up (next_busy i.coming) acks t.registers t.interpreter

    by_run : (b d : Bool) → IsUp (cond b (save_done (answered (pos 0) s)) (cond d (restore_done (answered (pos 0) s)) (answered (pos 0) s)))
    by_run true d = refl
    by_run false true = refl
    by_run false false = refl

    by_verdict : (o : Option ℤ) (kind : Kind) (number : ℕ) → IsUp (judged o kind number s)
    by_verdict None Get number = refl
    by_verdict None Set number = refl
    by_verdict None Run number = by_run (eqb number user_defaults) (eqb number restore)
    by_verdict (Some code) kind number = refl

    by_command : (o : Option Command) → IsUp (executed o s)
    by_command None = refl
    by_command (Some c) = by_verdict (verdict c.kind c.number s.registers s.interpreter) c.kind c.number

sent_on : (c : Command) (words : List ℕ) (acks : List Bool) (r : Registers) (i : Interpreter) → AllMarked acks →
    SendsOn (next_busy i.coming) (sent c words (up 0 acks r i))
sent_on c words acks r i all =
    let stop : Fault → CameraState → Outcome CameraState (Unit {0}) Fault = λ fault t. ended (Err fault) t in
    let next : Unit {0} → CameraState → Outcome CameraState (Unit {0}) Fault = λ _ t. command_written c t in
    let last : Unit {0} → CameraState → Outcome CameraState (Unit {0}) Fault = λ _ t. register_written CommandRegister (word_for c) t in
    let w = words_on (by_data c.number) 0 words acks r i all in
    let marks = later_marked w.acks w.marks in
    let r' : Registers = record { size = moved c.kind c.number; data_words = w.registers.data_words; block_words = w.registers.block_words } in
    let acks' = later_acks (later_acks w.acks) in
    let t : CameraState = commanded (word_for c) (up 0 acks' r' i) in
    record {
      acks = acks';
      marks = later_marked (later_acks w.acks) marks;
      registers = t.registers;
      interpreter = t.interpreter;
      is = ap (λ o. by_answer o next stop) w.is
          ∙ ap (λ o. by_answer o last stop) (writes_idle Length (moved c.kind c.number) w.acks w.registers i (first_marked w.acks w.marks))
          ∙ writes_idle CommandRegister (word_for c) (later_acks w.acks) r' i (first_marked (later_acks w.acks) marks)
          ∙ ap (ended (Ok tt)) (commanded_up (word_for c) acks' r' i);
    }

-- Status is read until the camera is free, if more reads are left than busy polls.
record PollsOn (r : Registers) (i : Interpreter) (o : Outcome CameraState ℕ Refusal) : Type 0 where
  acks : List Bool
  marks : AllMarked acks
  is : o ≡ ended (Ok (idle_status i.code)) (up 0 acks r i)

polled_on : (left n : ℕ) (acks : List Bool) (r : Registers) (i : Interpreter) → n < left → AllMarked acks → PollsOn r i (polled camera is_free left (up n acks r i))
unfolding polled
polled_on zero n acks r i more all = absurd (omega arith)
polled_on (suc left) zero acks r i more all =
    let next : ℕ → CameraState → Outcome CameraState ℕ Refusal = λ status t. cond (is_free status) (ended (Ok status) t) (polled camera is_free left t) in
    let stop : Fault → CameraState → Outcome CameraState ℕ Refusal = λ fault t. ended (Err (Bus fault)) t in
    let t : CameraState = up 0 (later_acks acks) r i in
    record {
      acks = later_acks acks;
      marks = later_marked acks all;
      is = ap (λ o. by_answer o next stop) (reads_idle Status acks r i (first_marked acks all))
          ∙ ap (λ free. cond free (ended (Ok (idle_status i.code)) t) (polled camera is_free left t)) (free_idle i.code);
    }
polled_on (suc left) (suc n) acks r i more all =
    let next : ℕ → CameraState → Outcome CameraState ℕ Refusal = λ status t. cond (is_free status) (ended (Ok status) t) (polled camera is_free left t) in
    let stop : Fault → CameraState → Outcome CameraState ℕ Refusal = λ fault t. ended (Err (Bus fault)) t in
    let later = polled_on left n (later_acks acks) r i (omega arith) (later_marked acks all) in
    record { acks = later.acks; marks = later.marks; is = ap (λ o. by_answer o next stop) (reads_busy n acks r i (first_marked acks all)) ∙ later.is }

-- Words are read without a fault.
fetched_on : (through : Bool) (place : ℕ) (buffer : List ℕ) (acks : List Bool) (r : Registers) (i : Interpreter) → AllMarked acks →
    (words_read through place buffer (up 0 acks r i)).answer ≡ Ok tt
unfolding words_read
fetched_on through place [] acks r i all = refl
fetched_on through place (old ∷ rest) acks r i all =
    let next : ℕ → CameraState → Fetched CameraState = λ word t. with_word word (words_read through (suc place) rest t) in
    let stop : Fault → CameraState → Fetched CameraState = λ fault t. record { answer = Err fault; words = old ∷ rest; after = t } in
    ap (λ o. (by_answer o next stop).answer) (reads_idle (place_register through place) acks r i (first_marked acks all))
    ∙ fetched_on through (suc place) rest (later_acks acks) r i (later_marked acks all)

answered_out : (number : ℕ) (f : Fetched CameraState) → f.answer ≡ Ok tt → Answered (read_out number f)
answered_out number f e = go f.answer e
  where
    go : (r : Result (Unit {0}) Fault) → r ≡ Ok tt →
        Answered
        (elim r as (λ _. Served CameraState) [
          | Ok _ ↦ served (Ok tt) f.words ready f.after
          | Err fault ↦ served (Err (Bus fault)) f.words (parked (command Get number) Reading) f.after
        ])
    go (Ok x) is = record { answer = refl; session = refl }
    go (Err fault) is = grind arith

delivered_on : (kind : Kind) (number : ℕ) (buffer : List ℕ) (acks : List Bool) (r : Registers) (i : Interpreter) → AllMarked acks →
    Answered (delivered camera kind number buffer (up 0 acks r i))
delivered_on Get number buffer acks r i all =
    answered_out number (words_read (by_data number) 0 buffer (up 0 acks r i)) (fetched_on (by_data number) 0 buffer acks r i all)
delivered_on Set number buffer acks r i all = record { answer = refl; session = refl }
delivered_on Run number buffer acks r i all = record { answer = refl; session = refl }

coded_on : (c : Command) (buffer : List ℕ) (code : ℤ) (acks : List Bool) (r : Registers) (i : Interpreter) → AllMarked acks →
    Answered (by_code camera c buffer code (up 0 acks r i))
coded_on c buffer (pos zero) acks r i all = delivered_on c.kind c.number buffer acks r i all
coded_on c buffer (pos (suc code)) acks r i all = record { answer = refl; session = refl }
coded_on c buffer (negsuc code) acks r i all = record { answer = refl; session = refl }

collected_on : (c : Command) (buffer : List ℕ) (budget n : ℕ) (acks : List Bool) (r : Registers) (i : Interpreter) → n < budget → AllMarked acks →
    Answered (collected camera c Waiting buffer budget (up n acks r i))
collected_on c buffer budget n acks r i enough all =
    let next : ℕ → CameraState → Served CameraState = λ status t. by_code camera c buffer (code_of status) t in
    let stop : Refusal → CameraState → Served CameraState = λ refusal t. served (Err refusal) buffer (parked c Waiting) t in
    let p = polled_on budget n acks r i enough all in
    subst (λ o. Answered (by_answer o next stop)) (sym p.is) (coded_on c buffer (code_of (idle_status i.code)) p.acks r i p.marks)

issued_on : (c : Command) (words buffer : List ℕ) (budget : ℕ) (acks : List Bool) (r : Registers) (i : Interpreter) → next_busy i.coming < budget → AllMarked acks →
    Answered (issued camera c words buffer budget (up 0 acks r i))
issued_on c words buffer budget acks r i enough all =
    let next : Unit {0} → CameraState → Served CameraState = λ _ t. collected camera c Waiting buffer budget t in
    let stop : Fault → CameraState → Served CameraState = λ fault t. served (Err (Bus fault)) buffer ready t in
    let g = sent_on c words acks r i all in
    subst (λ o. Answered (by_answer o next stop)) (sym g.is) (collected_on c buffer budget (next_busy i.coming) g.acks g.registers g.interpreter enough g.marks)

carried_on : (call : Call) (acks : List Bool) (r : Registers) (i : Interpreter) → is_command call ≡ true → next_busy i.coming < budget_of call → AllMarked acks →
    Answered (carried camera ready call (up 0 acks r i))
carried_on (wake budget) acks r i is enough all = grind arith
carried_on (get number buffer budget) acks r i is enough all = issued_on (command Get number) [] buffer budget acks r i enough all
carried_on (set number words budget) acks r i is enough all = issued_on (command Set number) words [] budget acks r i enough all
carried_on (run number budget) acks r i is enough all = issued_on (command Run number) [] [] budget acks r i enough all
carried_on (resume buffer budget) acks r i is enough all = grind arith

-- A call that passes its first tests is made.
made : (session : Session) (call : Call) (s : CameraState) → refused_first session call ≡ None → Answered (carried camera session call s) → Answered (outcome camera session call s)
made session call s first answered = go (refused_first session call) first
  where
    go : (o : Option Refusal) → o ≡ None →
        Answered (elim o as (λ _. Served CameraState) [ Some refusal ↦ served (Err refusal) (buffer_of call) session s | None ↦ carried camera session call s ])
    go None is = answered
    go (Some refusal) is = grind arith

up_is : (s : CameraState) → s.hung ≡ false → s.boot ≡ 0 → s ≡ up s.busy s.acks s.registers s.interpreter
up_is s unhung booted =
    λ j. record { hung = unhung j; boot = booted j; busy = s.busy; acks = s.acks; registers = s.registers; interpreter = s.interpreter }

idle_is : (s : CameraState) → Idle s → s ≡ up 0 s.acks s.registers s.interpreter
idle_is s idle = up_is s idle.unhung idle.booted ∙ ap (λ n. up n s.acks s.registers s.interpreter) idle.free

pub progress : Progress
progress =
    record {
      of_commands = λ call s is first idle all enough.
          made ready call s first
          (subst (λ t. Answered (carried camera ready call t)) (sym (idle_is s idle)) (carried_on call s.acks s.registers s.interpreter is enough all));
      of_waiting = λ c buffer budget s first is_up all enough.
          made (parked c Waiting) (resume buffer budget) s first
          (subst (λ t. Answered (collected camera c Waiting buffer budget t)) (sym (up_is s is_up.unhung is_up.booted))
          (collected_on c buffer budget s.busy s.acks s.registers s.interpreter enough all));
      of_reading = λ c buffer budget s first idle all.
          made (parked c Reading) (resume buffer budget) s first
          (subst (λ t. Answered (delivered camera c.kind c.number buffer t)) (sym (idle_is s idle))
          (delivered_on c.kind c.number buffer s.acks s.registers s.interpreter all));
    }
