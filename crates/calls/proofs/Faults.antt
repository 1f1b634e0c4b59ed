-- Every fault that comes up through a call comes from an access that was not acknowledged.
use Rattle.std.proofs.Common.{◌≡◌, ℕ, zero, suc, ◌+◌, ◌<◌, ◌≤◌, Bool, true, false, cond, leb, List, [], ◌∷◌, ◌++◌, length, ℤ, pos, negsuc, Some, None, Ok, Err, Option, Result, sym, refl, ap, ◌∙◌, subst, arith}
use Rattle.checks.specs.Tests.{first_failing}
use Rattle.checks.proofs.Passing.{all_pass, refusal_among}
use Rattle.words.specs.Code.{code_of}
use Rattle.camera.specs.declared.attribute.Kind.{Kind}
use Rattle.camera.specs.declared.attribute.Kind.TheVariants.{Get, Set, Run}
use Rattle.camera.specs.declared.command.Command.{Command}
use Rattle.camera.specs.declared.fault.Fault.{Fault}
use Rattle.camera.specs.declared.register.Register.{Register}
use Rattle.camera.specs.declared.register.Register.TheVariants.{Status, Command as CommandRegister, Length}
use Rattle.camera.specs.Attributes.{size_of}
use Rattle.camera.specs.Commands.{command}
use Rattle.camera.specs.Execution.{by_data, moved}
use Rattle.camera.specs.Laws.{Access, reads, writes, after}
use Rattle.camera.specs.Registers.{address_of, register_at, Exists}
use Rattle.camera.specs.State.{CameraState}
use Rattle.camera.specs.Steps.{Outcome, access, after_read, after_write, ended, marked, mode, next_ack, read_effect, read_step, unless_unacknowledged, word_read, write_effect, write_step}
use Rattle.camera.proofs.Addresses.{one_address}
use Rattle.camera.proofs.Sizes.{size_bound}
use Rattle.calls.specs.declared.refusal.Refusal.{Refusal}
use Rattle.calls.specs.declared.refusal.Refusal.TheVariants.{Bus}
use Rattle.calls.specs.declared.stage.Stage.{Stage}
use Rattle.calls.specs.declared.stage.Stage.TheVariants.{Waiting, Reading}
use Rattle.calls.specs.Calls.{Session, asleep, ready, parked, Call, wake, get, set, run, resume, Served, served, buffer_of, checks, command_checks, has_room, refused_first}
use Rattle.calls.specs.Outcomes.{Fetched, by_answer, by_code, carried, collected, delivered, is_free, is_up, issued, polled, read_out}
use Rattle.calls.specs.Accesses.{camera, command_written, place_register, register_read, register_written, sent, with_word, word_for, words_read, words_written}
use Rattle.calls.specs.Progress.{Acknowledged, Unacknowledged, EightMeansUnacknowledged}
use Rattle.calls.proofs.Following.{Holds}

-- a state that acknowledged accesses lead to
record Reached (s t : CameraState) : Type 0 where
  accesses : List Access
  acknowledged : Acknowledged accesses s
  is : t ≡ after accesses s

after_append : (xs ys : List Access) (s : CameraState) → after (xs ++ ys) s ≡ after ys (after xs s)
after_append [] ys s = refl
after_append (reads address ∷ xs) ys s = after_append xs ys (read_step s address).after
after_append (writes address word ∷ xs) ys s = after_append xs ys (write_step s address word).after

acknowledged_append : (xs ys : List Access) (s : CameraState) → Acknowledged xs s → Acknowledged ys (after xs s) → Acknowledged (xs ++ ys) s
acknowledged_append [] ys s all more = more
acknowledged_append (reads address ∷ xs) ys s all more = (all.0, acknowledged_append xs ys (read_step s address).after all.1 more)
acknowledged_append (writes address word ∷ xs) ys s all more = (all.0, acknowledged_append xs ys (write_step s address word).after all.1 more)

-- An operation is tracked: carried out, acknowledged accesses lead to its end; or its fault comes from one that was not.
abbrev Tracked : {A : Type 0} → CameraState → Outcome CameraState A Fault → Type 0
Tracked s o = Holds o.answer (λ _. Reached s o.after) (λ fault. Unacknowledged s o.after fault)

-- what an access to a register does, by its mark
abbrev by_mark : {A : Type 0} → Register → CameraState → A → CameraState → Outcome CameraState A Fault
by_mark register t x u = unless_unacknowledged (next_ack t.acks) (address_of register) (marked t) (ended (Ok x) u)

tracked_one : {A : Type 0} (s t : CameraState) (register : Register) (x : A) (u : CameraState) (one : Access) → Exists register →
    ((v : CameraState) → next_ack v.acks ≡ true → Acknowledged (one ∷ []) v) → (by_mark register t x u).after ≡ after (one ∷ []) t → Reached s t →
    Tracked s (by_mark register t x u)
tracked_one {A} s t register x u one exists marks is reached = go (next_ack t.acks) refl
  where
    here : List Access
    here = reached.accesses

    outcome_by : Bool → Outcome CameraState A Fault
    outcome_by b = unless_unacknowledged b (address_of register) (marked t) (ended (Ok x) u)

    go : (b : Bool) → next_ack t.acks ≡ b → Tracked s (outcome_by b)
    go true e =
        record {
          accesses = here ++ (one ∷ []);
          acknowledged = acknowledged_append here (one ∷ []) s reached.acknowledged (subst (Acknowledged (one ∷ [])) reached.is (marks t e));
          is = sym (ap (λ b. (outcome_by b).after) e) ∙ is ∙ ap (after (one ∷ [])) reached.is ∙ sym (after_append here (one ∷ []) s);
        }
    go false e =
        record {
          accesses = here;
          acknowledged = reached.acknowledged;
          not_acknowledged = sym (ap (λ v. next_ack v.acks) reached.is) ∙ e;
          register = register;
          exists = exists;
          at_it = refl;
          unchanged = ap marked reached.is;
        }

found : (register : Register) → Exists register → register_at (address_of register) ≡ Ok register
found register exists = (one_address (address_of register)).address_of_register register exists refl

tracked_read : (s t : CameraState) (register : Register) → Exists register → Reached s t → Tracked s (register_read register t)
unfolding register_read read_step
tracked_read s t register exists reached =
    tracked_one s t register (word_read (mode (marked t)) register (marked t)) (after_read (mode (marked t)) register (marked t)) (reads (address_of register)) exists (λ v e. (e, tt))
    (sym (ap (λ f. (access f (address_of register) t read_effect).after) (found register exists))) reached

tracked_write : (s t : CameraState) (register : Register) (word : ℕ) → Exists register → Reached s t → Tracked s (register_written register word t)
unfolding register_written write_step
tracked_write s t register word exists reached =
    tracked_one s t register tt (after_write (mode (marked t)) register word (marked t)) (writes (address_of register) word) exists (λ v e. (e, tt))
    (sym (ap (λ f. (access f (address_of register) t (write_effect word)).after) (found register exists))) reached

-- Going on with an operation: what holds of its answer and end, carried over to what follows.
follow : {A E T : Type 0} (o : Outcome CameraState A E) (done : A → CameraState → T) (failed : E → CameraState → T) (P : T → Type 0)
    (Q : A → CameraState → Type 0) (F : E → CameraState → Type 0) → Holds o.answer (λ x. Q x o.after) (λ e. F e o.after) →
    ((x : A) (t : CameraState) → Q x t → P (done x t)) → ((e : E) (t : CameraState) → F e t → P (failed e t)) → P (by_answer o done failed)
follow {A} {E} {T} o done failed P Q F = go o.answer
  where
    go : (r : Result A E) → Holds r (λ x. Q x o.after) (λ e. F e o.after) → ((x : A) (t : CameraState) → Q x t → P (done x t)) →
        ((e : E) (t : CameraState) → F e t → P (failed e t)) → P (elim r as (λ _. T) [ Ok x ↦ done x o.after | Err e ↦ failed e o.after ])
    go (Ok x) h on off = on x o.after h
    go (Err e) h on off = off e o.after h

-- how many words pass through the data registers, and through the block buffer
abbrev limit : Bool → ℕ
limit true = 16
limit false = 512

place_exists : (through : Bool) (place : ℕ) → place < limit through → Exists (place_register through place)
place_exists true place h = h
place_exists false place h = h

tracked_words : (s : CameraState) (through : Bool) (place : ℕ) (words : List ℕ) (t : CameraState) → place + length words ≤ limit through → Reached s t →
    Tracked s (words_written through place words t)
unfolding words_written
tracked_words s through place [] t room reached = reached
tracked_words s through place (word ∷ words) t room reached =
    follow (register_written (place_register through place) word t) (λ _ u. words_written through (suc place) words u) (λ fault u. ended (Err fault) u)
    (Tracked s) (λ _ u. Reached s u) (λ fault u. Unacknowledged s u fault)
    (tracked_write s t (place_register through place) word (place_exists through place (omega arith)) reached)
    (λ _ u here. tracked_words s through (suc place) words u (omega arith) here) (λ fault u un. un)

-- the same of words that are read
abbrev FetchTracked : CameraState → Fetched CameraState → Type 0
FetchTracked s f = Holds f.answer (λ _. Reached s f.after) (λ fault. Unacknowledged s f.after fault)

tracked_fetch : (s : CameraState) (through : Bool) (place : ℕ) (buffer : List ℕ) (t : CameraState) → place + length buffer ≤ limit through → Reached s t →
    FetchTracked s (words_read through place buffer t)
unfolding words_read
tracked_fetch s through place [] t room reached = reached
tracked_fetch s through place (old ∷ rest) t room reached =
    follow (register_read (place_register through place) t) (λ word u. with_word word (words_read through (suc place) rest u))
    (λ fault u. record { answer = Err fault; words = old ∷ rest; after = u })
    (FetchTracked s) (λ _ u. Reached s u) (λ fault u. Unacknowledged s u fault)
    (tracked_read s t (place_register through place) (place_exists through place (omega arith)) reached)
    (λ _ u here. tracked_fetch s through (suc place) rest u (omega arith) here) (λ fault u un. un)

-- an attribute's words have room where they pass
fits : (number n : ℕ) → n ≤ size_of number → 0 + n ≤ limit (by_data number)
fits number n h = go (leb (size_of number) 16) refl
  where
    go : (b : Bool) → leb (size_of number) 16 ≡ b → 0 + n ≤ limit b
    go true e = let few : size_of number ≤ 16 = grind (arith, e) in omega arith
    go false e = omega (arith, size_bound number)

tracked_send : (s : CameraState) (c : Command) (words : List ℕ) (t : CameraState) → length words ≤ size_of c.number → Reached s t → Tracked s (sent c words t)
tracked_send s c words t room reached =
    follow (words_written (by_data c.number) 0 words t) (λ _ u. command_written c u) (λ fault u. ended (Err fault) u)
    (Tracked s) (λ _ u. Reached s u) (λ fault u. Unacknowledged s u fault)
    (tracked_words s (by_data c.number) 0 words t (fits c.number (length words) room) reached)
    (λ _ u here.
    follow (register_written Length (moved c.kind c.number) u) (λ _ v. register_written CommandRegister (word_for c) v) (λ fault v. ended (Err fault) v)
    (Tracked s) (λ _ v. Reached s v) (λ fault v. Unacknowledged s v fault)
    (tracked_write s u Length (moved c.kind c.number) tt here)
    (λ _ v there. tracked_write s v CommandRegister (word_for c) tt there) (λ fault v un. un))
    (λ fault u un. un)

-- a refusal that is a fault of the bus comes from an access that was not acknowledged
abbrev Met : CameraState → Refusal → CameraState → Type 0
Met s refusal t = (fault : Fault) → refusal ≡ Bus fault → Unacknowledged s t fault

abbrev ServedTracked : CameraState → Served CameraState → Type 0
ServedTracked s o = (fault : Fault) → o.result ≡ Err (Bus fault) → Unacknowledged s o.after fault

tracked_poll : (s : CameraState) (passes : ℕ → Bool) (left : ℕ) (t : CameraState) → Reached s t →
    Holds (polled camera passes left t).answer (λ _. Reached s (polled camera passes left t).after) (λ refusal. Met s refusal (polled camera passes left t).after)
unfolding polled
tracked_poll s passes zero t reached = λ fault e. grind arith
tracked_poll s passes (suc left) t reached =
    follow (register_read Status t) (λ status u. cond (passes status) (ended (Ok status) u) (polled camera passes left u)) (λ fault u. ended (Err (Bus fault)) u)
    PollTracked (λ _ u. Reached s u) (λ fault u. Unacknowledged s u fault) (tracked_read s t Status tt reached)
    (λ status u here. go (passes status) status u here (tracked_poll s passes left u here))
    (λ fault u un fault' e. let same : fault ≡ fault' = cc in subst (Unacknowledged s u) same un)
  where
    PollTracked : Outcome CameraState ℕ Refusal → Type 0
    PollTracked o = Holds o.answer (λ _. Reached s o.after) (λ refusal. Met s refusal o.after)

    go : (b : Bool) (status : ℕ) (u : CameraState) → Reached s u → PollTracked (polled camera passes left u) → PollTracked (cond b (ended (Ok status) u) (polled camera passes left u))
    go true status u here later = here
    go false status u here later = later

-- a get that reads its words
tracked_out : (s : CameraState) (number : ℕ) (f : Fetched CameraState) → FetchTracked s f → ServedTracked s (read_out number f)
tracked_out s number f = go f.answer
  where
    go : (r : Result (Unit {0}) Fault) → Holds r (λ _. Reached s f.after) (λ fault. Unacknowledged s f.after fault) →
        ServedTracked s
        (elim r as (λ _. Served CameraState) [
          | Ok _ ↦ served (Ok tt) f.words ready f.after
          | Err fault ↦ served (Err (Bus fault)) f.words (parked (command Get number) Reading) f.after
        ])
    go (Ok x) h fault e = grind arith
    go (Err fault) h fault' e = let same : fault ≡ fault' = cc in subst (Unacknowledged s f.after) same h

tracked_deliver : (s : CameraState) (kind : Kind) (number : ℕ) (buffer : List ℕ) (t : CameraState) → has_room kind number buffer ≡ true → Reached s t →
    ServedTracked s (delivered camera kind number buffer t)
tracked_deliver s Get number buffer t room reached =
    let size : length buffer ≤ size_of number = grind (arith, room) in
    tracked_out s number (words_read (by_data number) 0 buffer t) (tracked_fetch s (by_data number) 0 buffer t (fits number (length buffer) size) reached)
tracked_deliver s Set number buffer t room reached = λ fault e. grind arith
tracked_deliver s Run number buffer t room reached = λ fault e. grind arith

tracked_code : (s : CameraState) (c : Command) (buffer : List ℕ) (code : ℤ) (t : CameraState) → has_room c.kind c.number buffer ≡ true → Reached s t →
    ServedTracked s (by_code camera c buffer code t)
tracked_code s c buffer (pos zero) t room reached = tracked_deliver s c.kind c.number buffer t room reached
tracked_code s c buffer (pos (suc code)) t room reached = λ fault e. grind arith
tracked_code s c buffer (negsuc code) t room reached = λ fault e. grind arith

-- a refusal is handed on as it is
handed_on : (s : CameraState) (refusal : Refusal) (t : CameraState) → Met s refusal t → (fault : Fault) → ◌≡◌ {A = Result (Unit {0}) Refusal} (Err refusal) (Err (Bus fault)) → Unacknowledged s t fault
handed_on s refusal t met fault e = met fault (cc)

tracked_collect : (s : CameraState) (c : Command) (stage : Stage) (buffer : List ℕ) (budget : ℕ) (t : CameraState) → has_room c.kind c.number buffer ≡ true → Reached s t →
    ServedTracked s (collected camera c stage buffer budget t)
tracked_collect s c Waiting buffer budget t room reached =
    follow (polled camera is_free budget t) (λ status u. by_code camera c buffer (code_of status) u) (λ refusal u. served (Err refusal) buffer (parked c Waiting) u)
    (ServedTracked s) (λ _ u. Reached s u) (λ refusal u. Met s refusal u) (tracked_poll s is_free budget t reached)
    (λ status u here. tracked_code s c buffer (code_of status) u room here) (λ refusal u met. handed_on s refusal u met)
tracked_collect s c Reading buffer budget t room reached = tracked_deliver s c.kind c.number buffer t room reached

tracked_issue : (s : CameraState) (c : Command) (words buffer : List ℕ) (budget : ℕ) (t : CameraState) → length words ≤ size_of c.number →
    has_room c.kind c.number buffer ≡ true → Reached s t → ServedTracked s (issued camera c words buffer budget t)
tracked_issue s c words buffer budget t size room reached =
    follow (sent c words t) (λ _ u. collected camera c Waiting buffer budget u) (λ fault u. served (Err (Bus fault)) buffer ready u)
    (ServedTracked s) (λ _ u. Reached s u) (λ fault u. Unacknowledged s u fault) (tracked_send s c words t size reached)
    (λ _ u here. tracked_collect s c Waiting buffer budget u room here)
    (λ fault u un fault' e. let same : fault ≡ fault' = cc in subst (Unacknowledged s u) same un)

-- a call that passed its first tests
tracked_call : (session : Session) (call : Call) (s : CameraState) → refused_first session call ≡ None → Reached s s → ServedTracked s (carried camera session call s)
tracked_call session (wake budget) s first reached =
    follow (polled camera is_up budget s) (λ status u. served (Ok tt) [] ready u) (λ refusal u. served (Err refusal) [] asleep u)
    (ServedTracked s) (λ _ u. Reached s u) (λ refusal u. Met s refusal u) (tracked_poll s is_up budget s reached)
    (λ status u here fault e. grind arith) (λ refusal u met. handed_on s refusal u met)
tracked_call session (get number buffer budget) s first reached =
    let pass = all_pass (checks session (get number buffer budget)) first in
    tracked_issue s (command Get number) [] buffer budget s (omega arith) pass.1.1.1.0 reached
tracked_call session (set number words budget) s first reached =
    let pass = all_pass (checks session (set number words budget)) first in
    let size : length words ≤ size_of number = grind (arith, pass.1.1.1.0) in
    tracked_issue s (command Set number) words [] budget s size refl reached
tracked_call session (run number budget) s first reached = tracked_issue s (command Run number) [] [] budget s (omega arith) refl reached
tracked_call asleep (resume buffer budget) s first reached = λ fault e. grind arith
tracked_call ready (resume buffer budget) s first reached = λ fault e. grind arith
tracked_call (parked c stage) (resume buffer budget) s first reached =
    let pass = all_pass (checks (parked c stage) (resume buffer budget)) first in
    tracked_collect s c stage buffer budget s pass.1.0 reached

-- the first tests refuse with no fault of the bus
abbrev NoFault : Refusal → Type 0
NoFault refusal = (fault : Fault) → refusal ≡ Bus fault → ⊥

command_no_fault : (session : Session) (kind : Kind) (number : ℕ) (words : List ℕ) (budget : ℕ) (refusal : Refusal) →
    first_failing (command_checks session kind number words budget) ≡ Some refusal → NoFault refusal
command_no_fault session kind number words budget refusal e =
    refusal_among NoFault (command_checks session kind number words budget) refusal
    (λ fault h. grind arith, (λ fault h. grind arith, (λ fault h. grind arith, (λ fault h. grind arith, (λ fault h. grind arith, tt))))) e

first_no_fault : (session : Session) (call : Call) (refusal : Refusal) → refused_first session call ≡ Some refusal → NoFault refusal
first_no_fault session (wake budget) refusal e =
    refusal_among NoFault (checks session (wake budget)) refusal (λ fault h. grind arith, (λ fault h. grind arith, tt)) e
first_no_fault session (get number buffer budget) refusal e = command_no_fault session Get number buffer budget refusal e
first_no_fault session (set number words budget) refusal e = command_no_fault session Set number words budget refusal e
first_no_fault session (run number budget) refusal e = command_no_fault session Run number [] budget refusal e
first_no_fault session (resume buffer budget) refusal e =
    refusal_among NoFault (checks session (resume buffer budget)) refusal
    (λ fault h. grind arith, (λ fault h. grind arith, (λ fault h. grind arith, tt))) e

pub eight_means_unacknowledged : EightMeansUnacknowledged
eight_means_unacknowledged session call s = go (refused_first session call) refl
  where
    go : (o : Option Refusal) → refused_first session call ≡ o →
        ServedTracked s (elim o as (λ _. Served CameraState) [ Some refusal ↦ served (Err refusal) (buffer_of call) session s | None ↦ carried camera session call s ])
    go None is fault e = tracked_call session call s is (record { accesses = []; acknowledged = tt; is = refl }) fault e
    go (Some refusal) is fault e = absurd (first_no_fault session call refusal is fault (cc))
