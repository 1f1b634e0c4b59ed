-- An order that passed its tests: beginning it and collecting it test nothing that could fail any more.
use Rattle.std.proofs.Common.{◌≡◌, ℕ, Bool, true, eqb, List, [], length, None, Ok, Err, Result, Bor, sym, refl, ap, ◌∙◌}
use Rattle.checks.specs.Tests.{first_failing, judged}
use Rattle.checks.proofs.Passing.{all_pass, judged_back, none_fails}
use Rattle.camera.specs.declared.fault.Fault.{Fault}
use Rattle.camera.specs.Execution.{moved}
use Rattle.camera.specs.State.{CameraState}
use Rattle.camera.specs.Steps.{Outcome, ended}
use Rattle.calls.specs.declared.refusal.Refusal.{Refusal}
use Rattle.calls.specs.declared.refusal.Refusal.TheVariants.{Bus}
use Rattle.calls.specs.declared.stage.Stage.TheVariants.{Waiting}
use Rattle.calls.specs.Accesses.{camera}
use Rattle.calls.specs.Beginning.{words_sent, begin_checks, sent_off, begun}
use Rattle.calls.specs.Calls.{Session, ready, parked, Served, served, checks, command_checks, has_room, get, set, run, resume}
use Rattle.calls.specs.Outcomes.{by_answer, collected, issued, outcome}
use Rattle.session.specs.declared.orders.Order.{Order}
use Rattle.session.specs.declared.orders.Order.TheVariants.{Get, Set, Run}
use Rattle.session.specs.Views.{brought, command_in, words_in, order_outcome}

abbrev tests : Session → Order → List ℕ → ℕ → List (Bool × Refusal)
tests session o buffer budget = command_checks session (command_in o).kind (command_in o).number (brought o buffer) budget

-- the words to be sent are as many as they should be, and a get's buffer has room
right_words : (o : Order) (buffer : List ℕ) → eqb (length (brought o buffer)) (moved (command_in o).kind (command_in o).number) ≡ true →
    eqb (length (words_in o)) (words_sent (command_in o).kind (command_in o).number) ≡ true
right_words (Get number) buffer e = refl
right_words (Set number words) buffer e = e
right_words (Run number) buffer e = refl

room : (o : Order) (buffer : List ℕ) → eqb (length (brought o buffer)) (moved (command_in o).kind (command_in o).number) ≡ true →
    has_room (command_in o).kind (command_in o).number buffer ≡ true
room (Get number) buffer e = e
room (Set number words) buffer e = refl
room (Run number) buffer e = refl

-- what sending answers, with a fault as a refusal
abbrev lifted : Outcome CameraState (Unit {0}) Fault → Outcome CameraState (Unit {0}) Refusal
lifted o = by_answer o (λ _ t. ended (Ok tt) t) (λ fault t. ended (Err (Bus fault)) t)

-- Two ways to go on that agree everywhere agree after a sending.
sent_on : (o : Outcome CameraState (Unit {0}) Fault) (one other : CameraState → Served CameraState) (stop : Refusal → CameraState → Served CameraState) →
    ((t : CameraState) → one t ≡ other t) → by_answer (lifted o) (λ _ t. one t) stop ≡ by_answer o (λ _ t. other t) (λ fault t. stop (Bus fault) t)
sent_on o one other stop same = go o.answer
  where
    go : (r : Result (Unit {0}) Fault) →
        by_answer (lifted (ended r o.after)) (λ _ t. one t) stop ≡ by_answer (ended r o.after) (λ _ t. other t) (λ fault t. stop (Bus fault) t)
    go (Ok _) = same o.after
    go (Err fault) = refl

-- Begun and collected, it is the whole command.
pub in_steps : (session : Session) (o : Order) (buffer : List ℕ) (budget : ℕ) (s : CameraState) → judged {A = Unit {0}} (tests session o buffer budget) tt ≡ Ok tt →
    by_answer (begun camera (command_in o) (words_in o) s) (λ _ t. outcome camera (parked (command_in o) Waiting) (resume buffer budget) t) (λ refusal t. served (Err refusal) buffer ready t)
    ≡ order_outcome session o buffer budget s
in_steps session o buffer budget s passed =
    let c = command_in o in
    let fine : first_failing (tests session o buffer budget) ≡ None = (judged_back (tests session o buffer budget) tt tt passed).0 in
    let all = all_pass (tests session o buffer budget) fine in
    let few : first_failing (begin_checks c (words_in o)) ≡ None =
    none_fails (begin_checks c (words_in o)) (all.1.1.0, (right_words o buffer all.1.1.1.0, tt)) in
    let again = checks (parked c Waiting) (resume buffer budget) in
    let passes : first_failing again ≡ None = none_fails again (refl, (room o buffer all.1.1.1.0, (all.1.1.1.1.0, tt))) in
    let begins : begun camera c (words_in o) s ≡ sent_off camera c (words_in o) s = rw (few, begun) in
    let collects : (t : CameraState) → outcome camera (parked c Waiting) (resume buffer budget) t ≡ collected camera c Waiting buffer budget t = λ t. rw (passes, outcome) in
    let whole : order_outcome session o buffer budget s ≡ issued camera c (words_in o) buffer budget s = rw (fine, order_outcome) in
    ap (λ begun. by_answer begun (λ _ t. outcome camera (parked c Waiting) (resume buffer budget) t) (λ refusal t. served (Err refusal) buffer ready t)) begins
    ∙ sent_on (camera.send c (words_in o) s) (λ t. outcome camera (parked c Waiting) (resume buffer budget) t) (λ t. collected camera c Waiting buffer budget t) (λ refusal t. served (Err refusal) buffer ready t) collects
    ∙ sym whole

-- The three orders are the three calls.
pub order_is_get : (session : Session) (number : ℕ) (buffer : List ℕ) (budget : ℕ) (s : CameraState) →
    order_outcome session (Get number) buffer budget s ≡ outcome camera session (get number buffer budget) s
order_is_get session number buffer budget s = refl

pub order_is_set : (session : Session) (number : ℕ) (words : Bor (List ℕ)) (budget : ℕ) (s : CameraState) →
    order_outcome session (Set number words) [] budget s ≡ outcome camera session (set number words.now budget) s
order_is_set session number words budget s = refl

pub order_is_run : (session : Session) (number budget : ℕ) (s : CameraState) →
    order_outcome session (Run number) [] budget s ≡ outcome camera session (run number budget) s
order_is_run session number budget s = refl
