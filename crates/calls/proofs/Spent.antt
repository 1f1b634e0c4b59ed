-- A call that is refused since the camera is still busy has spent its whole budget.
use Rattle.std.proofs.Common.{◌≡◌, ℕ, zero, suc, Bool, true, false, cond, List, [], ℤ, pos, negsuc, Some, None, Ok, Err, Option, Result, refl, ap, ◌∙◌, arith}
use Rattle.checks.specs.Tests.{AllRefuse}
use Rattle.checks.proofs.Passing.{refusal_among}
use Rattle.words.specs.Code.{code_of}
use Rattle.camera.specs.declared.attribute.Kind.{Kind}
use Rattle.camera.specs.declared.attribute.Kind.TheVariants.{Get, Set, Run}
use Rattle.camera.specs.declared.command.Command.{Command}
use Rattle.camera.specs.declared.fault.Fault.{Fault}
use Rattle.camera.specs.Commands.{command}
use Rattle.camera.specs.Steps.{Outcome, ended}
use Rattle.calls.specs.declared.refusal.Refusal.{Refusal}
use Rattle.calls.specs.declared.refusal.Refusal.TheVariants.{Bus, StillBusy}
use Rattle.calls.specs.declared.stage.Stage.{Stage}
use Rattle.calls.specs.declared.stage.Stage.TheVariants.{Waiting, Reading}
use Rattle.calls.specs.Calls.{Session, asleep, ready, parked, Call, wake, get, set, run, resume, Served, served, buffer_of, checks, command_checks, refused_first}
use Rattle.calls.specs.Outcomes.{Machine, by_answer, is_free, is_up, polled, read_out, delivered, by_code, collected, issued, carried, outcome}
use Rattle.calls.specs.Accesses.{camera}
use Rattle.calls.specs.ShortLaws.{ReadsInVain, SentAndBusy, Spent, StillBusyMeansSpent}

-- What holds of both ways on, each with the answer that leads there, holds of going on.
by_cases : {S A E T : Type 0} (o : Outcome S A E) (k : A → S → T) (f : E → S → T) (G : T → Type 0) →
    ((x : A) → o ≡ ended (Ok x) o.after → G (k x o.after)) → ((e : E) → o ≡ ended (Err e) o.after → G (f e o.after)) → G (by_answer o k f)
by_cases {A = A} {E = E} o k f G on_ok on_err = go o.answer refl
  where
    go : (r : Result A E) → o.answer ≡ r → G (by_answer (ended r o.after) k f)
    go (Ok x) e = on_ok x (λ i. ended (e i) o.after)
    go (Err x) e = on_err x (λ i. ended (e i) o.after)

-- Polling that ends still busy has read in vain, as often as it was allowed.
abbrev InVain : {M : Type 0} → Machine M → (ℕ → Bool) → ℕ → M → Outcome M ℕ Refusal → Type 0
InVain m passes left s o = o.answer ≡ Err StillBusy → ReadsInVain m passes left s o.after

polled_spent : {M : Type 0} (m : Machine M) (passes : ℕ → Bool) (left : ℕ) (s : M) → InVain m passes left s (polled m passes left s)
unfolding polled
polled_spent m passes zero s = λ busy. refl
polled_spent {M} m passes (suc left) s =
    by_cases (m.poll s) (λ status t. cond (passes status) (ended (Ok status) t) (polled m passes left t)) (λ fault t. ended (Err (Bus fault)) t)
    (InVain m passes (suc left) s) (λ status is. tested (polled_spent m passes left) status is (passes status) refl) (λ fault is busy. absurd (grind (arith, busy)))
  where
    next : M
    next = (m.poll s).after

    tested : ((u : M) → InVain m passes left u (polled m passes left u)) →
        (status : ℕ) → m.poll s ≡ ended (Ok status) next → (b : Bool) → passes status ≡ b →
        InVain m passes (suc left) s (cond b (ended (Ok status) next) (polled m passes left next))
    tested later status is true e busy = absurd (grind (arith, busy))
    tested later status is false e busy = (status, next, is, e, later next busy)

-- a call that ends still busy has done this
abbrev BusyAfter : {M : Type 0} → (M → Type 0) → Served M → Type 0
BusyAfter P o = o.result ≡ Err StillBusy → P o.after

-- Polling first, and going on with a word in a way that is never still busy.
polled_first : {M : Type 0} (m : Machine M) (passes : ℕ → Bool) (budget : ℕ) (s : M) (k : ℕ → M → Served M) (buffer : List ℕ) (session : Session) →
    ((status : ℕ) (t : M) → (k status t).result ≡ Err StillBusy → ⊥) →
    BusyAfter (ReadsInVain m passes budget s) (by_answer (polled m passes budget s) k (λ refusal t. served (Err refusal) buffer session t))
polled_first m passes budget s k buffer session never =
    by_cases (polled m passes budget s) k (λ refusal t. served (Err refusal) buffer session t) (BusyAfter (ReadsInVain m passes budget s))
    (λ status is busy. absurd (never status (polled m passes budget s).after busy))
    (λ refusal is busy. polled_spent m passes budget s (ap (λ o. o.answer) is ∙ ap Err (let same : refusal ≡ StillBusy = cc in same)))

-- Reading out what the camera has answered is never still busy.
delivered_never : {M : Type 0} (m : Machine M) (kind : Kind) (number : ℕ) (buffer : List ℕ) (s : M) → (delivered m kind number buffer s).result ≡ Err StillBusy → ⊥
delivered_never {M} m Get number buffer s = go (m.fetch number buffer s).answer
  where
    go : (r : Result (Unit {0}) Fault) →
        (read_out number (record { answer = r; words = (m.fetch number buffer s).words; after = (m.fetch number buffer s).after })).result ≡ Err StillBusy → ⊥
    go (Ok x) busy = grind arith
    go (Err fault) busy = grind arith
delivered_never m Set number buffer s = λ busy. grind arith
delivered_never m Run number buffer s = λ busy. grind arith

coded_never : {M : Type 0} (m : Machine M) (c : Command) (buffer : List ℕ) (code : ℤ) (s : M) → (by_code m c buffer code s).result ≡ Err StillBusy → ⊥
coded_never m c buffer (pos zero) s busy = delivered_never m c.kind c.number buffer s busy
coded_never m c buffer (pos (suc code)) s busy = grind arith
coded_never m c buffer (negsuc code) s busy = grind arith

collected_spent : {M : Type 0} (m : Machine M) (c : Command) (stage : Stage) (buffer : List ℕ) (budget : ℕ) (s : M) →
    BusyAfter (ReadsInVain m is_free budget s) (collected m c stage buffer budget s)
collected_spent m c Waiting buffer budget s =
    polled_first m is_free budget s (λ status t. by_code m c buffer (code_of status) t) buffer (parked c Waiting)
    (λ status t busy. coded_never m c buffer (code_of status) t busy)
collected_spent m c Reading buffer budget s = λ busy. absurd (delivered_never m c.kind c.number buffer s busy)

issued_spent : {M : Type 0} (m : Machine M) (c : Command) (words buffer : List ℕ) (budget : ℕ) (s : M) →
    BusyAfter (SentAndBusy m c words budget s) (issued m c words buffer budget s)
issued_spent m c words buffer budget s =
    by_cases (m.send c words s) (λ _ t. collected m c Waiting buffer budget t) (λ fault t. served (Err (Bus fault)) buffer ready t)
    (BusyAfter (SentAndBusy m c words budget s))
    (λ x is busy. ((m.send c words s).after, is, collected_spent m c Waiting buffer budget (m.send c words s).after busy)) (λ fault is busy. absurd (grind (arith, busy)))

carried_spent : {M : Type 0} (m : Machine M) (session : Session) (call : Call) (s : M) → BusyAfter (Spent m call s) (carried m session call s)
carried_spent m session (wake budget) s =
    polled_first m is_up budget s (λ status t. served (Ok tt) [] ready t) [] asleep (λ status t busy. grind arith)
carried_spent m session (get number buffer budget) s = issued_spent m (command Get number) [] buffer budget s
carried_spent m session (set number words budget) s = issued_spent m (command Set number) words [] budget s
carried_spent m session (run number budget) s = issued_spent m (command Run number) [] [] budget s
carried_spent m asleep (resume buffer budget) s = λ busy. absurd (grind (arith, busy))
carried_spent m ready (resume buffer budget) s = λ busy. absurd (grind (arith, busy))
carried_spent m (parked c stage) (resume buffer budget) s = collected_spent m c stage buffer budget s

-- No test before the first access refuses as still busy.
abbrev NotBusy : Refusal → Type 0
NotBusy refusal = refusal ≡ StillBusy → ⊥

command_not_busy : (session : Session) (kind : Kind) (number : ℕ) (words : List ℕ) (budget : ℕ) → AllRefuse NotBusy (command_checks session kind number words budget)
command_not_busy session kind number words budget = (λ e. grind arith, (λ e. grind arith, (λ e. grind arith, (λ e. grind arith, (λ e. grind arith, tt)))))

checks_not_busy : (session : Session) (call : Call) → AllRefuse NotBusy (checks session call)
checks_not_busy session (wake budget) = (λ e. grind arith, (λ e. grind arith, tt))
checks_not_busy session (get number buffer budget) = command_not_busy session Get number buffer budget
checks_not_busy session (set number words budget) = command_not_busy session Set number words budget
checks_not_busy session (run number budget) = command_not_busy session Run number [] budget
checks_not_busy session (resume buffer budget) = (λ e. grind arith, (λ e. grind arith, (λ e. grind arith, tt)))

outcome_spent : {M : Type 0} (m : Machine M) (session : Session) (call : Call) (s : M) → BusyAfter (Spent m call s) (outcome m session call s)
outcome_spent {M} m session call s = go (refused_first session call) refl
  where
    go : (found : Option Refusal) → refused_first session call ≡ found →
        BusyAfter (Spent m call s)
        (elim found as (λ _. Served M) [ Some refusal ↦ served (Err refusal) (buffer_of call) session s | None ↦ carried m session call s ])
    go None e busy = carried_spent m session call s busy
    go (Some refusal) e busy =
        let same : refusal ≡ StillBusy = cc in
        absurd (refusal_among NotBusy (checks session call) refusal (checks_not_busy session call) e same)

pub still_busy_means_spent : StillBusyMeansSpent
still_busy_means_spent session call s = outcome_spent camera session call s
