-- Two short laws of calls and call sequences over a camera.
use Rattle.std.specs.Prelude.{◌≡◌, ℕ, zero, suc, Bool, false, List, [], ◌++◌, Ok, Err}
use Rattle.camera.specs.declared.attribute.Kind.TheVariants.{Get, Set, Run}
use Rattle.camera.specs.declared.command.Command.{Command}
use Rattle.camera.specs.Commands.{command}
use Rattle.camera.specs.State.{CameraState}
use Rattle.camera.specs.Steps.{ended}
use Rattle.calls.specs.declared.refusal.Refusal.TheVariants.{StillBusy}
use Rattle.calls.specs.Calls.{Session, Call, wake, get, set, run, resume}
use Rattle.calls.specs.Outcomes.{Machine, is_up, is_free, outcome}
use Rattle.calls.specs.Accesses.{camera}
use Rattle.calls.specs.Sequences.{Ran, ran}

-- One run and then another: the answers of both in order, and what the other leaves.
abbrev pub then_ran : {M : Type 0} → Ran M → Ran M → Ran M
then_ran one other = record { answers = one.answers ++ other.answers; session = other.session; after = other.after }

-- More calls, from where a run stopped: on the session and the state that it left.
abbrev pub ran_on : {M : Type 0} → Machine M → List Call → Ran M → Ran M
ran_on m calls before = ran m calls before.session before.after

-- A call sequence is the same run at once or in two parts, the second part from where the first stopped: the same answers
-- in the same order, the same session, the same state.
abbrev pub SplitSequences : Type 0
SplitSequences =
    (front rest : List Call) (session : Session) (s : CameraState) →
    ran camera (front ++ rest) session s ≡ then_ran (ran camera front session s) (ran_on camera rest (ran camera front session s))

-- So many status reads in a row lead from one state to another. Each was acknowledged and answered a word, and none of the
-- words passed a test.
abbrev pub ReadsInVain : {M : Type 0} → Machine M → (ℕ → Bool) → ℕ → M → M → Type 0
ReadsInVain m passes zero s t = s ≡ t
ReadsInVain {M} m passes (suc more) s t =
    (status : ℕ) × (next : M) × (m.poll s ≡ ended (Ok status) next) × (passes status ≡ false) × ReadsInVain m passes more next t

-- A command was sent, all of it acknowledged, and then as many status reads as the budget allows found the camera busy.
abbrev pub SentAndBusy : {M : Type 0} → Machine M → Command → List ℕ → ℕ → M → M → Type 0
SentAndBusy {M} m c words budget s t = (taken : M) × (m.send c words s ≡ ended (Ok tt) taken) × ReadsInVain m is_free budget taken t

-- What a call did that spent its whole budget of status reads, from the state before to the state after: a wake reads for
-- a camera that is up, a get, a set and a run send their command first, and a resume goes on waiting.
abbrev pub Spent : {M : Type 0} → Machine M → Call → M → M → Type 0
Spent m (wake budget) s t = ReadsInVain m is_up budget s t
Spent m (get number buffer budget) s t = SentAndBusy m (command Get number) [] budget s t
Spent m (set number words budget) s t = SentAndBusy m (command Set number) words budget s t
Spent m (run number budget) s t = SentAndBusy m (command Run number) [] budget s t
Spent m (resume buffer budget) s t = ReadsInVain m is_free budget s t

-- Still busy means spent: a call that is refused since the camera is still busy has made exactly the budgeted status reads,
-- all of them in vain, and no other access after its command.
abbrev pub StillBusyMeansSpent : Type 0
StillBusyMeansSpent =
    (session : Session) (call : Call) (s : CameraState) →
    (outcome camera session call s).result ≡ Err StillBusy → Spent camera call s (outcome camera session call s).after
