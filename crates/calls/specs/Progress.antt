-- Where a fault of the bus comes from, and when a command is sure to be answered.
use Rattle.std.specs.Prelude.{◌≡◌, ℕ, ◌<◌, Bool, true, false, List, [], ◌∷◌, None, Ok, Err, Result}
use Rattle.camera.specs.declared.command.Command.{Command}
use Rattle.camera.specs.declared.fault.Fault.{Fault}
use Rattle.camera.specs.declared.fault.Fault.TheVariants.{NotAcknowledged}
use Rattle.camera.specs.declared.register.Register.{Register}
use Rattle.camera.specs.Execution.{next_busy}
use Rattle.camera.specs.Laws.{Access, reads, writes, after}
use Rattle.camera.specs.Registers.{address_of, Exists}
use Rattle.camera.specs.State.{CameraState}
use Rattle.camera.specs.Steps.{marked, next_ack, read_step, write_step}
use Rattle.calls.specs.declared.refusal.Refusal.{Refusal}
use Rattle.calls.specs.declared.refusal.Refusal.TheVariants.{Asleep, Awake, CommandParked, NothingParked, NotOffered, WrongSize, BadBudget, Bus, StillBusy, Camera}
use Rattle.calls.specs.declared.stage.Stage.TheVariants.{Waiting, Reading}
use Rattle.calls.specs.Calls.{Session, ready, parked, Call, wake, get, set, run, resume, Served, refused_first}
use Rattle.calls.specs.Outcomes.{outcome}
use Rattle.calls.specs.Accesses.{camera}

-- accesses over the bus, one after the other, that are all acknowledged
abbrev pub Acknowledged : List Access → CameraState → Type 0
Acknowledged [] s = Unit {0}
Acknowledged (reads address ∷ accesses) s = (next_ack s.acks ≡ true) × Acknowledged accesses (read_step s address).after
Acknowledged (writes address word ∷ accesses) s = (next_ack s.acks ≡ true) × Acknowledged accesses (write_step s address word).after

-- A fault that ends a call, and the state `end` after that call from the state `s`: all accesses up to some state were
-- acknowledged, and the next one was not. That one was to a register that there is, whose address the fault has, and it
-- changed nothing but using up its acknowledgement mark.
pub record Unacknowledged (s end : CameraState) (fault : Fault) : Type 0 where
  pub accesses : List Access
  pub acknowledged : Acknowledged accesses s
  pub not_acknowledged : next_ack (after accesses s).acks ≡ false
  pub register : Register
  pub exists : Exists register
  pub at_it : fault ≡ NotAcknowledged (address_of register)
  pub unchanged : end ≡ marked (after accesses s)

-- Refusal 8 means an access that was not acknowledged, in every state of a session and of a camera. So the fault that there
-- is no register never comes up through a call.
abbrev pub EightMeansUnacknowledged : Type 0
EightMeansUnacknowledged =
    (session : Session) (call : Call) (s : CameraState) (fault : Fault) → (outcome camera session call s).result ≡ Err (Bus fault) →
    Unacknowledged s (outcome camera session call s).after fault

-- no acknowledgement mark is missing
abbrev pub AllMarked : List Bool → Type 0
AllMarked [] = Unit {0}
AllMarked (mark ∷ marks) = (mark ≡ true) × AllMarked marks

-- a camera that has booted and does not hang, and one that is not busy either
pub record Up (s : CameraState) : Type 0 where
  pub unhung : s.hung ≡ false
  pub booted : s.boot ≡ 0

pub record Idle (s : CameraState) : Type 0 where
  pub unhung : s.hung ≡ false
  pub booted : s.boot ≡ 0
  pub free : s.busy ≡ 0

-- the calls that begin a command
abbrev pub is_command : Call → Bool
is_command (wake budget) = false
is_command (get number buffer budget) = true
is_command (set number words budget) = true
is_command (run number budget) = true
is_command (resume buffer budget) = false

-- how many status reads a call allows
abbrev pub budget_of : Call → ℕ
budget_of (wake budget) = budget
budget_of (get number buffer budget) = budget
budget_of (set number words budget) = budget
budget_of (run number budget) = budget
budget_of (resume buffer budget) = budget

-- The camera's answer to a command: carried out, or refused with a response code. All other refusals are none.
abbrev pub is_of_camera : Refusal → Bool
is_of_camera Asleep = false
is_of_camera Awake = false
is_of_camera CommandParked = false
is_of_camera NothingParked = false
is_of_camera NotOffered = false
is_of_camera WrongSize = false
is_of_camera BadBudget = false
is_of_camera (Bus fault) = false
is_of_camera StillBusy = false
is_of_camera (Camera code) = true

abbrev pub is_answer : Result (Unit {0}) Refusal → Bool
is_answer (Ok _) = true
is_answer (Err refusal) = is_of_camera refusal

-- A call ends with the camera's answer, and the session is ready for the next command.
pub record Answered (o : Served CameraState) : Type 0 where
  pub answer : is_answer o.result ≡ true
  pub session : o.session ≡ ready

-- Progress, where every access is acknowledged and the call passes its first tests. A command on an idle camera is answered
-- in its own call, if the budget is above the busy polls that the command will meet. A parked command is answered by its
-- first resume whose budget is above the busy polls left, and a get whose words are to be read by its first resume.
pub record Progress : Type 0 where
  pub of_commands : (call : Call) (s : CameraState) → is_command call ≡ true → refused_first ready call ≡ None → Idle s → AllMarked s.acks →
      next_busy s.interpreter.coming < budget_of call → Answered (outcome camera ready call s)
  pub of_waiting : (c : Command) (buffer : List ℕ) (budget : ℕ) (s : CameraState) → refused_first (parked c Waiting) (resume buffer budget) ≡ None → Up s →
      AllMarked s.acks → s.busy < budget → Answered (outcome camera (parked c Waiting) (resume buffer budget) s)
  pub of_reading : (c : Command) (buffer : List ℕ) (budget : ℕ) (s : CameraState) → refused_first (parked c Reading) (resume buffer budget) ≡ None → Idle s →
      AllMarked s.acks → Answered (outcome camera (parked c Reading) (resume buffer budget) s)
