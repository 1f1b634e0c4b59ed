-- What a session can be, what can be called on it, and what a call leaves.
use Rattle.std.specs.Prelude.{ℕ, Bool, true, false, not, List, [], ◌∷◌, length, Option, Result, ◌==◌, nat_le}
use Rattle.checks.specs.Tests.{both, first_failing}
use Rattle.camera.specs.declared.attribute.Kind.{Kind}
use Rattle.camera.specs.declared.attribute.Kind.TheVariants.{Get, Set, Run}
use Rattle.camera.specs.declared.command.Command.{Command}
use Rattle.camera.specs.Attributes.{size_of, offers}
use Rattle.camera.specs.Execution.{moved}
use Rattle.calls.specs.declared.refusal.Refusal.{Refusal}
use Rattle.calls.specs.declared.refusal.Refusal.TheVariants.{Asleep, Awake, CommandParked, NothingParked, NotOffered, WrongSize, BadBudget}
use Rattle.calls.specs.declared.stage.Stage.{Stage}

-- A session is asleep when it is made, ready once the camera was seen idle, and parked while the answer of a command that
-- the camera has taken is owed.
pub data Session : Type 0 where
  asleep : Session
  ready : Session
  parked : Command → Stage → Session

-- The calls. A get and a resume bring a buffer, a set brings words; the budget is the number of status reads allowed.
pub data Call : Type 0 where
  wake : (budget : ℕ) → Call
  get : (number : ℕ) (buffer : List ℕ) (budget : ℕ) → Call
  set : (number : ℕ) (words : List ℕ) (budget : ℕ) → Call
  run : (number budget : ℕ) → Call
  resume : (buffer : List ℕ) (budget : ℕ) → Call

-- What a call answers, and what it leaves: carried out or refused, its buffer, the session, and what stands behind the bus.
pub record Served (M : Type 0) : Type 0 where
  pub result : Result (Unit {0}) Refusal
  pub buffer : List ℕ
  pub session : Session
  pub after : M

abbrev pub served : {M : Type 0} → Result (Unit {0}) Refusal → List ℕ → Session → M → Served M
served result buffer session s = record { result = result; buffer = buffer; session = session; after = s }

-- the buffer that a call brings
abbrev pub buffer_of : Call → List ℕ
buffer_of (wake budget) = []
buffer_of (get number buffer budget) = buffer
buffer_of (set number words budget) = []
buffer_of (run number budget) = []
buffer_of (resume buffer budget) = buffer

-- questions to a session
abbrev pub is_asleep : Session → Bool
is_asleep asleep = true
is_asleep ready = false
is_asleep (parked command stage) = false

abbrev pub is_parked : Session → Bool
is_parked asleep = false
is_parked ready = false
is_parked (parked command stage) = true

-- a budget is 1 to 1,000 status reads
abbrev pub is_budget : ℕ → Bool
is_budget budget = both (nat_le 1 budget) (nat_le budget 1000)

-- a get's buffer has room for exactly the attribute's words; the other commands leave a buffer alone
abbrev pub has_room : Kind → ℕ → List ℕ → Bool
has_room Get number buffer = length buffer == size_of number
has_room Set number buffer = true
has_room Run number buffer = true

-- the same of the command that is parked
abbrev pub resumes_into : Session → List ℕ → Bool
resumes_into asleep buffer = true
resumes_into ready buffer = true
resumes_into (parked command stage) buffer = has_room command.kind command.number buffer

-- what is tested before a command begins, in this order: `words` are a get's buffer or a set's words
abbrev pub command_checks : Session → Kind → ℕ → List ℕ → ℕ → List (Bool × Refusal)
command_checks session kind number words budget =
    (not (is_asleep session), Asleep)
    ∷ (not (is_parked session), CommandParked)
    ∷ (offers kind number, NotOffered)
    ∷ ((length words == moved kind number), WrongSize)
    ∷ (is_budget budget, BadBudget)
    ∷ []

-- What is tested before any access. The first test that fails refuses the call.
abbrev pub checks : Session → Call → List (Bool × Refusal)
checks session (wake budget) = (is_asleep session, Awake) ∷ (is_budget budget, BadBudget) ∷ []
checks session (get number buffer budget) = command_checks session Get number buffer budget
checks session (set number words budget) = command_checks session Set number words budget
checks session (run number budget) = command_checks session Run number [] budget
checks session (resume buffer budget) =
    (is_parked session, NothingParked) ∷ (resumes_into session buffer, WrongSize) ∷ (is_budget budget, BadBudget) ∷ []

-- what a call is refused with before any access
abbrev pub refused_first : Session → Call → Option Refusal
refused_first session call = first_failing (checks session call)
