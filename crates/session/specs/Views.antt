-- The code's sessions, orders and tokens as the definitions have them.
use Rattle.std.specs.Prelude.{◌≡◌, ℕ, List, [], Some, None, Ok, Err, Result}
use Rattle.checks.specs.Tests.{first_failing}
use Rattle.camera.specs.declared.attribute.Kind.TheVariants.{Get, Set, Run}
use Rattle.camera.specs.declared.command.Command.{Command}
use Rattle.camera.specs.Commands.{command}
use Rattle.camera.specs.State.{CameraState}
use Rattle.calls.specs.declared.refusal.Refusal.{Refusal}
use Rattle.calls.specs.declared.stage.Stage.TheVariants.{Waiting}
use Rattle.calls.specs.Calls as calls
use Rattle.calls.specs.Calls.{Served, served, command_checks}
use Rattle.calls.specs.Outcomes.{issued}
use Rattle.calls.specs.Accesses.{camera}
use Rattle.session.specs.declared.orders.Order.{Order}
use Rattle.session.specs.declared.orders.Order.TheVariants.{Get as GetOrder, Set as SetOrder, Run as RunOrder}
use Rattle.session.specs.declared.states.InFlight.{InFlight}
use Rattle.session.specs.declared.states.Ready.{Ready as ReadyState}
use Rattle.session.specs.declared.states.Session.{Session}
use Rattle.session.specs.declared.states.Session.TheVariants.{Asleep, Ready, Parked}

-- a session's state
abbrev pub as_session : Session → calls.Session
as_session (Asleep state) = calls.asleep
as_session (Ready state) = calls.ready
as_session (Parked state) = calls.parked state.command state.stage

-- a command in flight is one that waits for its answer
abbrev pub in_flight : InFlight → calls.Session
in_flight token = calls.parked token.command Waiting

-- What beginning a command answers: a token of that command, or the ready session again with the refusal.
abbrev pub as_begun : Result InFlight (ReadyState × Refusal) → Result (Unit {0}) Refusal
as_begun (Ok token) = Ok tt
as_begun (Err back) = Err back.1

abbrev pub TokenOf : Command → Result InFlight (ReadyState × Refusal) → Type 0
TokenOf c (Ok token) = token.command ≡ c
TokenOf c (Err back) = Unit {0}

-- what a whole call answers and leaves, from the pair that the code hands back
abbrev pub left : Session × Result (Unit {0}) Refusal → List ℕ → CameraState → Served CameraState
left r buffer s = served r.1 buffer (as_session r.0) s

-- what a step answers, and the session that it hands on: carried out, it leaves the session ready
abbrev pub answer_of : Result ReadyState (Session × Refusal) → Result (Unit {0}) Refusal
answer_of (Ok state) = Ok tt
answer_of (Err back) = Err back.1

abbrev pub session_after : Result ReadyState (Session × Refusal) → calls.Session
session_after (Ok state) = calls.ready
session_after (Err back) = as_session back.0

-- the same of a whole call that hands the session on
abbrev pub left_by : Result ReadyState (Session × Refusal) → List ℕ → CameraState → Served CameraState
left_by step buffer s = served (answer_of step) buffer (session_after step) s

-- an order's command ..
abbrev pub command_in : Order → Command
command_in (GetOrder number) = command Get number
command_in (SetOrder number words) = command Set number
command_in (RunOrder number) = command Run number

-- .. and the words that are sent with it
abbrev pub words_in : Order → List ℕ
words_in (GetOrder number) = []
words_in (SetOrder number words) = words.now
words_in (RunOrder number) = []

-- what an order brings: a get its buffer, a set its words
abbrev pub brought : Order → List ℕ → List ℕ
brought (GetOrder number) buffer = buffer
brought (SetOrder number words) buffer = words.now
brought (RunOrder number) buffer = []

-- a get, a set or a run, whichever it is
abbrev pub order_outcome : calls.Session → Order → List ℕ → ℕ → CameraState → Served CameraState
order_outcome session order buffer budget s =
    let c = command_in order in
    elim (first_failing (command_checks session c.kind c.number (brought order buffer) budget))
    [ Some refusal ↦ served (Err refusal) buffer session s | None ↦ issued camera c (words_in order) buffer budget s ]

-- tests that refuse hand the session back as it was
abbrev pub HandsBack : Session → Result ReadyState (Session × Refusal) → Type 0
HandsBack session (Ok state) = Unit {0}
HandsBack session (Err back) = back.0 ≡ session
