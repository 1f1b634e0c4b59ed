-- The outcome of every call in every state of a session. It rests on three operations on whatever stands behind the bus:
-- sending a command, reading the status once, and fetching an attribute's words.
use Rattle.std.specs.Prelude.{ℕ, zero, suc, ◌/◌, ◌%◌, Bool, cond, List, [], ℤ, pos, negsuc, Some, None, Ok, Err, Result, ◌==◌}
use Rattle.checks.specs.Tests.{both}
use Rattle.words.specs.Code.{code_of}
use Rattle.camera.specs.declared.attribute.Kind.{Kind}
use Rattle.camera.specs.declared.attribute.Kind.TheVariants.{Get, Set, Run}
use Rattle.camera.specs.declared.command.Command.{Command}
use Rattle.camera.specs.declared.fault.Fault.{Fault}
use Rattle.camera.specs.Commands.{command}
use Rattle.camera.specs.Steps.{Outcome, ended}
use Rattle.calls.specs.declared.refusal.Refusal.{Refusal}
use Rattle.calls.specs.declared.refusal.Refusal.TheVariants.{NothingParked, Bus, StillBusy, Camera}
use Rattle.calls.specs.declared.stage.Stage.{Stage}
use Rattle.calls.specs.declared.stage.Stage.TheVariants.{Waiting, Reading}
use Rattle.calls.specs.Calls.{Session, asleep, ready, parked, Call, wake, get, set, run, resume, Served, served, buffer_of, refused_first}

-- what fetching words into a buffer answers and leaves
pub record Fetched (M : Type 0) : Type 0 where
  pub answer : Result (Unit {0}) Fault
  pub words : List ℕ
  pub after : M

-- what stands behind a bus, as a session uses it
pub record Machine (M : Type 0) : Type 0 where
  -- sends a command, a set with its words
  pub send : Command → List ℕ → M → Outcome M (Unit {0}) Fault
  -- reads the status register once
  pub poll : M → Outcome M ℕ Fault
  -- reads the words of the attribute of a number into a buffer
  pub fetch : ℕ → List ℕ → M → Fetched M

-- goes on with what an operation answered: one way where it was carried out, another where it met an error
abbrev pub by_answer : {S A E T : Type 0} → Outcome S A E → (A → S → T) → (E → S → T) → T
by_answer o done failed = elim o.answer [ Ok x ↦ done x o.after | Err e ↦ failed e o.after ]

-- bit 0 of a status word says that the camera is busy, bit 2 that it has booted
abbrev pub is_free : ℕ → Bool
is_free status = status % 2 == 0

abbrev pub is_up : ℕ → Bool
is_up status = both (status / 4 % 2 == 1) (is_free status)

-- Status is read until a word passes a test, at most as often as is left: that word, or still busy.
unfoldable pub polled : {M : Type 0} → Machine M → (ℕ → Bool) → ℕ → M → Outcome M ℕ Refusal
polled m passes zero s = ended (Err StillBusy) s
polled m passes (suc left) s =
    by_answer (m.poll s) (λ status t. cond (passes status) (ended (Ok status) t) (polled m passes left t))
    (λ fault t. ended (Err (Bus fault)) t)

-- A wake reads status until the camera is up and not busy. A session that does not see that stays asleep.
abbrev pub woken : {M : Type 0} → Machine M → ℕ → M → Served M
woken m budget s =
    by_answer (polled m is_up budget s) (λ status t. served (Ok tt) [] ready t) (λ refusal t. served (Err refusal) [] asleep t)

-- The words of a get are read. A fault leaves those read at the buffer's front, the rest untouched, and the get parked.
abbrev pub read_out : {M : Type 0} → ℕ → Fetched M → Served M
read_out number f =
    elim f.answer [
      | Ok _ ↦ served (Ok tt) f.words ready f.after
      | Err fault ↦ served (Err (Bus fault)) f.words (parked (command Get number) Reading) f.after
    ]

-- A command that the camera has carried out: a get reads its words, the others have nothing to read.
abbrev pub delivered : {M : Type 0} → Machine M → Kind → ℕ → List ℕ → M → Served M
delivered m Get number buffer s = read_out number (m.fetch number buffer s)
delivered m Set number buffer s = served (Ok tt) buffer ready s
delivered m Run number buffer s = served (Ok tt) buffer ready s

-- A response code of 0 says that the camera has carried out the command; any other ends the command.
abbrev pub by_code : {M : Type 0} → Machine M → Command → List ℕ → ℤ → M → Served M
by_code m c buffer (pos zero) s = delivered m c.kind c.number buffer s
by_code m c buffer (pos (suc code)) s = served (Err (Camera (pos (suc code)))) buffer ready s
by_code m c buffer (negsuc code) s = served (Err (Camera (negsuc code))) buffer ready s

-- The rest of a command from a stage on. Status is read until the camera is not busy; a fault there, and a camera that
-- is still busy, park the command as it is. A get that has read code 0 reads its words, from the first.
abbrev pub collected : {M : Type 0} → Machine M → Command → Stage → List ℕ → ℕ → M → Served M
collected m c Waiting buffer budget s =
    by_answer (polled m is_free budget s) (λ status t. by_code m c buffer (code_of status) t)
    (λ refusal t. served (Err refusal) buffer (parked c Waiting) t)
collected m c Reading buffer budget s = delivered m c.kind c.number buffer s

-- A whole command: it is sent, and then collected. A fault on the way to the camera leaves the session ready.
abbrev pub issued : {M : Type 0} → Machine M → Command → List ℕ → List ℕ → ℕ → M → Served M
issued m c words buffer budget s =
    by_answer (m.send c words s) (λ _ t. collected m c Waiting buffer budget t) (λ fault t. served (Err (Bus fault)) buffer ready t)

-- A resume goes on with the command that is parked.
abbrev pub resumed : {M : Type 0} → Machine M → Session → List ℕ → ℕ → M → Served M
resumed m asleep buffer budget s = served (Err NothingParked) buffer asleep s
resumed m ready buffer budget s = served (Err NothingParked) buffer ready s
resumed m (parked c stage) buffer budget s = collected m c stage buffer budget s

-- a call that is not refused first
abbrev pub carried : {M : Type 0} → Machine M → Session → Call → M → Served M
carried m session (wake budget) s = woken m budget s
carried m session (get number buffer budget) s = issued m (command Get number) [] buffer budget s
carried m session (set number words budget) s = issued m (command Set number) words [] budget s
carried m session (run number budget) s = issued m (command Run number) [] [] budget s
carried m session (resume buffer budget) s = resumed m session buffer budget s

-- The outcome of a call. Refused first, it changes nothing.
abbrev pub outcome : {M : Type 0} → Machine M → Session → Call → M → Served M
outcome m session call s =
    elim (refused_first session call) [ Some refusal ↦ served (Err refusal) (buffer_of call) session s | None ↦ carried m session call s ]
