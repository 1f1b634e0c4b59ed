-- Worked call sequences: what the definitions say of whole sequences of calls, beside what docs/CALLS.md, docs/CAMERA.md
-- and docs/LAWS.md make of them by hand.
use Rattle.std.specs.Prelude.{◌≡◌, ℕ, zero, suc, ◌+◌, ◌<◌, Bool, true, false, cond, List, [], ◌∷◌, ◌++◌, map, take, drop, replicate, ℤ, pos, negsuc, Some, None, Ok, Err, Option, Result, ◌==◌}
use Rattle.camera.specs.declared.attribute.Kind.TheVariants.{Get, Set}
use Rattle.camera.specs.Attributes.{start_words}
use Rattle.camera.specs.Commands.{command}
use Rattle.camera.specs.Execution.{only_saved}
use Rattle.camera.specs.State.{CameraState, Possible, Words, with_boot, with_interpreter, with_saved, hanging}
use Rattle.calls.specs.declared.refusal.Refusal.{Refusal}
use Rattle.calls.specs.declared.stage.Stage.TheVariants.{Waiting, Reading}
use Rattle.calls.specs.Refusals.{number_of, address_in, code_in}
use Rattle.calls.specs.Calls.{Session, asleep, ready, parked, Call, wake, get, set, run, resume}
use Rattle.calls.specs.Sequences.{Answer, Ran}
use Rattle.calls.specs.History.{Order, order, History, known}
use Rattle.calls.specs.Accesses.{camera}
use Rattle.calls.specs.Laws.{sequence, at_start}
use Rattle.calls.specs.ShortLaws.{then_ran, ran_on}

-- What a caller sees of a call: carried out, or refused with a number and, where there is one, the address or the camera's
-- code; and its buffer afterwards.
pub data Reply : Type 0 where
  carried : (buffer : List ℕ) → Reply
  refusal : (number : ℕ) (address : Option ℕ) (code : Option ℤ) (buffer : List ℕ) → Reply

abbrev pub refused_with : ℕ → List ℕ → Reply
refused_with number buffer = refusal number None None buffer

abbrev pub unacknowledged_at : ℕ → List ℕ → Reply
unacknowledged_at address buffer = refusal 8 (Some address) None buffer

abbrev pub refused_by_camera : ℤ → List ℕ → Reply
refused_by_camera code buffer = refusal 10 None (Some code) buffer

abbrev pub reply_with : List ℕ → Result (Unit {0}) Refusal → Reply
reply_with buffer (Ok _) = carried buffer
reply_with buffer (Err r) = refusal (number_of r) (address_in r) (code_in r) buffer

-- a call, and what it has to answer
pub record Step : Type 0 where
  pub call : Call
  pub reply : Reply

abbrev pub step : Call → Reply → Step
step call reply = record { call = call; reply = reply }

-- words of an attribute
pub record Entry : Type 0 where
  pub number : ℕ
  pub words : List ℕ

abbrev pub entry : ℕ → List ℕ → Entry
entry number words = record { number = number; words = words }

-- How a sequence ends: the session, whether the camera hangs, its busy polls left, its count of commands, and the words
-- that it holds for some attributes.
pub record End : Type 0 where
  pub session : Session
  pub hung : Bool
  pub busy : ℕ
  pub count : ℕ
  pub held : List Entry

abbrev pub unhung : Session → ℕ → ℕ → List Entry → End
unhung session busy count held = record { session = session; hung = false; busy = busy; count = count; held = held }

-- What the calls and their answers tell: how many commands were answered, which one is owed an answer, and what the ledger
-- holds for some attributes.
pub record Told : Type 0 where
  pub answered : ℕ
  pub owing : Option Order
  pub ledger : List Entry

abbrev pub told : ℕ → Option Order → List Entry → Told
told answered owing ledger = record { answered = answered; owing = owing; ledger = ledger }

-- a worked call sequence: the camera before it, the calls with their answers, and what it leaves
pub record WorkedSequence : Type 0 where
  pub start : CameraState
  pub steps : List Step
  pub end : End
  pub told : Told

abbrev pub worked : CameraState → List Step → End → Told → WorkedSequence
worked start steps end told = record { start = start; steps = steps; end = end; told = told }

-- An idle camera with its start words, all else 0, before commands that keep it busy for so many polls and accesses with
-- these acknowledgement marks.
abbrev pub fresh : List ℕ → List Bool → CameraState
fresh coming marks =
    record {
      hung = false;
      boot = 0;
      busy = 0;
      acks = marks;
      registers = record { size = 0; data_words = replicate 16 0; block_words = replicate 512 0 };
      interpreter = record { code = pos 0; count = 0; words = start_words; saved = None; coming = coming };
    }

-- the same with user defaults that were saved before, or a count of commands
abbrev pub with_defaults : Words → CameraState → CameraState
with_defaults words s = with_interpreter (with_saved (Some (only_saved words)) s.interpreter) s

abbrev pub counted_to : ℕ → CameraState → CameraState
counted_to count s =
    with_interpreter
    (record { code = s.interpreter.code; count = count; words = s.interpreter.words; saved = s.interpreter.saved; coming = s.interpreter.coming })
    s

-- the marks of so many accesses that are acknowledged, and then one that is not
abbrev pub missing_after : ℕ → List Bool
missing_after n = replicate n true ++ (false ∷ [])

-- so many entries of a colour table, no two alike: 255 and 1255, 254 and 1254, and so on down to 0 and 1000 for all 256
abbrev pub colours : ℕ → List ℕ
colours zero = []
colours (suc n) = n ∷ (1000 + n) ∷ colours n

-- 1, 4 and 7. A session that is asleep refuses all but a wake, whatever else is wrong with the call; a resume has nothing
-- parked. A budget is 1 to 1,000. None of this touches the camera: the mark says that its first access is not acknowledged, and
-- that is the read of status by the first wake with a good budget (8). 2: once awake, it refuses a wake, with a bad budget too.
abbrev pub refused_asleep : WorkedSequence
refused_asleep =
    worked (fresh [] (missing_after 0))
    (step (get 12 (5 ∷ 5 ∷ []) 1) (refused_with 1 (5 ∷ 5 ∷ []))
    ∷ step (set 12 [] 0) (refused_with 1 [])
    ∷ step (run 20 0) (refused_with 1 [])
    ∷ step (resume (5 ∷ []) 0) (refused_with 4 (5 ∷ []))
    ∷ step (wake 0) (refused_with 7 [])
    ∷ step (wake 1001) (refused_with 7 [])
    ∷ step (wake 1000) (unacknowledged_at 0x0002 [])
    ∷ step (wake 1) (carried [])
    ∷ step (wake 0) (refused_with 2 [])
    ∷ [])
    (unhung ready 0 0 (entry 12 (30 ∷ 0 ∷ []) ∷ []))
    (told 0 None (entry 12 (30 ∷ 0 ∷ []) ∷ []))

-- 4, 5, 6 and 7 on a ready session, in the order of the tests: first that the attribute has the command, then the number of
-- words, then the budget. Only two accesses come to the camera, the wake's read of status and the last get's first write:
-- the marks say that the second access is not acknowledged, and that is the write to the length register.
abbrev pub refused_ready : WorkedSequence
refused_ready =
    worked (fresh [] (missing_after 1))
    (step (wake 1) (carried [])
    ∷ step (resume (5 ∷ []) 0) (refused_with 4 (5 ∷ []))
    ∷ step (get 6 (5 ∷ []) 0) (refused_with 5 (5 ∷ []))
    ∷ step (get 20 [] 0) (refused_with 5 [])
    ∷ step (set 1 [] 0) (refused_with 5 [])
    ∷ step (run 12 0) (refused_with 5 [])
    ∷ step (get 12 (5 ∷ 5 ∷ 5 ∷ []) 0) (refused_with 6 (5 ∷ 5 ∷ 5 ∷ []))
    ∷ step (set 12 (7 ∷ []) 0) (refused_with 6 [])
    ∷ step (get 12 (5 ∷ 5 ∷ []) 0) (refused_with 7 (5 ∷ 5 ∷ []))
    ∷ step (set 12 (7 ∷ 0 ∷ []) 1001) (refused_with 7 [])
    ∷ step (run 18 0) (refused_with 7 [])
    ∷ step (get 12 (5 ∷ 5 ∷ []) 1) (unacknowledged_at 0x0006 (5 ∷ 5 ∷ []))
    ∷ [])
    (unhung ready 0 0 (entry 12 (30 ∷ 0 ∷ []) ∷ []))
    (told 0 None (entry 12 (30 ∷ 0 ∷ []) ∷ []))

-- 2, 3 and 7 while a set is parked. Each read of status finds the camera busy once more, twice in all; the third ends the
-- set. A resume of a set takes a buffer of any size, and leaves it alone.
abbrev pub refused_parked : WorkedSequence
refused_parked =
    worked (fresh (2 ∷ []) [])
    (step (wake 1) (carried [])
    ∷ step (set 12 (7 ∷ 0 ∷ []) 1) (refused_with 9 [])
    ∷ step (wake 1) (refused_with 2 [])
    ∷ step (get 20 [] 0) (refused_with 3 [])
    ∷ step (set 12 [] 0) (refused_with 3 [])
    ∷ step (run 18 1) (refused_with 3 [])
    ∷ step (resume (5 ∷ []) 0) (refused_with 7 (5 ∷ []))
    ∷ step (resume (5 ∷ []) 1) (refused_with 9 (5 ∷ []))
    ∷ step (resume (5 ∷ []) 1) (carried (5 ∷ []))
    ∷ [])
    (unhung ready 0 1 (entry 12 (7 ∷ 0 ∷ []) ∷ []))
    (told 1 None (entry 12 (7 ∷ 0 ∷ []) ∷ []))

-- 8 at each place of a wake and a set: at a wake's read of status; at the second of the two words, at the length and at the
-- command word, and the camera has taken nothing; at status after the command word, and an answer is owed, at a resume's
-- read of status again. The camera holds the words by then, and the ledger does not: the set has had no answer.
abbrev pub unacknowledged : WorkedSequence
unacknowledged =
    worked
    (fresh []
    (missing_after 0 ++ missing_after 2 ++ missing_after 2 ++ missing_after 3 ++ missing_after 4 ++ missing_after 0))
    (step (wake 1) (unacknowledged_at 0x0002 [])
    ∷ step (wake 1) (carried [])
    ∷ step (set 12 (7 ∷ 0 ∷ []) 1) (unacknowledged_at 0x000A [])
    ∷ step (set 12 (7 ∷ 0 ∷ []) 1) (unacknowledged_at 0x0006 [])
    ∷ step (set 12 (7 ∷ 0 ∷ []) 1) (unacknowledged_at 0x0004 [])
    ∷ step (set 12 (7 ∷ 0 ∷ []) 1) (unacknowledged_at 0x0002 [])
    ∷ step (resume [] 1) (unacknowledged_at 0x0002 [])
    ∷ [])
    (unhung (parked (command Set 12) Waiting) 0 1 (entry 12 (7 ∷ 0 ∷ []) ∷ []))
    (told 0 (Some (order Set 12 (7 ∷ 0 ∷ []))) (entry 12 (30 ∷ 0 ∷ []) ∷ []))

-- 9 for a wake: the camera is booting for three reads of status. Two are spent, then one more, and the fourth finds it up.
abbrev pub booting : WorkedSequence
booting =
    worked (with_boot 3 (fresh [] []))
    (step (wake 2) (refused_with 9 []) ∷ step (wake 1) (refused_with 9 []) ∷ step (wake 1) (carried []) ∷ [])
    (unhung ready 0 0 []) (told 0 None [])

-- A camera that hangs before the first call never wakes, and hangs on.
abbrev pub hung_before : WorkedSequence
hung_before =
    worked (hanging (fresh [] [])) (step (wake 2) (refused_with 9 []) ∷ step (wake 1000) (refused_with 9 []) ∷ [])
    (record { session = asleep; hung = true; busy = 0; count = 0; held = [] })
    (told 0 None [])

-- 10 with each code that a session can meet: −9 for a gain control of 2, −18 for a restore before anything is saved, −15 for
-- a second save. A command that is refused so is answered and counted, and changes neither the words nor the ledger. The
-- status shows the count in its third word, its own get included.
abbrev pub refused_commands : WorkedSequence
refused_commands =
    worked (fresh [] [])
    (step (wake 1) (carried [])
    ∷ step (set 0 (2 ∷ 0 ∷ []) 1) (refused_by_camera (negsuc 8) [])
    ∷ step (run 19 1) (refused_by_camera (negsuc 17) [])
    ∷ step (get 0 (5 ∷ 5 ∷ []) 1) (carried (0 ∷ 0 ∷ []))
    ∷ step (run 18 1) (carried [])
    ∷ step (run 18 1) (refused_by_camera (negsuc 14) [])
    ∷ step (get 18 (5 ∷ 5 ∷ []) 1) (carried (1 ∷ 0 ∷ []))
    ∷ step (get 1 (5 ∷ 5 ∷ 5 ∷ 5 ∷ []) 1) (carried (0 ∷ 0 ∷ 7 ∷ 0 ∷ []))
    ∷ [])
    (unhung ready 0 7 (entry 0 (0 ∷ 0 ∷ []) ∷ []))
    (told 7 None (entry 0 (0 ∷ 0 ∷ []) ∷ []))

-- 10 for a resume: a sync delay of 4 parks, since the camera stays busy for two reads, and the resume's second read shows
-- that it was refused. The session is ready, the command is answered, and nothing was entered.
abbrev pub refused_later : WorkedSequence
refused_later =
    worked (fresh (2 ∷ []) [])
    (step (wake 1) (carried [])
    ∷ step (set 17 (4 ∷ 0 ∷ []) 1) (refused_with 9 [])
    ∷ step (resume (5 ∷ []) 2) (refused_by_camera (negsuc 8) (5 ∷ []))
    ∷ [])
    (unhung ready 0 1 (entry 17 (0 ∷ 0 ∷ []) ∷ []))
    (told 1 None (entry 17 (0 ∷ 0 ∷ []) ∷ []))

-- A set parks: the camera is busy for five reads of status, and the budget allows three. So two are left, the set is counted
-- and owed an answer, and the ledger still holds the start words.
abbrev pub set_parks : WorkedSequence
set_parks =
    worked (fresh (5 ∷ []) [])
    (step (wake 1) (carried []) ∷ step (set 12 (7 ∷ 0 ∷ []) 3) (refused_with 9 []) ∷ [])
    (unhung (parked (command Set 12) Waiting) 2 1 (entry 12 (7 ∷ 0 ∷ []) ∷ []))
    (told 0 (Some (order Set 12 (7 ∷ 0 ∷ []))) (entry 12 (30 ∷ 0 ∷ []) ∷ []))

-- The same, and a resume with three more reads: two find the camera busy, the third ends the set. The get behind it answers
-- the words put.
abbrev pub set_resumed : WorkedSequence
set_resumed =
    worked (fresh (5 ∷ []) [])
    (step (wake 1) (carried [])
    ∷ step (set 12 (7 ∷ 0 ∷ []) 3) (refused_with 9 [])
    ∷ step (resume [] 3) (carried [])
    ∷ step (get 12 (5 ∷ 5 ∷ []) 1) (carried (7 ∷ 0 ∷ []))
    ∷ [])
    (unhung ready 0 2 (entry 12 (7 ∷ 0 ∷ []) ∷ []))
    (told 2 None (entry 12 (7 ∷ 0 ∷ []) ∷ []))

-- A budget of as many reads as the camera is busy for is one too few, and one more is enough.
abbrev pub budget_spent : WorkedSequence
budget_spent =
    worked (fresh (2 ∷ []) [])
    (step (wake 1) (carried []) ∷ step (set 4 (1 ∷ 0 ∷ []) 2) (refused_with 9 []) ∷ [])
    (unhung (parked (command Set 4) Waiting) 0 1 (entry 4 (1 ∷ 0 ∷ []) ∷ []))
    (told 0 (Some (order Set 4 (1 ∷ 0 ∷ []))) (entry 4 (0 ∷ 0 ∷ []) ∷ []))

abbrev pub budget_enough : WorkedSequence
budget_enough =
    worked (fresh (2 ∷ []) [])
    (step (wake 1) (carried []) ∷ step (set 4 (1 ∷ 0 ∷ []) 3) (carried []) ∷ [])
    (unhung ready 0 1 (entry 4 (1 ∷ 0 ∷ []) ∷ []))
    (told 1 None (entry 4 (1 ∷ 0 ∷ []) ∷ []))

-- Save and restore: 5 frames averaged are put and saved, 2 put after that, and a restore brings the 5 back. The colour
-- scheme, which was only put after the save, comes back as it was at the start.
abbrev pub saved_and_restored : WorkedSequence
saved_and_restored =
    worked (fresh [] [])
    (step (wake 1) (carried [])
    ∷ step (set 7 (5 ∷ 0 ∷ []) 1) (carried [])
    ∷ step (run 18 1) (carried [])
    ∷ step (set 7 (2 ∷ 0 ∷ []) 1) (carried [])
    ∷ step (set 8 (4 ∷ 0 ∷ []) 1) (carried [])
    ∷ step (get 7 (9 ∷ 9 ∷ []) 1) (carried (2 ∷ 0 ∷ []))
    ∷ step (run 19 1) (carried [])
    ∷ step (get 7 (9 ∷ 9 ∷ []) 1) (carried (5 ∷ 0 ∷ []))
    ∷ step (get 8 (9 ∷ 9 ∷ []) 1) (carried (1 ∷ 0 ∷ []))
    ∷ [])
    (unhung ready 0 8 (entry 7 (5 ∷ 0 ∷ []) ∷ entry 8 (1 ∷ 0 ∷ []) ∷ []))
    (told 8 None (entry 7 (5 ∷ 0 ∷ []) ∷ entry 8 (1 ∷ 0 ∷ []) ∷ []))

-- The same with a save and a restore that park, each busy for one read and resumed with one more: a resume that is carried
-- out enters what its command would have.
abbrev pub saved_and_restored_later : WorkedSequence
saved_and_restored_later =
    worked (fresh (0 ∷ 1 ∷ 0 ∷ 1 ∷ []) [])
    (step (wake 1) (carried [])
    ∷ step (set 7 (5 ∷ 0 ∷ []) 1) (carried [])
    ∷ step (run 18 1) (refused_with 9 [])
    ∷ step (resume [] 1) (carried [])
    ∷ step (set 7 (2 ∷ 0 ∷ []) 1) (carried [])
    ∷ step (run 19 1) (refused_with 9 [])
    ∷ step (resume [] 1) (carried [])
    ∷ step (get 7 (9 ∷ 9 ∷ []) 1) (carried (5 ∷ 0 ∷ []))
    ∷ [])
    (unhung ready 0 5 (entry 7 (5 ∷ 0 ∷ []) ∷ []))
    (told 5 None (entry 7 (5 ∷ 0 ∷ []) ∷ []))

-- What was saved before the first call: a threshold of 100, in a camera that now has 30. A restore brings it, a save is
-- refused, and the ledger, which starts with both, says so too.
abbrev pub saved_before : WorkedSequence
saved_before =
    worked (with_defaults (λ k. cond (k == 12) (100 ∷ 0 ∷ []) (start_words k)) (fresh [] []))
    (step (wake 1) (carried [])
    ∷ step (get 12 (9 ∷ 9 ∷ []) 1) (carried (30 ∷ 0 ∷ []))
    ∷ step (run 18 1) (refused_by_camera (negsuc 14) [])
    ∷ step (run 19 1) (carried [])
    ∷ step (get 12 (9 ∷ 9 ∷ []) 1) (carried (100 ∷ 0 ∷ []))
    ∷ [])
    (unhung ready 0 4 (entry 12 (100 ∷ 0 ∷ []) ∷ []))
    (told 4 None (entry 12 (100 ∷ 0 ∷ []) ∷ []))

-- Exchange: two sets in either order, each with a budget of four reads, while the camera is busy for one read after the
-- first command and for three after the second. What follows is the same for both orders: a get at once, another
-- that finds the camera busy twice, four commands in all. A threshold passes through the data registers, a colour table of
-- 512 words through the block buffer.
abbrev pub exchanged : Step → Step → WorkedSequence
exchanged first second =
    worked (fresh (1 ∷ 3 ∷ 0 ∷ 2 ∷ []) [])
    (step (wake 1) (carried [])
    ∷ first
    ∷ second
    ∷ step (get 9 (replicate 512 5) 1) (carried (colours 256))
    ∷ step (get 12 (5 ∷ 5 ∷ []) 3) (carried (7 ∷ 0 ∷ []))
    ∷ [])
    (unhung ready 0 4 (entry 9 (colours 256) ∷ entry 12 (7 ∷ 0 ∷ []) ∷ []))
    (told 4 None (entry 9 (colours 256) ∷ entry 12 (7 ∷ 0 ∷ []) ∷ []))

abbrev pub threshold_set : Step
threshold_set = step (set 12 (7 ∷ 0 ∷ []) 4) (carried [])

abbrev pub colours_set : Step
colours_set = step (set 9 (colours 256) 4) (carried [])

-- The same of a threshold and a focus region, which both pass through the data registers, the one over the other.
abbrev pub exchanged_small : Step → Step → WorkedSequence
exchanged_small first second =
    worked (fresh (1 ∷ 3 ∷ 0 ∷ 2 ∷ []) [])
    (step (wake 1) (carried [])
    ∷ first
    ∷ second
    ∷ step (get 11 (5 ∷ 5 ∷ 5 ∷ 5 ∷ []) 1) (carried (2 ∷ 3 ∷ 40 ∷ 50 ∷ []))
    ∷ step (get 12 (5 ∷ 5 ∷ []) 3) (carried (7 ∷ 0 ∷ []))
    ∷ [])
    (unhung ready 0 4 (entry 11 (2 ∷ 3 ∷ 40 ∷ 50 ∷ []) ∷ entry 12 (7 ∷ 0 ∷ []) ∷ []))
    (told 4 None (entry 11 (2 ∷ 3 ∷ 40 ∷ 50 ∷ []) ∷ entry 12 (7 ∷ 0 ∷ []) ∷ []))

abbrev pub region_set : Step
region_set = step (set 11 (2 ∷ 3 ∷ 40 ∷ 50 ∷ []) 4) (carried [])

-- The colour table is not among the user defaults: put after a save, it outlives the restore.
abbrev pub colours_not_saved : WorkedSequence
colours_not_saved =
    worked (fresh [] [])
    (step (wake 1) (carried [])
    ∷ step (run 18 1) (carried [])
    ∷ step (set 9 (colours 256) 1) (carried [])
    ∷ step (run 19 1) (carried [])
    ∷ step (get 9 (replicate 512 5) 1) (carried (colours 256))
    ∷ [])
    (unhung ready 0 4 (entry 9 (colours 256) ∷ []))
    (told 4 None (entry 9 (colours 256) ∷ []))

-- A get parks while the camera is busy, with its buffer untouched, and the resume reads into its own buffer.
abbrev pub get_waits : WorkedSequence
get_waits =
    worked (fresh (1 ∷ []) [])
    (step (wake 1) (carried [])
    ∷ step (get 12 (9 ∷ 9 ∷ []) 1) (refused_with 9 (9 ∷ 9 ∷ []))
    ∷ step (resume (8 ∷ 8 ∷ []) 1) (carried (30 ∷ 0 ∷ []))
    ∷ [])
    (unhung ready 0 1 []) (told 1 None [])

-- A get parks in the middle of its words. A region is put: one access of the wake, seven of the set (four words, length,
-- command, status). The get makes five more (length, command, status, two words), and its third word is not acknowledged:
-- two words stand at the buffer's front, and the get is owed an answer.
abbrev pub get_parks : WorkedSequence
get_parks =
    worked (fresh [] (missing_after 13))
    (step (wake 1) (carried [])
    ∷ step (set 11 (2 ∷ 3 ∷ 40 ∷ 50 ∷ []) 1) (carried [])
    ∷ step (get 11 (9 ∷ 9 ∷ 9 ∷ 9 ∷ []) 1) (unacknowledged_at 0x000C (2 ∷ 3 ∷ 9 ∷ 9 ∷ []))
    ∷ [])
    (unhung (parked (command Get 11) Reading) 0 2 (entry 11 (2 ∷ 3 ∷ 40 ∷ 50 ∷ []) ∷ []))
    (told 1 (Some (order Get 11 [])) (entry 11 (2 ∷ 3 ∷ 40 ∷ 50 ∷ []) ∷ []))

-- The same, and then: a resume with room for three words is refused with 6; one whose second word is not acknowledged has
-- read the first again; the last one reads all words, from the first.
abbrev pub get_resumed : WorkedSequence
get_resumed =
    worked (fresh [] (missing_after 13 ++ missing_after 1))
    (step (wake 1) (carried [])
    ∷ step (set 11 (2 ∷ 3 ∷ 40 ∷ 50 ∷ []) 1) (carried [])
    ∷ step (get 11 (9 ∷ 9 ∷ 9 ∷ 9 ∷ []) 1) (unacknowledged_at 0x000C (2 ∷ 3 ∷ 9 ∷ 9 ∷ []))
    ∷ step (resume (8 ∷ 8 ∷ 8 ∷ []) 1) (refused_with 6 (8 ∷ 8 ∷ 8 ∷ []))
    ∷ step (resume (8 ∷ 8 ∷ 8 ∷ 8 ∷ []) 1) (unacknowledged_at 0x000A (2 ∷ 8 ∷ 8 ∷ 8 ∷ []))
    ∷ step (resume (6 ∷ 6 ∷ 6 ∷ 6 ∷ []) 1) (carried (2 ∷ 3 ∷ 40 ∷ 50 ∷ []))
    ∷ [])
    (unhung ready 0 2 (entry 11 (2 ∷ 3 ∷ 40 ∷ 50 ∷ []) ∷ []))
    (told 2 None (entry 11 (2 ∷ 3 ∷ 40 ∷ 50 ∷ []) ∷ []))

-- The same in the block buffer: of a colour table's 512 words, all 0, the fourth is not acknowledged.
abbrev pub colours_resumed : WorkedSequence
colours_resumed =
    worked (fresh [] (missing_after 7))
    (step (wake 1) (carried [])
    ∷ step (get 9 (replicate 512 5) 1) (unacknowledged_at 0xF806 (0 ∷ 0 ∷ 0 ∷ replicate 509 5))
    ∷ step (resume (replicate 512 6) 1) (carried (replicate 512 0))
    ∷ [])
    (unhung ready 0 1 []) (told 1 None [])

-- The count of commands turns from 65,535 to 0.
abbrev pub count_turns : WorkedSequence
count_turns =
    worked (counted_to 65535 (fresh [] []))
    (step (wake 1) (carried []) ∷ step (run 6 1) (carried []) ∷ [])
    (unhung ready 0 0 []) (told 1 None [])

-- The list of worked sequences, but for those that move a whole colour table.
abbrev pub worked_sequences : List WorkedSequence
worked_sequences =
    refused_asleep
    ∷ refused_ready
    ∷ refused_parked
    ∷ unacknowledged
    ∷ booting
    ∷ hung_before
    ∷ refused_commands
    ∷ refused_later
    ∷ set_parks
    ∷ set_resumed
    ∷ budget_spent
    ∷ budget_enough
    ∷ saved_and_restored
    ∷ saved_and_restored_later
    ∷ saved_before
    ∷ exchanged_small threshold_set region_set
    ∷ exchanged_small region_set threshold_set
    ∷ get_waits
    ∷ get_parks
    ∷ get_resumed
    ∷ count_turns
    ∷ []

-- what the definitions give for it
abbrev pub calls_of : WorkedSequence → List Call
calls_of w = map (λ (s : Step). s.call) w.steps

abbrev pub given_replies : Ran CameraState → List Reply
given_replies r = map (λ (a : Answer). reply_with a.buffer a.result) r.answers

abbrev pub looked_up : (ℕ → List ℕ) → List Entry → List Entry
looked_up words entries = map (λ (e : Entry). entry e.number (words e.number)) entries

abbrev pub given_end : List Entry → Ran CameraState → End
given_end entries r =
    record {
      session = r.session;
      hung = r.after.hung;
      busy = r.after.busy;
      count = r.after.interpreter.count;
      held = looked_up r.after.interpreter.words entries;
    }

abbrev pub given_told : List Entry → History → Told
given_told entries h = told h.answered h.owing (looked_up h.ledger.put entries)

abbrev pub given_steps : List Call → List Reply → List Step
given_steps [] replies = []
given_steps (call ∷ calls) [] = []
given_steps (call ∷ calls) (reply ∷ replies) = step call reply ∷ given_steps calls replies

abbrev pub come_out : WorkedSequence → Ran CameraState → WorkedSequence
come_out w r =
    worked w.start (given_steps (calls_of w) (given_replies r)) (given_end w.end.held r)
    (given_told w.told.ledger (known (calls_of w) r.answers (at_start w.start)))

-- a sequence in two parts, the second from where the first two calls stopped
abbrev pub in_two : List Call → CameraState → Ran CameraState
in_two calls s = then_ran (sequence (take 2 calls) s) (ran_on camera (drop 2 calls) (sequence (take 2 calls) s))

-- Sequences come out as expected, run at once and in two parts.
pub record ComeOut (sequences : List WorkedSequence) : Type 0 where
  pub at_once : map (λ (w : WorkedSequence). come_out w (sequence (calls_of w) w.start)) sequences ≡ sequences
  pub in_parts : map (λ (w : WorkedSequence). come_out w (in_two (calls_of w) w.start)) sequences ≡ sequences

-- The cameras that the sequences start from, but for the one that hangs, are ones that a camera can be: the laws speak of
-- them.
pub record StartsArePossible : Type 0 where
  pub at_rest : (coming : List ℕ) (marks : List Bool) → Possible (fresh coming marks)
  pub boots : (polls : ℕ) (coming : List ℕ) (marks : List Bool) → Possible (with_boot polls (fresh coming marks))
  pub counts : (count : ℕ) (coming : List ℕ) (marks : List Bool) → count < 65536 → Possible (counted_to count (fresh coming marks))
  pub has_saved : Possible saved_before.start

-- Every worked sequence comes out as expected. Those with a whole colour table stand alone, since each takes its time.
pub record SequencesHold : Type 0 where
  pub starts : StartsArePossible
  pub small : ComeOut worked_sequences
  pub colours_behind : ComeOut (exchanged threshold_set colours_set ∷ [])
  pub colours_in_front : ComeOut (exchanged colours_set threshold_set ∷ [])
  pub colours_put_after_a_save : ComeOut (colours_not_saved ∷ [])
  pub colours_read_again : ComeOut (colours_resumed ∷ [])
