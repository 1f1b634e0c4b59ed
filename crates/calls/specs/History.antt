-- What calls and their answers alone tell: which command is owed an answer, how many commands were answered, and what was
-- last put into each attribute. None of this looks at the session's state or uses the camera's own rules.
use Rattle.std.specs.Prelude.{ℕ, suc, ◌+◌, Bool, true, cond, List, [], ◌∷◌, Some, None, Ok, Err, Option, Result, ◌==◌}
use Rattle.camera.specs.declared.attribute.Kind.{Kind}
use Rattle.camera.specs.declared.attribute.Kind.TheVariants.{Get, Set, Run}
use Rattle.camera.specs.declared.fault.Fault.{Fault}
use Rattle.camera.specs.declared.fault.Fault.TheVariants.{NotAcknowledged, NoRegister}
use Rattle.camera.specs.Attributes.{is_saved, user_defaults, restore}
use Rattle.camera.specs.Registers.{lies_in, data_base, data_size, block_base, block_size}
use Rattle.calls.specs.declared.refusal.Refusal.{Refusal}
use Rattle.calls.specs.declared.refusal.Refusal.TheVariants.{Asleep, Awake, CommandParked, NothingParked, NotOffered, WrongSize, BadBudget, Bus, StillBusy, Camera}
use Rattle.calls.specs.Calls.{Call, wake, get, set, run, resume}
use Rattle.calls.specs.Sequences.{Answer}

-- a command as it was called: a set with its words
pub record Order : Type 0 where
  pub kind : Kind
  pub number : ℕ
  pub words : List ℕ

abbrev pub order : Kind → ℕ → List ℕ → Order
order kind number words = record { kind = kind; number = number; words = words }

-- How a call of a command, or a resume of it, ended: the command was carried out; the camera refused it; it is owed an
-- answer from now on; or nothing came of the call.
pub data Ending : Type 0 where
  done : Ending
  refused : Ending
  owed : Ending
  nothing : Ending

-- where words are read
abbrev pub at_words : ℕ → Bool
at_words address = cond (lies_in data_base data_size address) true (lies_in block_base block_size address)

-- An access that was not acknowledged leaves a command owed if it was one to status or, for a get, one to its words; all
-- others come before the command.
abbrev pub missed : Kind → ℕ → Ending
missed Get address = cond (address == 0x0002) owed (cond (at_words address) owed nothing)
missed Set address = cond (address == 0x0002) owed nothing
missed Run address = cond (address == 0x0002) owed nothing

abbrev pub met : Kind → Fault → Ending
met kind (NotAcknowledged address) = missed kind address
met kind (NoRegister address) = nothing

abbrev pub refused_by : Kind → Refusal → Ending
refused_by kind Asleep = nothing
refused_by kind Awake = nothing
refused_by kind CommandParked = nothing
refused_by kind NothingParked = nothing
refused_by kind NotOffered = nothing
refused_by kind WrongSize = nothing
refused_by kind BadBudget = nothing
refused_by kind (Bus fault) = met kind fault
refused_by kind StillBusy = owed
refused_by kind (Camera code) = refused

abbrev pub ending : Kind → Result (Unit {0}) Refusal → Ending
ending kind (Ok _) = done
ending kind (Err refusal) = refused_by kind refusal

-- The ledger: what was last put into the attributes, and what of it was last saved.
pub record Ledger : Type 0 where
  pub put : ℕ → List ℕ
  pub saved : Option (ℕ → List ℕ)

-- words put into one attribute
abbrev pub put_into : ℕ → List ℕ → Ledger → Ledger
put_into number words l = record { put = λ k. cond (k == number) words (l.put k); saved = l.saved }

-- the saved attributes copied, and copied back
abbrev pub copied : Ledger → Ledger
copied l = record { put = l.put; saved = Some (λ k. cond (is_saved k) (l.put k) []) }

abbrev pub copied_back : Option (ℕ → List ℕ) → Ledger → Ledger
copied_back None l = l
copied_back (Some words) l = record { put = λ k. cond (is_saved k) (words k) (l.put k); saved = l.saved }

-- what a command that was carried out enters
abbrev pub entered : Kind → ℕ → List ℕ → Ledger → Ledger
entered Get number words l = l
entered Set number words l = put_into number words l
entered Run number words l = cond (number == user_defaults) (copied l) (cond (number == restore) (copied_back l.saved l) l)

-- What is known after some calls: the command that is owed an answer, how many commands were answered, and the ledger.
pub record History : Type 0 where
  pub owing : Option Order
  pub answered : ℕ
  pub ledger : Ledger

abbrev pub history : Option Order → ℕ → Ledger → History
history owing answered ledger = record { owing = owing; answered = answered; ledger = ledger }

-- the command that a call speaks for: its own, or for a resume the one that is owed
abbrev pub speaks_for : Option Order → Call → Option Order
speaks_for owing (wake budget) = None
speaks_for owing (get number buffer budget) = Some (order Get number [])
speaks_for owing (set number words budget) = Some (order Set number words)
speaks_for owing (run number budget) = Some (order Run number [])
speaks_for owing (resume buffer budget) = owing

-- how the end of a call moves on what is known
abbrev pub moved_on : Ending → Order → History → History
moved_on done o h = history None (suc h.answered) (entered o.kind o.number o.words h.ledger)
moved_on refused o h = history None (suc h.answered) h.ledger
moved_on owed o h = history (Some o) h.answered h.ledger
moved_on nothing o h = h

abbrev pub noted_for : Option Order → Answer → History → History
noted_for None answer h = h
noted_for (Some o) answer h = moved_on (ending o.kind answer.result) o h

-- one call and its answer noted
abbrev pub noted : Call → Answer → History → History
noted call answer h = noted_for (speaks_for h.owing call) answer h

-- all calls with their answers, in order
abbrev pub known : List Call → List Answer → History → History
known [] answers h = h
known (call ∷ calls) [] h = h
known (call ∷ calls) (answer ∷ answers) h = known calls answers (noted call answer h)

-- how many commands the camera has taken: those that were answered, and one while an answer is owed
abbrev pub one_if_owed : Option Order → ℕ
one_if_owed None = 0
one_if_owed (Some o) = 1

abbrev pub taken : History → ℕ
taken h = h.answered + one_if_owed h.owing
