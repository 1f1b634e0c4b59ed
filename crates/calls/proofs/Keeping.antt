-- What goes with a session, two cameras that differ in their registers at most, and what is known of them.
use Rattle.std.proofs.Common.{◌≡◌, ℕ, ◌+◌, ◌%◌, ◌<◌, ◌≤◌, true, false, List, [], length, pos, Some, None, Option, w8, SFits}
use Rattle.camera.specs.declared.attribute.Kind.{Kind}
use Rattle.camera.specs.declared.attribute.Kind.TheVariants.{Get, Set, Run}
use Rattle.camera.specs.Attributes.{size_of, offers, is_settable, is_saved}
use Rattle.camera.specs.Execution.{standing}
use Rattle.camera.specs.State.{CameraState, Registers, Interpreter, Words, shown, with_registers}
use Rattle.calls.specs.declared.stage.Stage.TheVariants.{Waiting, Reading}
use Rattle.calls.specs.Calls.{Session, asleep, ready, parked}
use Rattle.calls.specs.History.{order, Ledger, History, entered, taken}

-- the registers are all there
pub record RegistersFull (r : Registers) : Type 0 where
  pub data_full : 16 ≤ length r.data_words
  pub block_full : 512 ≤ length r.block_words

-- every attribute has all its words, the saved ones too, and the code has eight bits
pub record InterpreterFull (i : Interpreter) : Type 0 where
  pub words_full : (k : ℕ) → k < 20 → length (i.words k) ≡ size_of k
  pub saved_full : (words : Words) → i.saved ≡ Some words → (k : ℕ) → is_saved k ≡ true → length (words k) ≡ size_of k
  pub code_bits : SFits w8 i.code

-- user defaults and a ledger's copy: nothing is saved, or the same words
abbrev pub SavedAlike : Option Words → Option (ℕ → List ℕ) → Type 0
SavedAlike None None = Unit {0}
SavedAlike None (Some noted) = ⊥
SavedAlike (Some words) None = ⊥
SavedAlike (Some words) (Some noted) = (k : ℕ) → is_saved k ≡ true → words k ≡ noted k

-- the camera holds what the ledger says
pub record Agrees (i : Interpreter) (l : Ledger) : Type 0 where
  pub put : (k : ℕ) → is_settable k ≡ true → i.words k ≡ l.put k
  pub saved : SavedAlike i.saved l.saved

-- the words of an attribute stand in the registers
abbrev pub Stands : ℕ → Interpreter → Registers → Type 0
Stands number i r = standing number r ≡ shown i number

-- only a get's words do
abbrev pub AnswerStands : Kind → ℕ → Interpreter → Registers → Type 0
AnswerStands Get number i r = Stands number i r
AnswerStands Set number i r = Unit {0}
AnswerStands Run number i r = Unit {0}

-- a session asleep or ready: nothing is owed
pub record Free (i : Interpreter) (h : History) : Type 0 where
  pub owes : h.owing ≡ None
  pub agrees : Agrees i h.ledger

-- a command waits for its answer. A code of 0 says that it was carried out.
pub record Waits (kind : Kind) (number : ℕ) (i : Interpreter) (one other : Registers) (h : History) : Type 0 where
  pub words : List ℕ
  pub owes : h.owing ≡ Some (order kind number words)
  pub get_words : kind ≡ Get → words ≡ []
  pub offered : offers kind number ≡ true
  pub carried_out : i.code ≡ pos 0 → Agrees i (entered kind number words h.ledger)
  pub stands_one : i.code ≡ pos 0 → AnswerStands kind number i one
  pub stands_other : i.code ≡ pos 0 → AnswerStands kind number i other
  pub not_carried_out : (i.code ≡ pos 0 → ⊥) → Agrees i h.ledger

-- a get's words are to be read
pub record Reads (kind : Kind) (number : ℕ) (i : Interpreter) (one other : Registers) (h : History) : Type 0 where
  pub is_get : kind ≡ Get
  pub owes : h.owing ≡ Some (order Get number [])
  pub offered : offers Get number ≡ true
  pub agrees : Agrees i h.ledger
  pub stands_one : Stands number i one
  pub stands_other : Stands number i other

abbrev pub GoesWith : Session → Interpreter → Registers → Registers → History → Type 0
GoesWith asleep i one other h = Free i h
GoesWith ready i one other h = Free i h
GoesWith (parked c Waiting) i one other h = Waits c.kind c.number i one other h
GoesWith (parked c Reading) i one other h = Reads c.kind c.number i one other h

-- A sleeping session may find the camera booting or busy; a ready one has seen it idle; a command that waits has a camera
-- that is up and may be busy.
abbrev pub InMode : Session → ℕ → ℕ → Type 0
InMode asleep boot busy = Unit {0}
InMode ready boot busy = (boot ≡ 0) × (busy ≡ 0)
InMode (parked c Waiting) boot busy = boot ≡ 0
InMode (parked c Reading) boot busy = (boot ≡ 0) × (busy ≡ 0)

-- Two cameras beside a session and what is known. `start` is the count before the first call.
pub record Beside (start : ℕ) (session : Session) (s t : CameraState) (h : History) : Type 0 where
  pub twins : with_registers t.registers s ≡ t
  pub one_full : RegistersFull s.registers
  pub other_full : RegistersFull t.registers
  pub full : InterpreterFull s.interpreter
  pub unhung : s.hung ≡ false
  pub in_mode : InMode session s.boot s.busy
  pub counted : s.interpreter.count ≡ (start + taken h) % 65536
  pub goes : GoesWith session s.interpreter s.registers t.registers h
