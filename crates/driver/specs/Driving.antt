-- What the driver's values mean.
use Rattle.std.specs.Prelude.{ℕ, Bool, true, false, cond, List, length, Ok, Err, Result, ◌==◌}
use Rattle.camera.specs.declared.fault.Fault.{Fault}
use Rattle.std.specs.Coded.{Unit-prop, le_prop}
use Rattle.camera.specs.declared.register.Register.{Register}
use Rattle.camera.specs.declared.register.Register.TheVariants.{Power, Status, Command, Length, Data, Block}
use Rattle.camera.specs.Registers.{Exists, data_size, block_size}
use Rattle.camera.specs.Attributes.{size_of}
use Rattle.camera.specs.Execution.{by_data}
use Rattle.camera.specs.State.{CameraState}
use Rattle.calls.specs.declared.refusal.Refusal.{Refusal}
use Rattle.calls.specs.declared.refusal.Refusal.TheVariants.{WrongSize, Bus}
use Rattle.calls.specs.Outcomes.{Fetched, is_free, is_up}
use Rattle.calls.specs.Accesses.{words_read}
use Rattle.driver.specs.declared.polling.Awaited.{Awaited}
use Rattle.driver.specs.declared.polling.Awaited.TheVariants.{Up, Free}

-- the test of a status word that what is waited for asks
abbrev pub passes : Awaited → ℕ → Bool
passes Up = is_up
passes Free = is_free

-- how many words the data registers and the block buffer have
abbrev pub bank_size : Bool → ℕ
bank_size true = data_size
bank_size false = block_size

abbrev pub fetched : Result (Unit {0}) Fault → List ℕ → CameraState → Fetched CameraState
fetched answer words s = record { answer = answer; words = words; after = s }

-- what fetching an attribute's words answers and leaves: carried out or refused, the buffer, and the camera
pub record Transferred : Type 0 where
  pub result : Result (Unit {0}) Refusal
  pub buffer : List ℕ
  pub after : CameraState

abbrev pub transferred : Result (Unit {0}) Refusal → List ℕ → CameraState → Transferred
transferred result buffer s = record { result = result; buffer = buffer; after = s }

-- a fault goes up as it is
abbrev pub lifted : Result (Unit {0}) Fault → Result (Unit {0}) Refusal
lifted (Ok _) = Ok tt
lifted (Err fault) = Err (Bus fault)

abbrev pub all_lifted : Fetched CameraState → Transferred
all_lifted f = transferred (lifted f.answer) f.words f.after

-- An attribute's words are fetched into a buffer of its size; another buffer is refused and untouched.
abbrev pub fetched_into : ℕ → List ℕ → CameraState → Transferred
fetched_into number buffer s =
    cond (length buffer == size_of number) (all_lifted (words_read (by_data number) 0 buffer s)) (transferred (Err WrongSize) buffer s)

-- That a register exists holds in one way.
pub Exists-prop : (register : Register) → IsProp (Exists register)
Exists-prop Power = Unit-prop
Exists-prop Status = Unit-prop
Exists-prop Command = Unit-prop
Exists-prop Length = Unit-prop
Exists-prop (Data place) = le_prop
Exists-prop (Block place) = le_prop
