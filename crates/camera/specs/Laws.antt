-- What commands can and cannot change, over all states, all command words and all sequences of accesses.
use Rattle.std.specs.Prelude.{◌≡◌, ℕ, true, false, List, [], ◌∷◌, pos, Some, Err, ◌==◌}
use Rattle.camera.specs.declared.attribute.Kind.TheVariants.{Get, Set, Run}
use Rattle.camera.specs.declared.fault.Fault.{Fault}
use Rattle.camera.specs.Attributes.{is_saved, user_defaults, restore}
use Rattle.camera.specs.Commands.{command, command_of}
use Rattle.camera.specs.Registers.{fault_address}
use Rattle.camera.specs.State.{CameraState, Words}
use Rattle.camera.specs.Execution.{commanded, standing}
use Rattle.camera.specs.Steps.{read_step, write_step}

-- the words that a state holds for an attribute, and whether its last command was carried out
abbrev pub words_of : CameraState → Words
words_of s = s.interpreter.words

abbrev pub CarriedOut : CameraState → Type 0
CarriedOut s = s.interpreter.code ≡ pos 0

-- A set changes the words of its attribute to those that stood in the registers, and those of no other attribute; the
-- user defaults stay as they are.
pub record SetChangesOne (s after : CameraState) (number : ℕ) : Type 0 where
  pub own : CarriedOut after → words_of after number ≡ standing number s.registers
  pub others : (k : ℕ) → (k == number) ≡ false → words_of after k ≡ words_of s k
  pub defaults : after.interpreter.saved ≡ s.interpreter.saved

abbrev pub SetsChangeOne : Type 0
SetsChangeOne =
    (s : CameraState) (word number : ℕ) → command_of word ≡ Some (command Set number) → SetChangesOne s (commanded word s) number

-- A get changes no attribute and no user defaults.
pub record GetChangesNone (s after : CameraState) : Type 0 where
  pub attributes : (k : ℕ) → words_of after k ≡ words_of s k
  pub defaults : after.interpreter.saved ≡ s.interpreter.saved

abbrev pub GetsChangeNone : Type 0
GetsChangeNone =
    (s : CameraState) (word number : ℕ) → command_of word ≡ Some (command Get number) → GetChangesNone s (commanded word s)

-- accesses over a bus, one after the other
pub data Access : Type 0 where
  reads : ℕ → Access
  writes : ℕ → ℕ → Access

abbrev pub after : List Access → CameraState → CameraState
after [] s = s
after (reads address ∷ accesses) s = after accesses (read_step s address).after
after (writes address word ∷ accesses) s = after accesses (write_step s address word).after

-- A restore gives the saved attributes the words that they had at the save, whatever came in between, and leaves the
-- others, the colour table among them, as they are.
pub record ComesBack (at_save before_restore after_restore : CameraState) : Type 0 where
  pub saved : (k : ℕ) → is_saved k ≡ true → words_of after_restore k ≡ words_of at_save k
  pub others : (k : ℕ) → is_saved k ≡ false → words_of after_restore k ≡ words_of before_restore k

abbrev pub DefaultsComeBack : Type 0
DefaultsComeBack =
    (s : CameraState) (save_word restore_word : ℕ) (between : List Access) →
    command_of save_word ≡ Some (command Run user_defaults) → command_of restore_word ≡ Some (command Run restore) →
    CarriedOut (commanded save_word s) →
    let t : CameraState = after between (commanded save_word s) in
    CarriedOut (commanded restore_word t) → ComesBack s t (commanded restore_word t)

-- A fault has the address of the access that met it.
pub record FaultsAt (s : CameraState) (address : ℕ) : Type 0 where
  pub of_read : (fault : Fault) → (read_step s address).answer ≡ Err fault → fault_address fault ≡ address
  pub of_write : (word : ℕ) (fault : Fault) → (write_step s address word).answer ≡ Err fault → fault_address fault ≡ address

abbrev pub FaultsKeepAddresses : Type 0
FaultsKeepAddresses = (s : CameraState) (address : ℕ) → FaultsAt s address
