-- What a read and a write answer, and what they leave.
use Rattle.std.specs.Prelude.{ℕ, zero, suc, ◌+◌, ◌*◌, Bool, true, false, List, [], ◌∷◌, ℤ, Ok, Err, Result, slice_index, slice_set}
use Rattle.std.specs.Int.{w8}
use Rattle.std.proofs.Common.{of_z}
use Rattle.camera.specs.declared.fault.Fault.{Fault}
use Rattle.camera.specs.declared.fault.Fault.TheVariants.{NotAcknowledged}
use Rattle.camera.specs.declared.mode.Mode.{Mode}
use Rattle.camera.specs.declared.mode.Mode.TheVariants.{Hung, Booting, Busy, Idle}
use Rattle.camera.specs.declared.register.Register.{Register}
use Rattle.camera.specs.declared.register.Register.TheVariants.{Power, Status, Command, Length, Data, Block}
use Rattle.camera.specs.Registers.{register_at}
use Rattle.camera.specs.State.{CameraState, hanging, with_acks, with_boot, with_busy, with_registers}
use Rattle.camera.specs.Execution.{commanded}

-- an action on a state: what it answers, and the state after it
pub record Outcome (S A E : Type 0) : Type 0 where
  pub answer : Result A E
  pub after : S

abbrev pub ended : {S A E : Type 0} → Result A E → S → Outcome S A E
ended r s = record { answer = r; after = s }

-- What a camera does with an access depends on its mode.
abbrev pub mode_of : Bool → ℕ → ℕ → Mode
mode_of true boot busy = Hung
mode_of false (suc boot) busy = Booting boot
mode_of false zero (suc busy) = Busy busy
mode_of false zero zero = Idle

abbrev pub mode : CameraState → Mode
mode s = mode_of s.hung s.boot s.busy

-- the status word: bit 0 is busy, bit 1 boot mode, bit 2 booted, and the high byte the response code
abbrev pub hung_status : ℕ
hung_status = 0x0007

abbrev pub boot_status : ℕ
boot_status = 0x0000

abbrev pub busy_status : ℕ
busy_status = 0x0007

abbrev pub idle_status : ℤ → ℕ
idle_status code = 256 * of_z w8 code + 6

-- a value for the status register, and another for every other one
abbrev pub at_status : {A : Type 0} → Register → A → A → A
at_status Power x y = y
at_status Status x y = x
at_status Command x y = y
at_status Length x y = y
at_status (Data place) x y = y
at_status (Block place) x y = y

-- what a register of an idle camera reads
abbrev pub held : Register → CameraState → ℕ
held Power s = 0
held Status s = idle_status s.interpreter.code
held Command s = 0
held Length s = s.registers.size
held (Data place) s = slice_index s.registers.data_words place
held (Block place) s = slice_index s.registers.block_words place

-- an acknowledged read: the word
abbrev pub word_read : Mode → Register → CameraState → ℕ
word_read Hung register s = at_status register hung_status 0
word_read (Booting left) register s = at_status register boot_status 0
word_read (Busy left) register s = at_status register busy_status 0
word_read Idle register s = held register s

-- an acknowledged read: the state after it
abbrev pub after_read : Mode → Register → CameraState → CameraState
after_read Hung register s = s
after_read (Booting left) register s = at_status register (with_boot left s) s
after_read (Busy left) register s = at_status register (with_busy left s) s
after_read Idle register s = s

-- what a write to a register of an idle camera leaves
abbrev pub stored : Register → ℕ → CameraState → CameraState
stored Power word s = s
stored Status word s = s
stored Command word s = commanded word s
stored Length word s =
    with_registers (record { size = word; data_words = s.registers.data_words; block_words = s.registers.block_words }) s
stored (Data place) word s =
    with_registers (record { size = s.registers.size; data_words = slice_set s.registers.data_words place word; block_words = s.registers.block_words }) s
stored (Block place) word s =
    with_registers (record { size = s.registers.size; data_words = s.registers.data_words; block_words = slice_set s.registers.block_words place word }) s

-- an acknowledged write: the state after it. A write while the camera boots or is busy hangs it.
abbrev pub after_write : Mode → Register → ℕ → CameraState → CameraState
after_write Hung register word s = s
after_write (Booting left) register word s = hanging s
after_write (Busy left) register word s = hanging s
after_write Idle register word s = stored register word s

-- Each access to a register uses up the next acknowledgement mark. Past the end of the marks it is acknowledged.
abbrev pub next_ack : List Bool → Bool
next_ack [] = true
next_ack (mark ∷ marks) = mark

abbrev pub later_acks : List Bool → List Bool
later_acks [] = []
later_acks (mark ∷ marks) = marks

abbrev pub marked : CameraState → CameraState
marked s = with_acks (later_acks s.acks) s

-- an access that is not acknowledged meets a fault, and leaves nothing but the mark used up
abbrev pub unless_unacknowledged : {A : Type 0} → Bool → ℕ → CameraState → Outcome CameraState A Fault → Outcome CameraState A Fault
unless_unacknowledged true address s outcome = outcome
unless_unacknowledged false address s outcome = ended (Err (NotAcknowledged address)) s

-- an access to an address: what it does to the register there, if there is one
abbrev pub access : {A : Type 0} → Result Register Fault → ℕ → CameraState → (Register → CameraState → Outcome CameraState A Fault) → Outcome CameraState A Fault
access (Err fault) address s effect = ended (Err fault) s
access (Ok register) address s effect = unless_unacknowledged (next_ack s.acks) address (marked s) (effect register (marked s))

-- an acknowledged read and an acknowledged write
abbrev pub read_effect : Register → CameraState → Outcome CameraState ℕ Fault
read_effect register s = ended (Ok (word_read (mode s) register s)) (after_read (mode s) register s)

abbrev pub write_effect : ℕ → Register → CameraState → Outcome CameraState (Unit {0}) Fault
write_effect word register s = ended (Ok tt) (after_write (mode s) register word s)

-- one read and one write of a bus
unfoldable pub read_step : CameraState → ℕ → Outcome CameraState ℕ Fault
read_step s address = access (register_at address) address s read_effect

unfoldable pub write_step : CameraState → ℕ → ℕ → Outcome CameraState (Unit {0}) Fault
write_step s address word = access (register_at address) address s (write_effect word)
