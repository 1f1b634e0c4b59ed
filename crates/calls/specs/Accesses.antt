-- A camera as a session uses it: each operation as reads and writes of registers.
use Rattle.std.specs.Prelude.{ℕ, suc, Bool, true, false, List, [], ◌∷◌, Ok, Err}
use Rattle.camera.specs.declared.command.Command.{Command}
use Rattle.camera.specs.declared.fault.Fault.{Fault}
use Rattle.camera.specs.declared.register.Register.{Register}
use Rattle.camera.specs.declared.register.Register.TheVariants.{Status, Command as CommandRegister, Length, Data, Block}
use Rattle.camera.specs.Registers.{address_of}
use Rattle.camera.specs.Attributes.{asked}
use Rattle.camera.specs.Commands.{word_with}
use Rattle.camera.specs.Execution.{by_data, moved}
use Rattle.camera.specs.State.{CameraState}
use Rattle.camera.specs.Steps.{Outcome, ended, next_ack, marked, unless_unacknowledged, read_effect, write_effect}
use Rattle.calls.specs.Outcomes.{Machine, Fetched, by_answer}

-- An access to a register that there is: it uses up the next acknowledgement mark, and does what the camera's mode says.
unfoldable pub register_read : Register → CameraState → Outcome CameraState ℕ Fault
register_read register s =
    unless_unacknowledged (next_ack s.acks) (address_of register) (marked s) (read_effect register (marked s))

unfoldable pub register_written : Register → ℕ → CameraState → Outcome CameraState (Unit {0}) Fault
register_written register word s =
    unless_unacknowledged (next_ack s.acks) (address_of register) (marked s) (write_effect word register (marked s))

-- the register through which a word of an attribute passes
abbrev pub place_register : Bool → ℕ → Register
place_register true place = Data place
place_register false place = Block place

-- Words are written to the data registers or the block buffer, ascending, from a place on. A fault ends it.
unfoldable pub words_written : Bool → ℕ → List ℕ → CameraState → Outcome CameraState (Unit {0}) Fault
words_written through place [] s = ended (Ok tt) s
words_written through place (word ∷ words) s =
    by_answer (register_written (place_register through place) word s) (λ _ t. words_written through (suc place) words t)
    (λ fault t. ended (Err fault) t)

-- a word read goes in front of what is read after it
abbrev pub with_word : ℕ → Fetched CameraState → Fetched CameraState
with_word word f = record { answer = f.answer; words = word ∷ f.words; after = f.after }

-- Words are read from there into a buffer, ascending, from a place on. A fault ends it, and leaves the rest of the buffer.
unfoldable pub words_read : Bool → ℕ → List ℕ → CameraState → Fetched CameraState
words_read through place [] s = record { answer = Ok tt; words = []; after = s }
words_read through place (old ∷ rest) s =
    by_answer (register_read (place_register through place) s) (λ word t. with_word word (words_read through (suc place) rest t))
    (λ fault t. record { answer = Err fault; words = old ∷ rest; after = t })

-- the command word of a command
abbrev pub word_for : Command → ℕ
word_for c = asked (λ a. word_with c.kind a.base) 0 c.number

-- The length register says how many words the command moves; the command register takes the command.
abbrev pub command_written : Command → CameraState → Outcome CameraState (Unit {0}) Fault
command_written c s =
    by_answer (register_written Length (moved c.kind c.number) s) (λ _ t. register_written CommandRegister (word_for c) t)
    (λ fault t. ended (Err fault) t)

-- A command is sent: a set's words, then length and command.
abbrev pub sent : Command → List ℕ → CameraState → Outcome CameraState (Unit {0}) Fault
sent c words s =
    by_answer (words_written (by_data c.number) 0 words s) (λ _ t. command_written c t) (λ fault t. ended (Err fault) t)

-- the camera behind a bus
abbrev pub camera : Machine CameraState
camera =
    record {
      send = sent;
      poll = register_read Status;
      fetch = λ number buffer s. words_read (by_data number) 0 buffer s;
    }
