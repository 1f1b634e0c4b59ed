-- The state of the camera behind a bus.
use Rattle.std.specs.Prelude.{◌≡◌, ℕ, ◌<◌, Bool, true, cond, List, [], ◌∷◌, ℤ, Some, None, Option, FitsSigned, ◌==◌}
use Rattle.std.specs.Int.{w8}
use Rattle.words.specs.Words.{Words as Filled}
use Rattle.camera.specs.Registers.{data_size, block_size}
use Rattle.camera.specs.Attributes.{size_of, is_saved, status, user_defaults}

-- the words of each attribute, by its number
abbrev pub Words : Type 0
Words = ℕ → List ℕ

-- the registers that hold words: the length register, the data registers, the block buffer
pub record Registers : Type 0 where
  pub size : ℕ
  pub data_words : List ℕ
  pub block_words : List ℕ

-- What commands work on: the last command's response code, how many commands were taken, the words of each attribute,
-- the user defaults, and how many polls each coming command will keep the camera busy.
pub record Interpreter : Type 0 where
  pub code : ℤ
  pub count : ℕ
  pub words : Words
  pub saved : Option Words
  pub coming : List ℕ

-- The camera: whether it hangs, the boot polls and the busy polls left, whether each coming access is acknowledged, its
-- registers, and what commands work on.
pub record CameraState : Type 0 where
  pub hung : Bool
  pub boot : ℕ
  pub busy : ℕ
  pub acks : List Bool
  pub registers : Registers
  pub interpreter : Interpreter

-- whether something is saved, as a number
abbrev pub saved_flag : Option Words → ℕ
saved_flag None = 0
saved_flag (Some words) = 1

-- The words that an attribute shows. The status shows the present count in its third word, the user defaults show
-- whether something is saved, and the others show what they hold.
unfoldable pub shown : Interpreter → Words
shown i number =
    cond (number == status) (0 ∷ 0 ∷ i.count ∷ 0 ∷ [])
    (cond (number == user_defaults) (saved_flag i.saved ∷ 0 ∷ []) (i.words number))

-- A state that a camera can have: every register and every word is there and has sixteen bits, and the code eight.
pub record Possible (s : CameraState) : Type 0 where
  pub size_bits : s.registers.size < 65536
  pub data_full : Filled data_size s.registers.data_words
  pub block_full : Filled block_size s.registers.block_words
  pub code_bits : FitsSigned w8 s.interpreter.code
  pub count_bits : s.interpreter.count < 65536
  pub words_full : (k : ℕ) → k < 20 → Filled (size_of k) (s.interpreter.words k)
  pub saved_full : (words : Words) → s.interpreter.saved ≡ Some words → (k : ℕ) → is_saved k ≡ true → Filled (size_of k) (words k)

-- one part of a state exchanged for another
abbrev pub with_acks : List Bool → CameraState → CameraState
with_acks acks s =
    record { hung = s.hung; boot = s.boot; busy = s.busy; acks = acks; registers = s.registers; interpreter = s.interpreter }

abbrev pub hanging : CameraState → CameraState
hanging s =
    record { hung = true; boot = s.boot; busy = s.busy; acks = s.acks; registers = s.registers; interpreter = s.interpreter }

abbrev pub with_boot : ℕ → CameraState → CameraState
with_boot boot s =
    record { hung = s.hung; boot = boot; busy = s.busy; acks = s.acks; registers = s.registers; interpreter = s.interpreter }

abbrev pub with_busy : ℕ → CameraState → CameraState
with_busy busy s =
    record { hung = s.hung; boot = s.boot; busy = busy; acks = s.acks; registers = s.registers; interpreter = s.interpreter }

abbrev pub with_registers : Registers → CameraState → CameraState
with_registers registers s =
    record { hung = s.hung; boot = s.boot; busy = s.busy; acks = s.acks; registers = registers; interpreter = s.interpreter }

abbrev pub with_interpreter : Interpreter → CameraState → CameraState
with_interpreter i s =
    record { hung = s.hung; boot = s.boot; busy = s.busy; acks = s.acks; registers = s.registers; interpreter = i }

abbrev pub with_code : ℤ → Interpreter → Interpreter
with_code code i = record { code = code; count = i.count; words = i.words; saved = i.saved; coming = i.coming }

abbrev pub with_words : Words → Interpreter → Interpreter
with_words words i = record { code = i.code; count = i.count; words = words; saved = i.saved; coming = i.coming }

abbrev pub with_saved : Option Words → Interpreter → Interpreter
with_saved saved i = record { code = i.code; count = i.count; words = i.words; saved = saved; coming = i.coming }
