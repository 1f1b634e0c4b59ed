-- What a word in the command register does to an idle camera.
use Rattle.std.specs.Prelude.{ℕ, ◌+◌, ◌%◌, Bool, true, false, cond, not, List, [], ◌∷◌, take, ℤ, pos, negsuc, Some, None, Option, ◌==◌, nat_le}
use Rattle.camera.specs.declared.attribute.Kind.{Kind}
use Rattle.camera.specs.declared.attribute.Kind.TheVariants.{Get, Set, Run}
use Rattle.camera.specs.declared.command.Command.{Command}
use Rattle.checks.specs.Tests.{both, first_failing}
use Rattle.camera.specs.Registers.{over}
use Rattle.camera.specs.Attributes.{asked, size_of, offers, is_saved, within, user_defaults, restore}
use Rattle.camera.specs.Commands.{command_of}
use Rattle.camera.specs.State.{CameraState, Registers, Interpreter, Words, shown, with_registers, with_interpreter, with_busy, with_code, with_words, with_saved}

-- the response codes: −6, −7, −8, −9, −15 and −18
abbrev pub wrong_size : ℤ
wrong_size = negsuc 5

abbrev pub no_command : ℤ
no_command = negsuc 6

abbrev pub not_offered : ℤ
not_offered = negsuc 7

abbrev pub out_of_limits : ℤ
out_of_limits = negsuc 8

abbrev pub already_saved : ℤ
already_saved = negsuc 14

abbrev pub nothing_saved : ℤ
nothing_saved = negsuc 17

-- Words pass through the data registers from the first on, or through the block buffer if there are more than 16.
abbrev pub by_data : ℕ → Bool
by_data number = nat_le (size_of number) 16

-- the registers through which an attribute's words pass
abbrev pub bank : Bool → Registers → List ℕ
bank true r = r.data_words
bank false r = r.block_words

abbrev pub with_bank : Bool → List ℕ → Registers → Registers
with_bank true ws r = record { size = r.size; data_words = ws; block_words = r.block_words }
with_bank false ws r = record { size = r.size; data_words = r.data_words; block_words = ws }

-- the words of an attribute that stand in the registers
abbrev pub standing : ℕ → Registers → List ℕ
standing number r = take (size_of number) (bank (by_data number) r)

-- how many words a command moves
abbrev pub moved : Kind → ℕ → ℕ
moved Get number = size_of number
moved Set number = size_of number
moved Run number = 0

-- whether the words of a set keep the limits
abbrev pub lawful : Kind → ℕ → Registers → Bool
lawful Get number r = true
lawful Set number r = asked (λ a. within a.limits (standing number r)) false number
lawful Run number r = true

abbrev pub is_run : Kind → Bool
is_run Get = false
is_run Set = false
is_run Run = true

abbrev pub is_some : {A : Type 0} → Option A → Bool
is_some None = false
is_some (Some x) = true

-- A command is judged by tests in order: the first that fails gives the response code.
abbrev pub command_tests : Kind → ℕ → Registers → Interpreter → List (Bool × ℤ)
command_tests kind number r i =
    (offers kind number, not_offered)
    ∷ ((r.size == moved kind number), wrong_size)
    ∷ (lawful kind number r, out_of_limits)
    ∷ (not (both (both (is_run kind) (number == user_defaults)) (is_some i.saved)), already_saved)
    ∷ (not (both (both (is_run kind) (number == restore)) (not (is_some i.saved))), nothing_saved)
    ∷ []

abbrev pub verdict : Kind → ℕ → Registers → Interpreter → Option ℤ
verdict kind number r i = first_failing (command_tests kind number r i)

-- the words of one attribute exchanged for others
unfoldable pub with_one : ℕ → List ℕ → Words → Words
with_one number ws words = λ k. cond (k == number) ws (words k)

-- the words that the user defaults keep
unfoldable pub only_saved : Words → Words
only_saved words = λ k. cond (is_saved k) (words k) []

-- the saved words back in the place of the present ones
unfoldable pub put_back : Words → Words → Words
put_back saved words = λ k. cond (is_saved k) (saved k) (words k)

-- A get copies what the attribute shows into the registers.
abbrev pub get_done : ℕ → CameraState → CameraState
get_done number s =
    with_registers (with_bank (by_data number) (over (shown s.interpreter number) (bank (by_data number) s.registers)) s.registers) s

-- A set takes the words from there.
abbrev pub set_done : ℕ → CameraState → CameraState
set_done number s =
    with_interpreter (with_words (with_one number (standing number s.registers) s.interpreter.words) s.interpreter) s

-- The user defaults are saved ..
abbrev pub save_done : CameraState → CameraState
save_done s = with_interpreter (with_saved (Some (only_saved s.interpreter.words)) s.interpreter) s

-- .. and restored; the other runs change nothing here.
abbrev pub restored : Option Words → Interpreter → Interpreter
restored None i = i
restored (Some saved) i = with_words (put_back saved i.words) i

abbrev pub restore_done : CameraState → CameraState
restore_done s = with_interpreter (restored s.interpreter.saved s.interpreter) s

abbrev pub run_done : ℕ → CameraState → CameraState
run_done number s = cond (number == user_defaults) (save_done s) (cond (number == restore) (restore_done s) s)

abbrev pub carried_out : Kind → ℕ → CameraState → CameraState
carried_out Get number s = get_done number s
carried_out Set number s = set_done number s
carried_out Run number s = run_done number s

-- A command word is taken: the count rises by one, modulo 65,536, and the next number of busy polls begins.
abbrev pub next_busy : List ℕ → ℕ
next_busy [] = 0
next_busy (polls ∷ later) = polls

abbrev pub later_busy : List ℕ → List ℕ
later_busy [] = []
later_busy (polls ∷ later) = later

abbrev pub counted : Interpreter → Interpreter
counted i =
    record { code = i.code; count = (i.count + 1) % 65536; words = i.words; saved = i.saved; coming = later_busy i.coming }

abbrev pub taken : CameraState → CameraState
taken s = with_busy (next_busy s.interpreter.coming) (with_interpreter (counted s.interpreter) s)

-- the response code of a command
abbrev pub answered : ℤ → CameraState → CameraState
answered code s = with_interpreter (with_code code s.interpreter) s

-- What is no command, and what a test refuses, leaves its code and nothing else; any other command is carried out.
abbrev pub judged : Option ℤ → Kind → ℕ → CameraState → CameraState
judged None kind number s = carried_out kind number (answered (pos 0) s)
judged (Some code) kind number s = answered code s

abbrev pub executed : Option Command → CameraState → CameraState
executed None s = answered no_command s
executed (Some c) s = judged (verdict c.kind c.number s.registers s.interpreter) c.kind c.number s

unfoldable pub commanded : ℕ → CameraState → CameraState
commanded word s = executed (command_of word) (taken s)
