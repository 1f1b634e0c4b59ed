-- Command words: bits 1 and 0 are the type (0 get, 1 set, 2 run), bits 7 to 2 the command, bits 11 to 8 the module, and
-- bit 14 the protection bit, which stands for module 8 and for no other.
use Rattle.std.specs.Prelude.{◌≡◌, ℕ, zero, suc, ◌+◌, ◌*◌, ◌/◌, ◌%◌, Bool, cond, not, List, [], ◌∷◌, Some, None, Option, ◌==◌}
use Rattle.camera.specs.declared.attribute.Attribute.{Attribute}
use Rattle.camera.specs.declared.attribute.Kind.{Kind}
use Rattle.camera.specs.declared.attribute.Kind.TheVariants.{Get, Set, Run}
use Rattle.camera.specs.declared.command.Command.{Command}
use Rattle.checks.specs.Tests.{both}
use Rattle.camera.specs.Attributes.{attributes, attribute_at}

-- the type bits of a kind
abbrev pub type_bits : Kind → ℕ
type_bits Get = 0
type_bits Set = 1
type_bits Run = 2

-- the kind of type bits
abbrev pub kind_of : ℕ → Option Kind
kind_of zero = Some Get
kind_of (suc zero) = Some Set
kind_of (suc (suc zero)) = Some Run
kind_of (suc (suc (suc bits))) = None

-- the module of a command word or a base
abbrev pub module_of : ℕ → ℕ
module_of word = word / 256 % 16

-- what stands above the module: the protection bit alone for module 8, nothing for the others
abbrev pub protection : ℕ → ℕ
protection m = cond (m == 8) 4 0

-- the place of a command word in the directory: its module and command, bits 11 to 2
abbrev pub directory_place : ℕ → ℕ
directory_place word = word / 4 % 1024

-- in the directory where no attribute is
abbrev pub no_attribute : ℕ
no_attribute = 255

-- the number of the first attribute, counted from one on, that has its base at a place of the directory
abbrev pub found_from : ℕ → ℕ → List Attribute → ℕ
found_from place number [] = no_attribute
found_from place number (a ∷ others) = cond (directory_place a.base == place) number (found_from place (suc number) others)

-- The directory's rule: which attribute has a place.
unfoldable pub attribute_in : ℕ → ℕ
attribute_in place = found_from place 0 attributes

abbrev pub command : Kind → ℕ → Command
command kind number = record { kind = kind; number = number }

-- The bits above the module are those that its module wants, and an attribute has the place.
abbrev pub is_known : ℕ → Bool
is_known word =
    both (word / 4096 == protection (module_of word)) (not (attribute_in (directory_place word) == no_attribute))

-- a command of a kind, if there is such a kind
abbrev pub command_with : Option Kind → ℕ → Option Command
command_with None number = None
command_with (Some kind) number = Some (command kind number)

-- What a command word asks for; nothing where a bit is set that means nothing, the type is none, no attribute has the
-- place, or the protection bit is wrong.
abbrev pub command_of : ℕ → Option Command
command_of word = cond (is_known word) (command_with (kind_of (word % 4)) (attribute_in (directory_place word))) None

-- the command word of a kind and a base
abbrev pub word_with : Kind → ℕ → ℕ
word_with kind base = base + type_bits kind + 4096 * protection (module_of base)

-- the command word of a command, if its attribute is there
abbrev pub word_of : Command → Option ℕ
word_of c = elim (attribute_at c.number) [ None ↦ None | Some a ↦ Some (word_with c.kind a.base) ]

-- Each command of an attribute has one word, and that word asks for no other command.
pub record OneWord (word : ℕ) : Type 0 where
  pub word_of_command : (c : Command) → command_of word ≡ Some c → word_of c ≡ Some word
  pub command_of_word : (c : Command) → word_of c ≡ Some word → command_of word ≡ Some c
