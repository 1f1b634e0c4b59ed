-- Each command has one word, and each word asks for one command at most.
use Rattle.std.proofs.Common.{◌≡◌, ℕ, zero, suc, ◌+◌, ◌*◌, ◌/◌, ◌%◌, ◌<◌, ◌≤◌, Bool, true, false, cond, eqb, ltb, List, [], ◌∷◌, length, Some, None, Option, sym, refl, ap, ◌∙◌, ap₂, add-zero, add-suc, suc-add, zero-add, arith}
use Rattle.std.specs.List.{slice_get}
use Rattle.camera.specs.declared.attribute.Attribute.{Attribute}
use Rattle.camera.specs.declared.attribute.Kind.{Kind}
use Rattle.camera.specs.declared.attribute.Kind.TheVariants.{Get, Set, Run}
use Rattle.camera.specs.declared.command.Command.{Command}
use Rattle.checks.specs.Tests.{both}
use Rattle.camera.specs.Attributes.{attributes, attribute_at}
use Rattle.camera.proofs.Lists.{every_at}
use Rattle.camera.specs.Commands.{type_bits, kind_of, module_of, protection, directory_place, found_from, attribute_in, is_known, command, command_with, command_of, word_with, word_of, OneWord}

-- Bases have no type bits and nothing above the module, and each stands in the directory for its own attribute alone.
base_is_right : ℕ → Attribute → Bool
base_is_right k a =
    both (ltb k 255) (both (eqb (a.base % 4) 0) (both (ltb a.base 4096) (eqb (attribute_in (directory_place a.base)) k)))

bases : (k : ℕ) (a : Attribute) → attribute_at k ≡ Some a → base_is_right k a ≡ true
unfolding attribute_at attribute_in base_is_right
bases k a e = ap (λ n. base_is_right n a) (sym (zero-add k)) ∙ every_at base_is_right 0 attributes refl k a e

-- What is found is an attribute at that place.
record Found (place i : ℕ) (xs : List Attribute) (found : ℕ) : Type 0 where
  k : ℕ
  a : Attribute
  is : found ≡ i + k
  here : slice_get xs k ≡ Some a
  placed : directory_place a.base ≡ place

found_is : (place i : ℕ) (xs : List Attribute) → i + length xs ≤ 255 → eqb (found_from place i xs) 255 ≡ false → Found place i xs (found_from place i xs)
found_is place i [] short e = grind arith
found_is place i (x ∷ xs) short e = go (eqb (directory_place x.base) place) refl e (found_is place (suc i) xs (omega arith))
  where
    rest : ℕ
    rest = found_from place (suc i) xs

    go : (b : Bool) → eqb (directory_place x.base) place ≡ b → eqb (cond b i rest) 255 ≡ false →
        (eqb rest 255 ≡ false → Found place (suc i) xs rest) → Found place i (x ∷ xs) (cond b i rest)
    go true is e later = record { k = 0; a = x; is = sym (add-zero i); here = refl; placed = grind (arith, is) }
    go false is e later =
        let f = later e in
        record { k = suc f.k; a = f.a; is = f.is ∙ suc-add i f.k ∙ sym (add-suc i f.k); here = f.here; placed = f.placed }

-- The attribute of a word that is known.
known : (word : ℕ) → eqb (attribute_in (directory_place word)) 255 ≡ false →
    (a : Attribute) × (attribute_at (attribute_in (directory_place word)) ≡ Some a) × (directory_place a.base ≡ directory_place word)
unfolding attribute_in attribute_at
known word e =
    let f = found_is (directory_place word) 0 attributes (omega arith) e in
    (f.a, ap (slice_get attributes) (f.is ∙ zero-add f.k) ∙ f.here, f.placed)

-- A word from its parts, and the parts of a word.
word_from : (word base t : ℕ) → word / 4096 ≡ protection (module_of word) → word % 4 ≡ t → base % 4 ≡ 0 → base < 4096 →
    directory_place base ≡ directory_place word → base + t + 4096 * protection (module_of base) ≡ word
word_from word base t high low clear short place =
    let same : module_of base ≡ module_of word = omega arith in
    ap (λ m. base + t + 4096 * protection m) same ∙ omega arith

record Parts (word base t p : ℕ) : Type 0 where
  low : word % 4 ≡ t
  place : directory_place word ≡ directory_place base
  mods : module_of word ≡ module_of base
  high : word / 4096 ≡ p

parts : (word base t p : ℕ) → base % 4 ≡ 0 → base < 4096 → t < 4 → base + t + 4096 * p ≡ word → Parts word base t p
parts word base t p clear short bits e = record { low = omega arith; place = omega arith; mods = omega arith; high = omega arith }

kind_bits : (kind : Kind) → (type_bits kind < 4) × (kind_of (type_bits kind) ≡ Some kind)
kind_bits Get = (omega arith, refl)
kind_bits Set = (omega arith, refl)
kind_bits Run = (omega arith, refl)

bits_kind : (bits : ℕ) (kind : Kind) → kind_of bits ≡ Some kind → bits ≡ type_bits kind
bits_kind zero kind e = ap type_bits (let same : Get ≡ kind = cc in same)
bits_kind (suc zero) kind e = ap type_bits (let same : Set ≡ kind = cc in same)
bits_kind (suc (suc zero)) kind e = ap type_bits (let same : Run ≡ kind = cc in same)
bits_kind (suc (suc (suc bits))) kind e = grind arith

-- what makes a word a command
record IsCommand (word : ℕ) (c : Command) : Type 0 where
  high : word / 4096 ≡ protection (module_of word)
  there : eqb (attribute_in (directory_place word)) 255 ≡ false
  kind : kind_of (word % 4) ≡ Some c.kind
  number : attribute_in (directory_place word) ≡ c.number

guarded : (b : Bool) (o : Option Command) (c : Command) → cond b o None ≡ Some c → (b ≡ true) × (o ≡ Some c)
guarded true o c e = (refl, e)
guarded false o c e = grind arith

kinded : (o : Option Kind) (number : ℕ) (c : Command) → command_with o number ≡ Some c → (o ≡ Some c.kind) × (number ≡ c.number)
kinded None number c e = grind arith
kinded (Some kind) number c e =
    let same : command kind number ≡ c = cc in
    (ap (λ x. Some x.kind) same, ap (λ x. x.number) same)

is_command : (word : ℕ) (c : Command) → command_of word ≡ Some c → IsCommand word c
is_command word c e =
    let g = guarded (is_known word) (command_with (kind_of (word % 4)) (attribute_in (directory_place word))) c e in
    let k = kinded (kind_of (word % 4)) (attribute_in (directory_place word)) c g.1 in
    record { high = grind (arith, g.0); there = grind (arith, g.0); kind = k.0; number = k.1 }

command_is : (word : ℕ) (c : Command) → IsCommand word c → command_of word ≡ Some c
command_is word c h =
    let known : is_known word ≡ true = grind (arith, h.high, h.there) in
    ap (λ b. cond b (command_with (kind_of (word % 4)) (attribute_in (directory_place word))) None) known
    ∙ ap₂ command_with h.kind h.number

-- the word of an attribute that is there
word_is : (c : Command) (a : Attribute) → attribute_at c.number ≡ Some a → word_of c ≡ Some (word_with c.kind a.base)
word_is c a e = rw (e, word_of)

word_back : (c : Command) (word : ℕ) → word_of c ≡ Some word → (a : Attribute) × (attribute_at c.number ≡ Some a) × (word_with c.kind a.base ≡ word)
word_back c word = go (attribute_at c.number) refl
  where
    go : (o : Option Attribute) → attribute_at c.number ≡ o →
        (elim o as (λ _. Option ℕ) [ None ↦ None | Some a ↦ Some (word_with c.kind a.base) ]) ≡ Some word →
        (a : Attribute) × (attribute_at c.number ≡ Some a) × (word_with c.kind a.base ≡ word)
    go None is e = grind arith
    go (Some a) is e = (a, is, cc)

pub one_word : (word : ℕ) → OneWord word
unfolding base_is_right
one_word word =
    record {
      word_of_command = λ c e.
          let h = is_command word c e in
          let f = known word h.there in
          let there : attribute_at c.number ≡ Some f.0 = ap attribute_at (sym h.number) ∙ f.1 in
          let right = bases c.number f.0 there in
          let clear : f.0.base % 4 ≡ 0 = grind (arith, right) in
          let short : f.0.base < 4096 = grind (arith, right) in
          word_is c f.0 there
          ∙ ap Some (word_from word f.0.base (type_bits c.kind) h.high (bits_kind (word % 4) c.kind h.kind) clear short f.2);
      command_of_word = λ c e.
          let f = word_back c word e in
          let right = bases c.number f.0 f.1 in
          let clear : f.0.base % 4 ≡ 0 = grind (arith, right) in
          let short : f.0.base < 4096 = grind (arith, right) in
          let own : attribute_in (directory_place f.0.base) ≡ c.number = grind (arith, right) in
          let few : c.number < 255 = grind (arith, right) in
          let p = parts word f.0.base (type_bits c.kind) (protection (module_of f.0.base)) clear short (kind_bits c.kind).0 f.2 in
          command_is word c
          (record {
            high = p.high ∙ ap protection (sym p.mods);
            there = grind (arith, own, p.place, few);
            kind = ap kind_of p.low ∙ (kind_bits c.kind).1;
            number = ap attribute_in p.place ∙ own;
          });
    }

-- The parts of a command word fit sixteen bits together.
pub word_short : (k : ℕ) (a : Attribute) (kind : Kind) (t p : ℕ) → Some a ≡ attribute_at k → t ≡ type_bits kind → p ≡ protection (module_of a.base) →
    (a.base + t < 65536) × (a.base + t + 4096 * p < 65536)
unfolding base_is_right
word_short k a kind t p e is_t is_p =
    let right = bases k a (sym e) in
    let short : a.base < 4096 = grind (arith, right) in
    let few : t < 4 = omega (arith, (kind_bits kind).0) in
    let bit : p ≤ 4 = grind (arith, is_p) in
    (omega arith, omega arith)
