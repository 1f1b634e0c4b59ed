-- A range of values by their order, the laws of an order, and that numbers and signed numbers keep them.
use Rattle.std.specs.Prelude.{◌≡◌, Bool, true, ◌&&◌, ◌⊎◌, nat_le, int_le}
use Rattle.std.proofs.Common.{rules}

-- in the range from one value to another, both of which are in it
abbrev pub between : {A : Type 0} → (A → A → Bool) → A → A → A → Bool
between leq least value greatest = leq least value && leq value greatest

-- the laws of a total order, of which leq says whether a value is below another or the same
pub record IsOrder {A : Type 0} (leq : A → A → Bool) : Type 0 where
  -- a value is the same as itself
  pub reflexive : (a : A) → leq a a ≡ true
  -- two values, each below the other or the same, are the same
  pub antisymmetric : (a b : A) → leq a b ≡ true → leq b a ≡ true → a ≡ b
  -- what is at most a value is at most all that the value is at most
  pub transitive : (a b c : A) → leq a b ≡ true → leq b c ≡ true → leq a c ≡ true
  -- of two values one is below the other or the same
  pub total : (a b : A) → (leq a b ≡ true) ⊎ (leq b a ≡ true)

-- numbers are ordered
pub nat_le_order : IsOrder nat_le
nat_le_order = record { reflexive = search rules; antisymmetric = search rules; transitive = search rules; total = search rules }

-- signed numbers are ordered, those below zero first
pub int_le_order : IsOrder int_le
int_le_order = record { reflexive = search rules; antisymmetric = search rules; transitive = search rules; total = search rules }
