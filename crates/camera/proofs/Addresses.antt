-- Each register has one address.
use Rattle.std.proofs.Common.{◌≡◌, ℕ, Ok, refl, ap, ◌∙◌, arith}
use Rattle.camera.specs.declared.register.Register.{Register}
use Rattle.camera.specs.declared.register.Register.TheVariants.{Power, Status, Command, Length, Data, Block}
use Rattle.camera.specs.Registers.{register_at, address_of, Exists, OneAddress}

back : (register : Register) → Exists register → register_at (address_of register) ≡ Ok register
back Power h = refl
back Status h = refl
back Command h = refl
back Length h = refl
back (Data place) h = grind arith
back (Block place) h = grind arith

forth : (address : ℕ) (register : Register) → register_at address ≡ Ok register → (address ≡ address_of register) × Exists register
forth address Power e = grind arith
forth address Status e = grind arith
forth address Command e = grind arith
forth address Length e = grind arith
forth address (Data place) e = grind arith
forth address (Block place) e = grind arith

pub one_address : (address : ℕ) → OneAddress address (register_at address)
one_address address =
    record {
      register_of_address = forth address;
      address_of_register = λ register exists e. ap register_at e ∙ back register exists;
    }
