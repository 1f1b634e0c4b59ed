-- The registers behind a bus, and the addresses at which they stand.
use Rattle.std.specs.Prelude.{◌≡◌, ℕ, ◌+◌, ◌-◌, ◌*◌, ◌/◌, ◌%◌, ◌<◌, Bool, cond, List, ◌++◌, length, drop, Ok, Err, Result, ◌==◌, nat_le}
use Rattle.checks.specs.Tests.{both}
use Rattle.camera.specs.declared.fault.Fault.{Fault}
use Rattle.camera.specs.declared.fault.Fault.TheVariants.{NotAcknowledged, NoRegister}
use Rattle.camera.specs.declared.register.Register.{Register}
use Rattle.camera.specs.declared.register.Register.TheVariants.{Power, Status, Command, Length, Data, Block}

-- the number of a fault, by which it is known outside
abbrev pub fault_number : Fault → ℕ
fault_number (NotAcknowledged address) = 21
fault_number (NoRegister address) = 22

-- the address of the access that met it
abbrev pub fault_address : Fault → ℕ
fault_address (NotAcknowledged address) = address
fault_address (NoRegister address) = address

-- where the data registers and the block buffer begin
abbrev pub data_base : ℕ
data_base = 0x0008

abbrev pub block_base : ℕ
block_base = 0xF800

-- how many words they have
abbrev pub data_size : ℕ
data_size = 16

abbrev pub block_size : ℕ
block_size = 512

-- words laid over the front of others
abbrev pub over : List ℕ → List ℕ → List ℕ
over ws others = ws ++ drop (length ws) others

-- one of n words that lie two addresses apart, from a base on
abbrev pub lies_in : ℕ → ℕ → ℕ → Bool
lies_in base n address = both (nat_le base address) (both (nat_le (address + 2) (base + 2 * n)) (address % 2 == 0))

-- which of them
abbrev pub place_in : ℕ → ℕ → ℕ
place_in base address = (address - base) / 2

-- The register at an address, or the fault that there is none.
abbrev pub register_at : ℕ → Result Register Fault
register_at address =
    cond (address == 0x0000) (Ok Power)
    (cond (address == 0x0002) (Ok Status)
    (cond (address == 0x0004) (Ok Command)
    (cond (address == 0x0006) (Ok Length)
    (cond (lies_in data_base data_size address) (Ok (Data (place_in data_base address)))
    (cond (lies_in block_base block_size address) (Ok (Block (place_in block_base address)))
    (Err (NoRegister address)))))))

-- the address of a register
abbrev pub address_of : Register → ℕ
address_of Power = 0x0000
address_of Status = 0x0002
address_of Command = 0x0004
address_of Length = 0x0006
address_of (Data place) = data_base + 2 * place
address_of (Block place) = block_base + 2 * place

-- a register that the camera has
abbrev pub Exists : Register → Type 0
Exists Power = Unit {0}
Exists Status = Unit {0}
Exists Command = Unit {0}
Exists Length = Unit {0}
Exists (Data place) = place < data_size
Exists (Block place) = place < block_size

-- Each register has one address, and each address has one register at most.
pub record OneAddress (address : ℕ) (found : Result Register Fault) : Type 0 where
  pub register_of_address : (register : Register) → found ≡ Ok register → (address ≡ address_of register) × Exists register
  pub address_of_register : (register : Register) → Exists register → address ≡ address_of register → found ≡ Ok register
