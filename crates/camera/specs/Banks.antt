-- The banks: the registers through which the words of attributes pass.
use Rattle.std.specs.Prelude.{Bool, true, false}
use Rattle.camera.specs.declared.bank.Bank.{Bank}
use Rattle.camera.specs.declared.bank.Bank.TheVariants.{Data, Block}

-- whether a bank is the data registers; else it is the block buffer
abbrev pub is_data : Bank → Bool
is_data Data = true
is_data Block = false
