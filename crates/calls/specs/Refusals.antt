-- The refusals of calls: their numbers, and what comes with them.
use Rattle.std.specs.Prelude.{ℕ, ℤ, Some, None, Option}
use Rattle.camera.specs.declared.fault.Fault.{Fault}
use Rattle.camera.specs.declared.fault.Fault.TheVariants.{NotAcknowledged, NoRegister}
use Rattle.camera.specs.Registers.{fault_address}
use Rattle.calls.specs.declared.refusal.Refusal.{Refusal}
use Rattle.calls.specs.declared.refusal.Refusal.TheVariants.{Asleep, Awake, CommandParked, NothingParked, NotOffered, WrongSize, BadBudget, Bus, StillBusy, Camera}

-- A fault that comes up from the bus: a missing acknowledgement is 8 to a panel, and the other fault keeps its number.
abbrev pub fault_up : Fault → ℕ
fault_up (NotAcknowledged address) = 8
fault_up (NoRegister address) = 22

-- the number of a refusal, by which it is known outside
abbrev pub number_of : Refusal → ℕ
number_of Asleep = 1
number_of Awake = 2
number_of CommandParked = 3
number_of NothingParked = 4
number_of NotOffered = 5
number_of WrongSize = 6
number_of BadBudget = 7
number_of (Bus fault) = fault_up fault
number_of StillBusy = 9
number_of (Camera code) = 10

-- the address of the access that met a fault
abbrev pub address_in : Refusal → Option ℕ
address_in Asleep = None
address_in Awake = None
address_in CommandParked = None
address_in NothingParked = None
address_in NotOffered = None
address_in WrongSize = None
address_in BadBudget = None
address_in (Bus fault) = Some (fault_address fault)
address_in StillBusy = None
address_in (Camera code) = None

-- the response code with which the camera refused a command
abbrev pub code_in : Refusal → Option ℤ
code_in Asleep = None
code_in Awake = None
code_in CommandParked = None
code_in NothingParked = None
code_in NotOffered = None
code_in WrongSize = None
code_in BadBudget = None
code_in (Bus fault) = None
code_in StillBusy = None
code_in (Camera code) = Some code
