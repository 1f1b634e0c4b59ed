-- An access that has reached a register, or has met a fault.
use Rattle.std.specs.Prelude.{Ok, Err, Result}
use Rattle.camera.specs.declared.fault.Fault.{Fault}
use Rattle.camera.specs.declared.register.Register.{Register}
use Rattle.camera.specs.State.{CameraState}
use Rattle.camera.specs.Steps.{Outcome, ended}

-- the effect on the register that was reached, or the fault that was met
abbrev pub followed : {A : Type 0} → (Register → CameraState → Outcome CameraState A Fault) → Result Register Fault → CameraState → Outcome CameraState A Fault
followed effect (Ok register) s = effect register s
followed effect (Err fault) s = ended (Err fault) s
