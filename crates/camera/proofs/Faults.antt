-- A fault has the address of the access that met it.
use Rattle.std.proofs.Common.{◌≡◌, ℕ, Bool, true, false, Ok, Err, Result, sym, refl, ap, ◌∙◌, arith}
use Rattle.camera.specs.declared.fault.Fault.{Fault}
use Rattle.camera.specs.declared.fault.Fault.TheVariants.{NotAcknowledged, NoRegister}
use Rattle.camera.specs.declared.register.Register.{Register}
use Rattle.camera.specs.Laws.{FaultsKeepAddresses}
use Rattle.camera.specs.Registers.{fault_address, register_at}
use Rattle.camera.specs.State.{CameraState}
use Rattle.camera.specs.Steps.{access, marked, next_ack, read_step, unless_unacknowledged, write_step}

no_register : (address : ℕ) (fault : Fault) → register_at address ≡ Err fault → fault ≡ NoRegister address
no_register address fault e = grind arith

module _ {A : Type 0} (s : CameraState) (address : ℕ) (fault : Fault) where
  abbrev failed : Result A Fault
  failed = Err fault

  -- Without its mark an access meets a fault at its address; with it, if its effect meets none, it meets none.
  by_mark : (acknowledged : Bool) (t : CameraState) (x : A) (u : CameraState) →
      (unless_unacknowledged acknowledged address t (record { answer = Ok x; after = u })).answer ≡ failed → fault_address fault ≡ address
  by_mark true t x u e = let no : ◌≡◌ {A = Result A Fault} (Ok x) (Err fault) = e in grind arith
  by_mark false t x u e =
      let same : ◌≡◌ {A = Result A Fault} (Err (NotAcknowledged address)) (Err fault) = e in
      let is : NotAcknowledged address ≡ fault = cc in
      sym (ap fault_address is)

  at_access : (value : Register → CameraState → A) (after : Register → CameraState → CameraState) →
      (access (register_at address) address s (λ r t. record { answer = Ok (value r t); after = after r t })).answer ≡ failed →
      fault_address fault ≡ address
  at_access value after = go (register_at address) refl
    where
      go : (found : Result Register Fault) → register_at address ≡ found →
          (access found address s (λ r t. record { answer = Ok (value r t); after = after r t })).answer ≡ failed → fault_address fault ≡ address
      go (Ok r) is e = by_mark (next_ack s.acks) (marked s) (value r (marked s)) (after r (marked s)) e
      go (Err met) is e =
          let same : ◌≡◌ {A = Result A Fault} (Err met) (Err fault) = e in
          let one : met ≡ fault = cc in
          ap fault_address (sym one ∙ no_register address met is)

pub faults_keep_addresses : FaultsKeepAddresses
unfolding read_step write_step
faults_keep_addresses s address =
    record {
      of_read = λ fault e. at_access s address fault _ _ e;
      of_write = λ word fault e. at_access s address fault _ _ e;
    }
