-- An access to the address of a register is one to that register.
use Rattle.std.proofs.Common.{◌≡◌, ℕ, Ok, ap, ◌∙◌}
use Rattle.camera.specs.declared.register.Register.{Register}
use Rattle.camera.specs.Registers.{Exists, address_of, register_at}
use Rattle.camera.specs.State.{CameraState}
use Rattle.camera.specs.Steps.{access, read_effect, write_effect, read_step, write_step}
use Rattle.camera.proofs.Addresses.{one_address}
use Rattle.calls.specs.Accesses.{register_read, register_written}

there : (register : Register) (address : ℕ) → Exists register → address ≡ address_of register → register_at address ≡ Ok register
there register address exists is = (one_address address).address_of_register register exists is

pub reads : (s : CameraState) (register : Register) (address : ℕ) → Exists register → address ≡ address_of register →
    read_step s address ≡ register_read register s
unfolding read_step register_read
reads s register address exists is =
    ap (λ found. access found address s read_effect) (there register address exists is)
    ∙ ap (λ a. access (Ok register) a s read_effect) is

pub writes : (s : CameraState) (register : Register) (address word : ℕ) → Exists register → address ≡ address_of register →
    write_step s address word ≡ register_written register word s
unfolding write_step register_written
writes s register address word exists is =
    ap (λ found. access found address s (write_effect word)) (there register address exists is)
    ∙ ap (λ a. access (Ok register) a s (write_effect word)) is
