-- A status word's bits, and one status read more: how it moves on what is still to be polled.
use Rattle.std.proofs.Common.{◌≡◌, ℕ, zero, suc, ◌+◌, ◌-◌, ◌*◌, ◌/◌, ◌%◌, ◌<◌, ◌≤◌, Bool, bit_and, cond, Ok, Err, ap, arith}
use Rattle.std.proofs.lemmas.Nat.Bits.{and_pow}
use Rattle.camera.specs.declared.fault.Fault.{Fault}
use Rattle.camera.specs.declared.register.Register.TheVariants.{Status}
use Rattle.camera.specs.State.{CameraState}
use Rattle.camera.specs.Steps.{Outcome, ended}
use Rattle.calls.specs.declared.refusal.Refusal.{Refusal}
use Rattle.calls.specs.declared.refusal.Refusal.TheVariants.{Bus, StillBusy}
use Rattle.calls.specs.Accesses.{camera, register_read}
use Rattle.calls.specs.Outcomes.{Machine, by_answer, polled}

-- Bit 2, as the code takes it out.
pub booted_bit : (status : ℕ) → bit_and status 4 ≡ status / 4 % 2 * 4
booted_bit status = and_pow status 2

-- what a status read leads to, with so many left after it, on whatever stands behind the bus
abbrev pub from_there : {M : Type 0} → Machine M → (ℕ → Bool) → ℕ → Outcome M ℕ Fault → Outcome M ℕ Refusal
from_there m passes left o = by_answer o (λ status t. cond (passes status) (ended (Ok status) t) (polled m passes left t)) (λ fault t. ended (Err (Bus fault)) t)

-- One status read, where one is left, and what it leads to.
pub polled_once : {M : Type 0} (m : Machine M) (passes : ℕ → Bool) (left : ℕ) (s : M) → 0 < left →
    polled m passes left s ≡ from_there m passes (left - 1) (m.poll s)
unfolding polled
polled_once m passes zero s h = absurd (omega arith)
polled_once m passes (suc left) s h =
    let e : suc left - 1 ≡ left = omega arith in
    rw e

-- None is left.
pub polled_out : {M : Type 0} (m : Machine M) (passes : ℕ → Bool) (left : ℕ) (s : M) → left ≡ 0 → polled m passes left s ≡ ended (Err StillBusy) s
unfolding polled
polled_out m passes left s e = ap (λ n. polled m passes n s) e

-- The same of a camera, for the turns of the loop.
pub one_more : (passes : ℕ → Bool) (budget polls : ℕ) (s : CameraState) → polls < budget →
    polled camera passes (budget - polls) s ≡ from_there camera passes (budget - (polls + 1)) (register_read Status s)
one_more passes budget polls s h =
    let e : budget - (polls + 1) ≡ budget - polls - 1 = omega arith in
    rw e (polled_once camera passes (budget - polls) s (omega arith))

-- None is left after as many as the budget.
pub none_left : (passes : ℕ → Bool) (budget polls : ℕ) (s : CameraState) → budget ≤ polls → polled camera passes (budget - polls) s ≡ ended (Err StillBusy) s
none_left passes budget polls s h = polled_out camera passes (budget - polls) s (omega arith)

pub ruleset polling = (one_more, none_left)
