-- The status of two cameras that differ in their registers at most.
use Rattle.std.proofs.Common.{◌≡◌, ℕ, zero, suc, ◌+◌, ◌*◌, ◌/◌, ◌%◌, Bool, true, false, List, ℤ, pos, negsuc, Some, None, Ok, Err, sym, refl, ap, ◌∙◌, subst, arith, w8, SFits, to_z, of_z}
use Rattle.std.proofs.lemmas.Int.{to_z-of_z}
use Rattle.words.specs.Code.{code_of}
use Rattle.camera.specs.declared.attribute.Kind.{Kind}
use Rattle.camera.specs.declared.attribute.Kind.TheVariants.{Get, Set, Run}
use Rattle.camera.specs.declared.fault.Fault.{Fault}
use Rattle.camera.specs.declared.fault.Fault.TheVariants.{NotAcknowledged}
use Rattle.camera.specs.declared.register.Register.TheVariants.{Status}
use Rattle.camera.specs.Registers.{address_of}
use Rattle.camera.specs.Commands.{command}
use Rattle.camera.specs.State.{CameraState, Interpreter, Registers}
use Rattle.camera.specs.Steps.{Outcome, boot_status, busy_status, idle_status, later_acks, next_ack, read_effect, unless_unacknowledged}
use Rattle.calls.specs.declared.stage.Stage.TheVariants.{Reading, Waiting}
use Rattle.calls.specs.Accesses.{register_read}
use Rattle.calls.specs.Calls.{asleep, parked, ready}
use Rattle.calls.specs.History.{History, Ledger, entered, history, met, one_if_owed, order, owed, taken}
use Rattle.calls.specs.Outcomes.{is_free, is_up}
use Rattle.calls.proofs.CameraCommands.{Known, ready_beside}
use Rattle.calls.proofs.CameraWords.{still, up, working}
use Rattle.calls.proofs.Following.{AfterFree, Alike, When}
use Rattle.calls.proofs.Keeping.{Agrees, Beside, InterpreterFull, RegistersFull, Waits}

-- the status word of an idle camera: up, free, and with the code
idle_up : (byte : ℕ) → is_up (256 * byte + 6) ≡ true
idle_up byte = grind arith

idle_free : (byte : ℕ) → is_free (256 * byte + 6) ≡ true
idle_free byte = grind arith

idle_code : (code : ℤ) → SFits w8 code → code_of (idle_status code) ≡ code
idle_code code bits = ap (to_z w8) (let same : (256 * of_z w8 code + 6) / 256 ≡ of_z w8 code = omega arith in same) ∙ to_z-of_z w8 code bits

missed_status : (kind : Kind) → met kind (NotAcknowledged (address_of Status)) ≡ owed
missed_status Get = refl
missed_status Set = refl
missed_status Run = refl

-- A read of the status of two cameras: not acknowledged, both meet the same fault.
polled_alike : (P : ℕ → CameraState → CameraState → Type 0) (Q : Fault → CameraState → CameraState → Type 0)
    (boot busy : ℕ) (acks : List Bool) (r r' : Registers) (i : Interpreter) →
    Q (NotAcknowledged (address_of Status)) (working boot busy (later_acks acks) r i) (working boot busy (later_acks acks) r' i) →
    Alike P Q (read_effect Status (working boot busy (later_acks acks) r i)) (read_effect Status (working boot busy (later_acks acks) r' i)) →
    Alike P Q (register_read Status (working boot busy acks r i)) (register_read Status (working boot busy acks r' i))
unfolding register_read
polled_alike P Q boot busy acks r r' i fails goes = go (next_ack acks)
  where
    later : Registers → CameraState
    later r = working boot busy (later_acks acks) r i

    access : Bool → Registers → Outcome CameraState ℕ Fault
    access ack r = unless_unacknowledged ack (address_of Status) (later r) (read_effect Status (later r))

    go : (ack : Bool) → Alike P Q (access ack r) (access ack r')
    go true = goes
    go false =
        record { answer = Err (NotAcknowledged (address_of Status)); left = later r; right = later r'; one_is = refl; other_is = refl; holds = fails }

-- a sleeping session
asleep_beside : (start boot busy : ℕ) (acks : List Bool) (r r' : Registers) (i : Interpreter) (h : History) → RegistersFull r → RegistersFull r' → Known start i h →
    Beside start asleep (working boot busy acks r i) (working boot busy acks r' i) h
asleep_beside start boot busy acks r r' i h full full' known =
    record {
      twins = refl;
      one_full = full;
      other_full = full';
      full = known.full;
      unhung = refl;
      in_mode = tt;
      counted = known.count_is;
      goes = record { owes = known.owes; agrees = known.agrees };
    }

-- A wake's read of the status.
abbrev pub WakesAlike : ℕ → History → Outcome CameraState ℕ Fault → Outcome CameraState ℕ Fault → Type 0
WakesAlike start h one other =
    Alike (λ status s t. When (is_up status) (Beside start ready s t h) (Beside start asleep s t h)) (λ fault s t. Beside start asleep s t h) one other

module _ (start : ℕ) (acks : List Bool) (r r' : Registers) (i : Interpreter) (h : History)
    (full : RegistersFull r) (full' : RegistersFull r') (known : Known start i h) where
  seen : (boot busy : ℕ) → WakesAlike start h (read_effect Status (working boot busy acks r i)) (read_effect Status (working boot busy acks r' i))
  seen (suc boot) busy =
      record {
        answer = Ok boot_status;
        left = working boot busy acks r i;
        right = working boot busy acks r' i;
        one_is = refl;
        other_is = refl;
        holds = asleep_beside start boot busy acks r r' i h full full' known;
      }
  seen zero (suc busy) =
      record {
        answer = Ok busy_status;
        left = up busy acks r i;
        right = up busy acks r' i;
        one_is = refl;
        other_is = refl;
        holds = asleep_beside start 0 busy acks r r' i h full full' known;
      }
  seen zero zero =
      record {
        answer = Ok (idle_status i.code);
        left = up 0 acks r i;
        right = up 0 acks r' i;
        one_is = refl;
        other_is = refl;
        holds = rw (idle_up (of_z w8 i.code)) (ready_beside start i h known (up 0 acks r i) (up 0 acks r' i) (still i acks r r' full full'));
      }

pub woken_alike : (start boot busy : ℕ) (acks : List Bool) (r r' : Registers) (i : Interpreter) (h : History) → RegistersFull r → RegistersFull r' → Known start i h →
    WakesAlike start h (register_read Status (working boot busy acks r i)) (register_read Status (working boot busy acks r' i))
woken_alike start boot busy acks r r' i h full full' known =
    polled_alike (λ status s t. When (is_up status) (Beside start ready s t h) (Beside start asleep s t h)) (λ fault s t. Beside start asleep s t h)
    boot busy acks r r' i (asleep_beside start boot busy (later_acks acks) r r' i h full full' known)
    (seen start (later_acks acks) r r' i h full full' known boot busy)

-- Two cameras that have taken a command, whose answer is owed.
pub record Owed (start : ℕ) (kind : Kind) (number : ℕ) (i : Interpreter) (r r' : Registers) (h : History) : Type 0 where
  pub one_full : RegistersFull r
  pub other_full : RegistersFull r'
  pub full : InterpreterFull i
  pub count_is : i.count ≡ (start + taken h) % 65536
  pub waits : Waits kind number i r r' h

answered_count : (start count answered owes : ℕ) → owes ≡ 1 → count ≡ (start + (answered + owes)) % 65536 → count ≡ (start + (suc answered + 0)) % 65536
answered_count start count answered owes one e = e ∙ ap (λ n. (start + n) % 65536) (omega arith)

-- a command that was owed has its answer
pub answered_beside : (start : ℕ) (acks : List Bool) (r r' : Registers) (i : Interpreter) (h : History) (l : Ledger) → RegistersFull r → RegistersFull r' →
    InterpreterFull i → i.count ≡ (start + taken h) % 65536 → one_if_owed h.owing ≡ 1 → Agrees i l →
    Beside start ready (up 0 acks r i) (up 0 acks r' i) (history None (suc h.answered) l)
answered_beside start acks r r' i h l full full' filled count_is one agrees =
    record {
      twins = refl;
      one_full = full;
      other_full = full';
      full = filled;
      unhung = refl;
      in_mode = (refl, refl);
      counted = answered_count start i.count h.answered (one_if_owed h.owing) one count_is;
      goes = record { owes = refl; agrees = agrees };
    }

not_zero : (code : ℤ) (n : ℕ) → code ≡ pos (suc n) → code ≡ pos 0 → ⊥
not_zero code n e z = let bad : pos (suc n) ≡ pos 0 = sym e ∙ z in grind arith

not_negative : (code : ℤ) (n : ℕ) → code ≡ negsuc n → code ≡ pos 0 → ⊥
not_negative code n e z = let bad : negsuc n ≡ pos 0 = sym e ∙ z in grind arith

module _ (start : ℕ) (kind : Kind) (number : ℕ) (i : Interpreter) (r r' : Registers) (h : History) (owes : Owed start kind number i r r' h) where
  waiting_beside : (busy : ℕ) (acks : List Bool) → Beside start (parked (command kind number) Waiting) (up busy acks r i) (up busy acks r' i) h
  waiting_beside busy acks =
      record {
        twins = refl;
        one_full = owes.one_full;
        other_full = owes.other_full;
        full = owes.full;
        unhung = refl;
        in_mode = refl;
        counted = owes.count_is;
        goes = owes.waits;
      }

  ended_beside : (acks : List Bool) (l : Ledger) → Agrees i l →
      Beside start ready (up 0 acks r i) (up 0 acks r' i) (history None (suc h.answered) l)
  ended_beside acks l agrees =
      answered_beside start acks r r' i h l owes.one_full owes.other_full owes.full owes.count_is (ap one_if_owed owes.waits.owes) agrees

-- a get that was carried out is to be read
reading_beside : (start number : ℕ) (i : Interpreter) (r r' : Registers) (h : History) → Owed start Get number i r r' h → i.code ≡ pos 0 → (acks : List Bool) →
    Beside start (parked (command Get number) Reading) (up 0 acks r i) (up 0 acks r' i) h
reading_beside start number i r r' h owes z acks =
    let w = owes.waits in
    record {
      twins = refl;
      one_full = owes.one_full;
      other_full = owes.other_full;
      full = owes.full;
      unhung = refl;
      in_mode = (refl, refl);
      counted = owes.count_is;
      goes = record {
        is_get = refl;
        owes = w.owes ∙ ap (λ ws. Some (order Get number ws)) (w.get_words refl);
        offered = w.offered;
        agrees = w.carried_out z;
        stands_one = w.stands_one z;
        stands_other = w.stands_other z;
      };
    }

-- what is left to do once both are free
free_beside : (start : ℕ) (kind : Kind) (number : ℕ) (i : Interpreter) (r r' : Registers) (h : History) (owes : Owed start kind number i r r' h)
    (acks : List Bool) (code : ℤ) → i.code ≡ code →
    AfterFree (Beside start) (order kind number owes.waits.words) h code kind (up 0 acks r i) (up 0 acks r' i)
free_beside start Get number i r r' h owes acks (pos zero) e = reading_beside start number i r r' h owes e acks
free_beside start Set number i r r' h owes acks (pos zero) e =
    ended_beside start Set number i r r' h owes acks (entered Set number owes.waits.words h.ledger) (owes.waits.carried_out e)
free_beside start Run number i r r' h owes acks (pos zero) e =
    ended_beside start Run number i r r' h owes acks (entered Run number owes.waits.words h.ledger) (owes.waits.carried_out e)
free_beside start kind number i r r' h owes acks (pos (suc n)) e =
    ended_beside start kind number i r r' h owes acks h.ledger (owes.waits.not_carried_out (not_zero i.code n e))
free_beside start kind number i r r' h owes acks (negsuc n) e =
    ended_beside start kind number i r r' h owes acks h.ledger (owes.waits.not_carried_out (not_negative i.code n e))

-- A read of the status while an answer is owed.
abbrev Shows : ℕ → Kind → ℕ → List ℕ → History → ℕ → CameraState → CameraState → Type 0
Shows start kind number words h status s t =
    When (is_free status) (AfterFree (Beside start) (order kind number words) h (code_of status) kind s t) (Beside start (parked (command kind number) Waiting) s t h)

abbrev pub WaitsAlike : ℕ → Kind → ℕ → List ℕ → History → Outcome CameraState ℕ Fault → Outcome CameraState ℕ Fault → Type 0
WaitsAlike start kind number words h one other =
    Alike (λ status s t. Shows start kind number words h status s t)
    (λ fault s t. Beside start (parked (command kind number) Waiting) s t h × (met kind fault ≡ owed)) one other

idle_shows : (start : ℕ) (kind : Kind) (number : ℕ) (words : List ℕ) (h : History) (code : ℤ) (s t : CameraState) → SFits w8 code →
    AfterFree (Beside start) (order kind number words) h code kind s t → Shows start kind number words h (idle_status code) s t
idle_shows start kind number words h code s t bits left =
    subst (λ b. When b (AfterFree (Beside start) (order kind number words) h (code_of (idle_status code)) kind s t) (Beside start (parked (command kind number) Waiting) s t h))
    (sym (idle_free (of_z w8 code)))
    (subst (λ c. AfterFree (Beside start) (order kind number words) h c kind s t) (sym (idle_code code bits)) left)

module _ (start : ℕ) (kind : Kind) (number : ℕ) (i : Interpreter) (r r' : Registers) (h : History) (owes : Owed start kind number i r r' h) where
  shows : (busy : ℕ) (acks : List Bool) →
      WaitsAlike start kind number owes.waits.words h (read_effect Status (up busy acks r i)) (read_effect Status (up busy acks r' i))
  shows (suc busy) acks =
      record {
        answer = Ok busy_status;
        left = up busy acks r i;
        right = up busy acks r' i;
        one_is = refl;
        other_is = refl;
        holds = waiting_beside start kind number i r r' h owes busy acks;
      }
  shows zero acks =
      record {
        answer = Ok (idle_status i.code);
        left = up 0 acks r i;
        right = up 0 acks r' i;
        one_is = refl;
        other_is = refl;
        holds = idle_shows start kind number owes.waits.words h i.code (up 0 acks r i) (up 0 acks r' i) owes.full.code_bits
            (free_beside start kind number i r r' h owes acks i.code refl);
      }

  pub waited_alike : (busy : ℕ) (acks : List Bool) →
      WaitsAlike start kind number owes.waits.words h (register_read Status (up busy acks r i)) (register_read Status (up busy acks r' i))
  waited_alike busy acks =
      polled_alike (λ status s t. Shows start kind number owes.waits.words h status s t)
      (λ fault s t. Beside start (parked (command kind number) Waiting) s t h × (met kind fault ≡ owed)) 0 busy acks r r' i
      (waiting_beside start kind number i r r' h owes busy (later_acks acks), missed_status kind) (shows busy (later_acks acks))
