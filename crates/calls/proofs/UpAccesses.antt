-- What accesses that are acknowledged do to a camera that is up and does not hang.
use Rattle.std.proofs.Common.{◌≡◌, ℕ, zero, suc, Bool, true, false, cond, List, [], ◌∷◌, length, drop, set, ℤ, Ok, Err, Result, sym, refl, ap, ◌∙◌, subst, arith}
use lib.Seq.{sets}
use Rattle.camera.specs.declared.fault.Fault.{Fault}
use Rattle.camera.specs.declared.register.Register.{Register}
use Rattle.camera.specs.declared.register.Register.TheVariants.{Status}
use Rattle.camera.specs.Registers.{address_of}
use Rattle.camera.specs.Execution.{bank, with_bank}
use Rattle.camera.specs.State.{CameraState, Registers, Interpreter}
use Rattle.camera.specs.Steps.{Outcome, ended, held, later_acks, next_ack, marked, stored, unless_unacknowledged, idle_status, busy_status, read_effect, write_effect}
use Rattle.calls.specs.declared.refusal.Refusal.{Refusal}
use Rattle.calls.specs.declared.refusal.Refusal.TheVariants.{Bus}
use Rattle.calls.specs.Outcomes.{by_answer, is_free, polled}
use Rattle.calls.specs.Accesses.{camera, place_register, register_read, register_written, words_written}

-- a camera that is up and does not hang, with some busy polls left
abbrev pub up : ℕ → List Bool → Registers → Interpreter → CameraState
up busy acks r i = record { hung = false; boot = 0; busy = busy; acks = acks; registers = r; interpreter = i }

-- Where what follows a failed operation cannot be, the operation was carried out.
pub went : {S A E T : Type 0} (o : Outcome S A E) (done : A → S → T) (failed : E → S → T) (P : T → Type 0) →
    ((e : E) → P (failed e o.after) → ⊥) → P (by_answer o done failed) → (x : A) × (o ≡ ended (Ok x) o.after) × P (done x o.after)
went {S} {A} {E} {T} o done failed P never = go o.answer refl
  where
    go : (r : Result A E) → o.answer ≡ r → P (elim r as (λ _. T) [ Ok x ↦ done x o.after | Err e ↦ failed e o.after ]) →
        (x : A) × (o ≡ ended (Ok x) o.after) × P (done x o.after)
    go (Ok x) is h = (x, (λ i. record { answer = is i; after = o.after }), h)
    go (Err e) is h = absurd (never e h)

-- An access that is carried out was acknowledged.
mark_there : {A : Type 0} (mark : Bool) (address : ℕ) (s : CameraState) (o : Outcome CameraState A Fault) (x : A) →
    (unless_unacknowledged mark address s o).answer ≡ Ok x → mark ≡ true
mark_there true address s o x e = refl
mark_there false address s o x e = grind arith

write_marked : (register : Register) (word : ℕ) (s : CameraState) → (register_written register word s).answer ≡ Ok tt → next_ack s.acks ≡ true
unfolding register_written
write_marked register word s e = mark_there (next_ack s.acks) (address_of register) (marked s) (write_effect word register (marked s)) tt e

read_marked : (register : Register) (s : CameraState) (x : ℕ) → (register_read register s).answer ≡ Ok x → next_ack s.acks ≡ true
unfolding register_read
read_marked register s x e = mark_there (next_ack s.acks) (address_of register) (marked s) (read_effect register (marked s)) x e

-- What an acknowledged access does: a write and a read while the camera is idle, a status read while it is busy.
with_mark : {A : Type 0} (register : Register) (mark : Bool) (t : CameraState) (o : Outcome CameraState A Fault) → mark ≡ true →
    unless_unacknowledged mark (address_of register) t o ≡ o
with_mark register mark t o e = ap (λ b. unless_unacknowledged b (address_of register) t o) e

pub writes_idle : (register : Register) (word : ℕ) (acks : List Bool) (r : Registers) (i : Interpreter) → next_ack acks ≡ true →
    register_written register word (up 0 acks r i) ≡ ended (Ok tt) (stored register word (up 0 (later_acks acks) r i))
unfolding register_written
writes_idle register word acks r i e =
    with_mark register (next_ack acks) (up 0 (later_acks acks) r i) (write_effect word register (up 0 (later_acks acks) r i)) e

pub reads_idle : (register : Register) (acks : List Bool) (r : Registers) (i : Interpreter) → next_ack acks ≡ true →
    register_read register (up 0 acks r i) ≡ ended (Ok (held register (up 0 (later_acks acks) r i))) (up 0 (later_acks acks) r i)
unfolding register_read
reads_idle register acks r i e =
    with_mark register (next_ack acks) (up 0 (later_acks acks) r i) (read_effect register (up 0 (later_acks acks) r i)) e

pub reads_busy : (n : ℕ) (acks : List Bool) (r : Registers) (i : Interpreter) → next_ack acks ≡ true →
    register_read Status (up (suc n) acks r i) ≡ ended (Ok busy_status) (up n (later_acks acks) r i)
unfolding register_read
reads_busy n acks r i e =
    with_mark Status (next_ack acks) (up (suc n) (later_acks acks) r i) (read_effect Status (up (suc n) (later_acks acks) r i)) e

-- marks used up, one and then more
pub later_drop : (n : ℕ) (acks : List Bool) → drop n (later_acks acks) ≡ drop (suc n) acks
later_drop zero [] = refl
later_drop (suc n) [] = refl
later_drop n (mark ∷ acks) = refl

-- a write that is carried out
pub stores : (register : Register) (word : ℕ) (acks : List Bool) (r : Registers) (i : Interpreter) →
    (register_written register word (up 0 acks r i)).answer ≡ Ok tt →
    register_written register word (up 0 acks r i) ≡ ended (Ok tt) (stored register word (up 0 (later_acks acks) r i))
stores register word acks r i e = writes_idle register word acks r i (write_marked register word (up 0 acks r i) e)

-- one word stored in the data registers or the block buffer
pub stored_one : (through : Bool) (place word : ℕ) (acks : List Bool) (r : Registers) (i : Interpreter) →
    stored (place_register through place) word (up 0 acks r i) ≡ up 0 acks (with_bank through (set (bank through r) place word) r) i
stored_one true place word acks r i = refl
stored_one false place word acks r i = refl

bank_same : (through : Bool) (r : Registers) → with_bank through (bank through r) r ≡ r
bank_same true r = refl
bank_same false r = refl

bank_twice : (through : Bool) (others : List ℕ) (f : List ℕ → List ℕ) (r : Registers) →
    with_bank through (f (bank through (with_bank through others r))) (with_bank through others r) ≡ with_bank through (f others) r
bank_twice true others f r = refl
bank_twice false others f r = refl

-- words written ascending, all of them acknowledged
abbrev pub Written : Bool → ℕ → List ℕ → List Bool → Registers → Interpreter → Type 0
Written through place words acks r i =
    words_written through place words (up 0 acks r i)
    ≡ ended (Ok tt) (up 0 (drop (length words) acks) (with_bank through (sets (bank through r) place words) r) i)

pub written : (through : Bool) (place : ℕ) (words : List ℕ) (acks : List Bool) (r : Registers) (i : Interpreter) →
    (words_written through place words (up 0 acks r i)).answer ≡ Ok tt → Written through place words acks r i
unfolding words_written
written through place [] acks r i e = ap (λ x. ended (Ok tt) (up 0 acks x i)) (sym (bank_same through r))
written through place (word ∷ words) acks r i e =
    let s : CameraState = up 0 acks r i in
    let next : Unit {0} → CameraState → Outcome CameraState (Unit {0}) Fault = λ _ t. words_written through (suc place) words t in
    let stop : Fault → CameraState → Outcome CameraState (Unit {0}) Fault = λ fault t. ended (Err fault) t in
    let one = register_written (place_register through place) word s in
    let g = went one next stop (λ o. o.answer ≡ Ok tt) (λ fault h. grind arith) e in
    let is = stores (place_register through place) word acks r i (ap (λ o. o.answer) g.1)
    ∙ ap (ended (Ok tt)) (stored_one through place word (later_acks acks) r i) in
    let r' : Registers = with_bank through (set (bank through r) place word) r in
    let rest : (words_written through (suc place) words (up 0 (later_acks acks) r' i)).answer ≡ Ok tt =
    subst (λ t. (words_written through (suc place) words t).answer ≡ Ok tt) (ap (λ o. o.after) is) g.2 in
    ap (λ o. by_answer o next stop) is
    ∙ written through (suc place) words (later_acks acks) r' i rest
    ∙ ap (λ x. ended (Ok tt) (up 0 x (with_bank through (sets (bank through r') (suc place) words) r') i)) (later_drop (length words) acks)
    ∙ ap (λ x. ended (Ok tt) (up 0 (drop (suc (length words)) acks) x i))
    (bank_twice through (set (bank through r) place word) (λ ws. sets ws (suc place) words) r)

-- Status is read until the camera is not busy: as many reads as there are busy polls, and one more.
pub free_idle : (code : ℤ) → is_free (idle_status code) ≡ true
free_idle code = grind arith

pub polls : (left n : ℕ) (acks : List Bool) (r : Registers) (i : Interpreter) (status : ℕ) → (polled camera is_free left (up n acks r i)).answer ≡ Ok status →
    polled camera is_free left (up n acks r i) ≡ ended (Ok (idle_status i.code)) (up 0 (drop (suc n) acks) r i)
unfolding polled
polls zero n acks r i status e = grind arith
polls (suc left) n acks r i status e = go n (λ k acks'. polls left k acks' r i status) e
  where
    next : ℕ → CameraState → Outcome CameraState ℕ Refusal
    next status t = cond (is_free status) (ended (Ok status) t) (polled camera is_free left t)

    stop : Fault → CameraState → Outcome CameraState ℕ Refusal
    stop fault t = ended (Err (Bus fault)) t

    -- what the status read answers, and the state after it
    one : ℕ → Outcome CameraState ℕ Fault
    one k = register_read Status (up k acks r i)

    was_marked : (k : ℕ) → (by_answer (one k) next stop).answer ≡ Ok status → next_ack acks ≡ true
    was_marked k h =
        let g = went (one k) next stop (λ o. o.answer ≡ Ok status) (λ fault z. grind arith) h in
        read_marked Status (up k acks r i) g.0 (ap (λ o. o.answer) g.1)

    go : (k : ℕ) → ((m : ℕ) (marks : List Bool) → (polled camera is_free left (up m marks r i)).answer ≡ Ok status →
        polled camera is_free left (up m marks r i) ≡ ended (Ok (idle_status i.code)) (up 0 (drop (suc m) marks) r i)) →
        (by_answer (one k) next stop).answer ≡ Ok status → by_answer (one k) next stop ≡ ended (Ok (idle_status i.code)) (up 0 (drop (suc k) acks) r i)
    go zero later h =
        ap (λ o. by_answer o next stop) (reads_idle Status acks r i (was_marked zero h))
        ∙ ap (λ b. cond b (ended (Ok (idle_status i.code)) (up 0 (later_acks acks) r i)) (polled camera is_free left (up 0 (later_acks acks) r i))) (free_idle i.code)
        ∙ ap (λ x. ended (Ok (idle_status i.code)) (up 0 x r i)) (later_drop 0 acks)
    go (suc k) later h =
        let is = ap (λ o. by_answer o next stop) (reads_busy k acks r i (was_marked (suc k) h)) in
        is
        ∙ later k (later_acks acks) (sym (ap (λ o. o.answer) is) ∙ h)
        ∙ ap (λ x. ended (Ok (idle_status i.code)) (up 0 x r i)) (later_drop (suc k) acks)
