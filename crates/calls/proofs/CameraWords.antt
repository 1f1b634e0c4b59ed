-- Words written to and read from two cameras that differ in their registers at most.
use Rattle.std.proofs.Common.{◌≡◌, ℕ, suc, ◌+◌, ◌<◌, ◌≤◌, Bool, true, false, List, [], ◌∷◌, ◌++◌, length, get_or, take, set, Ok, Err, Result, sym, refl, ap, ◌∙◌, subst, add-zero, add-suc, suc-add, zero-add, arith}
use Rattle.std.proofs.lemmas.List.{length-set, length_push, take_more_set, get_or-take, append-nil, append_assoc}
use Rattle.camera.specs.declared.attribute.Kind.TheVariants.{Get, Set}
use Rattle.camera.specs.declared.fault.Fault.{Fault}
use Rattle.camera.specs.declared.fault.Fault.TheVariants.{NotAcknowledged}
use Rattle.camera.specs.declared.register.Register.{Register}
use Rattle.camera.specs.Registers.{address_of}
use Rattle.camera.specs.Execution.{bank, with_bank}
use Rattle.camera.specs.State.{CameraState, Registers, Interpreter}
use Rattle.camera.specs.Steps.{Outcome, ended, held, later_acks, next_ack, stored, unless_unacknowledged}
use Rattle.calls.specs.Outcomes.{Fetched, by_answer}
use Rattle.calls.specs.Accesses.{place_register, register_read, register_written, with_word, words_read, words_written}
use Rattle.calls.specs.History.{met, missed, owed, nothing}
use Rattle.calls.proofs.Following.{Alike, FetchedAlike, Holds}
use Rattle.calls.proofs.Keeping.{RegistersFull}

-- a camera that does not hang, with its parts; and one that has booted
abbrev pub working : ℕ → ℕ → List Bool → Registers → Interpreter → CameraState
working boot busy acks r i = record { hung = false; boot = boot; busy = busy; acks = acks; registers = r; interpreter = i }

abbrev pub up : ℕ → List Bool → Registers → Interpreter → CameraState
up busy acks r i = working 0 busy acks r i

-- two idle cameras with an interpreter and full registers
pub record IdleTwins (i : Interpreter) (s t : CameraState) : Type 0 where
  pub acks : List Bool
  pub one : Registers
  pub other : Registers
  pub s_is : s ≡ up 0 acks one i
  pub t_is : t ≡ up 0 acks other i
  pub one_full : RegistersFull one
  pub other_full : RegistersFull other

-- how many words the data registers and the block buffer have
abbrev pub room : Bool → ℕ
room true = 16
room false = 512

-- words stand at the front of the data registers or the block buffer
abbrev pub Front : Bool → List ℕ → Registers → Type 0
Front through words r = take (length words) (bank through r) ≡ words

-- a word written behind the words at the front
abbrev written : Bool → ℕ → ℕ → Registers → Registers
written through place word r = with_bank through (set (bank through r) place word) r

written_full : (through : Bool) (place word : ℕ) (r : Registers) → RegistersFull r → RegistersFull (written through place word r)
written_full true place word r full =
    record { data_full = omega (arith, full.data_full, length-set r.data_words place word); block_full = full.block_full }
written_full false place word r full =
    record { data_full = full.data_full; block_full = omega (arith, full.block_full, length-set r.block_words place word) }

front_more : (words front : List ℕ) (word : ℕ) → length front < length words → take (length front) words ≡ front →
    take (length (front ++ word ∷ [])) (set words (length front) word) ≡ front ++ word ∷ []
front_more words front word short e =
    ap (λ n. take n (set words (length front) word)) (length_push front word)
    ∙ take_more_set words (length front) word short
    ∙ ap (λ l. l ++ word ∷ []) e

written_front : (through : Bool) (front : List ℕ) (word : ℕ) (r : Registers) → RegistersFull r → length front < room through →
    Front through front r → Front through (front ++ word ∷ []) (written through (length front) word r)
written_front true front word r full short e = front_more r.data_words front word (omega (arith, full.data_full)) e
written_front false front word r full short e = front_more r.block_words front word (omega (arith, full.block_full)) e

stored_is : (through : Bool) (place word : ℕ) (acks : List Bool) (r : Registers) (i : Interpreter) →
    stored (place_register through place) word (up 0 acks r i) ≡ up 0 acks (written through place word r) i
stored_is true place word acks r i = refl
stored_is false place word acks r i = refl

held_is : (through : Bool) (place : ℕ) (acks : List Bool) (r : Registers) (i : Interpreter) →
    held (place_register through place) (up 0 acks r i) ≡ get_or (bank through r) place 0
held_is true place acks r i = refl
held_is false place acks r i = refl

missed_set : (through : Bool) (place : ℕ) → missed Set (address_of (place_register through place)) ≡ nothing
missed_set true place = grind arith
missed_set false place = grind arith

missed_get : (through : Bool) (place : ℕ) → place < room through → missed Get (address_of (place_register through place)) ≡ owed
missed_get true place short = grind arith
missed_get false place short = grind arith

-- A write to the same register of two idle cameras, and what comes after it: not acknowledged, both meet the same fault.
pub write_then : (P : (Unit {0}) → CameraState → CameraState → Type 0) (Q : Fault → CameraState → CameraState → Type 0) (register : Register) (word : ℕ)
    (acks : List Bool) (r r' : Registers) (i : Interpreter) (next : CameraState → Outcome CameraState (Unit {0}) Fault) →
    Q (NotAcknowledged (address_of register)) (up 0 (later_acks acks) r i) (up 0 (later_acks acks) r' i) →
    Alike P Q (next (stored register word (up 0 (later_acks acks) r i))) (next (stored register word (up 0 (later_acks acks) r' i))) →
    Alike P Q (by_answer (register_written register word (up 0 acks r i)) (λ _ t. next t) (λ fault t. ended (Err fault) t))
    (by_answer (register_written register word (up 0 acks r' i)) (λ _ t. next t) (λ fault t. ended (Err fault) t))
unfolding register_written
write_then P Q register word acks r r' i next fails goes = go (next_ack acks)
  where
    later : Registers → CameraState
    later r = up 0 (later_acks acks) r i

    access : Bool → Registers → Outcome CameraState (Unit {0}) Fault
    access ack r =
        by_answer (unless_unacknowledged ack (address_of register) (later r) (ended (Ok (tt {0})) (stored register word (later r)))) (λ _ t. next t)
        (λ fault t. ended (Err fault) t)

    go : (ack : Bool) → Alike P Q (access ack r) (access ack r')
    go true = goes
    go false =
        record { answer = Err (NotAcknowledged (address_of register)); left = later r; right = later r'; one_is = refl; other_is = refl; holds = fails }

-- two idle cameras with words at the front of the data registers or the block buffer
pub record Written (through : Bool) (front : List ℕ) (i : Interpreter) (s t : CameraState) : Type 0 where
  pub twins : IdleTwins i s t
  pub one_front : Front through front twins.one
  pub other_front : Front through front twins.other

abbrev pub still : (i : Interpreter) (acks : List Bool) (r r' : Registers) → RegistersFull r → RegistersFull r' → IdleTwins i (up 0 acks r i) (up 0 acks r' i)
still i acks r r' full full' =
    record { acks = acks; one = r; other = r'; s_is = refl; t_is = refl; one_full = full; other_full = full' }

-- Words are written behind those at the front.
abbrev WritesAlike : Bool → List ℕ → Interpreter → Outcome CameraState (Unit {0}) Fault → Outcome CameraState (Unit {0}) Fault → Type 0
WritesAlike through words i one other =
    Alike (λ _ s t. Written through words i s t) (λ fault s t. IdleTwins i s t × (met Set fault ≡ nothing)) one other

none_written : (through : Bool) (front : List ℕ) (acks : List Bool) (r r' : Registers) (i : Interpreter) → RegistersFull r → RegistersFull r' →
    Front through front r → Front through front r' → WritesAlike through (front ++ []) i (ended (Ok tt) (up 0 acks r i)) (ended (Ok tt) (up 0 acks r' i))
none_written through front acks r r' i full full' e e' =
    record {
      answer = Ok tt;
      left = up 0 acks r i;
      right = up 0 acks r' i;
      one_is = refl;
      other_is = refl;
      holds = rw append-nil (record { twins = still i acks r r' full full'; one_front = e; other_front = e' });
    }

one_written : (through : Bool) (place word : ℕ) (words front : List ℕ) (acks : List Bool) (r r' : Registers) (i : Interpreter) → RegistersFull r → RegistersFull r' →
    WritesAlike through ((front ++ word ∷ []) ++ words) i
    (words_written through (suc place) words (up 0 (later_acks acks) (written through place word r) i))
    (words_written through (suc place) words (up 0 (later_acks acks) (written through place word r') i)) →
    WritesAlike through (front ++ (word ∷ words)) i
    (words_written through place (word ∷ words) (up 0 acks r i)) (words_written through place (word ∷ words) (up 0 acks r' i))
unfolding words_written
one_written through place word words front acks r r' i full full' rest =
    write_then (λ _ s t. Written through (front ++ (word ∷ words)) i s t) (λ fault s t. IdleTwins i s t × (met Set fault ≡ nothing))
    (place_register through place) word acks r r' i (words_written through (suc place) words)
    (still i (later_acks acks) r r' full full', missed_set through place)
    (rw (stored_is through place word (later_acks acks) r i, stored_is through place word (later_acks acks) r' i)
    (rw (append_assoc front (word ∷ []) words) at rest))

front_at : (through : Bool) (place word : ℕ) (front : List ℕ) (r : Registers) → length front ≡ place → place < room through → RegistersFull r →
    Front through front r → Front through (front ++ word ∷ []) (written through place word r)
front_at through place word front r at short full e =
    subst (λ n. Front through (front ++ word ∷ []) (written through n word r)) at (written_front through front word r full (omega arith) e)

pub words_alike : (through : Bool) (words front : List ℕ) (place : ℕ) → length front ≡ place → place + length words ≤ room through →
    (acks : List Bool) (r r' : Registers) (i : Interpreter) → RegistersFull r → RegistersFull r' → Front through front r → Front through front r' →
    WritesAlike through (front ++ words) i (words_written through place words (up 0 acks r i)) (words_written through place words (up 0 acks r' i))
unfolding words_written
words_alike through [] front place at short acks r r' i full full' e e' = none_written through front acks r r' i full full' e e'
words_alike through (word ∷ words) front place at short acks r r' i full full' e e' =
    one_written through place word words front acks r r' i full full'
    (words_alike through words (front ++ word ∷ []) (suc place) (omega (arith, length_push front word)) (omega arith) (later_acks acks)
    (written through place word r) (written through place word r') i
    (written_full through place word r full) (written_full through place word r' full')
    (front_at through place word front r at (omega arith) full e) (front_at through place word front r' at (omega arith) full' e'))

-- two idle cameras with registers and an interpreter, whatever marks are left
pub record Untouched (r r' : Registers) (i : Interpreter) (s t : CameraState) : Type 0 where
  pub acks : List Bool
  pub s_is : s ≡ up 0 acks r i
  pub t_is : t ≡ up 0 acks r' i

-- words stand in the data registers or the block buffer, from a place on
abbrev StandAt : Bool → ℕ → List ℕ → Registers → Type 0
StandAt through place words r = (k : ℕ) → k < length words → get_or (bank through r) (place + k) 0 ≡ get_or words k 0

-- Those words are read.
abbrev ReadsAlike : List ℕ → Registers → Registers → Interpreter → Fetched CameraState → Fetched CameraState → Type 0
ReadsAlike words r r' i one other =
    FetchedAlike (λ found s t. (found ≡ words) × Untouched r r' i s t) (λ fault s t. Untouched r r' i s t × (met Get fault ≡ owed)) one other

with_first : (word : ℕ) (words : List ℕ) (r r' : Registers) (i : Interpreter) (one other : Fetched CameraState) → ReadsAlike words r r' i one other →
    ReadsAlike (word ∷ words) r r' i (with_word word one) (with_word word other)
with_first word words r r' i one other h =
    record {
      answer = h.answer;
      words = word ∷ h.words;
      left = h.left;
      right = h.right;
      one_is = ap (with_word word) h.one_is;
      other_is = ap (with_word word) h.other_is;
      holds = go h.answer h.holds;
    }
  where
    T : Type 0
    T = Untouched r r' i h.left h.right

    go : (a : Result (Unit {0}) Fault) → Holds a (λ _. (h.words ≡ words) × T) (λ fault. T × (met Get fault ≡ owed)) →
        Holds a (λ _. (word ∷ h.words ≡ word ∷ words) × T) (λ fault. T × (met Get fault ≡ owed))
    go (Ok x) (e, twins) = (ap (λ l. word ∷ l) e, twins)
    go (Err fault) met = met

-- A read of the same word of two idle cameras, and what comes after it.
one_read : (through : Bool) (place old word : ℕ) (rest words : List ℕ) (acks : List Bool) (r r' : Registers) (i : Interpreter) → place < room through →
    get_or (bank through r) place 0 ≡ word → get_or (bank through r') place 0 ≡ word →
    ReadsAlike words r r' i (words_read through (suc place) rest (up 0 (later_acks acks) r i)) (words_read through (suc place) rest (up 0 (later_acks acks) r' i)) →
    ReadsAlike (word ∷ words) r r' i (words_read through place (old ∷ rest) (up 0 acks r i)) (words_read through place (old ∷ rest) (up 0 acks r' i))
unfolding words_read register_read
one_read through place old word rest words acks r r' i short e e' later = go (next_ack acks)
  where
    then : Registers → CameraState
    then r = up 0 (later_acks acks) r i

    access : Bool → Registers → Fetched CameraState
    access ack r =
        by_answer {A = ℕ}
        (unless_unacknowledged ack (address_of (place_register through place)) (then r) (ended (Ok (held (place_register through place) (then r))) (then r)))
        (λ word t. with_word word (words_read through (suc place) rest t)) (λ fault t. record { answer = Err fault; words = old ∷ rest; after = t })

    go : (ack : Bool) → ReadsAlike (word ∷ words) r r' i (access ack r) (access ack r')
    go true =
        rw (held_is through place (later_acks acks) r i, held_is through place (later_acks acks) r' i, e, e')
        (with_first word words r r' i (words_read through (suc place) rest (then r)) (words_read through (suc place) rest (then r')) later)
    go false =
        record {
          answer = Err (NotAcknowledged (address_of (place_register through place)));
          words = old ∷ rest;
          left = then r;
          right = then r';
          one_is = refl;
          other_is = refl;
          holds = (record { acks = later_acks acks; s_is = refl; t_is = refl }, missed_get through place short);
        }

stand_next : (through : Bool) (place word : ℕ) (words : List ℕ) (r : Registers) → StandAt through place (word ∷ words) r → StandAt through (suc place) words r
stand_next through place word words r stand k short =
    ap (λ n. get_or (bank through r) n 0) (suc-add place k ∙ sym (add-suc place k)) ∙ stand (suc k) (omega arith)

stand_first : (through : Bool) (place word : ℕ) (words : List ℕ) (r : Registers) → StandAt through place (word ∷ words) r → get_or (bank through r) place 0 ≡ word
stand_first through place word words r stand = ap (λ n. get_or (bank through r) n 0) (sym (add-zero place)) ∙ stand 0 (omega arith)

reads_alike : (through : Bool) (buffer words : List ℕ) (place : ℕ) → length buffer ≡ length words → place + length words ≤ room through →
    (acks : List Bool) (r r' : Registers) (i : Interpreter) → StandAt through place words r → StandAt through place words r' →
    ReadsAlike words r r' i (words_read through place buffer (up 0 acks r i)) (words_read through place buffer (up 0 acks r' i))
unfolding words_read
reads_alike through [] [] place same short acks r r' i stand stand' =
    record {
      answer = Ok tt;
      words = [];
      left = up 0 acks r i;
      right = up 0 acks r' i;
      one_is = refl;
      other_is = refl;
      holds = (refl, record { acks = acks; s_is = refl; t_is = refl });
    }
reads_alike through [] (word ∷ words) place same short acks r r' i stand stand' = absurd (omega arith)
reads_alike through (old ∷ rest) [] place same short acks r r' i stand stand' = absurd (omega arith)
reads_alike through (old ∷ rest) (word ∷ words) place same short acks r r' i stand stand' =
    one_read through place old word rest words acks r r' i (omega arith) (stand_first through place word words r stand)
    (stand_first through place word words r' stand')
    (reads_alike through rest words (suc place) (omega arith) (omega arith) (later_acks acks) r r' i (stand_next through place word words r stand)
    (stand_next through place word words r' stand'))

-- words at the front stand there from the first place on
stand_from_front : (through : Bool) (words : List ℕ) (r : Registers) → Front through words r → StandAt through 0 words r
stand_from_front through words r e k short =
    ap (λ n. get_or (bank through r) n 0) (zero-add k) ∙ sym (get_or-take (length words) (bank through r) k 0 short) ∙ ap (λ l. get_or l k 0) e

pub fetched_alike : (through : Bool) (buffer words : List ℕ) → length buffer ≡ length words → length words ≤ room through →
    (acks : List Bool) (r r' : Registers) (i : Interpreter) → Front through words r → Front through words r' →
    ReadsAlike words r r' i (words_read through 0 buffer (up 0 acks r i)) (words_read through 0 buffer (up 0 acks r' i))
fetched_alike through buffer words same short acks r r' i e e' =
    reads_alike through buffer words 0 same (omega arith) acks r r' i (stand_from_front through words r e) (stand_from_front through words r' e')
