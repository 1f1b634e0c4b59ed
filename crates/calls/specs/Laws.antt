-- The laws of call sequences, over every state that a camera can have and that does not hang, and every list of calls on
-- a session that is asleep.
use Rattle.std.specs.Prelude.{◌≡◌, ℕ, ◌+◌, ◌%◌, true, false, cond, List, [], ◌∷◌, ◌++◌, length, take, drop, Some, None, Ok, Option, ◌==◌}
use Rattle.std.specs.List.{slice_get}
use Rattle.camera.specs.declared.attribute.Kind.TheVariants.{Get}
use Rattle.camera.specs.Attributes.{is_settable, is_saved}
use Rattle.camera.specs.State.{CameraState, Possible}
use Rattle.calls.specs.Calls.{asleep, Call, set}
use Rattle.calls.specs.Accesses.{camera}
use Rattle.calls.specs.Sequences.{Answer, Ran, ran}
use Rattle.calls.specs.History.{Order, order, Ledger, History, history, speaks_for, noted, known, taken}

-- a call sequence on a fresh session over a camera
abbrev pub sequence : List Call → CameraState → Ran CameraState
sequence calls s = ran camera calls asleep s

-- What is known before the first call: no command was answered and none is owed, and the ledger holds the attributes that
-- can be set, and what is saved of them.
abbrev pub settable_words : (ℕ → List ℕ) → ℕ → List ℕ
settable_words words k = cond (is_settable k) (words k) []

abbrev pub saved_words : Option (ℕ → List ℕ) → Option (ℕ → List ℕ)
saved_words None = None
saved_words (Some words) = Some (λ k. cond (is_saved k) (words k) [])

abbrev pub at_start : CameraState → History
at_start s =
    history None 0 (record { put = settable_words s.interpreter.words; saved = saved_words s.interpreter.saved })

-- Unhung and counted: the camera does not hang, and its count is the one at the start and the commands taken since, as
-- calls and answers tell them, modulo 65,536.
pub record UnhungAndCounted (s after : CameraState) (calls : List Call) (answers : List Answer) : Type 0 where
  pub unhung : after.hung ≡ false
  pub counted : after.interpreter.count ≡ (s.interpreter.count + taken (known calls answers (at_start s))) % 65536

-- Last put: a get that is carried out, by itself or by a resume, on an attribute that can be set, answers the words that
-- the ledger holds for it.
abbrev pub AnswersLastPut : Option Order → Answer → Ledger → Type 0
AnswersLastPut o answer l =
    (number : ℕ) → o ≡ Some (order Get number []) → is_settable number ≡ true → answer.result ≡ Ok tt → answer.buffer ≡ l.put number

abbrev pub LastPut : List Call → List Answer → History → Type 0
LastPut [] answers h = Unit {0}
LastPut (call ∷ calls) [] h = Unit {0}
LastPut (call ∷ calls) (answer ∷ answers) h =
    AnswersLastPut (speaks_for h.owing call) answer h.ledger × LastPut calls answers (noted call answer h)

-- the call at a place was carried out
abbrev pub CarriedOutAt : ℕ → Ran CameraState → Type 0
CarriedOutAt place r = (answer : Answer) → slice_get r.answers place ≡ Some answer → answer.result ≡ Ok tt

-- Two sequences that differ in two neighbouring calls, at a place and the next, have the same answers to all other calls,
-- and end with the same session, attributes, user defaults and count.
pub record SameElsewhere (place : ℕ) (one other : Ran CameraState) : Type 0 where
  pub before : take place one.answers ≡ take place other.answers
  pub behind : drop (place + 2) one.answers ≡ drop (place + 2) other.answers
  pub session : one.session ≡ other.session
  pub attributes : (k : ℕ) → one.after.interpreter.words k ≡ other.after.interpreter.words k
  pub defaults : one.after.interpreter.saved ≡ other.after.interpreter.saved
  pub count : one.after.interpreter.count ≡ other.after.interpreter.count

-- Exchange: two neighbouring sets of different attributes, carried out in this order and in the other, may change places.
pub record Exchanged (s : CameraState) (front : List Call) (a b : Call) (rest : List Call) : Type 0 where
  pub one : CarriedOutAt (length front) (sequence (front ++ (a ∷ b ∷ rest)) s)
  pub next : CarriedOutAt (length front + 1) (sequence (front ++ (a ∷ b ∷ rest)) s)
  pub other : CarriedOutAt (length front) (sequence (front ++ (b ∷ a ∷ rest)) s)
  pub last : CarriedOutAt (length front + 1) (sequence (front ++ (b ∷ a ∷ rest)) s)

abbrev pub Exchange : CameraState → List Call → Type 0
Exchange s calls =
    (front rest : List Call) (k l : ℕ) (words others : List ℕ) (budget allowed : ℕ) →
    calls ≡ front ++ (set k words budget ∷ set l others allowed ∷ rest) →
    (k == l) ≡ false →
    Exchanged s front (set k words budget) (set l others allowed) rest →
    SameElsewhere (length front) (sequence calls s) (sequence (front ++ (set l others allowed ∷ set k words budget ∷ rest)) s)

-- All three, of a call sequence with its answers, from a state. The first holds after every call, the last one's too.
pub record SequenceLaws (s : CameraState) (calls : List Call) (answers : List Answer) : Type 0 where
  pub unhung_and_counted : (n : ℕ) → UnhungAndCounted s (sequence (take n calls) s).after (take n calls) (take n answers)
  pub last_put : LastPut calls answers (at_start s)
  pub exchange : Exchange s calls

abbrev pub LawsOfSequences : Type 0
LawsOfSequences =
    (s : CameraState) → Possible s → s.hung ≡ false → (calls : List Call) → SequenceLaws s calls (sequence calls s).answers
