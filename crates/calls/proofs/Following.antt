-- Two runs of the same calls side by side, and what calls and answers tell of them: which facts about sending, polling and
-- fetching are enough for whole calls and whole sequences.
use Rattle.std.proofs.Common.{◌≡◌, ℕ, zero, suc, Bool, true, false, List, [], length, ℤ, pos, negsuc, Some, None, Ok, Err, Result}
use Rattle.words.specs.Code.{code_of}
use Rattle.camera.specs.declared.attribute.Kind.{Kind}
use Rattle.camera.specs.declared.attribute.Kind.TheVariants.{Get, Set, Run}
use Rattle.camera.specs.declared.fault.Fault.{Fault}
use Rattle.camera.specs.Attributes.{size_of, offers, is_settable}
use Rattle.camera.specs.Commands.{command}
use Rattle.camera.specs.Steps.{Outcome, ended}
use Rattle.calls.specs.declared.stage.Stage.TheVariants.{Waiting, Reading}
use Rattle.calls.specs.Calls.{Session, asleep, ready, parked}
use Rattle.calls.specs.Outcomes.{Machine, Fetched, is_free, is_up}
use Rattle.calls.specs.History.{Order, order, done, refused, owed, nothing, History, history, met, moved_on}

-- one fact or another, by an answer or by a test
abbrev pub Holds : {A E : Type 0} → Result A E → (A → Type 0) → (E → Type 0) → Type 0
Holds (Ok x) P Q = P x
Holds (Err e) P Q = Q e

abbrev pub When : Bool → Type 0 → Type 0 → Type 0
When true P Q = P
When false P Q = Q

-- Two operations that answer alike. `P` holds of the answer and both states where it is carried out, `Q` where it is not.
pub record Alike {M A E : Type 0} (P : A → M → M → Type 0) (Q : E → M → M → Type 0) (one other : Outcome M A E) : Type 0 where
  pub answer : Result A E
  pub left : M
  pub right : M
  pub one_is : one ≡ ended answer left
  pub other_is : other ≡ ended answer right
  pub holds : Holds answer (λ x. P x left right) (λ e. Q e left right)

-- the same of two fetches, which leave the same buffer
pub record FetchedAlike {M : Type 0} (P : List ℕ → M → M → Type 0) (Q : Fault → M → M → Type 0) (one other : Fetched M) : Type 0 where
  pub answer : Result (Unit {0}) Fault
  pub words : List ℕ
  pub left : M
  pub right : M
  pub one_is : one ≡ record { answer = answer; words = words; after = left }
  pub other_is : other ≡ record { answer = answer; words = words; after = right }
  pub holds : Holds answer (λ _. P words left right) (λ fault. Q fault left right)

-- the words that are sent with a command: a set's, as many as the attribute has
abbrev pub Sendable : Kind → ℕ → List ℕ → Type 0
Sendable Get number words = words ≡ []
Sendable Set number words = length words ≡ size_of number
Sendable Run number words = words ≡ []

-- What the history says of a command that is under way: it is owed.
abbrev pub owing : Order → History → History
owing o h = history (Some o) h.answered h.ledger

-- What is left to do once a status word shows that the camera is free, by its response code and the command's kind: a get
-- that was carried out reads its words, everything else is at its end.
abbrev pub AfterFree : {M : Type 0} → (Session → M → M → History → Type 0) → Order → History → ℤ → Kind → M → M → Type 0
AfterFree R o h (pos zero) Get s t = R (parked (command Get o.number) Reading) s t h
AfterFree R o h (pos zero) Set s t = R ready s t (moved_on done o h)
AfterFree R o h (pos zero) Run s t = R ready s t (moved_on done o h)
AfterFree R o h (pos (suc code)) kind s t = R ready s t (moved_on refused o h)
AfterFree R o h (negsuc code) kind s t = R ready s t (moved_on refused o h)

-- A relation `R` between a session, two things behind a bus, and what is known: the facts that carry it through every call.
pub record Kept {M : Type 0} (m : Machine M) (R : Session → M → M → History → Type 0) : Type 0 where
  -- a ready or sleeping session is owed nothing; a parked one is owed the order of its command
  pub asleep_owes : (s t : M) (h : History) → R asleep s t h → h.owing ≡ None
  pub ready_owes : (s t : M) (h : History) → R ready s t h → h.owing ≡ None
  pub sends : (kind : Kind) (number : ℕ) (words : List ℕ) (s t : M) (h : History) →
      offers kind number ≡ true → Sendable kind number words → R ready s t h →
      Alike (λ _ s' t'. R (parked (command kind number) Waiting) s' t' (owing (order kind number words) h))
      (λ fault s' t'. R ready s' t' h × (met kind fault ≡ nothing))
      (m.send (command kind number) words s) (m.send (command kind number) words t)
  pub wakes : (s t : M) (h : History) → R asleep s t h →
      Alike (λ status s' t'. When (is_up status) (R ready s' t' h) (R asleep s' t' h)) (λ fault s' t'. R asleep s' t' h) (m.poll s) (m.poll t)
  pub waits : (kind : Kind) (number : ℕ) (s t : M) (h : History) → R (parked (command kind number) Waiting) s t h →
      (words : List ℕ) × (h.owing ≡ Some (order kind number words)) ×
      Alike (λ status s' t'. When (is_free status) (AfterFree R (order kind number words) h (code_of status) kind s' t') (R (parked (command kind number) Waiting) s' t' h))
      (λ fault s' t'. R (parked (command kind number) Waiting) s' t' h × (met kind fault ≡ owed)) (m.poll s) (m.poll t)
  pub reads : (kind : Kind) (number : ℕ) (buffer : List ℕ) (s t : M) (h : History) → length buffer ≡ size_of number →
      R (parked (command kind number) Reading) s t h →
      (kind ≡ Get) × (h.owing ≡ Some (order Get number [])) ×
      FetchedAlike (λ words s' t'. R ready s' t' (moved_on done (order Get number []) h) × (is_settable number ≡ true → words ≡ h.ledger.put number))
      (λ fault s' t'. R (parked (command Get number) Reading) s' t' h × (met Get fault ≡ owed)) (m.fetch number buffer s) (m.fetch number buffer t)
