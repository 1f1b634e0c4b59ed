-- The same calls on two things behind a bus: whatever keeps a relation through sending, polling and fetching keeps it
-- through every call and every call sequence, and both answer alike.
use Rattle.std.proofs.Common.{◌≡◌, ℕ, zero, suc, Bool, true, false, cond, List, [], ◌∷◌, length, replicate, ℤ, pos, negsuc, Some, None, Ok, Err, Option, Result, sym, refl, ap, ◌∙◌, subst, subst₂, arith, eqb-true}
use lib.ListN.{length-replicate}
use Rattle.checks.specs.Tests.{AllPass, AllRefuse}
use Rattle.checks.proofs.Passing.{all_pass, refusal_among}
use Rattle.words.specs.Code.{code_of}
use Rattle.camera.specs.declared.attribute.Kind.{Kind}
use Rattle.camera.specs.declared.attribute.Kind.TheVariants.{Get, Set, Run}
use Rattle.camera.specs.declared.fault.Fault.{Fault}
use Rattle.camera.specs.Attributes.{size_of, offers, is_settable}
use Rattle.camera.specs.Commands.{command}
use Rattle.camera.specs.Steps.{Outcome, ended}
use Rattle.calls.specs.declared.refusal.Refusal.{Refusal}
use Rattle.calls.specs.declared.refusal.Refusal.TheVariants.{Bus, StillBusy, Camera}
use Rattle.calls.specs.declared.stage.Stage.{Stage}
use Rattle.calls.specs.declared.stage.Stage.TheVariants.{Waiting, Reading}
use Rattle.calls.specs.Calls.{Session, asleep, ready, parked, Call, wake, get, set, run, resume, Served, served, buffer_of, checks, command_checks, has_room, refused_first}
use Rattle.calls.specs.Outcomes.{Machine, by_answer, is_free, is_up, polled, woken, read_out, delivered, by_code, collected, issued, carried, outcome}
use Rattle.calls.specs.Sequences.{Answer, answer_of, Ran, ran, with_answer}
use Rattle.calls.specs.History.{Order, order, Ending, done, refused, owed, nothing, Ledger, History, met, refused_by, ending, moved_on, noted_for, noted, known, speaks_for}
use Rattle.calls.specs.Laws.{AnswersLastPut, LastPut}
use Rattle.calls.proofs.Following.{Holds, When, Alike, Sendable, owing, AfterFree, Kept}

-- two operations that answer alike, from their answer and what they leave
pub alike : {M A E : Type 0} {P : A → M → M → Type 0} {Q : E → M → M → Type 0} (answer : Result A E) (left right : M) →
    Holds answer (λ x. P x left right) (λ e. Q e left right) → Alike P Q (ended answer left) (ended answer right)
alike answer left right h = record { answer = answer; left = left; right = right; one_is = refl; other_is = refl; holds = h }

-- Going on with two operations that answer alike: what holds of both ways on holds of the two.
pub go_on : {M A E T : Type 0} {P : A → M → M → Type 0} {Q : E → M → M → Type 0} {one other : Outcome M A E} (G : T → T → Type 0) (k : A → M → T) (f : E → M → T) →
    ((x : A) (s t : M) → P x s t → G (k x s) (k x t)) → ((e : E) (s t : M) → Q e s t → G (f e s) (f e t)) → Alike P Q one other →
    G (by_answer one k f) (by_answer other k f)
go_on {M} {A} {E} {T} {P} {Q} G k f on_ok on_err h =
    subst₂ (λ a b. G (by_answer a k f) (by_answer b k f)) (sym h.one_is) (sym h.other_is) (go h.answer h.holds)
  where
    go : (r : Result A E) → Holds r (λ x. P x h.left h.right) (λ e. Q e h.left h.right) →
        G (by_answer (ended r h.left) k f) (by_answer (ended r h.right) k f)
    go (Ok x) p = on_ok x h.left h.right p
    go (Err e) q = on_err e h.left h.right q

-- What each status read keeps, polling keeps. `W` holds as long as no word passes, `P` of the word that does, and `Q` of
-- what polling is refused with.
polled_alike : {M : Type 0} (m : Machine M) (passes : ℕ → Bool) (W : M → M → Type 0) (P : ℕ → M → M → Type 0) (Q : Refusal → M → M → Type 0) →
    ((s t : M) → W s t → Alike (λ status s' t'. When (passes status) (P status s' t') (W s' t')) (λ fault. Q (Bus fault)) (m.poll s) (m.poll t)) →
    ((s t : M) → W s t → Q StillBusy s t) →
    (left : ℕ) (s t : M) → W s t → Alike P Q (polled m passes left s) (polled m passes left t)
unfolding polled
polled_alike m passes W P Q step spent zero s t w = alike (Err StillBusy) s t (spent s t w)
polled_alike {M} m passes W P Q step spent (suc left) s t w =
    go_on (Alike P Q) (λ status u. cond (passes status) (ended (Ok status) u) (polled m passes left u)) (λ fault u. ended (Err (Bus fault)) u)
    (λ status. tested (polled_alike m passes W P Q step spent left) status (passes status)) (λ fault s' t' h. alike (Err (Bus fault)) s' t' h) (step s t w)
  where
    tested : ((s t : M) → W s t → Alike P Q (polled m passes left s) (polled m passes left t)) →
        (status : ℕ) (b : Bool) (s t : M) → When b (P status s t) (W s t) →
        Alike P Q (cond b (ended (Ok status) s) (polled m passes left s)) (cond b (ended (Ok status) t) (polled m passes left t))
    tested later status true s t h = alike (Ok status) s t h
    tested later status false s t h = later s t h

-- Two calls served alike: one answer, one session. The relation holds with what is noted of the answer, and so does a
-- claim on the answer.
pub record ServedAlike {M : Type 0} (R : Session → M → M → History → Type 0) (note : Answer → History) (Claim : Answer → Type 0) (one other : Served M) : Type 0 where
  pub answer : Answer
  pub session : Session
  pub left : M
  pub right : M
  pub one_is : one ≡ served answer.result answer.buffer session left
  pub other_is : other ≡ served answer.result answer.buffer session right
  pub related : R session left right (note answer)
  pub claim : Claim answer

served_alike : {M : Type 0} {R : Session → M → M → History → Type 0} {note : Answer → History} {Claim : Answer → Type 0} (answer : Answer)
    (session : Session) (left right : M) → R session left right (note answer) → Claim answer →
    ServedAlike R note Claim (served answer.result answer.buffer session left) (served answer.result answer.buffer session right)
served_alike answer session left right h claim =
    record { answer = answer; session = session; left = left; right = right; one_is = refl; other_is = refl; related = h; claim = claim }

-- what is noted and what is claimed, put in other words
in_other_words : {M : Type 0} {R : Session → M → M → History → Type 0} {note note' : Answer → History} {Claim Claim' : Answer → Type 0} {one other : Served M} →
    ((answer : Answer) → Claim answer → note answer ≡ note' answer) → ((answer : Answer) → Claim answer → Claim' answer) →
    ServedAlike R note Claim one other → ServedAlike R note' Claim' one other
in_other_words {R = R} notes claims h =
    record {
      answer = h.answer;
      session = h.session;
      left = h.left;
      right = h.right;
      one_is = h.one_is;
      other_is = h.other_is;
      related = subst (R h.session h.left h.right) (notes h.answer h.claim) h.related;
      claim = claims h.answer h.claim;
    }

abbrev answering : Result (Unit {0}) Refusal → List ℕ → Answer
answering result buffer = record { result = result; buffer = buffer }

-- A command under way ends in one of three ways, and says what was last put.
abbrev note_of : Order → History → Answer → History
note_of o h answer = moved_on (ending o.kind answer.result) o h

abbrev ClaimOf : Order → History → Answer → Type 0
ClaimOf o h answer = (ending o.kind answer.result ≡ nothing → ⊥) × AnswersLastPut (Some o) answer h.ledger

-- two ways in which a command is served
abbrev UnderWay : {M : Type 0} → (Session → M → M → History → Type 0) → Order → History → Served M → Served M → Type 0
UnderWay R o h one other = ServedAlike R (note_of o h) (ClaimOf o h) one other

-- A refusal answers no get.
refused_says_nothing : (o : Option Order) (refusal : Refusal) (buffer : List ℕ) (l : Ledger) → AnswersLastPut o (answering (Err refusal) buffer) l
refused_says_nothing o refusal buffer l = λ number is settable ok. grind arith

-- an order that is owed already
owing_same : (o : Order) (h : History) → h.owing ≡ Some o → h ≡ owing o h
owing_same o h e = λ i. record { owing = e i; answered = h.answered; ledger = h.ledger }

-- An answer that leaves the command owed.
stays_owed : {M : Type 0} (R : Session → M → M → History → Type 0) (o : Order) (h : History) (refusal : Refusal) (buffer : List ℕ) (session : Session) (s t : M) →
    h.owing ≡ Some o → refused_by o.kind refusal ≡ owed → R session s t h →
    UnderWay R o h (served (Err refusal) buffer session s) (served (Err refusal) buffer session t)
stays_owed R o h refusal buffer session s t owes is_owed r =
    served_alike (answering (Err refusal) buffer) session s t
    (subst (R session s t) (owing_same o h owes ∙ sym (ap (λ e. moved_on e o h) is_owed)) r)
    (λ e. grind arith, refused_says_nothing (Some o) refusal buffer h.ledger)

-- the order that is owed is one order
same_order : {due : Option Order} (o p : Order) → due ≡ Some o → due ≡ Some p → o ≡ p
same_order o p e f = cc

-- what is no get says nothing of words that were put
no_get_says_nothing : (kind : Kind) (number : ℕ) (words : List ℕ) (answer : Answer) (l : Ledger) → (kind ≡ Get → ⊥) → AnswersLastPut (Some (order kind number words)) answer l
no_get_says_nothing kind number words answer l no_get =
    λ k is settable ok. absurd (no_get (ap (λ o. o.kind) (same_order (order kind number words) (order Get k []) refl is)))

-- The words that a get has read are the last put.
gets_last_put : (number : ℕ) (words : List ℕ) (l : Ledger) → (is_settable number ≡ true → words ≡ l.put number) →
    AnswersLastPut (Some (order Get number [])) (answering (Ok tt) words) l
gets_last_put number words l h = λ k is settable ok. let same : number ≡ k = ap (λ o. o.number) (same_order (order Get number []) (order Get k []) refl is) in
    rw (← same) (h (rw (← same) at settable))

-- A refusal of which nothing is noted, whatever the command. All those are such that refuse a call before any access.
abbrev Silent : Refusal → Type 0
Silent refusal = (kind : Kind) → refused_by kind refusal ≡ nothing

command_silent : (session : Session) (kind : Kind) (number : ℕ) (words : List ℕ) (budget : ℕ) → AllRefuse Silent (command_checks session kind number words budget)
command_silent session kind number words budget = (λ _. refl, (λ _. refl, (λ _. refl, (λ _. refl, (λ _. refl, tt)))))

checks_silent : (session : Session) (call : Call) → AllRefuse Silent (checks session call)
checks_silent session (wake budget) = (λ _. refl, (λ _. refl, tt))
checks_silent session (get number buffer budget) = command_silent session Get number buffer budget
checks_silent session (set number words budget) = command_silent session Set number words budget
checks_silent session (run number budget) = command_silent session Run number [] budget
checks_silent session (resume buffer budget) = (λ _. refl, (λ _. refl, (λ _. refl, tt)))

notes_nothing : (due : Option Order) (refusal : Refusal) (buffer : List ℕ) (h : History) → Silent refusal → h ≡ noted_for due (answering (Err refusal) buffer) h
notes_nothing None refusal buffer h silent = refl
notes_nothing (Some o) refusal buffer h silent = sym (ap (λ e. moved_on e o h) (silent o.kind))

-- two calls served alike, with what is noted of a call and its answer, and with the words last put
abbrev pub CalledAlike : {M : Type 0} → (Session → M → M → History → Type 0) → Call → History → Served M → Served M → Type 0
CalledAlike R call h one other =
    ServedAlike R (λ answer. noted call answer h) (λ answer. AnswersLastPut (speaks_for h.owing call) answer h.ledger) one other

-- Two runs of one call sequence alike: the same answers, the same session. The relation holds with what calls and answers
-- tell, and every get that was carried out answers the words last put.
pub record RanAlike {M : Type 0} (R : Session → M → M → History → Type 0) (calls : List Call) (h : History) (one other : Ran M) : Type 0 where
  pub answers : List Answer
  pub session : Session
  pub left : M
  pub right : M
  pub one_is : one ≡ record { answers = answers; session = session; after = left }
  pub other_is : other ≡ record { answers = answers; session = session; after = right }
  pub related : R session left right (known calls answers h)
  pub last_put : LastPut calls answers h

-- the same, said of the two runs themselves
pub same_answers : {M : Type 0} {R : Session → M → M → History → Type 0} {calls : List Call} {h : History} {one other : Ran M} →
    RanAlike R calls h one other → one.answers ≡ other.answers
same_answers r = ap (λ o. o.answers) r.one_is ∙ sym (ap (λ o. o.answers) r.other_is)

pub same_session : {M : Type 0} {R : Session → M → M → History → Type 0} {calls : List Call} {h : History} {one other : Ran M} →
    RanAlike R calls h one other → one.session ≡ other.session
same_session r = ap (λ o. o.session) r.one_is ∙ sym (ap (λ o. o.session) r.other_is)

pub still_related : {M : Type 0} {R : Session → M → M → History → Type 0} {calls : List Call} {h : History} {one other : Ran M} →
    RanAlike R calls h one other → R one.session one.after other.after (known calls one.answers h)
still_related {R = R} {calls = calls} {h = h} r =
    subst₂ (λ a b. R a.session a.after b.after (known calls a.answers h)) (sym r.one_is) (sym r.other_is) r.related

-- a call in front of a sequence
call_first : {M : Type 0} {R : Session → M → M → History → Type 0} (call : Call) (calls : List Call) (h : History) (answer : Answer) {one other : Ran M} →
    AnswersLastPut (speaks_for h.owing call) answer h.ledger → RanAlike R calls (noted call answer h) one other →
    RanAlike R (call ∷ calls) h (with_answer answer one) (with_answer answer other)
call_first call calls h answer last r =
    record {
      answers = answer ∷ r.answers;
      session = r.session;
      left = r.left;
      right = r.right;
      one_is = ap (with_answer answer) r.one_is;
      other_is = ap (with_answer answer) r.other_is;
      related = r.related;
      last_put = (last, r.last_put);
    }

module _ {M : Type 0} {m : Machine M} {R : Session → M → M → History → Type 0} (kept : Kept m R) where
  -- the words of a get are read
  fetched_alike : (number : ℕ) (buffer : List ℕ) (s t : M) (h : History) → length buffer ≡ size_of number → R (parked (command Get number) Reading) s t h →
      UnderWay R (order Get number []) h (delivered m Get number buffer s) (delivered m Get number buffer t)
  fetched_alike number buffer s t h fits r =
      let f = kept.reads Get number buffer s t h fits r in
      subst₂ (λ a b. UnderWay R o h (read_out number a) (read_out number b)) (sym f.2.one_is) (sym f.2.other_is)
      (go f.1 f.2.left f.2.right f.2.words f.2.answer f.2.holds)
    where
      o : Order
      o = order Get number []

      go : h.owing ≡ Some o → (s t : M) (words : List ℕ) (r : Result (Unit {0}) Fault) →
          Holds r (λ _. R ready s t (moved_on done o h) × (is_settable number ≡ true → words ≡ h.ledger.put number))
          (λ fault. R (parked (command Get number) Reading) s t h × (met Get fault ≡ owed)) →
          UnderWay R o h (read_out number (record { answer = r; words = words; after = s })) (read_out number (record { answer = r; words = words; after = t }))
      go owes s t words (Ok x) f = served_alike (answering (Ok tt) words) ready s t f.0 (λ e. grind arith, gets_last_put number words h.ledger f.1)
      go owes s t words (Err fault) f = stays_owed R o h (Bus fault) words (parked (command Get number) Reading) s t owes f.1 f.0

  -- A session that is to read has a get parked.
  reads_get : (kind : Kind) (number : ℕ) (s t : M) (h : History) → R (parked (command kind number) Reading) s t h → kind ≡ Get
  reads_get kind number s t h r = (kept.reads kind number (replicate (size_of number) 0) s t h (length-replicate (size_of number) 0) r).0

  -- What is left to do once the camera is free.
  coded_alike : (kind : Kind) (number : ℕ) (words buffer : List ℕ) (h : History) → has_room kind number buffer ≡ true → h.owing ≡ Some (order kind number words) →
      (code : ℤ) (s t : M) → AfterFree R (order kind number words) h code kind s t →
      UnderWay R (order kind number words) h (by_code m (command kind number) buffer code s) (by_code m (command kind number) buffer code t)
  coded_alike Get number words buffer h room owes (pos zero) s t r =
      let fits = eqb-true (length buffer) (size_of number) room in
      let is_owed = (kept.reads Get number buffer s t h fits r).1 in
      subst (λ o. UnderWay R o h (delivered m Get number buffer s) (delivered m Get number buffer t))
      (same_order (order Get number []) (order Get number words) is_owed owes) (fetched_alike number buffer s t h fits r)
  coded_alike Set number words buffer h room owes (pos zero) s t r =
      served_alike (answering (Ok tt) buffer) ready s t r
      (λ e. grind arith, no_get_says_nothing Set number words (answering (Ok tt) buffer) h.ledger (λ e. grind arith))
  coded_alike Run number words buffer h room owes (pos zero) s t r =
      served_alike (answering (Ok tt) buffer) ready s t r
      (λ e. grind arith, no_get_says_nothing Run number words (answering (Ok tt) buffer) h.ledger (λ e. grind arith))
  coded_alike kind number words buffer h room owes (pos (suc code)) s t r =
      served_alike (answering (Err (Camera (pos (suc code)))) buffer) ready s t r
      (λ e. grind arith, refused_says_nothing (Some (order kind number words)) (Camera (pos (suc code))) buffer h.ledger)
  coded_alike kind number words buffer h room owes (negsuc code) s t r =
      served_alike (answering (Err (Camera (negsuc code))) buffer) ready s t r
      (λ e. grind arith, refused_says_nothing (Some (order kind number words)) (Camera (negsuc code)) buffer h.ledger)

  -- One status read of a command that waits, with the words of its order.
  waits_for : (kind : Kind) (number : ℕ) (words : List ℕ) (h : History) → h.owing ≡ Some (order kind number words) →
      (s t : M) → R (parked (command kind number) Waiting) s t h →
      Alike (λ status s' t'. When (is_free status) (AfterFree R (order kind number words) h (code_of status) kind s' t') (R (parked (command kind number) Waiting) s' t' h))
      (λ fault s' t'. R (parked (command kind number) Waiting) s' t' h × (met kind fault ≡ owed)) (m.poll s) (m.poll t)
  waits_for kind number words h owes s t r =
      let w = kept.waits kind number s t h r in
      subst
      (λ o. Alike (λ status s' t'. When (is_free status) (AfterFree R o h (code_of status) kind s' t') (R (parked (command kind number) Waiting) s' t' h))
      (λ fault s' t'. R (parked (command kind number) Waiting) s' t' h × (met kind fault ≡ owed)) (m.poll s) (m.poll t))
      (same_order (order kind number w.0) (order kind number words) w.1 owes) w.2

  -- A command that waits is polled, and then ended as its code says.
  waited_alike : (kind : Kind) (number : ℕ) (words buffer : List ℕ) (budget : ℕ) (h : History) → has_room kind number buffer ≡ true →
      h.owing ≡ Some (order kind number words) → (s t : M) → R (parked (command kind number) Waiting) s t h →
      UnderWay R (order kind number words) h (collected m (command kind number) Waiting buffer budget s) (collected m (command kind number) Waiting buffer budget t)
  waited_alike kind number words buffer budget h room owes s t r =
      go_on (UnderWay R o h) (λ status u. by_code m (command kind number) buffer (code_of status) u) (λ refusal u. served (Err refusal) buffer waiting u)
      (λ status s' t' f. coded_alike kind number words buffer h room owes (code_of status) s' t' f)
      (λ refusal s' t' f. stays_owed R o h refusal buffer waiting s' t' owes f.1 f.0)
      (polled_alike m is_free (λ s' t'. R waiting s' t' h) (λ status s' t'. AfterFree R o h (code_of status) kind s' t')
      (λ refusal s' t'. R waiting s' t' h × (refused_by kind refusal ≡ owed)) (waits_for kind number words h owes) (λ s' t' w. (w, refl)) budget s t r)
    where
      o : Order
      o = order kind number words

      waiting : Session
      waiting = parked (command kind number) Waiting

  -- The rest of a command that is parked, from its stage on: it is the order that is owed.
  collected_alike : (kind : Kind) (number : ℕ) (stage : Stage) (buffer : List ℕ) (budget : ℕ) (s t : M) (h : History) → has_room kind number buffer ≡ true →
      R (parked (command kind number) stage) s t h →
      (o : Order) × (h.owing ≡ Some o) ×
      UnderWay R o h (collected m (command kind number) stage buffer budget s) (collected m (command kind number) stage buffer budget t)
  collected_alike kind number Waiting buffer budget s t h room r =
      let w = kept.waits kind number s t h r in
      (order kind number w.0, w.1, waited_alike kind number w.0 buffer budget h room w.1 s t r)
  collected_alike Get number Reading buffer budget s t h room r =
      let fits = eqb-true (length buffer) (size_of number) room in
      (order Get number [], (kept.reads Get number buffer s t h fits r).1, fetched_alike number buffer s t h fits r)
  collected_alike Set number Reading buffer budget s t h room r = let e = reads_get Set number s t h r in absurd (grind (arith, e))
  collected_alike Run number Reading buffer budget s t h room r = let e = reads_get Run number s t h r in absurd (grind (arith, e))

  -- A whole command, from a ready session.
  issued_alike : (kind : Kind) (number : ℕ) (words buffer : List ℕ) (budget : ℕ) (s t : M) (h : History) → offers kind number ≡ true → Sendable kind number words →
      has_room kind number buffer ≡ true → R ready s t h →
      ServedAlike R (note_of (order kind number words) h) (λ answer. AnswersLastPut (Some (order kind number words)) answer h.ledger)
      (issued m (command kind number) words buffer budget s) (issued m (command kind number) words buffer budget t)
  issued_alike kind number words buffer budget s t h offered fits room r =
      go_on (ServedAlike R (note_of o h) (λ answer. AnswersLastPut (Some o) answer h.ledger)) (λ _ u. collected m (command kind number) Waiting buffer budget u)
      (λ fault u. served (Err (Bus fault)) buffer ready u)
      (λ _ s' t' w. in_other_words (λ answer claim. told_apart (ending kind answer.result) claim.0) (λ answer claim. claim.1)
      (waited_alike kind number words buffer budget (owing o h) room refl s' t' w))
      (λ fault s' t' f. served_alike (answering (Err (Bus fault)) buffer) ready s' t' (subst (R ready s' t') (sym (ap (λ e. moved_on e o h) f.1)) f.0)
      (refused_says_nothing (Some o) (Bus fault) buffer h.ledger))
      (kept.sends kind number words s t h offered fits r)
    where
      o : Order
      o = order kind number words

      told_apart : (e : Ending) → (e ≡ nothing → ⊥) → moved_on e o (owing o h) ≡ moved_on e o h
      told_apart done some = refl
      told_apart refused some = refl
      told_apart owed some = refl
      told_apart nothing some = absurd (some refl)

  -- a wake
  woken_alike : (budget : ℕ) (s t : M) (h : History) → R asleep s t h → CalledAlike R (wake budget) h (woken m budget s) (woken m budget t)
  woken_alike budget s t h r =
      go_on (CalledAlike R (wake budget) h) (λ status u. served (Ok tt) [] ready u) (λ refusal u. served (Err refusal) [] asleep u)
      (λ status s' t' up. served_alike (answering (Ok tt) []) ready s' t' up (λ number is settable ok. grind arith))
      (λ refusal s' t' still. served_alike (answering (Err refusal) []) asleep s' t' still (refused_says_nothing None refusal [] h.ledger))
      (polled_alike m is_up (λ s' t'. R asleep s' t' h) (λ status s' t'. R ready s' t' h) (λ refusal s' t'. R asleep s' t' h)
      (λ s' t' w. kept.wakes s' t' h w) (λ s' t' w. w) budget s t r)

  -- a resume of the command that is parked
  resumed_alike : (kind : Kind) (number : ℕ) (stage : Stage) (buffer : List ℕ) (budget : ℕ) (s t : M) (h : History) → has_room kind number buffer ≡ true →
      R (parked (command kind number) stage) s t h →
      CalledAlike R (resume buffer budget) h (collected m (command kind number) stage buffer budget s) (collected m (command kind number) stage buffer budget t)
  resumed_alike kind number stage buffer budget s t h room r =
      let c = collected_alike kind number stage buffer budget s t h room r in
      in_other_words (λ answer claim. ap (λ due. noted_for due answer h) (sym c.1))
      (λ answer claim. subst (λ due. AnswersLastPut due answer h.ledger) (sym c.1) claim.1) c.2

  -- A command that no test refuses begins on a ready session.
  begun : (session : Session) (kind : Kind) (number : ℕ) (words : List ℕ) (budget : ℕ) (s t : M) (h : History) →
      AllPass (command_checks session kind number words budget) → R session s t h →
      R ready s t h
  begun asleep kind number words budget s t h pass r = absurd (grind (arith, pass.0))
  begun ready kind number words budget s t h pass r = r
  begun (parked c stage) kind number words budget s t h pass r = absurd (grind (arith, pass.1.0))

  -- every call that is not refused first
  carried_alike : (session : Session) (call : Call) (s t : M) (h : History) → AllPass (checks session call) → R session s t h →
      CalledAlike R call h (carried m session call s) (carried m session call t)
  carried_alike asleep (wake budget) s t h pass r = woken_alike budget s t h r
  carried_alike ready (wake budget) s t h pass r = absurd (grind (arith, pass.0))
  carried_alike (parked c stage) (wake budget) s t h pass r = absurd (grind (arith, pass.0))
  carried_alike session (get number buffer budget) s t h pass r =
      issued_alike Get number [] buffer budget s t h pass.1.1.0 refl pass.1.1.1.0 (begun session Get number buffer budget s t h pass r)
  carried_alike session (set number words budget) s t h pass r =
      issued_alike Set number words [] budget s t h pass.1.1.0 (eqb-true (length words) (size_of number) pass.1.1.1.0) refl
      (begun session Set number words budget s t h pass r)
  carried_alike session (run number budget) s t h pass r =
      issued_alike Run number [] [] budget s t h pass.1.1.0 refl refl (begun session Run number [] budget s t h pass r)
  carried_alike asleep (resume buffer budget) s t h pass r = absurd (grind (arith, pass.0))
  carried_alike ready (resume buffer budget) s t h pass r = absurd (grind (arith, pass.0))
  carried_alike (parked c stage) (resume buffer budget) s t h pass r = resumed_alike c.kind c.number stage buffer budget s t h pass.1.0 r

  -- Every call, in every state of a session.
  pub outcome_alike : (session : Session) (call : Call) (s t : M) (h : History) → R session s t h →
      CalledAlike R call h (outcome m session call s) (outcome m session call t)
  outcome_alike session call s t h r = go (refused_first session call) refl
    where
      whole : Option Refusal → M → Served M
      whole found u = elim found [ Some refusal ↦ served (Err refusal) (buffer_of call) session u | None ↦ carried m session call u ]

      go : (found : Option Refusal) → refused_first session call ≡ found → CalledAlike R call h (whole found s) (whole found t)
      go None e = carried_alike session call s t h (all_pass (checks session call) e) r
      go (Some refusal) e =
          let silent = refusal_among Silent (checks session call) refusal (checks_silent session call) e in
          served_alike (answering (Err refusal) (buffer_of call)) session s t
          (subst (R session s t) (notes_nothing (speaks_for h.owing call) refusal (buffer_of call) h silent) r)
          (refused_says_nothing (speaks_for h.owing call) refusal (buffer_of call) h.ledger)

  -- Every call sequence.
  pub ran_alike : (calls : List Call) (session : Session) (s t : M) (h : History) → R session s t h → RanAlike R calls h (ran m calls session s) (ran m calls session t)
  unfolding ran
  ran_alike [] session s t h r =
      record { answers = []; session = session; left = s; right = t; one_is = refl; other_is = refl; related = r; last_put = tt }
  ran_alike (call ∷ calls) session s t h r =
      let c = outcome_alike session call s t h r in
      subst₂ (λ a b. RanAlike R (call ∷ calls) h (goes_on a) (goes_on b)) (sym c.one_is) (sym c.other_is)
      (call_first call calls h c.answer c.claim (ran_alike calls c.session c.left c.right (noted call c.answer h) c.related))
    where
      goes_on : Served M → Ran M
      goes_on o = with_answer (answer_of o) (ran m calls o.session o.after)
