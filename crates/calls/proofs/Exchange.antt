-- Two neighbouring sets of different attributes may change places.
use Rattle.std.proofs.Common.{◌≡◌, ℕ, suc, ◌+◌, Bool, false, eqb, List, [], ◌∷◌, ◌++◌, length, drop, Ok, sym, refl, ap, ◌∙◌, subst, subst₂, suc-add, zero-add, arith, take_at}
use lib.Seq.{drop-append-add}
use Rattle.std.specs.List.{slice_get}
use Rattle.camera.specs.State.{CameraState, Possible, Registers, Interpreter, with_registers}
use Rattle.calls.specs.Calls.{Session, asleep, ready, Call, set, Served}
use Rattle.calls.specs.Outcomes.{outcome}
use Rattle.calls.specs.Accesses.{camera}
use Rattle.calls.specs.Sequences.{Answer, answer_of, Ran, ran}
use Rattle.calls.specs.History.{History}
use Rattle.calls.specs.Laws.{CarriedOutAt, SameElsewhere, Exchange, sequence, at_start}
use Rattle.calls.proofs.Keeping.{Beside}
use Rattle.calls.proofs.UpAccesses.{up}
use Rattle.calls.proofs.ExchangeSets.{after_two, set_begins, two_done, sets_commute}

-- Two sequences that ran alike: the same answers and session, and cameras beside what is known.
pub record RanAlike (start : ℕ) (one other : Ran CameraState) : Type 0 where
  pub answers : one.answers ≡ other.answers
  pub session : one.session ≡ other.session
  pub history : History
  pub beside : Beside start one.session one.after other.after history

-- Calls on cameras that are twins run alike.
abbrev pub RunsAlike : Type 0
RunsAlike =
    (start : ℕ) (calls : List Call) (session : Session) (s t : CameraState) (h : History) → Beside start session s t h →
    RanAlike start (ran camera calls session s) (ran camera calls session t)

-- what ran, and then what runs from there
abbrev pub followed : Ran CameraState → (Session → CameraState → Ran CameraState) → Ran CameraState
followed r rest =
    record {
      answers = r.answers ++ (rest r.session r.after).answers;
      session = (rest r.session r.after).session;
      after = (rest r.session r.after).after;
    }

-- A sequence is its front and then its rest.
abbrev pub RunsInParts : Type 0
RunsInParts =
    (xs ys : List Call) (session : Session) (s : CameraState) →
    ran camera (xs ++ ys) session s ≡ followed (ran camera xs session s) (λ session t. ran camera ys session t)

-- A fresh session is beside its camera.
abbrev pub BeginsBeside : Type 0
BeginsBeside = (s : CameraState) → Possible s → s.hung ≡ false → Beside s.interpreter.count asleep s s (at_start s)

-- one answer to each call
ran_length : (calls : List Call) (session : Session) (s : CameraState) → length (ran camera calls session s).answers ≡ length calls
unfolding ran
ran_length [] session s = refl
ran_length (call ∷ calls) session s = ap suc (ran_length calls (outcome camera session call s).session (outcome camera session call s).after)

-- what stands behind the seam of two parts
nth_append : {A : Type 0} (xs ys : List A) (n : ℕ) → slice_get (xs ++ ys) (length xs + n) ≡ slice_get ys n
nth_append [] ys n = ap (slice_get ys) (zero-add n)
nth_append (x ∷ xs) ys n = ap (slice_get (x ∷ (xs ++ ys))) (suc-add (length xs) n) ∙ nth_append xs ys n

-- An idle camera, by its parts.
idle_is : (start : ℕ) (s t : CameraState) (h : History) → Beside start ready s t h → s ≡ up 0 s.acks s.registers s.interpreter
idle_is start s t h b =
    λ j. record {
      hung = b.unhung j;
      boot = b.in_mode.0 j;
      busy = b.in_mode.1 j;
      acks = s.acks;
      registers = s.registers;
      interpreter = s.interpreter;
    }

-- Two cameras that are beside themselves, and twins, are beside each other.
joined : (start : ℕ) (s t : CameraState) (h h' : History) → Beside start ready s s h → Beside start ready t t h' → with_registers t.registers s ≡ t →
    Beside start ready s t h
joined start s t h h' b b' twins =
    record {
      twins = twins;
      one_full = b.one_full;
      other_full = b'.one_full;
      full = b.full;
      unhung = b.unhung;
      in_mode = b.in_mode;
      counted = b.counted;
      goes = b.goes;
    }

-- two calls are carried out, one after the other
record CarriedTwo (a b : Call) (session : Session) (s : CameraState) : Type 0 where
  first : (outcome camera session a s).result ≡ Ok tt
  second : (after_two a b session s).result ≡ Ok tt

-- what runs after two calls
abbrev after_both : Call → Call → List Call → Session → CameraState → Ran CameraState
after_both a b rest session s = ran camera rest (after_two a b session s).session (after_two a b session s).after

module _ (alike : RunsAlike) where
  -- Two sets carried out: what is known goes on.
  beside_two : (start : ℕ) (a b : Call) (session : Session) (s : CameraState) (h : History) → Beside start session s s h →
      let o : Served CameraState = after_two a b session s in
      (h' : History) × Beside start o.session o.after o.after h'
  unfolding ran
  beside_two start a b session s h beside = let r = alike start (a ∷ b ∷ []) session s s h beside in (r.history, r.beside)

  -- What runs after two sets is alike in both orders: first from an idle camera by its parts, then from any.
  from_idle : (start : ℕ) (k l : ℕ) (words others : List ℕ) (budget allowed : ℕ) (rest : List Call) (acks : List Bool) (r : Registers) (i : Interpreter) (h : History) →
      eqb k l ≡ false → Beside start ready (up 0 acks r i) (up 0 acks r i) h →
      CarriedTwo (set k words budget) (set l others allowed) ready (up 0 acks r i) →
      CarriedTwo (set l others allowed) (set k words budget) ready (up 0 acks r i) →
      RanAlike start (after_both (set k words budget) (set l others allowed) rest ready (up 0 acks r i)) (after_both (set l others allowed) (set k words budget) rest ready (up 0 acks r i))
  from_idle start k l words others budget allowed rest acks r i h apart beside one other =
      let a : Call = set k words budget in
      let b : Call = set l others allowed in
      let s : CameraState = up 0 acks r i in
      let p : Served CameraState = after_two a b ready s in
      let q : Served CameraState = after_two b a ready s in
      let d = two_done k l words others budget allowed acks r i beside.one_full one.first one.second in
      let d' = two_done l k others words allowed budget acks r i beside.one_full other.first other.second in
      let twins = sets_commute k l words others acks i p q apart d d' in
      let hp = beside_two start a b ready s h beside in
      let hq = beside_two start b a ready s h beside in
      let bp = subst (λ session. Beside start session p.after p.after hp.0) d.session hp.1 in
      let bq = subst (λ session. Beside start session q.after q.after hq.0) d'.session hq.1 in
      let run = alike start rest ready p.after q.after hp.0 (joined start p.after q.after hp.0 hq.0 bp bq twins) in
      subst₂ (λ session other. RanAlike start (ran camera rest session p.after) (ran camera rest other q.after)) (sym d.session) (sym d'.session) run

  from_ready : (start : ℕ) (k l : ℕ) (words others : List ℕ) (budget allowed : ℕ) (rest : List Call) (session : Session) (s : CameraState) (h : History) →
      eqb k l ≡ false → session ≡ ready → Beside start session s s h →
      CarriedTwo (set k words budget) (set l others allowed) session s →
      CarriedTwo (set l others allowed) (set k words budget) session s →
      RanAlike start (after_both (set k words budget) (set l others allowed) rest session s) (after_both (set l others allowed) (set k words budget) rest session s)
  from_ready start k l words others budget allowed rest session s h apart is_ready beside =
      let idle = idle_is start s s h (subst (λ x. Beside start x s s h) is_ready beside) in
      subst₂ AlikeAfter (sym is_ready) (sym idle)
      (λ b one other. from_idle start k l words others budget allowed rest s.acks s.registers s.interpreter h apart b one other) beside
    where
      AlikeAfter : Session → CameraState → Type 0
      AlikeAfter σ t =
          Beside start σ t t h →
          CarriedTwo (set k words budget) (set l others allowed) σ t →
          CarriedTwo (set l others allowed) (set k words budget) σ t →
          RanAlike start (after_both (set k words budget) (set l others allowed) rest σ t) (after_both (set l others allowed) (set k words budget) rest σ t)

-- a sequence with two neighbouring calls, in its parts
abbrev parted : Ran CameraState → Call → Call → List Call → Ran CameraState
parted u a b rest =
    record {
      answers = u.answers
          ++ (answer_of (outcome camera u.session a u.after) ∷ answer_of (after_two a b u.session u.after) ∷ (after_both a b rest u.session u.after).answers);
      session = (after_both a b rest u.session u.after).session;
      after = (after_both a b rest u.session u.after).after;
    }

carried_two : (n : ℕ) (u : Ran CameraState) (a b : Call) (rest : List Call) → length u.answers ≡ n → CarriedOutAt n (parted u a b rest) →
    CarriedOutAt (n + 1) (parted u a b rest) → CarriedTwo a b u.session u.after
carried_two n u a b rest size here next =
    let one : Answer = answer_of (outcome camera u.session a u.after) in
    let two : Answer = answer_of (after_two a b u.session u.after) in
    let others : List Answer = (after_both a b rest u.session u.after).answers in
    let all : List Answer = u.answers ++ (one ∷ two ∷ others) in
    let at_one : n ≡ length u.answers + 0 = omega arith in
    let at_two : n + 1 ≡ length u.answers + 1 = omega arith in
    record {
      first = here one (ap (slice_get all) at_one ∙ nth_append u.answers (one ∷ two ∷ others) 0);
      second = next two (ap (slice_get all) at_two ∙ nth_append u.answers (one ∷ two ∷ others) 1);
    }

-- what stands behind two neighbouring answers
behind_two : (n : ℕ) (xs : List Answer) (x y : Answer) (ys : List Answer) → length xs ≡ n → drop (n + 2) (xs ++ (x ∷ y ∷ ys)) ≡ ys
behind_two n xs x y ys size = ap (λ m. drop (m + 2) (xs ++ (x ∷ y ∷ ys))) (sym size) ∙ drop-append-add xs (x ∷ y ∷ ys) 2

-- Twins have the same attributes, defaults and count.
same_interpreter : (start : ℕ) (session : Session) (s t : CameraState) (h : History) → Beside start session s t h → s.interpreter ≡ t.interpreter
same_interpreter start session s t h b = ap (λ u. u.interpreter) b.twins

elsewhere : (start n : ℕ) (u : Ran CameraState) (a b : Call) (rest : List Call) → length u.answers ≡ n →
    RanAlike start (after_both a b rest u.session u.after) (after_both b a rest u.session u.after) →
    SameElsewhere n (parted u a b rest) (parted u b a rest)
elsewhere start n u a b rest size run =
    let p : Ran CameraState = after_both a b rest u.session u.after in
    let q : Ran CameraState = after_both b a rest u.session u.after in
    let one = answer_of (outcome camera u.session a u.after) in
    let two = answer_of (after_two a b u.session u.after) in
    let other = answer_of (outcome camera u.session b u.after) in
    let last = answer_of (after_two b a u.session u.after) in
    let same = same_interpreter start p.session p.after q.after run.history run.beside in
    record {
      before = take_at u.answers (one ∷ two ∷ p.answers) n size ∙ sym (take_at u.answers (other ∷ last ∷ q.answers) n size);
      behind = behind_two n u.answers one two p.answers size ∙ run.answers ∙ sym (behind_two n u.answers other last q.answers size);
      session = run.session;
      attributes = λ k. ap (λ i. i.words k) same;
      defaults = ap (λ i. i.saved) same;
      count = ap (λ i. i.count) same;
    }

-- Exchange, for every sequence.
pub exchange : RunsAlike → RunsInParts → BeginsBeside → (s : CameraState) → Possible s → s.hung ≡ false → (calls : List Call) → Exchange s calls
exchange alike parts fresh s possible unhung calls front rest k l words others budget allowed is apart four =
    let a : Call = set k words budget in
    let b : Call = set l others allowed in
    let n : ℕ = length front in
    let start : ℕ = s.interpreter.count in
    let u : Ran CameraState = ran camera front asleep s in
    let size = ran_length front asleep s in
    let one_is = in_parts a b in
    let other_is = in_parts b a in
    let walked = alike start front asleep s s (at_start s) (fresh s possible unhung) in
    let one = carried_two n u a b rest size (subst (CarriedOutAt n) one_is four.one) (subst (CarriedOutAt (n + 1)) one_is four.next) in
    let other = carried_two n u b a rest size (subst (CarriedOutAt n) other_is four.other) (subst (CarriedOutAt (n + 1)) other_is four.last) in
    let is_ready = (set_begins u.session k words budget u.after one.first).is_ready in
    let run = from_ready alike start k l words others budget allowed rest u.session u.after walked.history apart is_ready walked.beside one other in
    subst₂ (SameElsewhere n) (sym (ap (λ x. sequence x s) is ∙ one_is)) (sym other_is) (elsewhere start n u a b rest size run)
  where
    in_parts : (x y : Call) → sequence (front ++ (x ∷ y ∷ rest)) s ≡ parted (ran camera front asleep s) x y rest
    in_parts x y = unfold ran in parts front (x ∷ y ∷ rest) asleep s
