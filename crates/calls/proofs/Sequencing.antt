-- Call sequences in parts: one run and then another, and the answers of the first calls.
use Rattle.std.proofs.Common.{◌≡◌, ℕ, zero, suc, false, List, [], ◌∷◌, ◌++◌, length, take, sym, refl, ap, subst}
use Rattle.camera.specs.State.{CameraState, Possible}
use Rattle.calls.specs.Calls.{Session, asleep, Call}
use Rattle.calls.specs.Outcomes.{Machine, outcome}
use Rattle.calls.specs.Accesses.{camera}
use Rattle.calls.specs.Sequences.{answer_of, ran, with_answer}
use Rattle.calls.specs.Laws.{sequence, at_start, UnhungAndCounted, LastPut}
use Rattle.calls.specs.ShortLaws.{then_ran, ran_on, SplitSequences}
use Rattle.calls.proofs.Following.{Kept}
use Rattle.calls.proofs.Keeping.{Beside}
use Rattle.calls.proofs.Walk.{RanAlike, ran_alike, still_related}

-- A sequence is run at once or in two parts.
pub ran_append : {M : Type 0} (m : Machine M) (front rest : List Call) (session : Session) (s : M) →
    ran m (front ++ rest) session s ≡ then_ran (ran m front session s) (ran_on m rest (ran m front session s))
unfolding ran
ran_append m [] rest session s = refl
ran_append m (call ∷ front) rest session s =
    let o = outcome m session call s in
    ap (with_answer (answer_of o)) (ran_append m front rest o.session o.after)

pub sequences_split : SplitSequences
sequences_split front rest session s = ran_append camera front rest session s

-- Every call has one answer.
pub answers_length : {M : Type 0} (m : Machine M) (calls : List Call) (session : Session) (s : M) → length (ran m calls session s).answers ≡ length calls
unfolding ran
answers_length m [] session s = refl
answers_length m (call ∷ calls) session s = let o = outcome m session call s in ap suc (answers_length m calls o.session o.after)

-- The first answers are the answers to the first calls.
pub answers_take : {M : Type 0} (m : Machine M) (n : ℕ) (calls : List Call) (session : Session) (s : M) →
    take n (ran m calls session s).answers ≡ (ran m (take n calls) session s).answers
unfolding ran
answers_take m zero calls session s = refl
answers_take m (suc n) [] session s = refl
answers_take m (suc n) (call ∷ calls) session s =
    let o = outcome m session call s in
    ap (◌∷◌ (answer_of o)) (answers_take m n calls o.session o.after)

-- Unhung and counted, and last put, from what the camera keeps and how it begins.
module _ (kept : (start : ℕ) → Kept camera (Beside start))
    (begins : (s : CameraState) → Possible s → s.hung ≡ false → Beside s.interpreter.count asleep s s (at_start s)) where
  followed : (s : CameraState) → Possible s → s.hung ≡ false → (calls : List Call) →
      RanAlike (Beside s.interpreter.count) calls (at_start s) (sequence calls s) (sequence calls s)
  followed s possible unhung calls = ran_alike (kept s.interpreter.count) calls asleep s s (at_start s) (begins s possible unhung)

  counted : (s : CameraState) → Possible s → s.hung ≡ false → (calls : List Call) →
      UnhungAndCounted s (sequence calls s).after calls (sequence calls s).answers
  counted s possible unhung calls =
      let end = still_related (followed s possible unhung calls) in
      record { unhung = end.unhung; counted = end.counted }

  pub unhung_and_counted : (s : CameraState) → Possible s → s.hung ≡ false → (calls : List Call) (n : ℕ) →
      UnhungAndCounted s (sequence (take n calls) s).after (take n calls) (take n (sequence calls s).answers)
  unhung_and_counted s possible unhung calls n =
      rw (answers_take camera n calls asleep s) (counted s possible unhung (take n calls))

  pub last_put : (s : CameraState) → Possible s → s.hung ≡ false → (calls : List Call) → LastPut calls (sequence calls s).answers (at_start s)
  last_put s possible unhung calls =
      let f = followed s possible unhung calls in
      subst (λ r. LastPut calls r.answers (at_start s)) (sym f.one_is) f.last_put
