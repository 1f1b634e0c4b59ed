-- Call sequences: any list of calls, one after the other, on one session and what stands behind its bus.
use Rattle.std.specs.Prelude.{ℕ, List, [], ◌∷◌, Result}
use Rattle.calls.specs.declared.refusal.Refusal.{Refusal}
use Rattle.calls.specs.Calls.{Session, Call, Served}
use Rattle.calls.specs.Outcomes.{Machine, outcome}

-- what a caller sees of a call: carried out or refused, and its buffer afterwards
pub record Answer : Type 0 where
  pub result : Result (Unit {0}) Refusal
  pub buffer : List ℕ

abbrev pub answer_of : {M : Type 0} → Served M → Answer
answer_of o = record { result = o.result; buffer = o.buffer }

-- what a call sequence answers, and what it leaves
pub record Ran (M : Type 0) : Type 0 where
  pub answers : List Answer
  pub session : Session
  pub after : M

-- a call and its answer in front of what ran after it
abbrev pub with_answer : {M : Type 0} → Answer → Ran M → Ran M
with_answer answer r = record { answers = answer ∷ r.answers; session = r.session; after = r.after }

unfoldable pub ran : {M : Type 0} → Machine M → List Call → Session → M → Ran M
ran m [] session s = record { answers = []; session = session; after = s }
ran m (call ∷ calls) session s =
    with_answer (answer_of (outcome m session call s))
    (ran m calls (outcome m session call s).session (outcome m session call s).after)
