-- Tests in order: they all pass if and only if the value is given, and what they refuse with is one of theirs.
use Rattle.std.proofs.Common.{◌≡◌, Bool, true, false, cond, List, [], ◌∷◌, Some, None, Ok, Err, Option, Result, refl, subst, arith}
use Rattle.checks.specs.Tests.{first_failing, judged, AllPass, AllRefuse}

pub judged_ok : {A E : Type 0} (tests : List (Bool × E)) (value : A) → first_failing tests ≡ None → judged tests value ≡ Ok value
judged_ok tests value h = rw (h, judged)

pub judged_back : {A E : Type 0} (tests : List (Bool × E)) (value value' : A) → judged tests value ≡ Ok value' → (first_failing tests ≡ None) × (value ≡ value')
judged_back {A} {E} tests value value' = go (first_failing tests)
  where
    go : (o : Option E) → (elim o as (λ _. Result A E) [ None ↦ Ok value | Some e ↦ Err e ]) ≡ Ok value' → (o ≡ None) × (value ≡ value')
    go None e = (refl, cc)
    go (Some x) e = grind arith

-- No test fails if all pass, and not otherwise.
pub none_fails : {E : Type 0} (tests : List (Bool × E)) → AllPass tests → first_failing tests ≡ None
none_fails [] h = refl
none_fails (test ∷ tests) h = rw h.0 (none_fails tests h.1)

first_passes : {E : Type 0} (b : Bool) (o : Option E) (refusal : E) → cond b o (Some refusal) ≡ None → (b ≡ true) × (o ≡ None)
first_passes true o refusal h = (refl, h)
first_passes false o refusal h = grind arith

pub all_pass : {E : Type 0} (tests : List (Bool × E)) → first_failing tests ≡ None → AllPass tests
all_pass [] h = tt
all_pass (test ∷ tests) h =
    let both = first_passes test.0 (first_failing tests) test.1 h in
    (both.0, all_pass tests both.1)

-- What holds of all that the tests refuse with holds of what they refuse with.
first_refuses : {E : Type 0} (P : E → Type 0) (b : Bool) (o : Option E) (refusal e : E) → P refusal → (o ≡ Some e → P e) → cond b o (Some refusal) ≡ Some e → P e
first_refuses P true o refusal e here later h = later h
first_refuses P false o refusal e here later h = let same : refusal ≡ e = cc in subst P same here

pub refusal_among : {E : Type 0} (P : E → Type 0) (tests : List (Bool × E)) (e : E) → AllRefuse P tests → first_failing tests ≡ Some e → P e
refusal_among P [] e all h = grind arith
refusal_among P (test ∷ tests) e all h =
    first_refuses P test.0 (first_failing tests) test.1 e all.0 (λ later. refusal_among P tests e all.1 later) h
