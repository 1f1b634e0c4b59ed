-- Tests in order, each with what it refuses with: the first that fails decides.
use Rattle.std.specs.Prelude.{◌≡◌, Bool, true, false, cond, List, [], ◌∷◌, Some, None, Ok, Err, Option, Result}

-- both tests hold
abbrev pub both : Bool → Bool → Bool
both a b = cond a b false

-- what the first failing test refuses with
abbrev pub first_failing : {E : Type 0} → List (Bool × E) → Option E
first_failing [] = None
first_failing (test ∷ tests) = cond test.0 (first_failing tests) (Some test.1)

-- the first failing test refuses; what passes them all has this value
abbrev pub judged : {A E : Type 0} → List (Bool × E) → A → Result A E
judged tests value = elim (first_failing tests) [ None ↦ Ok value | Some refusal ↦ Err refusal ]

-- every test passes
abbrev pub AllPass : {E : Type 0} → List (Bool × E) → Type 0
AllPass [] = Unit {0}
AllPass (test ∷ tests) = (test.0 ≡ true) × AllPass tests

-- something holds of whatever a test refuses with
abbrev pub AllRefuse : {E : Type 0} → (E → Type 0) → List (Bool × E) → Type 0
AllRefuse P [] = Unit {0}
AllRefuse P (test ∷ tests) = P test.1 × AllRefuse P tests
