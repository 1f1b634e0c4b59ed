-- The first step of a command, taken singly: what is tested before it, and the command up to its command word.
use Rattle.std.specs.Prelude.{ℕ, Bool, List, [], ◌∷◌, length, Some, None, Ok, Err, ◌==◌}
use Rattle.checks.specs.Tests.{first_failing}
use Rattle.camera.specs.declared.attribute.Kind.{Kind}
use Rattle.camera.specs.declared.attribute.Kind.TheVariants.{Get, Set, Run}
use Rattle.camera.specs.declared.command.Command.{Command}
use Rattle.camera.specs.Attributes.{size_of, offers}
use Rattle.camera.specs.Steps.{Outcome, ended}
use Rattle.calls.specs.declared.refusal.Refusal.{Refusal}
use Rattle.calls.specs.declared.refusal.Refusal.TheVariants.{NotOffered, WrongSize, Bus}
use Rattle.calls.specs.Outcomes.{Machine, by_answer}

-- how many words are sent with a command: a set sends the attribute's
abbrev pub words_sent : Kind → ℕ → ℕ
words_sent Get number = 0
words_sent Set number = size_of number
words_sent Run number = 0

-- what is tested before a command begins
abbrev pub begin_checks : Command → List ℕ → List (Bool × Refusal)
begin_checks c words =
    (offers c.kind c.number, NotOffered) ∷ ((length words == words_sent c.kind c.number), WrongSize) ∷ []

-- the command is sent; a fault on the way refuses it
abbrev pub sent_off : {M : Type 0} → Machine M → Command → List ℕ → M → Outcome M (Unit {0}) Refusal
sent_off m c words s = by_answer (m.send c words s) (λ _ t. ended (Ok tt) t) (λ fault t. ended (Err (Bus fault)) t)

-- Beginning a command: tested, and sent.
abbrev pub begun : {M : Type 0} → Machine M → Command → List ℕ → M → Outcome M (Unit {0}) Refusal
begun m c words s =
    elim (first_failing (begin_checks c words)) [ Some refusal ↦ ended (Err refusal) s | None ↦ sent_off m c words s ]
