use Rattle.std.proofs.Common.{◌≡◌, drop}
use Rattle.checks.specs.Tests.{both}
use Rattle.camera.specs.Attributes.{all_at_most}
use Rattle.camera.proofs.limits.none_above.Given as goal

-- The words before this one and those that are left decide.
abbrev pub invariant-loop-word : goal.invariant-loop-word
invariant-loop-word l = both l.none (all_at_most l.greatest (drop l.word-index l.words)) ≡ all_at_most l.greatest l.words
