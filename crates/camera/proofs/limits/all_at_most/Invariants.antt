use Rattle.std.proofs.Common.{◌≡◌, length}
use Rattle.camera.specs.Attributes.{all_at_most}
use Rattle.camera.proofs.limits.all_at_most.Given as goal

-- The words that are left decide.
abbrev pub invariant-loop-part : goal.invariant-loop-part
invariant-loop-part l = all_at_most l.greatest l.left ≡ all_at_most l.greatest l.words

abbrev pub decreases-loop-part : goal.decreases-loop-part
decreases-loop-part l = length l.left
