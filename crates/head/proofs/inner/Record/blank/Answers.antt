use Rattle.std.proofs.Common.{refl}
use Rattle.head.specs.Meaning.{zeros_below}
use Rattle.head.proofs.inner.Record.blank.Goals as goal

pub invariant_of-result : goal.invariant_of-result
invariant_of-result c = record { full = (refl, zeros_below 512) }
