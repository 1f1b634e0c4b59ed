use Rattle.head.proofs.Starting.{Begun}
use Rattle.head.proofs.inner.Table.start.Given as goal

abbrev pub invariant-loop-place : goal.invariant-loop-place
invariant-loop-place l = Begun l.record-items l.place
