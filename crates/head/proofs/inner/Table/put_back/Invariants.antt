use Rattle.head.proofs.Tables.{Turn}
use Rattle.head.proofs.inner.Table.put_back.Given as goal

-- Below the place the records are those after a restore, and from there on they are as they were.
abbrev pub invariant-loop-place : goal.invariant-loop-place
invariant-loop-place l = Turn l.record-items l.saved.records l.initial.record-items l.place
