use Rattle.std.proofs.Common.{arith}
use Rattle.head.proofs.Tables.{merged_words}
use Rattle.head.proofs.inner.Table.put_back.Goals as goal

pub returns : goal.returns
returns c =
    record { after = merged_words c.loop-place.record-items c.args.saved.now.records c.args.self.now.records (λ k h. c.loop-place.invariant.below k (omega arith)) }
