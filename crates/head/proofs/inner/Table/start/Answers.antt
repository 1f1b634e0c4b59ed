use Rattle.std.proofs.Common.{ap, ◌∙◌, ap₂, take, arith}
use Rattle.camera.specs.Attributes.{attribute_at, size_of}
use Rattle.camera.specs.Registers.{over}
use Rattle.head.specs.Meaning.{words_in}
use Rattle.head.proofs.Starting.{new_words, started_words}
use Rattle.head.proofs.inner.Table.start.Goals as goal

pub returns : goal.returns
unfolding attribute_at
returns c =
    let started = started_words c.loop-place.record-items (λ k h. c.loop-place.invariant.below k (omega arith)) in
    record {
      value = new_words c.args.serial c.args.fpa (take (size_of 3) c.with.result.words) (take (size_of 2) c.with-2.result.words) (words_in c.loop-place.record-items)
          (words_in c.set_record.new.self.records) (words_in c.set_record-2.new.self.records) c.with.ensures.front
          (ap (take 4) (c.with-2.ensures.value ∙ ap₂ over c.put.ensures.after c.blank-2.ensures.value)) started c.set_record.ensures.after
          c.set_record-2.ensures.after;
    }
