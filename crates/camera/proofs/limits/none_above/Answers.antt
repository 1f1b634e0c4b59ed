use Rattle.std.proofs.Common.{◌≡◌, true, false, Bool, refl, sym, ap, ◌∙◌, arith}
use Rattle.std.proofs.lemmas.List.{at_drop_all}
use Rattle.checks.specs.Tests.{both}
use Rattle.camera.specs.Attributes.{all_at_most}
use Rattle.camera.proofs.Dim.{one_on}
use Rattle.camera.proofs.limits.none_above.Goals as goal

pub loop-word-preserved : goal.loop-word-preserved
loop-word-preserved c = sym (one_on c.args.greatest c.loop-word.word-index c.args.words.now c.loop-word.none (omega arith)) ∙ c.loop-word.invariant

pub returns : goal.returns
unfolding all_at_most
returns c =
    record {
      value = with_true c.loop-word.none ∙ ap (both c.loop-word.none) (sym (at_drop_all (all_at_most c.args.greatest) c.args.words.now c.loop-word.word-index (omega arith)))
          ∙ c.loop-word.invariant;
    }
  where
    with_true : (b : Bool) → b ≡ both b true
    with_true true = refl
    with_true false = refl
