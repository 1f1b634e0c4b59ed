use Rattle.std.proofs.Common.{rules, ◌≡◌, true, false, take, drop, sym, ap, ◌∙◌}
use Rattle.checks.specs.Tests.{both}
use Rattle.camera.specs.Attributes.{all_at_most}
use Rattle.camera.proofs.Dim.{first_and_rest}
use Rattle.camera.proofs.limits.all_at_most.Goals as goal

pub returns-then-not-none_above : goal.returns-then-not-none_above
returns-then-not-none_above c =
    let g = c.args.greatest in
    let is_part : c.in-Some.part.now ≡ take 64 c.loop-part.left.now = search rules in
    let is_rest : c.in-Some.rest.now ≡ drop 64 c.loop-part.left.now = search rules in
    let none : all_at_most g c.in-Some.part.now ≡ false = search rules in
    record {
      value = sym (first_and_rest g 64 c.loop-part.left.now c.in-Some.part.now c.in-Some.rest.now is_part is_rest ∙ ap (λ b. both b (all_at_most g c.in-Some.rest.now)) none)
          ∙ c.loop-part.invariant;
    }

pub loop-part-preserved : goal.loop-part-preserved
loop-part-preserved c =
    let g = c.args.greatest in
    let is_part : c.in-Some.part.now ≡ take 64 c.loop-part.left.now = search rules in
    let is_rest : c.in-Some.rest.now ≡ drop 64 c.loop-part.left.now = search rules in
    let all : all_at_most g c.in-Some.part.now ≡ true = search rules in
    sym (first_and_rest g 64 c.loop-part.left.now c.in-Some.part.now c.in-Some.rest.now is_part is_rest ∙ ap (λ b. both b (all_at_most g c.in-Some.rest.now)) all)
    ∙ c.loop-part.invariant
