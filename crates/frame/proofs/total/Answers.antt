use Rattle.std.proofs.Common.{rules, ◌≡◌, sum, arith}
use Rattle.std.proofs.iter.runs.Sources.{sums}
use Rattle.frame.proofs.Sums.{dim_sum}
use Rattle.frame.proofs.total.Goals as goal

pub sum-requires-clause-fits : goal.sum-requires-clause-fits
sum-requires-clause-fits c = search (rules, sums)

pub returns-clause-bound : goal.returns-clause-bound
returns-clause-bound c =
    let same : c.sum.result ≡ sum c.args.pixels.now = search rules in
    omega (arith, same, dim_sum c.args.pixels.now c.requires.size c.requires.dim)
