use Rattle.std.proofs.Common.{arith}
use Rattle.link.proofs.Crossing.{only_replies}
use Rattle.link.proofs.ends.answer_to.Goals as goal

pub returns-in_err-reply-clause-whole : goal.returns-in_err-reply-clause-whole
returns-in_err-reply-clause-whole c = only_replies c.args.access c.args.bytes.now (λ i. omega (arith, c.type_inv.bytes i))

pub returns-clause-whole : goal.returns-clause-whole
returns-clause-whole c = only_replies c.args.access c.args.bytes.now (λ i. omega (arith, c.type_inv.bytes i))
