use Rattle.std.proofs.Common.{sym, ◌∙◌, arith}
use Rattle.link.specs.Line.{carried}
use Rattle.link.proofs.Crossing.{only_requests, replied_in_front, served_there}
use Rattle.link.proofs.ends.serve.Goals as goal

pub returns-clause-outcome : goal.returns-clause-outcome
returns-clause-outcome g c =
    let b = c.args.buffer.now in
    let access = c.in_ok-access.access in
    let s = g.B.Bus.state c.args.bus.now in
    let chunk = rw c.in_ok-front.ensures.ok_part at c.first_chunk_mut.ensures.cases in
    replied_in_front access (carried access s) b c.in_ok-front.front.now c.reply_to.new.buffer c.reply_to.result (g.B.Bus.state c.reply_to.new.bus)
    chunk.same c.reply_to.ensures.outcome
    ∙ sym (served_there c.args.request.now b access s chunk.enough (sym c.in_ok-access.ensures.answer))

pub returns-in_err-access-clause-whole : goal.returns-in_err-access-clause-whole
returns-in_err-access-clause-whole g c = only_requests c.args.request.now (λ i. omega (arith, c.type_inv.request i))

pub returns-in_err-front-clause-whole : goal.returns-in_err-front-clause-whole
returns-in_err-front-clause-whole g c = only_requests c.args.request.now (λ i. omega (arith, c.type_inv.request i))

pub returns-clause-whole : goal.returns-clause-whole
returns-clause-whole g c = only_requests c.args.request.now (λ i. omega (arith, c.type_inv.request i))
