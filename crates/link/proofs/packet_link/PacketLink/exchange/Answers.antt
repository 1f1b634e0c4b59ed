-- The request stands at the front of its buffer, so the far end carries out the access, and its reply comes back.
use Rattle.std.proofs.Common.{◌≡◌, is_ok, sym, ap, ◌∙◌, ap₂, arith}
use Rattle.camera.specs.Steps.{ended}
use Rattle.link.specs.Line.{carried}
use Rattle.link.proofs.Crossing.{came_back}
use Rattle.link.proofs.packet_link.PacketLink.exchange.Goals as goal

pub unwrap-requires : goal.unwrap-requires
unwrap-requires g c =
    let back = came_back c.args.access (g.B.Bus.state c.self.inside.below) _ _ c.ask.ensures.answer c.unwrap-asked.ensures c.ask.ensures.after
    c.serve.ensures.outcome c.unwrap-replied.ensures (omega arith) in
    ap is_ok (c.answer_to.ensures.value ∙ back.answer)

pub returns : goal.returns
returns g c =
    let back = came_back c.args.access (g.B.Bus.state c.self.inside.below) _ _ c.ask.ensures.answer c.unwrap-asked.ensures c.ask.ensures.after
    c.serve.ensures.outcome c.unwrap-replied.ensures (omega arith) in
    let same = sym c.unwrap.ensures ∙ c.answer_to.ensures.value ∙ back.answer in
    let answer : c.unwrap.result ≡ (carried c.args.access (g.B.Bus.state c.self.inside.below)).answer = cc in
    record { outcome = ap₂ ended answer back.left ∙ ap (λ bus. carried c.args.access (g.B.Bus.state bus)) c.self.view_is }
