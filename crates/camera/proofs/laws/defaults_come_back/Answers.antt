use Rattle.camera.proofs.Changes.{defaults_come_back}
use Rattle.camera.proofs.laws.defaults_come_back.Goals as goal

pub returns : goal.returns
returns c = record { stands = defaults_come_back }
