use Rattle.camera.proofs.Changes.{gets_change_none}
use Rattle.camera.proofs.laws.gets_change_none.Goals as goal

pub returns : goal.returns
returns c = record { stands = gets_change_none }
