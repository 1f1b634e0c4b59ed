use Rattle.camera.proofs.Changes.{sets_change_one}
use Rattle.camera.proofs.laws.sets_change_one.Goals as goal

pub returns : goal.returns
returns c = record { stands = sets_change_one }
