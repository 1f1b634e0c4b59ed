use Rattle.link.proofs.Crossing.{accesses_cross}
use Rattle.link.proofs.laws.accesses_cross.Goals as goal

pub returns : goal.returns
returns c = record { stands = accesses_cross }
