use Rattle.calls.proofs.Spent.{still_busy_means_spent}
use Rattle.calls.proofs.laws.still_busy_means_spent.Goals as goal

pub returns : goal.returns
returns c = record { stands = still_busy_means_spent }
