use Rattle.calls.proofs.Faults.{eight_means_unacknowledged}
use Rattle.calls.proofs.laws.eights_are_unacknowledged.Goals as goal

pub returns : goal.returns
returns c = record { stands = eight_means_unacknowledged }
