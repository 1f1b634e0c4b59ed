use Rattle.calls.proofs.Sequencing.{sequences_split}
use Rattle.calls.proofs.laws.sequences_split.Goals as goal

pub returns : goal.returns
returns c = record { stands = sequences_split }
