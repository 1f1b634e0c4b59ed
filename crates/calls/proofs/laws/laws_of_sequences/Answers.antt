use Rattle.calls.proofs.AllLaws.{laws_of_sequences}
use Rattle.calls.proofs.laws.laws_of_sequences.Goals as goal

pub returns : goal.returns
returns c = record { stands = laws_of_sequences }
