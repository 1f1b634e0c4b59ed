use Rattle.calls.proofs.Answering.{progress}
use Rattle.calls.proofs.laws.commands_are_answered.Goals as goal

pub returns : goal.returns
returns c = record { stands = progress }
