use Rattle.camera.proofs.Faults.{faults_keep_addresses}
use Rattle.camera.proofs.laws.faults_keep_addresses.Goals as goal

pub returns : goal.returns
returns c = record { stands = faults_keep_addresses }
