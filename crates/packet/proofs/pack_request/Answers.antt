use Rattle.packet.proofs.Standing.{request_stands}
use Rattle.packet.proofs.pack_request.Goals as goal

pub returns-in-Read-clause-stands : goal.returns-in-Read-clause-stands
returns-in-Read-clause-stands c = request_stands c.args.access

pub returns-in-Write-clause-stands : goal.returns-in-Write-clause-stands
returns-in-Write-clause-stands c = request_stands c.args.access
