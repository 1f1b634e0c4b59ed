use Rattle.packet.proofs.Standing.{reply_stands}
use Rattle.packet.proofs.pack_reply.Goals as goal

pub returns-in-Read-Ok-clause-stands : goal.returns-in-Read-Ok-clause-stands
returns-in-Read-Ok-clause-stands c = reply_stands c.args.reply

pub returns-in-Read-Err-clause-stands : goal.returns-in-Read-Err-clause-stands
returns-in-Read-Err-clause-stands c = reply_stands c.args.reply

pub returns-in-Write-Ok-clause-stands : goal.returns-in-Write-Ok-clause-stands
returns-in-Write-Ok-clause-stands c = reply_stands c.args.reply

pub returns-in-Write-Err-clause-stands : goal.returns-in-Write-Err-clause-stands
returns-in-Write-Err-clause-stands c = reply_stands c.args.reply
