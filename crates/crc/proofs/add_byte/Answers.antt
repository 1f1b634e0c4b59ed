use Rattle.std.proofs.Common.{◌≡◌, ◌*◌, ◌%◌, sym, ◌∙◌, ap₂, arith}
use lib.Bits.{bit_xor}
use Rattle.crc.proofs.Steps.{feed_table}
use Rattle.crc.proofs.add_byte.Goals as goal

pub returns : goal.returns
returns c =
    let moved : c.args.register * 256 % 65536 ≡ c.args.register % 256 * 256 = omega arith in
    record { value = ap₂ bit_xor moved c.entry.ensures.value ∙ sym (feed_table 8 c.args.register c.args.byte (omega arith)) }
