-- The constant table is the one that the rule makes: antt computes all 256 entries, once.
use Rattle.std.proofs.Common.{arith}
use Rattle.std.proofs.lemmas.List.FromFn.{get_or-map-range_with_len}
use Rattle.crc.specs.Crc.{shift_bit, shift, table_entry}
use Rattle.crc.proofs.entry.Goals as goal

pub returns : goal.returns
unfolding shift_bit shift
returns c = record { value = get_or-map-range_with_len (table_entry 8) 0 256 c.from.result c.args.top 0 (omega arith) (omega arith) }
