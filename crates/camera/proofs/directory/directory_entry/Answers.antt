-- The constant directory is the one that the rule makes: antt computes all 1,024 entries, once.
use Rattle.std.proofs.Common.{arith}
use Rattle.std.proofs.lemmas.List.FromFn.{get_or-map-range_with_len}
use Rattle.camera.specs.Commands.{attribute_in}
use Rattle.camera.proofs.directory.directory_entry.Goals as goal

pub returns : goal.returns
unfolding attribute_in
returns c = record { value = get_or-map-range_with_len attribute_in 0 1024 c.from.result c.args.place 0 (omega arith) (omega arith) }
