use Rattle.std.proofs.Common.{refl, lit<}
use Rattle.head.specs.Meaning.{zeros_below}
use Rattle.head.proofs.memory.Head.new.Goals as goal

pub invariant_of-inner : goal.invariant_of-inner
invariant_of-inner c = record {
  code_bits = lit< tt;
  count_bits = lit< tt;
  size_bits = lit< tt;
  data_full = (refl, zeros_below 16);
  block_full = (refl, zeros_below 512);
}
