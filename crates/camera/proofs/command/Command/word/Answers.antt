use Rattle.camera.proofs.CommandWords.{word_short}
use Rattle.camera.proofs.command.Command.word.Goals as goal
use Rattle.std.proofs.Common.{refl, arith}
use Rattle.camera.specs.Commands.{module_of, protection}

pub overflow_add-result : goal.overflow_add-result
overflow_add-result c =
    record {
      fits = (word_short c.args.self.number c.in_ok-found.found c.args.self.kind c.type_bits.result (protection (module_of c.in_ok-found.found.base))
          c.in_ok-found.ensures.value c.type_bits.ensures.value refl).0;
    }

pub overflow_add-result-2 : goal.overflow_add-result-2
overflow_add-result-2 c =
    let short = word_short c.args.self.number c.in_ok-found.found c.args.self.kind c.type_bits.result c.protection_of.result
    c.in_ok-found.ensures.value c.type_bits.ensures.value c.protection_of.ensures.value in
    record { fits = omega (arith, short.1) }
