-- By computing.
use Rattle.std.proofs.Common.{refl}
use Rattle.crc.specs.Crc.{crc_from, feed, shift, shift_bit}
use Rattle.packet.specs.Layout.{packet, with_checksum}
use Rattle.packet.specs.Reading.{ends_in_checksum}
use Rattle.camera.specs.Attributes.{attribute_at}
use Rattle.camera.specs.Commands.{attribute_in}
use Rattle.camera.specs.Execution.{commanded, with_one}
use Rattle.camera.specs.Steps.{read_step, write_step}
use Rattle.calls.specs.Accesses.{register_written, words_written}
use Rattle.cases.proofs.Sequences.{small, colours_behind, colours_in_front, colours_put_after_a_save, colours_read_again}
use Rattle.cases.proofs.Starts.{starts}
use Rattle.cases.proofs.worked_cases_hold.Goals as goal

pub returns : goal.returns
unfolding register_written words_written with_one crc_from feed shift shift_bit packet with_checksum ends_in_checksum attribute_at attribute_in commanded read_step write_step
returns c =
    record {
      hold =
          record {
            cases = refl;
            sequences =
                record {
                  starts = starts;
                  small = small;
                  colours_behind = colours_behind;
                  colours_in_front = colours_in_front;
                  colours_put_after_a_save = colours_put_after_a_save;
                  colours_read_again = colours_read_again;
                };
          };
    }
