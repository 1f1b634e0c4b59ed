use Rattle.std.proofs.Common.{◌≡◌, drop}
use Rattle.calls.specs.Accesses.{words_written}
use Rattle.camera.specs.Banks.{is_data}
use Rattle.driver.proofs.transfer.write_words.Given as goal

-- What is still to be written gives what writing all gives.
abbrev pub invariant-loop-place : goal.invariant-loop-place
invariant-loop-place g l =
    words_written (is_data l.bank) l.place (drop l.place l.words) (g.B.Bus.state l.bus)
    ≡ words_written (is_data l.bank) 0 l.words (g.B.Bus.state l.initial.bus)
