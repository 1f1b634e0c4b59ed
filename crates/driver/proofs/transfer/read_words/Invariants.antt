use Rattle.std.proofs.Common.{◌≡◌, take, drop}
use Rattle.calls.specs.Accesses.{words_read}
use Rattle.camera.specs.Banks.{is_data}
use Rattle.driver.proofs.WordTransfers.{in_front}
use Rattle.driver.proofs.transfer.read_words.Given as goal

-- What was read, in front of what is still to be read, gives what reading all gives.
abbrev pub invariant-loop-place : goal.invariant-loop-place
invariant-loop-place g l =
    in_front (take l.place l.buffer) (words_read (is_data l.bank) l.place (drop l.place l.buffer) (g.B.Bus.state l.bus))
    ≡ words_read (is_data l.bank) 0 l.initial.buffer (g.B.Bus.state l.initial.bus)
