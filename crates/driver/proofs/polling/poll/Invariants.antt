use Rattle.std.proofs.Common.{◌≡◌, ◌-◌}
use Rattle.calls.specs.Accesses.{camera}
use Rattle.calls.specs.Outcomes.{polled}
use Rattle.driver.specs.Driving.{passes}
use Rattle.driver.proofs.polling.poll.Given as goal

-- What is still to be polled gives what the whole polling gives.
abbrev pub invariant-loop-polls : goal.invariant-loop-polls
invariant-loop-polls g l =
    polled camera (passes l.awaited) (l.budget - l._polls) (g.B.Bus.state l.bus)
    ≡ polled camera (passes l.awaited) l.budget (g.B.Bus.state l.initial.bus)
