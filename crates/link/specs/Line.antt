-- Accesses, what they answer, and how a reply says it.
use Rattle.std.specs.Prelude.{ℕ, Ok, Err, Result}
use Rattle.camera.specs.declared.fault.Fault.{Fault}
use Rattle.camera.specs.declared.fault.Fault.TheVariants.{NotAcknowledged, NoRegister}
use Rattle.camera.specs.State.{CameraState}
use Rattle.camera.specs.Steps.{Outcome, ended, read_step, write_step}
use Rattle.packet.specs.declared.Access.{Access}
use Rattle.packet.specs.declared.Access.TheVariants.{Read as ReadAccess, Write as WriteAccess}
use Rattle.packet.specs.declared.Denial.{Denial}
use Rattle.packet.specs.declared.Denial.TheVariants.{NotAcknowledged as Unacknowledged, NoRegister as Missing}
use Rattle.packet.specs.declared.Function.{Function}
use Rattle.packet.specs.declared.Reply.{Reply}
use Rattle.packet.specs.declared.Reply.TheVariants.{Read as ReadReply, Write as WriteReply}
use Rattle.packet.specs.Layout.{denied}
use Rattle.link.specs.declared.answers.Answer.{Answer}
use Rattle.link.specs.declared.answers.Answer.TheVariants.{Word, Done}

-- an answer that is there, as the answer of an access
abbrev pub as_answer : {A : Type 0} → (A → Answer) → Result A Fault → Result Answer Fault
as_answer form (Ok value) = Ok (form value)
as_answer form (Err fault) = Err fault

-- What an access does to the state behind a bus: what a read or a write of the bus does.
abbrev pub carried : Access → CameraState → Outcome CameraState Answer Fault
carried (ReadAccess address) s = ended (as_answer Word (read_step s address).answer) (read_step s address).after
carried (WriteAccess address word) s = ended (as_answer (λ _. Done) (write_step s address word).answer) (write_step s address word).after

-- what a reply says of a fault: its kind, and not its address
abbrev pub denial_of : Fault → Denial
denial_of (NotAcknowledged address) = Unacknowledged
denial_of (NoRegister address) = Missing

-- the fault that a denial of an access to an address says
abbrev pub fault_at : ℕ → Denial → Fault
fault_at address Unacknowledged = NotAcknowledged address
fault_at address Missing = NoRegister address

-- the reply to a request with a function, for what its access answered
abbrev pub reply_for : Function → Result Answer Fault → Reply
reply_for function (Ok (Word word)) = ReadReply (Ok word)
reply_for function (Ok Done) = WriteReply (Ok tt)
reply_for function (Err fault) = denied function (denial_of fault)

-- what a reply answers to an access to an address
abbrev pub answer_in : ℕ → Reply → Result Answer Fault
answer_in address (ReadReply (Ok word)) = Ok (Word word)
answer_in address (ReadReply (Err denial)) = Err (fault_at address denial)
answer_in address (WriteReply (Ok done)) = Ok Done
answer_in address (WriteReply (Err denial)) = Err (fault_at address denial)
