-- What the two ends of a line do with the bytes that come over it.
use Rattle.std.specs.Prelude.{◌≡◌, ℕ, ◌≤◌, cond, ◌⊎◌, List, length, Ok, Err, Result, nat_lt}
use Rattle.camera.specs.declared.fault.Fault.{Fault}
use Rattle.camera.specs.State.{CameraState}
use Rattle.camera.specs.Steps.{Outcome, ended}
use Rattle.packet.specs.declared.Access.{Access}
use Rattle.packet.specs.declared.PacketRefusal.{PacketRefusal}
use Rattle.packet.specs.declared.PacketRefusal.TheVariants.{Buffer}
use Rattle.packet.specs.declared.Reply.{Reply}
use Rattle.packet.specs.Layout.{address_of, function_of, over, reply_packet, request_packet, room}
use Rattle.packet.specs.Reading.{reply_of, request_of}
use Rattle.link.specs.declared.answers.Answer.{Answer}
use Rattle.link.specs.Line.{answer_in, carried, reply_for}

-- what stands at the far end: the buffer for the reply, and the camera behind the bus
pub record FarEnd : Type 0 where
  pub buffer : List ℕ
  pub camera : CameraState

abbrev pub far_end : List ℕ → CameraState → FarEnd
far_end buffer camera = record { buffer = buffer; camera = camera }

-- A reply laid over the front of the buffer; the answer is how many bytes it has.
abbrev pub replied : Reply → FarEnd → Outcome FarEnd ℕ PacketRefusal
replied reply end = ended (Ok (length (reply_packet reply))) (far_end (over (reply_packet reply) end.buffer) end.camera)

-- the reply to an access, once it has been carried out
abbrev pub reply_to : Access → Outcome CameraState Answer Fault → List ℕ → Outcome FarEnd ℕ PacketRefusal
reply_to access outcome buffer = replied (reply_for (function_of access) outcome.answer) (far_end buffer outcome.after)

-- What comes of a request at the far end. Bytes that are no request are refused, and then a buffer that is too small for
-- some packet; either refusal leaves the buffer and the camera as they were. Otherwise the access is carried out and
-- replied to.
abbrev pub served_as : Result Access PacketRefusal → FarEnd → Outcome FarEnd ℕ PacketRefusal
served_as (Err refusal) end = ended (Err refusal) end
served_as (Ok access) end =
    cond (nat_lt (length end.buffer) room) (ended (Err Buffer) end) (reply_to access (carried access end.camera) end.buffer)

abbrev pub served : List ℕ → FarEnd → Outcome FarEnd ℕ PacketRefusal
served request end = served_as (request_of request) end

-- bytes read as the reply to an access, by its function
unfoldable pub reply_read : Access → List ℕ → Result Reply PacketRefusal
reply_read access bytes = reply_of (function_of access) bytes

-- What bytes answer to an access at the near end, if they are a reply to its function.
abbrev pub answered_as : ℕ → Result Reply PacketRefusal → Result (Result Answer Fault) PacketRefusal
answered_as address (Ok reply) = Ok (answer_in address reply)
answered_as address (Err refusal) = Err refusal

abbrev pub answered : Access → List ℕ → Result (Result Answer Fault) PacketRefusal
answered access bytes = answered_as (address_of access) (reply_read access bytes)

-- Over the line an access is what it is on the bus below: its request makes the far end carry it out, which leaves the
-- camera as one such access does, and the reply answers at the near end what the access answered there, a fault with its
-- number and its address.
pub record Crosses (access : Access) (s : CameraState) (buffer : List ℕ) : Type 0 where
  pub out : served (request_packet access) (far_end buffer s) ≡ reply_to access (carried access s) buffer
  pub back : answered access (reply_packet (reply_for (function_of access) (carried access s).answer)) ≡ Ok (carried access s).answer

abbrev pub AccessesCross : Type 0
AccessesCross = (access : Access) (s : CameraState) (buffer : List ℕ) → room ≤ length buffer → Crosses access s buffer

-- Nothing but a whole packet has an effect. Bytes that are not the packet of a request are refused by the far end and
-- change nothing there; bytes that are not the packet of a reply are refused by the near end.
abbrev pub OnlyRequests : List ℕ → Type 0
OnlyRequests bytes =
    (end : FarEnd) → ((access : Access) × (bytes ≡ request_packet access)) ⊎ ((refusal : PacketRefusal) × (served bytes end ≡ ended (Err refusal) end))

abbrev pub OnlyReplies : Access → List ℕ → Type 0
OnlyReplies access bytes =
    ((reply : Reply) × (bytes ≡ reply_packet reply)) ⊎ ((refusal : PacketRefusal) × (answered access bytes ≡ Err refusal))
