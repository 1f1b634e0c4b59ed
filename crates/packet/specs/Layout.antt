-- What a packet looks like, and which packets stand for a request and for a reply.
use Rattle.std.specs.Prelude.{ℕ, ◌+◌, ◌*◌, ◌/◌, ◌%◌, cond, List, [], ◌∷◌, ◌++◌, length, take, drop, Ok, Err, Result, nat_lt}
use Rattle.crc.specs.Crc.{crc_of, crc_bytes}
use Rattle.packet.specs.declared.access.Access.{Access}
use Rattle.packet.specs.declared.access.Access.TheVariants.{Read as ReadAccess, Write as WriteAccess}
use Rattle.packet.specs.declared.access.Denial.{Denial}
use Rattle.packet.specs.declared.access.Denial.TheVariants.{NotAcknowledged, NoRegister}
use Rattle.packet.specs.declared.access.Function.{Function}
use Rattle.packet.specs.declared.access.Function.TheVariants.{Read, Write}
use Rattle.packet.specs.declared.refusal.PacketRefusal.{PacketRefusal}
use Rattle.packet.specs.declared.refusal.PacketRefusal.TheVariants.{Length, Start, FrontChecksum, Checksum, Reserved, WrongFunction, Fields, Buffer}
use Rattle.packet.specs.declared.access.Reply.{Reply}
use Rattle.packet.specs.declared.access.Reply.TheVariants.{Read as ReadReply, Write as WriteReply}

-- the process code, with which every packet starts
abbrev pub process_code : ℕ
process_code = 0x6E

-- the code of a function
abbrev pub function_code : Function → ℕ
function_code Read = 0x10
function_code Write = 0x11

-- the status of a reply to an access that was not carried out
abbrev pub denial_status : Denial → ℕ
denial_status NotAcknowledged = 1
denial_status NoRegister = 2

-- the function of a request for an access
abbrev pub function_of : Access → Function
function_of (ReadAccess address) = Read
function_of (WriteAccess address word) = Write

-- the address of an access
abbrev pub address_of : Access → ℕ
address_of (ReadAccess address) = address
address_of (WriteAccess address word) = address

-- a denial as the reply to a function
abbrev pub denied : Function → Denial → Reply
denied Read denial = ReadReply (Err denial)
denied Write denial = WriteReply (Err denial)

-- a number of sixteen bits as it is sent: two bytes, the high one first
abbrev pub be_bytes : ℕ → List ℕ
be_bytes word = word / 256 ∷ word % 256 ∷ []

-- two bytes, the high one first, as a number
abbrev pub be_word : ℕ → ℕ → ℕ
be_word high low = high * 256 + low

-- What a packet says: a status, a function's code, and arguments.
pub record Content : Type 0 where
  pub status : ℕ
  pub function : ℕ
  pub arguments : List ℕ

abbrev pub content : ℕ → ℕ → List ℕ → Content
content status function arguments = record { status = status; function = function; arguments = arguments }

-- the six bytes in front: process code, status, a reserved 0, function, byte count
abbrev pub front_bytes : ℕ → ℕ → ℕ → List ℕ
front_bytes status function count = process_code ∷ status ∷ 0 ∷ function ∷ be_bytes count

-- those of a content
abbrev pub front : Content → List ℕ
front c = front_bytes c.status c.function (length c.arguments)

-- bytes with their checksum behind them
unfoldable pub with_checksum : List ℕ → List ℕ
with_checksum bytes = bytes ++ crc_bytes (crc_of bytes)

-- A packet: the front with its checksum, the arguments, and the checksum of everything before it.
unfoldable pub packet : Content → List ℕ
packet c = with_checksum (with_checksum (front c) ++ c.arguments)

-- A request has status 0. It carries the address, and for a write the word behind it.
abbrev pub request_content : Access → Content
request_content (ReadAccess address) = content 0 (function_code Read) (be_bytes address)
request_content (WriteAccess address word) = content 0 (function_code Write) (be_bytes address ++ be_bytes word)

-- the packet that asks for an access
abbrev pub request_packet : Access → List ℕ
request_packet access = packet (request_content access)

-- the function that a reply repeats
abbrev pub reply_function : Reply → Function
reply_function (ReadReply answer) = Read
reply_function (WriteReply answer) = Write

-- A reply to an access that was carried out has status 0 and carries a read's word; any other carries nothing.
abbrev pub answer_content : {A : Type 0} → Function → (A → List ℕ) → Result A Denial → Content
answer_content function carried (Ok value) = content 0 (function_code function) (carried value)
answer_content function carried (Err denial) = content (denial_status denial) (function_code function) []

-- what a reply says
abbrev pub reply_content : Reply → Content
reply_content (ReadReply answer) = answer_content Read be_bytes answer
reply_content (WriteReply answer) = answer_content Write (λ _. []) answer

-- the packet of a reply
abbrev pub reply_packet : Reply → List ℕ
reply_packet reply = packet (reply_content reply)

-- the number of each refusal
abbrev pub refusal_number : PacketRefusal → ℕ
refusal_number Length = 31
refusal_number Start = 32
refusal_number FrontChecksum = 33
refusal_number Checksum = 34
refusal_number Reserved = 35
refusal_number WrongFunction = 36
refusal_number Fields = 37
refusal_number Buffer = 38

-- A buffer serves for every packet if it has room for the largest, a write request.
abbrev pub room : ℕ
room = 14

-- what writing a packet into a buffer answers: how many bytes the packet has
abbrev pub written : List ℕ → List ℕ → Result ℕ PacketRefusal
written bytes buffer = cond (nat_lt (length buffer) room) (Err Buffer) (Ok (length bytes))

-- bytes laid into a buffer at a place, with the rest of it untouched
abbrev pub laid : List ℕ → ℕ → List ℕ → List ℕ
laid buffer place bytes = take place buffer ++ (bytes ++ drop (place + length bytes) buffer)

-- the bytes laid over the front of a buffer, with the rest of it untouched
abbrev pub over : List ℕ → List ℕ → List ℕ
over bytes buffer = bytes ++ drop (length bytes) buffer

-- the buffer after writing a packet into it
abbrev pub buffer_after : List ℕ → List ℕ → List ℕ
buffer_after bytes buffer = cond (nat_lt (length buffer) room) buffer (over bytes buffer)
