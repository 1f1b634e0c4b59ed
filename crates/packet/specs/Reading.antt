-- How a byte string is read as a request or as the reply to a request: the tests in their order, the first failing one
-- giving the refusal, and the value of a string that passes them all.
use Rattle.std.specs.Prelude.{◌≡◌, ℕ, ◌+◌, ◌-◌, Bool, true, false, cond, List, [], ◌∷◌, length, take, drop, Ok, Err, Result, MatchResult, ◌==◌, nat_le, slice_index}
use Rattle.checks.specs.Tests.{both, judged}
use Rattle.crc.specs.Crc.{crc_of, Bytes}
use Rattle.packet.specs.declared.access.Access.{Access}
use Rattle.packet.specs.declared.access.Access.TheVariants.{Read as ReadAccess, Write as WriteAccess}
use Rattle.packet.specs.declared.access.Denial.{Denial}
use Rattle.packet.specs.declared.access.Denial.TheVariants.{NotAcknowledged, NoRegister}
use Rattle.packet.specs.declared.access.Function.{Function}
use Rattle.packet.specs.declared.access.Function.TheVariants.{Read, Write}
use Rattle.packet.specs.declared.refusal.PacketRefusal.{PacketRefusal}
use Rattle.packet.specs.declared.refusal.PacketRefusal.TheVariants.{Length, Start, FrontChecksum, Checksum, Reserved, WrongFunction, Fields}
use Rattle.packet.specs.declared.access.Reply.{Reply}
use Rattle.packet.specs.declared.access.Reply.TheVariants.{Read as ReadReply, Write as WriteReply}
use Rattle.packet.specs.Layout.{Content, process_code, denial_status, function_code, be_word, request_packet, reply_packet, reply_function}

-- the byte at a place
abbrev pub byte_at : List ℕ → ℕ → ℕ
byte_at p i = slice_index p i

-- the number of sixteen bits at a place, high byte first
abbrev pub word_at : List ℕ → ℕ → ℕ
word_at p i = be_word (byte_at p i) (byte_at p (i + 1))

-- The last two bytes are the checksum of those before them.
unfoldable pub ends_in_checksum : List ℕ → Bool
ends_in_checksum p = word_at p (length p - 2) == crc_of (take (length p - 2) p)

-- what every packet has to meet, in this order
abbrev pub packet_tests : List ℕ → List (Bool × PacketRefusal)
packet_tests p =
    (nat_le 10 (length p), Length)
    ∷ ((byte_at p 0 == process_code), Start)
    ∷ (ends_in_checksum (take 8 p), FrontChecksum)
    ∷ ((length p == 10 + word_at p 4), Length)
    ∷ (ends_in_checksum p, Checksum)
    ∷ ((byte_at p 2 == 0), Reserved)
    ∷ []

-- what a byte string says, if it is a packet
abbrev pub content_in : List ℕ → Content
content_in p = record { status = byte_at p 1; function = byte_at p 3; arguments = take (length p - 10) (drop 8 p) }

-- a byte string read as a packet
abbrev pub content_of : List ℕ → Result Content PacketRefusal
content_of p = judged (packet_tests p) (content_in p)

-- a function code that is known
abbrev pub is_function : ℕ → Bool
is_function code = cond (code == function_code Read) true (code == function_code Write)

-- a code read as its function, refused if it is not known
abbrev pub DecodesFunction : ℕ → Result Function PacketRefusal → Type 0
DecodesFunction code answer = MatchResult answer (λ function. function_code function ≡ code) (λ refusal. (refusal ≡ WrongFunction) × (is_function code ≡ false))

-- a status read as the denial that it says, refused if it says none
abbrev pub DecodesDenial : ℕ → Result Denial PacketRefusal → Type 0
DecodesDenial status answer = MatchResult answer (λ denial. denial_status denial ≡ status) (λ refusal. (refusal ≡ Fields) × (both (nat_le 1 status) (nat_le status 2) ≡ false))

-- how many argument bytes a request has: the address, and for a write the word
abbrev pub request_count : ℕ → ℕ
request_count code = cond (code == function_code Read) 2 4

-- what a request has to meet
abbrev pub request_tests : Content → List (Bool × PacketRefusal)
request_tests content =
    (is_function content.function, WrongFunction)
    ∷ (both (content.status == 0) (length content.arguments == request_count content.function), Fields)
    ∷ []

-- the access that a request asks for
abbrev pub asked : Content → Access
asked content =
    cond (content.function == function_code Read) (ReadAccess (word_at content.arguments 0))
    (WriteAccess (word_at content.arguments 0) (word_at content.arguments 2))

-- a packet's content read as a request
abbrev pub access_of : Content → Result Access PacketRefusal
access_of content = judged (request_tests content) (asked content)

-- how many argument bytes answer a function: the word of a read
abbrev pub answer_count : Function → ℕ
answer_count Read = 2
answer_count Write = 0

-- Status 0 comes with the answer, statuses 1 and 2 come with nothing.
abbrev pub reply_fits : Function → Content → Bool
reply_fits function content =
    cond (content.status == 0) (length content.arguments == answer_count function)
    (both (nat_le content.status 2) (length content.arguments == 0))

-- what a reply to a function has to meet
abbrev pub reply_tests : Function → Content → List (Bool × PacketRefusal)
reply_tests function content =
    ((content.function == function_code function), WrongFunction) ∷ (reply_fits function content, Fields) ∷ []

-- an answer by its status
abbrev pub answered : {A : Type 0} → ℕ → A → Result A Denial
answered status value = cond (status == 0) (Ok value) (Err (cond (status == 1) NotAcknowledged NoRegister))

-- what a reply to a function says
abbrev pub said : Function → Content → Reply
said Read content = ReadReply (answered content.status (word_at content.arguments 0))
said Write content = WriteReply (answered content.status tt)

-- a packet's content read as the reply to a function
abbrev pub answer_of : Function → Content → Result Reply PacketRefusal
answer_of function content = judged (reply_tests function content) (said function content)

-- the meaning of a packet, by a reading of its content
abbrev pub then : {A : Type 0} → Result Content PacketRefusal → (Content → Result A PacketRefusal) → Result A PacketRefusal
then opened meaning = elim opened [ Ok content ↦ meaning content | Err refusal ↦ Err refusal ]

-- a byte string read as a request
abbrev pub request_of : List ℕ → Result Access PacketRefusal
request_of p = then (content_of p) access_of

-- a byte string read as the reply to a function
abbrev pub reply_of : Function → List ℕ → Result Reply PacketRefusal
reply_of function p = then (content_of p) (answer_of function)

-- A packet reads back as the access that it was built from, and no other byte string reads as that access.
pub record RequestStands (access : Access) : Type 0 where
  pub reads_back : request_of (request_packet access) ≡ Ok access
  pub no_other : (p : List ℕ) → Bytes p → request_of p ≡ Ok access → p ≡ request_packet access

-- A reply's packet reads back as the reply, to its own function; and no other byte string reads as that reply, to any
-- function.
pub record ReplyStands (reply : Reply) : Type 0 where
  pub reads_back : reply_of (reply_function reply) (reply_packet reply) ≡ Ok reply
  pub no_other : (function : Function) (p : List ℕ) → Bytes p → reply_of function p ≡ Ok reply → p ≡ reply_packet reply
