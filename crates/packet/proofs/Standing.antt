-- Packets and their meaning stand for one another: the laws of requests and of replies.
use Rattle.std.proofs.Common.{◌≡◌, ℕ, List, Ok, Err, Result, refl, ap, ◌∙◌, arith}
use Rattle.crc.specs.Crc.{Bytes}
use Rattle.packet.specs.declared.access.Access.{Access}
use Rattle.packet.specs.declared.refusal.PacketRefusal.{PacketRefusal}
use Rattle.packet.specs.declared.access.Reply.{Reply}
use Rattle.packet.specs.Layout.{Content, packet, request_content, reply_content, reply_function}
use Rattle.packet.specs.Reading.{content_of, access_of, answer_of, then, RequestStands, ReplyStands}
use Rattle.packet.proofs.Contents.{content_reads, content_only, content_bytes}
use Rattle.packet.proofs.Meanings.{access_reads, access_only, answer_reads, answer_only}

-- Whatever has a meaning is a packet whose content has that meaning.
then_back : {A : Type 0} (opened : Result Content PacketRefusal) (meaning : Content → Result A PacketRefusal) (value : A) →
    then opened meaning ≡ Ok value → (c : Content) × (opened ≡ Ok c) × (meaning c ≡ Ok value)
then_back (Ok c) meaning value e = (c, refl, e)
then_back (Err refusal) meaning value e = grind arith

-- For any meaning of contents: if a content alone has a value, its packet alone has that value.
reads_back : {A : Type 0} (meaning : Content → Result A PacketRefusal) (c : Content) (value : A) →
    meaning c ≡ Ok value → then (content_of (packet c)) meaning ≡ Ok value
reads_back meaning c value e = ap (λ o. then o meaning) (content_reads c) ∙ e

no_other : {A : Type 0} (meaning : Content → Result A PacketRefusal) (c : Content) (value : A) →
    ((d : Content) → Bytes d.arguments → meaning d ≡ Ok value → d ≡ c) →
    (p : List ℕ) → Bytes p → then (content_of p) meaning ≡ Ok value → p ≡ packet c
no_other meaning c value only p bytes e =
    let back = then_back (content_of p) meaning value e in
    content_only p back.0 bytes back.1 ∙ ap packet (only back.0 (content_bytes p back.0 bytes back.1) back.2)

pub request_stands : (access : Access) → RequestStands access
request_stands access =
    record {
      reads_back = reads_back access_of (request_content access) access (access_reads access);
      no_other = no_other access_of (request_content access) access (λ d bytes e. access_only d access bytes e);
    }

pub reply_stands : (reply : Reply) → ReplyStands reply
reply_stands reply =
    record {
      reads_back = reads_back (answer_of (reply_function reply)) (reply_content reply) reply (answer_reads reply);
      no_other = λ function. no_other (answer_of function) (reply_content reply) reply (λ d bytes e. answer_only function d reply bytes e);
    }
