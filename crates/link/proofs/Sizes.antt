-- Packets fit into a buffer that has room for the largest one, and stand at its front.
use Rattle.std.proofs.Common.{◌≡◌, ℕ, ◌+◌, ◌-◌, ◌≤◌, List, ◌++◌, length, take, drop, Ok, Err, sym, refl, ap, ◌∙◌, ap₂, arith}
use Rattle.std.proofs.lemmas.List.{append_assoc, drop-drop, drop-take, take_at, take-append-drop}
use Rattle.packet.specs.declared.Access.{Access}
use Rattle.packet.specs.declared.Access.TheVariants.{Read as ReadAccess, Write as WriteAccess}
use Rattle.packet.specs.declared.Reply.{Reply}
use Rattle.packet.specs.declared.Reply.TheVariants.{Read as ReadReply, Write as WriteReply}
use Rattle.packet.specs.Layout.{over, reply_content, reply_packet, request_content, request_packet, room}
use Rattle.packet.proofs.Contents.{packet_length}

pub request_fits : (access : Access) → length (request_packet access) ≤ room
request_fits (ReadAccess address) = omega (arith, packet_length (request_content (ReadAccess address)))
request_fits (WriteAccess address word) = omega (arith, packet_length (request_content (WriteAccess address word)))

pub reply_fits : (reply : Reply) → length (reply_packet reply) ≤ room
reply_fits (ReadReply (Ok word)) = omega (arith, packet_length (reply_content (ReadReply (Ok word))))
reply_fits (ReadReply (Err denial)) = omega (arith, packet_length (reply_content (ReadReply (Err denial))))
reply_fits (WriteReply (Ok done)) = omega (arith, packet_length (reply_content (WriteReply (Ok done))))
reply_fits (WriteReply (Err denial)) = omega (arith, packet_length (reply_content (WriteReply (Err denial))))

-- The bytes are taken from the front again.
pub front_back : (bytes buffer : List ℕ) → take (length bytes) (over bytes buffer) ≡ bytes
front_back bytes buffer = take_at bytes (drop (length bytes) buffer) (length bytes) refl

-- Bytes laid over a buffer's front of that size are laid over the buffer.
pub front_over : (bytes buffer : List ℕ) → length bytes ≤ room → over bytes (take room buffer) ++ drop room buffer ≡ over bytes buffer
front_over bytes buffer fits =
    let n : ℕ = length bytes in
    let rest : ℕ = room - n in
    let whole : room ≡ n + rest = omega arith in
    let cut : drop n (take room buffer) ≡ take rest (drop n buffer) = ap (λ k. drop n (take k buffer)) whole ∙ drop-take n rest buffer in
    let behind : drop room buffer ≡ drop rest (drop n buffer) = ap (λ k. drop k buffer) whole ∙ sym (drop-drop rest n buffer) in
    append_assoc bytes (drop n (take room buffer)) (drop room buffer)
    ∙ ap (λ back. bytes ++ back) (ap₂ ◌++◌ cut behind ∙ take-append-drop rest (drop n buffer))
