-- What the two ends of a line do together.
use Rattle.std.proofs.Common.{◌≡◌, ℕ, ◌≤◌, false, cond, ltb, ◌⊎◌, List, ◌++◌, length, take, drop, Ok, Err, Result, sym, refl, ap, ◌∙◌, ap₂, inl, inr, arith}
use Rattle.crc.specs.Crc.{Bytes}
use Rattle.camera.specs.declared.fault.Fault.{Fault}
use Rattle.camera.specs.declared.fault.Fault.TheVariants.{NotAcknowledged, NoRegister}
use Rattle.camera.specs.Registers.{fault_address}
use Rattle.camera.specs.State.{CameraState}
use Rattle.camera.specs.Steps.{Outcome, ended, read_step, write_step}
use Rattle.camera.proofs.Faults.{faults_keep_addresses}
use Rattle.packet.specs.declared.Access.{Access}
use Rattle.packet.specs.declared.Access.TheVariants.{Read as ReadAccess, Write as WriteAccess}
use Rattle.packet.specs.declared.Function.{Function}
use Rattle.packet.specs.declared.Function.TheVariants.{Read, Write}
use Rattle.packet.specs.declared.PacketRefusal.{PacketRefusal}
use Rattle.packet.specs.declared.PacketRefusal.TheVariants.{Buffer}
use Rattle.packet.specs.declared.Reply.{Reply}
use Rattle.packet.specs.Layout.{address_of, denied, function_of, over, reply_function, reply_packet, request_packet, room}
use Rattle.packet.specs.Reading.{reply_of, request_of}
use Rattle.packet.proofs.Standing.{reply_stands, request_stands}
use Rattle.link.specs.declared.answers.Answer.{Answer}
use Rattle.link.specs.declared.answers.Answer.TheVariants.{Word, Done}
use Rattle.link.specs.Line.{answer_in, as_answer, carried, denial_of, fault_at, reply_for}
use Rattle.link.specs.Ends.{AccessesCross, Crosses, FarEnd, OnlyReplies, OnlyRequests, answered, answered_as, far_end, reply_read, reply_to, served, served_as}
use Rattle.link.proofs.Sizes.{front_back, front_over, reply_fits}

-- A fault comes back as it was, at the address of the access.
fault_back : (address : ℕ) (fault : Fault) → fault_address fault ≡ address → fault_at address (denial_of fault) ≡ fault
fault_back address (NotAcknowledged at) e = ap NotAcknowledged (sym e)
fault_back address (NoRegister at) e = ap NoRegister (sym e)

denial_back : (address : ℕ) (function : Function) (fault : Fault) → fault_address fault ≡ address → answer_in address (denied function (denial_of fault)) ≡ Err fault
denial_back address Read fault e = ap Err (fault_back address fault e)
denial_back address Write fault e = ap Err (fault_back address fault e)

-- What an access answers comes back in its reply.
answer_back : (access : Access) (s : CameraState) →
    answer_in (address_of access) (reply_for (function_of access) (carried access s).answer) ≡ (carried access s).answer
answer_back (ReadAccess address) s = go (read_step s address).answer (λ fault. (faults_keep_addresses s address).of_read fault)
  where
    go : (r : Result ℕ Fault) → ((fault : Fault) → r ≡ Err fault → fault_address fault ≡ address) →
        answer_in address (reply_for Read (as_answer Word r)) ≡ as_answer Word r
    go (Ok word) at = refl
    go (Err fault) at = denial_back address Read fault (at fault refl)
answer_back (WriteAccess address word) s = go (write_step s address word).answer (λ fault. (faults_keep_addresses s address).of_write word fault)
  where
    go : (r : Result (Unit {0}) Fault) → ((fault : Fault) → r ≡ Err fault → fault_address fault ≡ address) →
        answer_in address (reply_for Write (as_answer (λ _. Done) r)) ≡ as_answer (λ _. Done) r
    go (Ok done) at = refl
    go (Err fault) at = denial_back address Write fault (at fault refl)

-- The reply repeats the function of the request.
function_back : (access : Access) (s : CameraState) → reply_function (reply_for (function_of access) (carried access s).answer) ≡ function_of access
function_back (ReadAccess address) s = go (read_step s address).answer
  where
    go : (r : Result ℕ Fault) → reply_function (reply_for Read (as_answer Word r)) ≡ Read
    go (Ok word) = refl
    go (Err fault) = refl
function_back (WriteAccess address word) s = go (write_step s address word).answer
  where
    go : (r : Result (Unit {0}) Fault) → reply_function (reply_for Write (as_answer (λ _. Done) r)) ≡ Write
    go (Ok done) = refl
    go (Err fault) = refl

-- A request that is read, with room for the reply, is carried out and replied to.
pub served_there : (request buffer : List ℕ) (access : Access) (s : CameraState) → room ≤ length buffer → request_of request ≡ Ok access →
    served request (far_end buffer s) ≡ reply_to access (carried access s) buffer
served_there request buffer access s enough read =
    let room_there : ltb (length buffer) 14 ≡ false = grind arith in
    ap (λ r. served_as r (far_end buffer s)) read
    ∙ ap (λ short. cond short (ended (Err Buffer) (far_end buffer s)) (reply_to access (carried access s) buffer)) room_there

-- A reply in the front of a buffer that has room for it is a reply in the buffer.
pub replied_in_front : (access : Access) (outcome : Outcome CameraState Answer Fault) (buffer front after : List ℕ) (size : ℕ) (s : CameraState) →
    front ≡ take room buffer → ended (Ok size) (far_end after s) ≡ reply_to access outcome front →
    ended (Ok size) (far_end (after ++ drop room buffer) s) ≡ reply_to access outcome buffer
replied_in_front access outcome buffer front after size s same e =
    let reply : Reply = reply_for (function_of access) outcome.answer in
    let whole : after ++ drop room buffer ≡ over (reply_packet reply) buffer =
    ap (λ o. o.after.buffer ++ drop room buffer) e ∙ ap (λ f. over (reply_packet reply) f ++ drop room buffer) same
    ∙ front_over (reply_packet reply) buffer (reply_fits reply) in
    λ i. ended (e i).answer (far_end (whole i) (e i).after.camera)

pub accesses_cross : AccessesCross
unfolding reply_read
accesses_cross access s buffer enough =
    let reply : Reply = reply_for (function_of access) (carried access s).answer in
    record {
      out = served_there (request_packet access) buffer access s enough (request_stands access).reads_back;
      back = ap (λ f. answered_as (address_of access) (reply_of f (reply_packet reply))) (sym (function_back access s))
          ∙ ap (answered_as (address_of access)) (reply_stands reply).reads_back ∙ ap Ok (answer_back access s);
    }

-- What a reply that came back says: what the access answered, with the state behind the bus as the access left it.
pub record CameBack (access : Access) (s : CameraState) (size : ℕ) (after : FarEnd) : Type 0 where
  pub answer : answered access (take size after.buffer) ≡ Ok (carried access s).answer
  pub left : after.camera ≡ (carried access s).after

-- Served with the request of an access from the front of a buffer, the far end sends such a reply.
pub came_back : (access : Access) (s : CameraState) (blank buffer : List ℕ) {request : List ℕ} {asked size : ℕ} {sent replied : Result ℕ PacketRefusal} {after : FarEnd} →
    sent ≡ Ok (length (request_packet access)) → sent ≡ Ok asked → request ≡ over (request_packet access) blank →
    ended replied after ≡ served (take asked request) (far_end buffer s) → replied ≡ Ok size → room ≤ length buffer → CameBack access s size after
came_back access s blank buffer {request} {asked} {size} {sent} {replied} {after} written said laid serving serves enough =
    let cross : Crosses access s buffer = accesses_cross access s buffer enough in
    let reply : Reply = reply_for (function_of access) (carried access s).answer in
    let long : asked ≡ length (request_packet access) = cc in
    let front : take asked request ≡ request_packet access = ap₂ take long laid ∙ front_back (request_packet access) blank in
    let all : ended replied after ≡ reply_to access (carried access s) buffer = serving ∙ ap (λ p. served p (far_end buffer s)) front ∙ cross.out in
    let same : replied ≡ Ok (length (reply_packet reply)) = ap (λ o. o.answer) all in
    let says : size ≡ length (reply_packet reply) = cc in
    record {
      answer = ap (answered access) (ap₂ take says (ap (λ o. o.after.buffer) all) ∙ front_back (reply_packet reply) buffer) ∙ cross.back;
      left = ap (λ o. o.after.camera) all;
    }

pub only_requests : (bytes : List ℕ) → Bytes bytes → OnlyRequests bytes
only_requests bytes small end = go (request_of bytes) refl
  where
    go : (r : Result Access PacketRefusal) → request_of bytes ≡ r →
        ((access : Access) × (bytes ≡ request_packet access)) ⊎ ((refusal : PacketRefusal) × (served bytes end ≡ ended (Err refusal) end))
    go (Ok access) is = inl (access, (request_stands access).no_other bytes small is)
    go (Err refusal) is = inr (refusal, ap (λ r. served_as r end) is)

pub only_replies : (access : Access) (bytes : List ℕ) → Bytes bytes → OnlyReplies access bytes
unfolding reply_read
only_replies access bytes small = go (reply_of (function_of access) bytes) refl
  where
    go : (r : Result Reply PacketRefusal) → reply_of (function_of access) bytes ≡ r →
        ((reply : Reply) × (bytes ≡ reply_packet reply)) ⊎ ((refusal : PacketRefusal) × (answered access bytes ≡ Err refusal))
    go (Ok reply) is = inl (reply, (reply_stands reply).no_other (function_of access) bytes small is)
    go (Err refusal) is = inr (refusal, ap (answered_as (address_of access)) is)
