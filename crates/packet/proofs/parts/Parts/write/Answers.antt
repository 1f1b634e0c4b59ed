-- Front, arguments and checksums are laid behind one another, and together are the packet.
use Rattle.std.proofs.Common.{◌≡◌, ℕ, ◌+◌, ◌-◌, false, cond, ltb, List, [], ◌∷◌, ◌++◌, length, get_or, take, drop, Ok, Err, sym, refl, ap, ◌∙◌, ap₂, arith}
use Rattle.crc.specs.Crc.{crc_of}
use Rattle.packet.specs.declared.refusal.PacketRefusal.TheVariants.{Buffer}
use Rattle.packet.specs.Layout.{Content, front, over, packet, process_code, with_checksum}
use Rattle.packet.specs.Views.{parts_content}
use Rattle.packet.proofs.Checksums.{length_sealed, sealed_behind, sent}
use Rattle.packet.proofs.Contents.{body, packet_length}
use Rattle.packet.proofs.Laying.{laid_front, over_range, over_sealed, over_sealed_behind}
use Rattle.packet.proofs.parts.Parts.write.Goals as goal

-- the packet is its body with the checksum
sealed : (p : Content) → with_checksum (body p) ≡ packet p
unfolding packet body
sealed p = refl

pub returns : goal.returns
unfolding body
returns c =
    let b : List ℕ = c.args.buffer.now in
    let p : Content = parts_content c.args.self in
    let n : ℕ = length p.arguments in
    let line : ℕ → List ℕ → List ℕ = λ function count. process_code ∷ p.status ∷ 0 ∷ function ∷ get_or count 0 0 ∷ get_or count 1 0 ∷ [] in
    let sealed_at : ℕ → List ℕ → List ℕ = λ k x. with_checksum (take (length (take k x) - 2) (take k x)) ++ drop k x in
    let copied : List ℕ → List ℕ → List ℕ = λ x part. take 8 x ++ (part ++ drop (8 + n - 8) (drop 8 x)) in
    let six : c.copy_from_slice.new.self ++ drop 6 b ≡ over (front p) b =
    ap (λ x. x ++ drop 6 b) (c.copy_from_slice.ensures.after ∙ ap₂ line c.from-function.ensures (c.to_be_bytes.ensures ∙ sent n (omega arith))) in
    let eight : c.seal.new.bytes ++ drop 8 (c.copy_from_slice.new.self ++ drop 6 b) ≡ over (with_checksum (front p)) b =
    ap (λ x. x ++ drop 8 (c.copy_from_slice.new.self ++ drop 6 b)) c.seal.ensures.after ∙ ap (sealed_at 8) six
    ∙ over_sealed (front p) b 6 refl (omega arith) in
    let most : copied (c.seal.new.bytes ++ drop 8 (c.copy_from_slice.new.self ++ drop 6 b)) c.copy_from_slice-2.new.self ≡ over (body p) b =
    ap₂ copied eight c.copy_from_slice-2.ensures.after ∙ over_range (with_checksum (front p)) p.arguments b 8 (length_sealed (front p)) in
    let sealed_front : c.seal.new.bytes ≡ with_checksum (front p) =
    c.seal.ensures.after ∙ ap (λ x. with_checksum (take (length (take 8 x) - 2) (take 8 x))) six ∙ ap with_checksum (laid_front (front p) b 6 refl (omega arith)) in
    let zeroed : crc_of (with_checksum (front p)) ≡ 0 = ap crc_of (sym sealed_front) ∙ c.seal.ensures.sealed in
    let k : ℕ = 8 + n + 2 - 8 in
    let x : List ℕ = copied (c.seal.new.bytes ++ drop 8 (c.copy_from_slice.new.self ++ drop 6 b)) c.copy_from_slice-2.new.self in
    let all : take 8 x ++ (c.seal-2.new.bytes ++ drop k (drop 8 x)) ≡ over (packet p) b =
    ap (λ y. take 8 x ++ (y ++ drop k (drop 8 x))) c.seal-2.ensures.after ∙ ap (λ y. take 8 y ++ sealed_at k (drop 8 y)) most
    ∙ over_sealed_behind (with_checksum (front p)) p.arguments b 8 k (length_sealed (front p)) (omega arith) (omega arith)
    ∙ ap (λ y. over y b) (sealed_behind (with_checksum (front p)) p.arguments zeroed ∙ sealed p) in
    let room : ltb (length b) 14 ≡ false = grind arith in
    let size : 8 + n + 2 ≡ length (packet p) = omega (arith, packet_length p) in
    record {
      answer = ap Ok size ∙ sym (ap (λ short. cond short (Err Buffer) (Ok (length (packet p)))) room);
      after = all ∙ sym (ap (λ short. cond short b (over (packet p) b)) room);
    }
