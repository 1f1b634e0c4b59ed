-- A packet is read as what it says, and no other byte string is.
use Rattle.std.proofs.Common.{◌≡◌, ℕ, ◌+◌, ◌-◌, ◌≤◌, true, eqb, leb, List, [], ◌∷◌, ◌++◌, length, get_or, take, drop, None, Ok, sym, refl, ap, ◌∙◌, ap₂, div-add-mod', arith, eq-eqb}
use Rattle.std.proofs.lemmas.List.{length-append, length-take, take-take, take_at, take-append-drop, drop-take, length-drop}
use Rattle.crc.specs.Crc.{crc_of, crc_bytes, Bytes}
use Rattle.packet.specs.Layout.{Content, process_code, be_bytes, front, with_checksum, packet}
use Rattle.packet.specs.Reading.{byte_at, word_at, ends_in_checksum, packet_tests, content_in, content_of}
use Rattle.checks.specs.Tests.{first_failing}
use Rattle.checks.proofs.Passing.{judged_ok, judged_back, none_fails, all_pass}
use Rattle.packet.proofs.Checksums.{be_back, bytes_take, bytes_drop, length_sealed, sealed_ends, ends_back}

-- the front with its checksum, and the arguments
unfoldable pub body : Content → List ℕ
body c = with_checksum (front c) ++ c.arguments

pub body_length : (c : Content) → length (body c) ≡ 8 + length c.arguments
unfolding body
body_length c = length-append (with_checksum (front c)) c.arguments ∙ ap (λ n. n + length c.arguments) (length_sealed (front c))

pub packet_length : (c : Content) → length (packet c) ≡ 10 + length c.arguments
unfolding packet body
packet_length c = let l = body_length c in let s = length_sealed (body c) in omega arith

front_taken : (c : Content) → take 8 (packet c) ≡ with_checksum (front c)
unfolding packet with_checksum
front_taken c = refl

content_read : (c : Content) → content_in (packet c) ≡ c
unfolding packet with_checksum body
content_read c =
    let tail : List ℕ = crc_bytes (crc_of (body c)) in
    let n : length (packet c) - 10 ≡ length c.arguments = omega (arith, packet_length c) in
    let same : take (length (packet c) - 10) (c.arguments ++ tail) ≡ c.arguments = rw n (take_at c.arguments tail (length c.arguments) refl) in
    ap (λ a. record { status = c.status; function = c.function; arguments = a }) same

tests_pass : (c : Content) → first_failing (packet_tests (packet c)) ≡ None
tests_pass c =
    let p : List ℕ = packet c in
    let long : leb 10 (length p) ≡ true = grind (arith, packet_length c) in
    let start : eqb (byte_at p 0) process_code ≡ true = unfold packet with_checksum in refl in
    let front_ends : ends_in_checksum (take 8 p) ≡ true = rw (front_taken c) (sealed_ends (front c)) in
    let word : word_at p 4 ≡ length c.arguments = unfold packet with_checksum in div-add-mod' (length c.arguments) 256 in
    let count : eqb (length p) (10 + word_at p 4) ≡ true = eq-eqb _ _ (packet_length c ∙ ap (λ k. 10 + k) (sym word)) in
    let ends : ends_in_checksum p ≡ true = unfold packet body in sealed_ends (body c) in
    let zeroed : eqb (byte_at p 2) 0 ≡ true = unfold packet with_checksum in refl in
    none_fails (packet_tests p) (long, (start, (front_ends, (count, (ends, (zeroed, tt))))))

-- A packet is read as what it says.
pub content_reads : (c : Content) → content_of (packet c) ≡ Ok c
content_reads c = judged_ok (packet_tests (packet c)) (content_in (packet c)) (tests_pass c) ∙ ap Ok (content_read c)

six_long : (xs : List ℕ) → 6 ≤ length xs → take 6 xs ≡ get_or xs 0 0 ∷ get_or xs 1 0 ∷ get_or xs 2 0 ∷ get_or xs 3 0 ∷ get_or xs 4 0 ∷ get_or xs 5 0 ∷ []
six_long [] h = absurd (omega arith)
six_long (a ∷ []) h = absurd (omega arith)
six_long (a ∷ b ∷ []) h = absurd (omega arith)
six_long (a ∷ b ∷ c ∷ []) h = absurd (omega arith)
six_long (a ∷ b ∷ c ∷ d ∷ []) h = absurd (omega arith)
six_long (a ∷ b ∷ c ∷ d ∷ e ∷ []) h = absurd (omega arith)
six_long (a ∷ b ∷ c ∷ d ∷ e ∷ f ∷ xs) h = refl

-- Bytes that pass the tests are the packet of what they say.
module _ (p : List ℕ) (bytes : Bytes p) (long : 10 ≤ length p) where
  arguments_length : length (take (length p - 10) (drop 8 p)) ≡ length p - 10
  arguments_length = omega (arith, length-take (length p - 10) (drop 8 p), length-drop 8 p)

  front_is : byte_at p 0 ≡ process_code → byte_at p 2 ≡ 0 → length p ≡ 10 + word_at p 4 → take 6 p ≡ front (content_in p)
  front_is start zeroed count =
      let n : word_at p 4 ≡ length (take (length p - 10) (drop 8 p)) = omega (arith, arguments_length) in
      let counted : be_bytes (length (take (length p - 10) (drop 8 p))) ≡ byte_at p 4 ∷ byte_at p 5 ∷ [] =
      ap be_bytes (sym n) ∙ be_back (byte_at p 4) (byte_at p 5) (bytes 4) (bytes 5) in
      six_long p (omega arith) ∙ rw (start, zeroed) (ap (λ t. process_code ∷ byte_at p 1 ∷ 0 ∷ byte_at p 3 ∷ t) (sym counted))

  eight_is : take 6 p ≡ front (content_in p) → ends_in_checksum (take 8 p) ≡ true → take 8 p ≡ with_checksum (front (content_in p))
  eight_is six ends =
      let eight : length (take 8 p) ≡ 8 = length-take 8 p ∙ omega arith in
      let part : take (length (take 8 p) - 2) (take 8 p) ≡ take 6 p = ap (λ k. take (k - 2) (take 8 p)) eight ∙ take-take 6 8 p (omega arith) in
      ends_back (take 8 p) (bytes_take 8 p bytes) (omega arith) ends ∙ ap with_checksum (part ∙ six)

  most_is : take 8 p ≡ with_checksum (front (content_in p)) → take (length p - 2) p ≡ with_checksum (front (content_in p)) ++ take (length p - 10) (drop 8 p)
  most_is eight =
      let n : length p - 2 ≡ 8 + (length p - 10) = omega arith in
      sym (take-append-drop 8 (take (length p - 2) p))
      ∙ ap₂ ◌++◌ (take-take 8 (length p - 2) p (omega arith) ∙ eight) (ap (λ k. drop 8 (take k p)) n ∙ drop-take 8 (length p - 10) p)

passing_is_packet : (p : List ℕ) → Bytes p → first_failing (packet_tests p) ≡ None → p ≡ packet (content_in p)
unfolding packet
passing_is_packet p bytes all =
    let t = all_pass (packet_tests p) all in
    let long : 10 ≤ length p = grind (arith, t.0) in
    let start : byte_at p 0 ≡ process_code = grind (arith, t.1.0) in
    let count : length p ≡ 10 + word_at p 4 = grind (arith, t.1.1.1.0) in
    let zeroed : byte_at p 2 ≡ 0 = grind (arith, t.1.1.1.1.1.0) in
    let six = front_is p bytes long start zeroed count in
    let eight = eight_is p bytes long six t.1.1.0 in
    ends_back p bytes (omega arith) t.1.1.1.1.0 ∙ ap with_checksum (most_is p bytes long eight)

-- No other byte string is read as what a packet says.
pub content_only : (p : List ℕ) (c : Content) → Bytes p → content_of p ≡ Ok c → p ≡ packet c
content_only p c bytes e =
    let back = judged_back (packet_tests p) (content_in p) c e in
    passing_is_packet p bytes back.0 ∙ ap packet back.1

-- What a byte string says is made of its bytes.
pub content_bytes : (p : List ℕ) (c : Content) → Bytes p → content_of p ≡ Ok c → Bytes c.arguments
content_bytes p c bytes e =
    let back = judged_back (packet_tests p) (content_in p) c e in
    rw (ap (λ d. d.arguments) back.1) at (bytes_take (length p - 10) (drop 8 p) (bytes_drop 8 p bytes))
