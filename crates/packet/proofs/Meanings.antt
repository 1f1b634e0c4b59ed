-- The content of a request is read as its access, the content of a reply as the reply, and no other content is.
use Rattle.std.proofs.Common.{◌≡◌, ℕ, zero, suc, ◌+◌, Bool, true, false, cond, eqb, List, [], ◌∷◌, ◌++◌, length, get_or, None, Ok, Err, sym, refl, ap, ◌∙◌, ap₂, div-add-mod', arith}
use Rattle.std.proofs.lemmas.List.{nil_from_length}
use Rattle.crc.specs.Crc.{Bytes}
use Rattle.packet.specs.declared.access.Access.{Access}
use Rattle.packet.specs.declared.access.Access.TheVariants.{Read as ReadAccess, Write as WriteAccess}
use Rattle.packet.specs.declared.access.Denial.TheVariants.{NotAcknowledged, NoRegister}
use Rattle.packet.specs.declared.access.Function.{Function}
use Rattle.packet.specs.declared.access.Function.TheVariants.{Read, Write}
use Rattle.packet.specs.declared.access.Reply.{Reply}
use Rattle.packet.specs.declared.access.Reply.TheVariants.{Read as ReadReply, Write as WriteReply}
use Rattle.packet.specs.Layout.{Content, be_bytes, function_code, request_content, answer_content, reply_content, reply_function}
use Rattle.packet.specs.Reading.{word_at, request_tests, asked, access_of, reply_tests, reply_fits, answer_count, answered, said, answer_of}
use Rattle.checks.specs.Tests.{AllPass, first_failing}
use Rattle.checks.proofs.Passing.{judged_back, all_pass}
use Rattle.packet.proofs.Checksums.{be_back, two_long, four_long}

pub access_reads : (access : Access) → access_of (request_content access) ≡ Ok access
access_reads (ReadAccess address) = ap (λ a. Ok (ReadAccess a)) (div-add-mod' address 256)
access_reads (WriteAccess address word) =
    ap₂ (λ a w. Ok (WriteAccess a w)) (div-add-mod' address 256) (div-add-mod' word 256)

pub answer_reads : (reply : Reply) → answer_of (reply_function reply) (reply_content reply) ≡ Ok reply
answer_reads (ReadReply (Ok word)) = ap (λ w. Ok (ReadReply (Ok w))) (div-add-mod' word 256)
answer_reads (ReadReply (Err NotAcknowledged)) = refl
answer_reads (ReadReply (Err NoRegister)) = refl
answer_reads (WriteReply (Ok tt)) = refl
answer_reads (WriteReply (Err NotAcknowledged)) = refl
answer_reads (WriteReply (Err NoRegister)) = refl

same_content : (c : Content) (status function : ℕ) (arguments : List ℕ) → c.status ≡ status → c.function ≡ function →
    c.arguments ≡ arguments → c ≡ record { status = status; function = function; arguments = arguments }
same_content c status function arguments s f a = λ i. record { status = s i; function = f i; arguments = a i }

-- two bytes among the arguments are those of their word
word_bytes : (xs : List ℕ) (i : ℕ) → Bytes xs → get_or xs i 0 ∷ get_or xs (i + 1) 0 ∷ [] ≡ be_bytes (word_at xs i)
word_bytes xs i bytes = sym (be_back (get_or xs i 0) (get_or xs (i + 1) 0) (bytes i) (bytes (i + 1)))

pub access_only : (c : Content) (access : Access) → Bytes c.arguments → access_of c ≡ Ok access → c ≡ request_content access
access_only c access bytes e = go (eqb c.function 16) refl
  where
    back : (first_failing (request_tests c) ≡ None) × (asked c ≡ access)
    back = judged_back (request_tests c) (asked c) access e

    t : AllPass (request_tests c)
    t = all_pass (request_tests c) back.0

    xs : List ℕ
    xs = c.arguments

    go : (b : Bool) → eqb c.function 16 ≡ b → c ≡ request_content access
    go true is =
        let f : c.function ≡ 16 = grind (arith, is) in
        let s : c.status ≡ 0 = grind (arith, is, t.1.0) in
        let n : length xs ≡ 2 = grind (arith, is, t.1.0) in
        let a : asked c ≡ ReadAccess (word_at xs 0) = ap (λ b. cond b (ReadAccess (word_at xs 0)) (WriteAccess (word_at xs 0) (word_at xs 2))) is in
        same_content c 0 16 (be_bytes (word_at xs 0)) s f (two_long xs n ∙ word_bytes xs 0 bytes) ∙ ap request_content (sym a ∙ back.1)
    go false is =
        let f : c.function ≡ 17 = grind (arith, is, t.0) in
        let s : c.status ≡ 0 = grind (arith, is, t.1.0) in
        let n : length xs ≡ 4 = grind (arith, is, t.1.0) in
        let a : asked c ≡ WriteAccess (word_at xs 0) (word_at xs 2) = ap (λ b. cond b (ReadAccess (word_at xs 0)) (WriteAccess (word_at xs 0) (word_at xs 2))) is in
        same_content c 0 17 (be_bytes (word_at xs 0) ++ be_bytes (word_at xs 2)) s f
        (four_long xs n ∙ ap₂ ◌++◌ (word_bytes xs 0 bytes) (word_bytes xs 2 bytes))
        ∙ ap request_content (sym a ∙ back.1)

-- A content that fits a function, by its status: the answer with what it carries, or a denial.
answer_is : {A : Type 0} (function : Function) (carried : A → List ℕ) (value : A) (status code : ℕ) (arguments : List ℕ) →
    code ≡ function_code function →
    reply_fits function (record { status = status; function = code; arguments = arguments }) ≡ true →
    (length arguments ≡ answer_count function → arguments ≡ carried value) →
    record { status = status; function = code; arguments = arguments } ≡ answer_content function carried (answered status value)
answer_is function carried value zero code arguments f fits carries =
    let n : length arguments ≡ answer_count function = grind (arith, fits) in
    same_content (record { status = zero; function = code; arguments = arguments }) 0 (function_code function) (carried value) refl f (carries n)
answer_is function carried value (suc zero) code arguments f fits carries =
    let n : length arguments ≡ 0 = grind (arith, fits) in
    same_content (record { status = 1; function = code; arguments = arguments }) 1 (function_code function) [] refl f (nil_from_length arguments n)
answer_is function carried value (suc (suc zero)) code arguments f fits carries =
    let n : length arguments ≡ 0 = grind (arith, fits) in
    same_content (record { status = 2; function = code; arguments = arguments }) 2 (function_code function) [] refl f (nil_from_length arguments n)
answer_is function carried value (suc (suc (suc status))) code arguments f fits carries = absurd (grind (arith, fits))

said_is : (function : Function) (c : Content) → Bytes c.arguments → AllPass (reply_tests function c) → c ≡ reply_content (said function c)
said_is Read c bytes t =
    let f : c.function ≡ 16 = grind (arith, t.0) in
    answer_is Read be_bytes (word_at c.arguments 0) c.status c.function c.arguments f t.1.0
    (λ n. two_long c.arguments n ∙ word_bytes c.arguments 0 bytes)
said_is Write c bytes t =
    let f : c.function ≡ 17 = grind (arith, t.0) in
    answer_is Write (λ _. []) tt c.status c.function c.arguments f t.1.0 (λ n. nil_from_length c.arguments n)

pub answer_only : (function : Function) (c : Content) (reply : Reply) → Bytes c.arguments → answer_of function c ≡ Ok reply → c ≡ reply_content reply
answer_only function c reply bytes e =
    let back = judged_back (reply_tests function c) (said function c) reply e in
    said_is function c bytes (all_pass (reply_tests function c) back.0) ∙ ap reply_content back.1
