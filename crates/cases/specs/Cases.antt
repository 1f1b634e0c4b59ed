-- Worked cases: what the definitions say of small inputs, beside what they are known to give.
use Rattle.std.specs.Prelude.{◌≡◌, ℕ, Bool, true, false, List, [], ◌∷◌, map, ℤ, negsuc, Some, None, Ok, Err, Option, Result}
use Rattle.crc.specs.Crc.{crc_of}
use Rattle.packet.specs.declared.Access.{Access}
use Rattle.packet.specs.declared.Access.TheVariants.{Read}
use Rattle.packet.specs.declared.PacketRefusal.{PacketRefusal}
use Rattle.packet.specs.Layout.{refusal_number, request_packet}
use Rattle.packet.specs.Reading.{request_of}
use Rattle.words.specs.Words.{number_words, signed_words}
use Rattle.camera.specs.declared.attribute.Kind.TheVariants.{Get, Set}
use Rattle.camera.specs.declared.attribute.Limits.TheVariants.{FocusRegion}
use Rattle.camera.specs.declared.fault.Fault.{Fault}
use Rattle.camera.specs.Registers.{fault_number}
use Rattle.camera.specs.Attributes.{start_words, within}
use Rattle.camera.specs.Commands.{command, word_of}
use Rattle.camera.specs.State.{CameraState, with_boot, with_busy}
use Rattle.camera.specs.Steps.{Outcome, read_step, write_step}
use Rattle.calls.specs.declared.refusal.Refusal.{Refusal}
use Rattle.calls.specs.Accesses.{camera}
use Rattle.calls.specs.Beginning.{begun}
use Rattle.calls.specs.Refusals.{number_of}
use Rattle.cases.specs.Sequences.{SequencesHold, fresh, missing_after}

-- what a definition gives: a word or none, words, bytes, a refusal's number, a response code, yes or no, or that it hangs
pub data Answer : Type 0 where
  word : ℕ → Answer
  no_word : Answer
  words : List ℕ → Answer
  bytes : List ℕ → Answer
  refused : ℕ → Answer
  code : ℤ → Answer
  allowed : Bool → Answer
  hangs : Bool → Answer

-- how a byte string fares when it is read as a request: its packet again, or a refusal
abbrev pub read_request : Result Access PacketRefusal → Answer
read_request (Ok access) = bytes (request_packet access)
read_request (Err refusal) = refused (refusal_number refusal)

-- what a read answers
abbrev pub read_word : Result ℕ Fault → Answer
read_word (Ok w) = word w
read_word (Err fault) = refused (fault_number fault)

-- a command word, if there is one
abbrev pub found_word : Option ℕ → Answer
found_word None = no_word
found_word (Some w) = word w

-- how beginning a command fares, taken singly: how many commands the camera has taken then, or a refusal's number
abbrev pub begin_count : Outcome CameraState (Unit {0}) Refusal → Answer
begin_count o = elim o.answer [ Ok _ ↦ word o.after.interpreter.count | Err refusal ↦ refused (number_of refusal) ]

-- an idle camera with its start words, whose last command got a code
abbrev pub idle_after : ℤ → CameraState
idle_after last =
    record {
      hung = false;
      boot = 0;
      busy = 0;
      acks = [];
      registers = record { size = 0; data_words = []; block_words = [] };
      interpreter = record { code = last; count = 0; words = start_words; saved = None; coming = [] };
    }

-- a case: what the definitions give, and what is expected
pub record Case : Type 0 where
  pub given : Answer
  pub expected : Answer

abbrev pub case : Answer → Answer → Case
case given expected = record { given = given; expected = expected }

-- The list of worked cases.
abbrev pub worked_cases : List Case
worked_cases =
    -- the checksum of 6E
    case (word (crc_of (0x6E ∷ []))) (word 0x8D68)
    -- a read of register 0x0002
    ∷ case (bytes (request_packet (Read 0x0002))) (bytes (0x6E ∷ 0x00 ∷ 0x00 ∷ 0x10 ∷ 0x00 ∷ 0x02 ∷ 0xBC ∷ 0x9A ∷ 0x00 ∷ 0x02 ∷ 0x20 ∷ 0x42 ∷ []))
    -- the same with another last byte
    ∷ case (read_request (request_of (0x6E ∷ 0x00 ∷ 0x00 ∷ 0x10 ∷ 0x00 ∷ 0x02 ∷ 0xBC ∷ 0x9A ∷ 0x00 ∷ 0x02 ∷ 0x20 ∷ 0x43 ∷ []))) (refused 34)
    -- idle after code −9 the status register reads F706
    ∷ case (read_word (read_step (idle_after (negsuc 8)) 0x0002).answer) (word 0xF706)
    -- the word that sets the sync delay
    ∷ case (found_word (word_of (command Set 17))) (word 0x4859)
    -- without the protection bit it gets −7
    ∷ case (code (write_step (idle_after (negsuc 8)) 0x0004 0x0859).after.interpreter.code) (code (negsuc 6))
    -- a write hangs a camera that is busy, and one that boots, and no other
    ∷ case (hangs (write_step (with_busy 2 (idle_after (negsuc 8))) 0x0006 1).after.hung) (hangs true)
    ∷ case (hangs (write_step (with_boot 2 (idle_after (negsuc 8))) 0x0006 1).after.hung) (hangs true)
    ∷ case (hangs (write_step (idle_after (negsuc 8)) 0x0006 1).after.hung) (hangs false)
    -- −3 as a signed pair
    ∷ case (words (signed_words (negsuc 2))) (words (0xFFFD ∷ 0xFFFF ∷ []))
    -- 0x12345678 as a pair
    ∷ case (words (number_words 2 0x12345678)) (words (0x5678 ∷ 0x1234 ∷ []))
    -- the smallest region; one column less; an end column of 79
    ∷ case (allowed (within FocusRegion (1 ∷ 1 ∷ 3 ∷ 3 ∷ []))) (allowed true)
    ∷ case (allowed (within FocusRegion (1 ∷ 1 ∷ 2 ∷ 3 ∷ []))) (allowed false)
    ∷ case (allowed (within FocusRegion (1 ∷ 1 ∷ 79 ∷ 58 ∷ []))) (allowed false)
    -- beginning a get of the frame average, which has none; a set of the focus threshold with one word; with its two words,
    -- of which the second is not acknowledged; and with both, taken as the camera's first command
    ∷ case (begin_count (begun camera (command Get 6) [] (fresh [] []))) (refused 5)
    ∷ case (begin_count (begun camera (command Set 12) (7 ∷ []) (fresh [] []))) (refused 6)
    ∷ case (begin_count (begun camera (command Set 12) (7 ∷ 0 ∷ []) (fresh [] (missing_after 1)))) (refused 8)
    ∷ case (begin_count (begun camera (command Set 12) (7 ∷ 0 ∷ []) (fresh [] []))) (word 1)
    ∷ []

-- Every case comes out as expected, and every worked call sequence.
pub record CasesHold : Type 0 where
  pub cases : map (λ (c : Case). c.given) worked_cases ≡ map (λ (c : Case). c.expected) worked_cases
  pub sequences : SequencesHold
