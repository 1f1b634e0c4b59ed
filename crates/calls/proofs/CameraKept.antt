-- The camera keeps what goes with a session, two cameras and what is known.
use Rattle.std.proofs.Common.{◌≡◌, ℕ, ◌+◌, ◌%◌, Bool, true, false, cond, List, [], length, take, Some, None, Ok, Err, Option, Result, sym, refl, ap, ◌∙◌, subst, ap₂, subst₂, arith}
use Rattle.camera.specs.declared.attribute.Kind.{Kind}
use Rattle.camera.specs.declared.attribute.Kind.TheVariants.{Get}
use Rattle.camera.specs.declared.fault.Fault.{Fault}
use Rattle.camera.specs.declared.register.Register.TheVariants.{Status}
use Rattle.camera.specs.Attributes.{is_settable, offers, size_of}
use Rattle.camera.specs.Commands.{command}
use Rattle.camera.specs.Execution.{bank, by_data}
use Rattle.camera.specs.State.{CameraState, Interpreter, Possible, Registers, Words, shown, with_registers}
use Rattle.calls.specs.declared.stage.Stage.TheVariants.{Reading, Waiting}
use Rattle.calls.specs.Accesses.{camera, register_read, sent, words_read}
use Rattle.calls.specs.Calls.{asleep, parked, ready}
use Rattle.calls.specs.History.{History, done, met, moved_on, one_if_owed, order, owed, taken}
use Rattle.calls.specs.Laws.{at_start, saved_words}
use Rattle.calls.specs.Outcomes.{Fetched}
use Rattle.calls.proofs.CameraCommands.{Known, SendsAlike, sent_alike}
use Rattle.calls.proofs.CameraPolls.{WakesAlike, WaitsAlike, answered_beside, waited_alike, woken_alike}
use Rattle.calls.proofs.CameraTable.{has_room, number_bound, settable_shown, shown_size}
use Rattle.calls.proofs.CameraWords.{Front, Untouched, fetched_alike, up, working}
use Rattle.calls.proofs.Following.{FetchedAlike, Holds, Kept, Sendable}
use Rattle.calls.proofs.Keeping.{Beside, Free, InterpreterFull, Reads, RegistersFull, SavedAlike, Stands}

-- two cameras with their parts
working_one : (s : CameraState) → s.hung ≡ false → s ≡ working s.boot s.busy s.acks s.registers s.interpreter
working_one s unhung =
    λ j. record { hung = unhung j; boot = s.boot; busy = s.busy; acks = s.acks; registers = s.registers; interpreter = s.interpreter }

working_other : (s t : CameraState) → with_registers t.registers s ≡ t → s.hung ≡ false → t ≡ working s.boot s.busy s.acks t.registers s.interpreter
working_other s t twins unhung = sym twins ∙ working_one (with_registers t.registers s) unhung

-- what holds of the parts of two cameras holds of both
of_both : (P : CameraState → CameraState → Type 0) (s t : CameraState) (boot busy : ℕ) → with_registers t.registers s ≡ t → s.hung ≡ false →
    s.boot ≡ boot → s.busy ≡ busy → P (working boot busy s.acks s.registers s.interpreter) (working boot busy s.acks t.registers s.interpreter) → P s t
of_both P s t boot busy twins unhung booted idle p =
    subst₂ P
    (sym (working_one s unhung ∙ ap₂ (λ boot busy. working boot busy s.acks s.registers s.interpreter) booted idle))
    (sym (working_other s t twins unhung ∙ ap₂ (λ boot busy. working boot busy s.acks t.registers s.interpreter) booted idle))
    p

known_from : (start : ℕ) (i : Interpreter) (h : History) → InterpreterFull i → i.count ≡ (start + taken h) % 65536 → Free i h → Known start i h
known_from start i h full count_is free = record { full = full; count_is = count_is; owes = free.owes; agrees = free.agrees }

camera_sends : (start : ℕ) (kind : Kind) (number : ℕ) (words : List ℕ) (s t : CameraState) (h : History) → offers kind number ≡ true →
    Sendable kind number words → Beside start ready s t h →
    SendsAlike start kind number words h (sent (command kind number) words s) (sent (command kind number) words t)
camera_sends start kind number words s t h offered sendable b =
    of_both (λ s t. SendsAlike start kind number words h (sent (command kind number) words s) (sent (command kind number) words t)) s t 0 0 b.twins
    b.unhung b.in_mode.0 b.in_mode.1
    (sent_alike start kind number words s.acks s.registers t.registers s.interpreter h offered sendable
    (known_from start s.interpreter h b.full b.counted b.goes) b.one_full b.other_full)

camera_wakes : (start : ℕ) (s t : CameraState) (h : History) → Beside start asleep s t h → WakesAlike start h (register_read Status s) (register_read Status t)
camera_wakes start s t h b =
    of_both (λ s t. WakesAlike start h (register_read Status s) (register_read Status t)) s t s.boot s.busy b.twins b.unhung refl refl
    (woken_alike start s.boot s.busy s.acks s.registers t.registers s.interpreter h b.one_full b.other_full
    (known_from start s.interpreter h b.full b.counted b.goes))

camera_waits : (start : ℕ) (kind : Kind) (number : ℕ) (s t : CameraState) (h : History) → (b : Beside start (parked (command kind number) Waiting) s t h) →
    WaitsAlike start kind number b.goes.words h (register_read Status s) (register_read Status t)
camera_waits start kind number s t h b =
    of_both (λ s t. WaitsAlike start kind number b.goes.words h (register_read Status s) (register_read Status t)) s t 0 s.busy b.twins
    b.unhung b.in_mode refl
    (waited_alike start kind number s.interpreter s.registers t.registers h
    (record { one_full = b.one_full; other_full = b.other_full; full = b.full; count_is = b.counted; waits = b.goes }) s.busy s.acks)

-- what is known while a get's words are to be read
record ToRead (start number : ℕ) (i : Interpreter) (r r' : Registers) (h : History) : Type 0 where
  one_full : RegistersFull r
  other_full : RegistersFull r'
  full : InterpreterFull i
  count_is : i.count ≡ (start + taken h) % 65536
  reads : Reads Get number i r r' h

abbrev FetchesAlike : ℕ → ℕ → History → Fetched CameraState → Fetched CameraState → Type 0
FetchesAlike start number h one other =
    FetchedAlike
    (λ words s t. Beside start ready s t (moved_on done (order Get number []) h) × (is_settable number ≡ true → words ≡ h.ledger.put number))
    (λ fault s t. Beside start (parked (command Get number) Reading) s t h × (met Get fault ≡ owed)) one other

module _ (start number : ℕ) (i : Interpreter) (r r' : Registers) (h : History) (k : ToRead start number i r r' h) where
  read_beside : (s t : CameraState) → Untouched r r' i s t → Beside start ready s t (moved_on done (order Get number []) h)
  read_beside s t u =
      subst₂ (λ s t. Beside start ready s t (moved_on done (order Get number []) h)) (sym u.s_is) (sym u.t_is)
      (answered_beside start u.acks r r' i h h.ledger k.one_full k.other_full k.full k.count_is (ap one_if_owed k.reads.owes)
      k.reads.agrees)

  unread_beside : (s t : CameraState) → Untouched r r' i s t → Beside start (parked (command Get number) Reading) s t h
  unread_beside s t u =
      subst₂ (λ s t. Beside start (parked (command Get number) Reading) s t h) (sym u.s_is) (sym u.t_is)
      (record {
        twins = refl;
        one_full = k.one_full;
        other_full = k.other_full;
        full = k.full;
        unhung = refl;
        in_mode = (refl, refl);
        counted = k.count_is;
        goes = k.reads;
      })

  size : length (shown i number) ≡ size_of number
  size = shown_size i number (k.full.words_full number (number_bound Get number k.reads.offered))

  at_front : (r : Registers) → Stands number i r → Front (by_data number) (shown i number) r
  at_front r stands = ap (λ n. take n (bank (by_data number) r)) size ∙ stands

  read_out_alike : (buffer : List ℕ) (acks : List Bool) → length buffer ≡ size_of number →
      FetchesAlike start number h (words_read (by_data number) 0 buffer (up 0 acks r i)) (words_read (by_data number) 0 buffer (up 0 acks r' i))
  read_out_alike buffer acks room =
      let f = fetched_alike (by_data number) buffer (shown i number) (room ∙ sym size) (omega (arith, size, has_room number)) acks r r' i
      (at_front r k.reads.stands_one) (at_front r' k.reads.stands_other) in
      record {
        answer = f.answer;
        words = f.words;
        left = f.left;
        right = f.right;
        one_is = f.one_is;
        other_is = f.other_is;
        holds = go f.answer f.words f.left f.right f.holds;
      }
    where
      go : (a : Result (Unit {0}) Fault) (words : List ℕ) (s t : CameraState) →
          Holds a (λ _. (words ≡ shown i number) × Untouched r r' i s t) (λ fault. Untouched r r' i s t × (met Get fault ≡ owed)) →
          Holds a (λ _. Beside start ready s t (moved_on done (order Get number []) h) × (is_settable number ≡ true → words ≡ h.ledger.put number))
          (λ fault. Beside start (parked (command Get number) Reading) s t h × (met Get fault ≡ owed))
      go (Ok x) words s t (e, u) =
          (read_beside s t u, λ settable. e ∙ settable_shown i number settable ∙ k.reads.agrees.put number settable)
      go (Err fault) words s t (u, is) = (unread_beside s t u, is)

camera_fetches : (start : ℕ) (number : ℕ) (buffer : List ℕ) (s t : CameraState) (h : History) → length buffer ≡ size_of number →
    Beside start (parked (command Get number) Reading) s t h →
    FetchesAlike start number h (words_read (by_data number) 0 buffer s) (words_read (by_data number) 0 buffer t)
camera_fetches start number buffer s t h room b =
    of_both (λ s t. FetchesAlike start number h (words_read (by_data number) 0 buffer s) (words_read (by_data number) 0 buffer t)) s t 0 0 b.twins
    b.unhung b.in_mode.0 b.in_mode.1
    (read_out_alike start number s.interpreter s.registers t.registers h
    (record { one_full = b.one_full; other_full = b.other_full; full = b.full; count_is = b.counted; reads = b.goes }) buffer s.acks room)

camera_reads : (start : ℕ) (kind : Kind) (number : ℕ) (buffer : List ℕ) (s t : CameraState) (h : History) → length buffer ≡ size_of number →
    kind ≡ Get → Beside start (parked (command kind number) Reading) s t h →
    FetchesAlike start number h (words_read (by_data number) 0 buffer s) (words_read (by_data number) 0 buffer t)
camera_reads start kind number buffer s t h room is b =
    camera_fetches start number buffer s t h room (subst (λ kind. Beside start (parked (command kind number) Reading) s t h) is b)

pub camera_kept : (start : ℕ) → Kept camera (Beside start)
camera_kept start =
    record {
      asleep_owes = λ s t h b. b.goes.owes;
      ready_owes = λ s t h b. b.goes.owes;
      sends = camera_sends start;
      wakes = camera_wakes start;
      waits = λ kind number s t h b. (b.goes.words, b.goes.owes, camera_waits start kind number s t h b);
      reads = λ kind number buffer s t h room b.
          (b.goes.is_get, b.goes.owes, camera_reads start kind number buffer s t h room b.goes.is_get b);
    }

-- A camera beside itself, before the first call.
saved_at_start : (saved : Option Words) → SavedAlike saved (saved_words saved)
saved_at_start None = tt
saved_at_start (Some words) = λ k e. sym (ap (λ b. cond b (words k) []) e)

pub fresh : (s : CameraState) → Possible s → s.hung ≡ false → Beside s.interpreter.count asleep s s (at_start s)
fresh s possible unhung =
    record {
      twins = refl;
      one_full = full;
      other_full = full;
      full = record {
        words_full = λ k short. (possible.words_full k short).0;
        saved_full = λ words is k e. (possible.saved_full words is k e).0;
        code_bits = possible.code_bits;
      };
      unhung = unhung;
      in_mode = tt;
      counted = omega (arith, possible.count_bits);
      goes = record {
        owes = refl;
        agrees = record {
          put = λ k e. sym (ap (λ b. cond b (s.interpreter.words k) []) e);
          saved = saved_at_start s.interpreter.saved;
        };
      };
    }
  where
    full : RegistersFull s.registers
    full = record { data_full = omega (arith, possible.data_full.0); block_full = omega (arith, possible.block_full.0) }
