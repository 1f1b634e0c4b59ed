-- Commands sent to two cameras that differ in their registers at most.
use Rattle.std.proofs.Common.{◌≡◌, ℕ, ◌+◌, ◌%◌, ◌≤◌, Bool, true, false, cond, eqb, List, [], ◌∷◌, length, take, drop, ℤ, pos, Some, None, Ok, Err, Option, Result, sym, refl, ap, ◌∙◌, subst, subst₂, arith, w8, SFits}
use Rattle.std.proofs.lemmas.List.{length-append, length-drop, take_at}
use Rattle.checks.specs.Tests.{first_failing}
use Rattle.camera.specs.declared.attribute.Kind.{Kind}
use Rattle.camera.specs.declared.attribute.Kind.TheVariants.{Get, Set, Run}
use Rattle.camera.specs.declared.command.Command.{Command}
use Rattle.camera.specs.declared.fault.Fault.{Fault}
use Rattle.camera.specs.declared.fault.Fault.TheVariants.{NotAcknowledged}
use Rattle.camera.specs.declared.register.Register.TheVariants.{Command as CommandRegister, Length}
use Rattle.camera.specs.Registers.{address_of, over}
use Rattle.camera.specs.Attributes.{asked, offers, restore, size_of, user_defaults, within}
use Rattle.camera.specs.Commands.{command}
use Rattle.camera.specs.Execution.{answered, bank, by_data, commanded, counted, executed, judged, moved, next_busy, not_offered, only_saved, out_of_limits, restored, restore_done, save_done, standing, taken as taken_up, verdict, with_bank, with_one, wrong_size}
use Rattle.camera.specs.State.{CameraState, Interpreter, Registers, shown, with_code, with_saved, with_words}
use Rattle.camera.specs.Steps.{Outcome, ended, later_acks, next_ack, unless_unacknowledged}
use Rattle.calls.specs.declared.stage.Stage.TheVariants.{Waiting}
use Rattle.calls.specs.Calls.{ready, parked}
use Rattle.calls.specs.Outcomes.{by_answer}
use Rattle.calls.specs.Accesses.{command_written, register_written, sent, word_for, words_written}
use Rattle.calls.specs.History.{History, Ledger, entered, met, nothing, one_if_owed, order, taken}
use Rattle.calls.proofs.CameraEffects.{Carried, none_carried, refused_code, run_carried, set_carried}
use Rattle.calls.proofs.CameraTable.{command_there, has_room, number_bound, shown_size}
use Rattle.calls.proofs.CameraWords.{Front, IdleTwins, Written, still, up, words_alike, write_then}
use Rattle.calls.proofs.Following.{Alike, Holds, Sendable, owing}
use Rattle.calls.proofs.Keeping.{Agrees, AnswerStands, Beside, InterpreterFull, RegistersFull, Waits}

-- the length register with another value
abbrev sized : ℕ → Registers → Registers
sized size r = record { size = size; data_words = r.data_words; block_words = r.block_words }

sized_bank : (through : Bool) (size : ℕ) (r : Registers) → bank through (sized size r) ≡ bank through r
sized_bank true size r = refl
sized_bank false size r = refl

sized_full : (size : ℕ) (r : Registers) → RegistersFull r → RegistersFull (sized size r)
sized_full size r full = record { data_full = full.data_full; block_full = full.block_full }

-- what stands in the registers before a command: a set's words
abbrev Laid : Kind → ℕ → List ℕ → Registers → Type 0
Laid Get number words r = Unit {0}
Laid Set number words r = standing number r ≡ words
Laid Run number words r = Unit {0}

laid_sized : (kind : Kind) (number : ℕ) (words : List ℕ) (size : ℕ) (r : Registers) → Laid kind number words r → Laid kind number words (sized size r)
laid_sized Get number words size r h = tt
laid_sized Set number words size r h = ap (take (size_of number)) (sized_bank (by_data number) size r) ∙ h
laid_sized Run number words size r h = tt

-- Two cameras with the same length judge a command alike.
verdict_same : (kind : Kind) (number : ℕ) (words : List ℕ) (size : ℕ) (r r' : Registers) (i : Interpreter) →
    Laid kind number words (sized size r) → Laid kind number words (sized size r') → verdict kind number (sized size r) i ≡ verdict kind number (sized size r') i
verdict_same Get number words size r r' i h h' = refl
verdict_same Set number words size r r' i h h' =
    ap (λ ws. first_failing ((offers Set number, not_offered) ∷ (eqb size (size_of number), wrong_size) ∷ (asked (λ a. within a.limits ws) false number, out_of_limits) ∷ []))
    (h ∙ sym h')
verdict_same Run number words size r r' i h h' = refl

-- words laid over the front of the data registers or the block buffer
bank_back : (through : Bool) (words : List ℕ) (r : Registers) → bank through (with_bank through words r) ≡ words
bank_back true words r = refl
bank_back false words r = refl

over_long : (words others : List ℕ) → length others ≤ length (over words others)
over_long words others = omega (arith, length-append words (drop (length words) others), length-drop (length words) others)

over_full : (through : Bool) (words : List ℕ) (r : Registers) → RegistersFull r → RegistersFull (with_bank through (over words (bank through r)) r)
over_full true words r full = record { data_full = omega (arith, full.data_full, over_long words r.data_words); block_full = full.block_full }
over_full false words r full = record { data_full = full.data_full; block_full = omega (arith, full.block_full, over_long words r.block_words) }

over_stands : (number : ℕ) (words : List ℕ) (r : Registers) → length words ≡ size_of number →
    standing number (with_bank (by_data number) (over words (bank (by_data number) r)) r) ≡ words
over_stands number words r size =
    ap (take (size_of number)) (bank_back (by_data number) (over words (bank (by_data number) r)) r)
    ∙ take_at words (drop (length words) (bank (by_data number) r)) (size_of number) size

-- a run carried out, by what it does to the interpreter
run_is : (save restores : Bool) (busy : ℕ) (acks : List Bool) (r : Registers) (i : Interpreter) →
    cond save (save_done (up busy acks r i)) (cond restores (restore_done (up busy acks r i)) (up busy acks r i))
    ≡ up busy acks r (cond save (with_saved (Some (only_saved i.words)) i) (cond restores (restored i.saved i) i))
run_is true restores busy acks r i = refl
run_is false true busy acks r i = refl
run_is false false busy acks r i = refl

-- what is known of an idle camera's interpreter while a session is ready
pub record Known (start : ℕ) (i : Interpreter) (h : History) : Type 0 where
  pub full : InterpreterFull i
  pub count_is : i.count ≡ (start + taken h) % 65536
  pub owes : h.owing ≡ None
  pub agrees : Agrees i h.ledger

pub ready_beside : (start : ℕ) (i : Interpreter) (h : History) → Known start i h → (s t : CameraState) → IdleTwins i s t → Beside start ready s t h
ready_beside start i h known s t twins =
    subst₂ (λ s t. Beside start ready s t h) (sym twins.s_is) (sym twins.t_is)
    (record {
      twins = refl;
      one_full = twins.one_full;
      other_full = twins.other_full;
      full = known.full;
      unhung = refl;
      in_mode = (refl, refl);
      counted = known.count_is;
      goes = record { owes = known.owes; agrees = known.agrees };
    })

count_more : (start count answered owed : ℕ) → owed ≡ 0 → count ≡ (start + (answered + owed)) % 65536 → (count + 1) % 65536 ≡ (start + (answered + 1)) % 65536
count_more start count answered owed none e = omega arith

-- the interpreter once a command is taken and has a code
abbrev coded : ℤ → Interpreter → Interpreter
coded code i = with_code code (counted i)

coded_full : (code : ℤ) (i : Interpreter) → SFits w8 code → InterpreterFull i → InterpreterFull (coded code i)
coded_full code i bits full = record { words_full = full.words_full; saved_full = full.saved_full; code_bits = bits }

coded_agrees : (code : ℤ) (i : Interpreter) (l : Ledger) → Agrees i l → Agrees (coded code i) l
coded_agrees code i l agrees = record { put = agrees.put; saved = agrees.saved }

sendable_get : (kind : Kind) (number : ℕ) (words : List ℕ) → Sendable kind number words → kind ≡ Get → words ≡ []
sendable_get Get number words e is = e
sendable_get Set number words e is = grind arith
sendable_get Run number words e is = e

module _ (start : ℕ) (kind : Kind) (number : ℕ) (words : List ℕ) (i : Interpreter) (h : History)
    (offered : offers kind number ≡ true) (sendable : Sendable kind number words) (known : Known start i h) where
  -- Two cameras that have taken the command.
  waiting : (busy : ℕ) (acks : List Bool) (r r' : Registers) (after : Interpreter) → RegistersFull r → RegistersFull r' → InterpreterFull after →
      after.count ≡ (coded (pos 0) i).count → Waits kind number after r r' (owing (order kind number words) h) →
      Beside start (parked (command kind number) Waiting) (up busy acks r after) (up busy acks r' after) (owing (order kind number words) h)
  waiting busy acks r r' after full full' filled count waits =
      record {
        twins = refl;
        one_full = full;
        other_full = full';
        full = filled;
        unhung = refl;
        in_mode = refl;
        counted = count ∙ count_more start i.count h.answered (one_if_owed h.owing) (ap one_if_owed known.owes) known.count_is;
        goes = waits;
      }

  refused_waiting : (busy : ℕ) (acks : List Bool) (r r' : Registers) (code : ℤ) → RegistersFull r → RegistersFull r' → (code ≡ pos 0 → ⊥) × SFits w8 code →
      Beside start (parked (command kind number) Waiting) (up busy acks r (coded code i)) (up busy acks r' (coded code i)) (owing (order kind number words) h)
  refused_waiting busy acks r r' code full full' is_code =
      waiting busy acks r r' (coded code i) full full' (coded_full code i is_code.1 known.full) refl
      (record {
        words = words;
        owes = refl;
        get_words = sendable_get kind number words sendable;
        offered = offered;
        carried_out = λ z. absurd (is_code.0 z);
        stands_one = λ z. absurd (is_code.0 z);
        stands_other = λ z. absurd (is_code.0 z);
        not_carried_out = λ _. coded_agrees code i h.ledger known.agrees;
      })

  carried_waiting : (busy : ℕ) (acks : List Bool) (r r' : Registers) (after : Interpreter) → RegistersFull r → RegistersFull r' →
      Carried (entered kind number words h.ledger) (coded (pos 0) i) after → AnswerStands kind number after r → AnswerStands kind number after r' →
      Beside start (parked (command kind number) Waiting) (up busy acks r after) (up busy acks r' after) (owing (order kind number words) h)
  carried_waiting busy acks r r' after full full' carried stands stands' =
      waiting busy acks r r' after full full' carried.full carried.count
      (record {
        words = words;
        owes = refl;
        get_words = sendable_get kind number words sendable;
        offered = offered;
        carried_out = λ _. carried.agrees;
        stands_one = λ _. stands;
        stands_other = λ _. stands';
        not_carried_out = λ no. absurd (no carried.code);
      })

-- two cameras that have taken a command and judged it
abbrev TakenAlike : ℕ → Kind → ℕ → List ℕ → History → CameraState → CameraState → Type 0
TakenAlike start kind number words h s t = Beside start (parked (command kind number) Waiting) s t (owing (order kind number words) h)

zero_bits : SFits w8 (pos 0)
zero_bits = record { sfits = omega arith }

module _ (start number : ℕ) (words : List ℕ) (i : Interpreter) (h : History) (known : Known start i h)
    (busy : ℕ) (acks : List Bool) (r r' : Registers) (full : RegistersFull r) (full' : RegistersFull r') where
  filled : InterpreterFull (coded (pos 0) i)
  filled = coded_full (pos 0) i zero_bits known.full

  agreed : Agrees (coded (pos 0) i) h.ledger
  agreed = coded_agrees (pos 0) i h.ledger known.agrees

  get_judged : offers Get number ≡ true → Sendable Get number words →
      TakenAlike start Get number words h (judged None Get number (up busy acks r (counted i))) (judged None Get number (up busy acks r' (counted i)))
  get_judged offered sendable =
      carried_waiting start Get number words i h offered sendable known busy acks (laid r) (laid r') (coded (pos 0) i)
      (over_full (by_data number) answer r full) (over_full (by_data number) answer r' full')
      (none_carried (coded (pos 0) i) h.ledger filled agreed refl) (over_stands number answer r size) (over_stands number answer r' size)
    where
      answer : List ℕ
      answer = shown (coded (pos 0) i) number

      size : length answer ≡ size_of number
      size = shown_size (coded (pos 0) i) number (known.full.words_full number (number_bound Get number offered))

      laid : Registers → Registers
      laid r = with_bank (by_data number) (over answer (bank (by_data number) r)) r

  set_judged : offers Set number ≡ true → Sendable Set number words → Laid Set number words r → Laid Set number words r' →
      TakenAlike start Set number words h (judged None Set number (up busy acks r (counted i))) (judged None Set number (up busy acks r' (counted i)))
  set_judged offered sendable laid laid' =
      subst₂ (λ ws ws'. TakenAlike start Set number words h (up busy acks r (holds ws)) (up busy acks r' (holds ws'))) (sym laid) (sym laid')
      (carried_waiting start Set number words i h offered sendable known busy acks r r' (holds words) full full'
      (set_carried (coded (pos 0) i) h.ledger filled agreed refl number words sendable) tt tt)
    where
      holds : List ℕ → Interpreter
      holds ws = with_words (with_one number ws i.words) (coded (pos 0) i)

  run_judged : offers Run number ≡ true → Sendable Run number words →
      TakenAlike start Run number words h (judged None Run number (up busy acks r (counted i))) (judged None Run number (up busy acks r' (counted i)))
  run_judged offered sendable =
      subst₂ (TakenAlike start Run number words h)
      (sym (run_is (eqb number user_defaults) (eqb number restore) busy acks r (coded (pos 0) i)))
      (sym (run_is (eqb number user_defaults) (eqb number restore) busy acks r' (coded (pos 0) i)))
      (carried_waiting start Run number words i h offered sendable known busy acks r r' after full full'
      (run_carried (coded (pos 0) i) h.ledger filled agreed refl (eqb number user_defaults) (eqb number restore)) tt tt)
    where
      after : Interpreter
      after =
          cond (eqb number user_defaults) (with_saved (Some (only_saved i.words)) (coded (pos 0) i))
          (cond (eqb number restore) (restored i.saved (coded (pos 0) i)) (coded (pos 0) i))

  judged_alike : (kind : Kind) → offers kind number ≡ true → Sendable kind number words → Laid kind number words r → Laid kind number words r' →
      (o : Option ℤ) → verdict kind number r (counted i) ≡ o →
      TakenAlike start kind number words h (judged o kind number (up busy acks r (counted i))) (judged o kind number (up busy acks r' (counted i)))
  judged_alike Get offered sendable laid laid' None v = get_judged offered sendable
  judged_alike Set offered sendable laid laid' None v = set_judged offered sendable laid laid'
  judged_alike Run offered sendable laid laid' None v = run_judged offered sendable
  judged_alike kind offered sendable laid laid' (Some code) v =
      refused_waiting start kind number words i h offered sendable known busy acks r r' code full full' (refused_code kind number r (counted i) code v)

-- what a command does to a camera that is idle
commanded_is : (kind : Kind) (number : ℕ) (acks : List Bool) (r : Registers) (i : Interpreter) → offers kind number ≡ true →
    commanded (word_for (command kind number)) (up 0 acks r i)
    ≡ judged (verdict kind number r (counted i)) kind number (up (next_busy i.coming) acks r (counted i))
unfolding commanded
commanded_is kind number acks r i offered = ap (λ o. executed o (taken_up (up 0 acks r i))) (command_there kind number offered)

missed_length : (kind : Kind) → met kind (NotAcknowledged (address_of Length)) ≡ nothing
missed_length Get = refl
missed_length Set = refl
missed_length Run = refl

missed_command : (kind : Kind) → met kind (NotAcknowledged (address_of CommandRegister)) ≡ nothing
missed_command Get = refl
missed_command Set = refl
missed_command Run = refl

-- a command sent to both, or not taken by either
abbrev pub SendsAlike : ℕ → Kind → ℕ → List ℕ → History → Outcome CameraState (Unit {0}) Fault → Outcome CameraState (Unit {0}) Fault → Type 0
SendsAlike start kind number words h one other =
    Alike (λ _ s t. TakenAlike start kind number words h s t) (λ fault s t. Beside start ready s t h × (met kind fault ≡ nothing)) one other

module _ (start : ℕ) (kind : Kind) (number : ℕ) (words : List ℕ) (i : Interpreter) (h : History)
    (offered : offers kind number ≡ true) (sendable : Sendable kind number words) (known : Known start i h) where
  -- the command register written
  ordered_alike : (size : ℕ) (acks : List Bool) (r r' : Registers) → RegistersFull r → RegistersFull r' →
      Laid kind number words (sized size r) → Laid kind number words (sized size r') →
      SendsAlike start kind number words h (register_written CommandRegister (word_for (command kind number)) (up 0 acks (sized size r) i))
      (register_written CommandRegister (word_for (command kind number)) (up 0 acks (sized size r') i))
  unfolding register_written
  ordered_alike size acks r r' full full' laid laid' = go (next_ack acks)
    where
      c : Command
      c = command kind number

      later : Registers → CameraState
      later r = up 0 (later_acks acks) (sized size r) i

      end : Registers → CameraState
      end r = commanded (word_for c) (later r)

      access : Bool → Registers → Outcome CameraState (Unit {0}) Fault
      access ack r = unless_unacknowledged ack (address_of CommandRegister) (later r) (ended (Ok (tt {0})) (end r))

      both : TakenAlike start kind number words h (end r) (end r')
      both =
          subst₂ (TakenAlike start kind number words h) (sym (commanded_is kind number (later_acks acks) (sized size r) i offered))
          (ap (λ o. judged o kind number (up (next_busy i.coming) (later_acks acks) (sized size r') (counted i)))
          (verdict_same kind number words size r r' (counted i) laid laid')
          ∙ sym (commanded_is kind number (later_acks acks) (sized size r') i offered))
          (judged_alike start number words i h known (next_busy i.coming) (later_acks acks) (sized size r) (sized size r') (sized_full size r full)
          (sized_full size r' full') kind offered sendable laid laid' (verdict kind number (sized size r) (counted i)) refl)

      go : (ack : Bool) → SendsAlike start kind number words h (access ack r) (access ack r')
      go true = record { answer = Ok tt; left = end r; right = end r'; one_is = refl; other_is = refl; holds = both }
      go false =
          record {
            answer = Err (NotAcknowledged (address_of CommandRegister));
            left = later r;
            right = later r';
            one_is = refl;
            other_is = refl;
            holds = (
              ready_beside start i h known (later r) (later r')
                  (still i (later_acks acks) (sized size r) (sized size r') (sized_full size r full) (sized_full size r' full')),
              missed_command kind,
            );
          }

  -- length and command written
  command_alike : (acks : List Bool) (r r' : Registers) → RegistersFull r → RegistersFull r' → Laid kind number words r → Laid kind number words r' →
      SendsAlike start kind number words h (command_written (command kind number) (up 0 acks r i)) (command_written (command kind number) (up 0 acks r' i))
  command_alike acks r r' full full' laid laid' =
      write_then (λ _ s t. TakenAlike start kind number words h s t) (λ fault s t. Beside start ready s t h × (met kind fault ≡ nothing)) Length
      (moved kind number) acks r r' i (register_written CommandRegister (word_for (command kind number)))
      (ready_beside start i h known (up 0 (later_acks acks) r i) (up 0 (later_acks acks) r' i) (still i (later_acks acks) r r' full full'), missed_length kind)
      (ordered_alike (moved kind number) (later_acks acks) r r' full full' (laid_sized kind number words (moved kind number) r laid)
      (laid_sized kind number words (moved kind number) r' laid'))

-- Two operations alike, and what comes after them.
then_alike : {M A B E : Type 0} (P : A → M → M → Type 0) (Q : E → M → M → Type 0) (P' : B → M → M → Type 0) (Q' : E → M → M → Type 0) (one other : Outcome M A E)
    (next : A → M → Outcome M B E) → Alike P Q one other → ((x : A) (s t : M) → P x s t → Alike P' Q' (next x s) (next x t)) →
    ((e : E) (s t : M) → Q e s t → Q' e s t) →
    Alike P' Q' (by_answer one next (λ e s. ended (Err e) s)) (by_answer other next (λ e s. ended (Err e) s))
then_alike {M} {A} {B} {E} P Q P' Q' one other next alike goes fails =
    subst₂ (λ one other. Alike P' Q' (by_answer one next (λ e s. ended (Err e) s)) (by_answer other next (λ e s. ended (Err e) s))) (sym alike.one_is)
    (sym alike.other_is) (go alike.answer alike.holds)
  where
    s : M
    s = alike.left

    t : M
    t = alike.right

    go : (a : Result A E) → Holds a (λ x. P x s t) (λ e. Q e s t) →
        Alike P' Q' (by_answer (ended a s) next (λ e s. ended (Err e) s)) (by_answer (ended a t) next (λ e s. ended (Err e) s))
    go (Ok x) holds = goes x s t holds
    go (Err e) holds = record { answer = Err e; left = s; right = t; one_is = refl; other_is = refl; holds = fails e s t holds }

-- a whole command with a set's words
set_alike : (start number : ℕ) (words : List ℕ) (acks : List Bool) (r r' : Registers) (i : Interpreter) (h : History) → offers Set number ≡ true →
    length words ≡ size_of number → Known start i h → RegistersFull r → RegistersFull r' →
    SendsAlike start Set number words h (sent (command Set number) words (up 0 acks r i)) (sent (command Set number) words (up 0 acks r' i))
set_alike start number words acks r r' i h offered size known full full' =
    then_alike (λ _ s t. Written (by_data number) words i s t) (λ fault s t. IdleTwins i s t × (met Set fault ≡ nothing))
    (λ _ s t. TakenAlike start Set number words h s t) (λ fault s t. Beside start ready s t h × (met Set fault ≡ nothing))
    (words_written (by_data number) 0 words (up 0 acks r i)) (words_written (by_data number) 0 words (up 0 acks r' i))
    (λ _ t. command_written (command Set number) t)
    (words_alike (by_data number) words [] 0 refl (omega (arith, size, has_room number)) acks r r' i full full' refl refl)
    (λ _ s t w. goes s t w) (λ fault s t failed. (ready_beside start i h known s t failed.0, failed.1))
  where
    stands : (r : Registers) → Front (by_data number) words r → standing number r ≡ words
    stands r front = ap (λ n. take n (bank (by_data number) r)) (sym size) ∙ front

    goes : (s t : CameraState) → Written (by_data number) words i s t →
        SendsAlike start Set number words h (command_written (command Set number) s) (command_written (command Set number) t)
    goes s t w =
        subst₂ (λ s t. SendsAlike start Set number words h (command_written (command Set number) s) (command_written (command Set number) t))
        (sym w.twins.s_is) (sym w.twins.t_is)
        (command_alike start Set number words i h offered size known w.twins.acks w.twins.one w.twins.other w.twins.one_full
        w.twins.other_full (stands w.twins.one w.one_front) (stands w.twins.other w.other_front))

pub sent_alike : (start : ℕ) (kind : Kind) (number : ℕ) (words : List ℕ) (acks : List Bool) (r r' : Registers) (i : Interpreter) (h : History) →
    offers kind number ≡ true → Sendable kind number words → Known start i h → RegistersFull r → RegistersFull r' →
    SendsAlike start kind number words h (sent (command kind number) words (up 0 acks r i)) (sent (command kind number) words (up 0 acks r' i))
unfolding words_written
sent_alike start Get number words acks r r' i h offered sendable known full full' =
    subst (λ ws. SendsAlike start Get number ws h (sent (command Get number) ws (up 0 acks r i)) (sent (command Get number) ws (up 0 acks r' i)))
    (sym sendable) (command_alike start Get number [] i h offered refl known acks r r' full full' tt tt)
sent_alike start Set number words acks r r' i h offered sendable known full full' =
    set_alike start number words acks r r' i h offered sendable known full full'
sent_alike start Run number words acks r r' i h offered sendable known full full' =
    subst (λ ws. SendsAlike start Run number ws h (sent (command Run number) ws (up 0 acks r i)) (sent (command Run number) ws (up 0 acks r' i)))
    (sym sendable) (command_alike start Run number [] i h offered refl known acks r r' full full' tt tt)
