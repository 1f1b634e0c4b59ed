-- A set that is carried out, in closed form; and two sets of different attributes in either order.
use Rattle.std.proofs.Common.{◌≡◌, ℕ, suc, ◌+◌, ◌%◌, ◌≤◌, Bool, true, false, cond, eqb, leb, List, [], length, take, drop, ℤ, pos, Some, None, Ok, Err, Option, sym, refl, ap, ◌∙◌, ap₂, arith, drop-drop, take_at}
use mathlib.Core.Path.{fun_ext}
use lib.Seq.{sets, sets-eq, length-sets}
use Rattle.checks.proofs.Passing.{all_pass, refusal_among}
use Rattle.words.specs.Code.{code_of}
use Rattle.camera.specs.declared.attribute.Attribute.{Attribute}
use Rattle.camera.specs.declared.attribute.Kind.{Kind}
use Rattle.camera.specs.declared.attribute.Kind.TheVariants.{Set}
use Rattle.camera.specs.declared.command.Command.{Command}
use Rattle.camera.specs.declared.fault.Fault.{Fault}
use Rattle.camera.specs.declared.register.Register.TheVariants.{Command as CommandRegister, Length}
use Rattle.camera.specs.Attributes.{attribute_at, has, offers, size_of}
use Rattle.camera.specs.Commands.{command, command_of, word_with}
use Rattle.camera.specs.Execution.{bank, by_data, command_tests, commanded, executed, judged, later_busy, moved, next_busy, standing, taken, verdict, with_bank, with_one}
use Rattle.camera.specs.State.{CameraState, Registers, Interpreter, Words, with_registers}
use Rattle.camera.specs.Steps.{Outcome, ended, idle_status, later_acks}
use Rattle.camera.proofs.CommandWords.{one_word}
use Rattle.camera.proofs.Sizes.{size_bound}
use Rattle.calls.specs.declared.refusal.Refusal.{Refusal}
use Rattle.calls.specs.declared.refusal.Refusal.TheVariants.{Bus}
use Rattle.calls.specs.declared.stage.Stage.TheVariants.{Waiting}
use Rattle.calls.specs.Calls.{Session, asleep, ready, parked, Call, set, Served, served, buffer_of, checks, refused_first}
use Rattle.calls.specs.Outcomes.{by_answer, by_code, carried, collected, is_free, issued, outcome, polled}
use Rattle.calls.specs.Accesses.{camera, command_written, register_written, sent, word_for, words_written}
use Rattle.calls.proofs.Keeping.{RegistersFull}
use Rattle.calls.proofs.UpAccesses.{up, went, later_drop, stores, written, polls}

-- the registers with a set's words and its length in them
abbrev laid : ℕ → List ℕ → Registers → Registers
laid k words r =
    let banked : Registers = with_bank (by_data k) (sets (bank (by_data k) r) 0 words) r in
    record { size = size_of k; data_words = banked.data_words; block_words = banked.block_words }

-- the command word of a command that is offered asks for that command
word_found : (kind : Kind) (k : ℕ) → offers kind k ≡ true → command_of (word_for (command kind k)) ≡ Some (command kind k)
word_found kind k offered = (one_word (word_for (command kind k))).command_of_word (command kind k) (go (attribute_at k) offered)
  where
    go : (o : Option Attribute) → (elim o as (λ _. Bool) [ None ↦ false | Some a ↦ has a.kinds kind ]) ≡ true →
        (elim o as (λ _. Option ℕ) [ None ↦ None | Some a ↦ Some (word_with kind a.base) ])
        ≡ Some (elim o as (λ _. ℕ) [ None ↦ 0 | Some a ↦ word_with kind a.base ])
    go None h = grind arith
    go (Some a) h = refl

-- the bank that an attribute's words pass through has room for them
room : (k : ℕ) (r : Registers) → RegistersFull r → size_of k ≤ length (bank (by_data k) r)
room k r full = go (leb (size_of k) 16) refl
  where
    go : (b : Bool) → leb (size_of k) 16 ≡ b → size_of k ≤ length (bank b r)
    go true e = let few : size_of k ≤ 16 = grind (arith, e) in omega (arith, full.data_full)
    go false e = omega (arith, full.block_full, size_bound k)

bank_of : (b : Bool) (ws : List ℕ) (n : ℕ) (r : Registers) →
    bank b (record { size = n; data_words = (with_bank b ws r).data_words; block_words = (with_bank b ws r).block_words }) ≡ ws
bank_of true ws n r = refl
bank_of false ws n r = refl

stands : (k : ℕ) (words : List ℕ) (r : Registers) → RegistersFull r → length words ≡ size_of k → standing k (laid k words r) ≡ words
stands k words r full size =
    let ws = bank (by_data k) r in
    let fits : 0 + length words ≤ length ws = omega (arith, room k r full, size) in
    ap (take (size_of k)) (bank_of (by_data k) (sets ws 0 words) (size_of k) r ∙ sets-eq words ws 0 fits)
    ∙ take_at words (drop (0 + length words) ws) (size_of k) size

bank_full : (b : Bool) (words : List ℕ) (n : ℕ) (r : Registers) → RegistersFull r →
    let banked : Registers = with_bank b (sets (bank b r) 0 words) r in
    RegistersFull (record { size = n; data_words = banked.data_words; block_words = banked.block_words })
bank_full true words n r full = record { data_full = omega (arith, full.data_full, length-sets r.data_words 0 words); block_full = full.block_full }
bank_full false words n r full = record { data_full = full.data_full; block_full = omega (arith, full.block_full, length-sets r.block_words 0 words) }

laid_full : (k : ℕ) (words : List ℕ) (r : Registers) → RegistersFull r → RegistersFull (laid k words r)
laid_full k words r full = bank_full (by_data k) words (size_of k) r full

-- two marks more used up
two_more : (n : ℕ) (acks : List Bool) → later_acks (later_acks (drop n acks)) ≡ drop (n + 2) acks
two_more n acks = later_drop 0 (later_acks (drop n acks)) ∙ later_drop 1 (drop n acks) ∙ drop-drop 2 n acks

-- A set that is sent: the camera takes its command with words and length in the registers.
abbrev at_command : ℕ → List ℕ → List Bool → Registers → Interpreter → CameraState
at_command k words acks r i = up 0 (drop (length words + 2) acks) (laid k words r) i

sends : (k : ℕ) (words : List ℕ) (acks : List Bool) (r : Registers) (i : Interpreter) →
    (sent (command Set k) words (up 0 acks r i)).answer ≡ Ok tt →
    sent (command Set k) words (up 0 acks r i) ≡ ended (Ok tt) (commanded (word_for (command Set k)) (at_command k words acks r i))
sends k words acks r i e =
    let c : Command = command Set k in
    let stop : Fault → CameraState → Outcome CameraState (Unit {0}) Fault = λ fault t. ended (Err fault) t in
    let next : Unit {0} → CameraState → Outcome CameraState (Unit {0}) Fault = λ _ t. command_written c t in
    let last : Unit {0} → CameraState → Outcome CameraState (Unit {0}) Fault = λ _ t. register_written CommandRegister (word_for c) t in
    let first = words_written (by_data k) 0 words (up 0 acks r i) in
    let g = went first next stop (λ o. o.answer ≡ Ok tt) (λ fault h. grind arith) e in
    let is = written (by_data k) 0 words acks r i (ap (λ o. o.answer) g.1) in
    let acks' = drop (length words) acks in
    let r' : Registers = with_bank (by_data k) (sets (bank (by_data k) r) 0 words) r in
    let e' : (command_written c (up 0 acks' r' i)).answer ≡ Ok tt = sym (ap (λ o. (by_answer o next stop).answer) is) ∙ e in
    let size = register_written Length (moved Set k) (up 0 acks' r' i) in
    let g' = went size last stop (λ o. o.answer ≡ Ok tt) (λ fault h. grind arith) e' in
    let is' = stores Length (moved Set k) acks' r' i (ap (λ o. o.answer) g'.1) in
    let e'' : (register_written CommandRegister (word_for c) (up 0 (later_acks acks') (laid k words r) i)).answer ≡ Ok tt =
    sym (ap (λ o. (by_answer o last stop).answer) is') ∙ e' in
    ap (λ o. by_answer o next stop) is ∙ ap (λ o. by_answer o last stop) is'
    ∙ stores CommandRegister (word_for c) (later_acks acks') (laid k words r) i e''
    ∙ ap (λ marks. ended (Ok tt) (commanded (word_for c) (up 0 marks (laid k words r) i))) (two_more (length words) acks)

-- what a set that is carried out leaves of what commands work on
abbrev pub set_in : ℕ → List ℕ → Interpreter → Interpreter
set_in k words i =
    record { code = pos 0; count = (i.count + 1) % 65536; words = with_one k words i.words; saved = i.saved; coming = later_busy i.coming }

-- how many accesses it makes: its words, length, command, and status until the camera is free
abbrev pub accesses : List ℕ → Interpreter → ℕ
accesses words i = length words + 3 + next_busy i.coming

-- A set that is carried out leaves the session ready and the camera idle, and all registers there.
pub record SetDone (k : ℕ) (words : List ℕ) (acks : List Bool) (i : Interpreter) (o : Served CameraState) : Type 0 where
  pub registers : Registers
  pub full : RegistersFull registers
  pub session : o.session ≡ ready
  pub after : o.after ≡ up 0 (drop (accesses words i) acks) registers (set_in k words i)

-- no code that refuses a set is read as code 0
abbrev Refuses : ℕ → ℤ → Type 0
Refuses k code = (t : CameraState) → (by_code camera (command Set k) [] (code_of (idle_status code)) t).result ≡ Ok tt → ⊥

refuses : (k : ℕ) (r : Registers) (i : Interpreter) (code : ℤ) → verdict Set k r i ≡ Some code → Refuses k code
refuses k r i code e =
    refusal_among (Refuses k) (command_tests Set k r i) code
    (λ t h. grind arith, (λ t h. grind arith, (λ t h. grind arith, (λ t h. grind arith, (λ t h. grind arith, tt))))) e

-- what is left of a set once the camera is free, by its code
abbrev by_code_of : ℕ → ℕ → List Bool → Registers → Interpreter → Served CameraState
by_code_of k n acks r i = by_code camera (command Set k) [] (code_of (idle_status i.code)) (up 0 (drop (suc n) acks) r i)

collects : (k budget n : ℕ) (acks : List Bool) (r : Registers) (i : Interpreter) →
    (collected camera (command Set k) Waiting [] budget (up n acks r i)).result ≡ Ok tt →
    collected camera (command Set k) Waiting [] budget (up n acks r i) ≡ by_code_of k n acks r i
collects k budget n acks r i e =
    let c : Command = command Set k in
    let next : ℕ → CameraState → Served CameraState = λ status t. by_code camera c [] (code_of status) t in
    let stop : Refusal → CameraState → Served CameraState = λ refusal t. served (Err refusal) [] (parked c Waiting) t in
    let g = went (polled camera is_free budget (up n acks r i)) next stop (λ o. o.result ≡ Ok tt) (λ refusal h. grind arith) e in
    ap (λ o. by_answer o next stop) (polls budget n acks r i g.0 (ap (λ o. o.answer) g.1))

-- the command is taken, and its answer collected
DoneAt : ℕ → List ℕ → List Bool → Registers → Interpreter → Served CameraState → Type 0
DoneAt k words acks r i o =
    o ≡ served (Ok tt) [] ready (up 0 (drop (suc (next_busy i.coming)) acks) r (set_in k words i))

judges : (k : ℕ) (words : List ℕ) (budget : ℕ) (acks : List Bool) (r : Registers) (i : Interpreter) → standing k r ≡ words → (o : Option ℤ) →
    verdict Set k r (taken (up 0 acks r i)).interpreter ≡ o →
    (collected camera (command Set k) Waiting [] budget (judged o Set k (taken (up 0 acks r i)))).result ≡ Ok tt →
    DoneAt k words acks r i (collected camera (command Set k) Waiting [] budget (judged o Set k (taken (up 0 acks r i))))
unfolding DoneAt
judges k words budget acks r i here None v e =
    collects k budget (next_busy i.coming) acks r (set_in k (standing k r) i) e
    ∙ ap (λ ws. served (Ok tt) [] ready (up 0 (drop (suc (next_busy i.coming)) acks) r (set_in k ws i))) here
judges k words budget acks r i here (Some code) v e =
    let j : Interpreter = record { code = code; count = (i.count + 1) % 65536; words = i.words; saved = i.saved; coming = later_busy i.coming } in
    let is = collects k budget (next_busy i.coming) acks r j e in
    absurd (refuses k r (taken (up 0 acks r i)).interpreter code v (up 0 (drop (suc (next_busy i.coming)) acks) r j) (sym (ap (λ o. o.result) is) ∙ e))

pub issues : (k : ℕ) (words : List ℕ) (budget : ℕ) (acks : List Bool) (r : Registers) (i : Interpreter) → RegistersFull r → offers Set k ≡ true → length words ≡ size_of k →
    (issued camera (command Set k) words [] budget (up 0 acks r i)).result ≡ Ok tt →
    SetDone k words acks i (issued camera (command Set k) words [] budget (up 0 acks r i))
unfolding commanded DoneAt
issues k words budget acks r i full offered size e =
    let c : Command = command Set k in
    let next : Unit {0} → CameraState → Served CameraState = λ _ t. collected camera c Waiting [] budget t in
    let stop : Fault → CameraState → Served CameraState = λ fault t. served (Err (Bus fault)) [] ready t in
    let g = went (sent c words (up 0 acks r i)) next stop (λ o. o.result ≡ Ok tt) (λ fault h. grind arith) e in
    let u = at_command k words acks r i in
    let taken_is : commanded (word_for c) u ≡ judged (verdict Set k (laid k words r) (taken u).interpreter) Set k (taken u) =
    ap (λ o. executed o (taken u)) (word_found Set k offered) in
    let is : issued camera c words [] budget (up 0 acks r i) ≡ collected camera c Waiting [] budget (judged (verdict Set k (laid k words r) (taken u).interpreter) Set k (taken u)) =
    ap (λ o. by_answer o next stop) (sends k words acks r i (ap (λ o. o.answer) g.1)) ∙ ap (collected camera c Waiting [] budget) taken_is in
    let at_end = is ∙ judges k words budget (drop (length words + 2) acks) (laid k words r) i (stands k words r full size)
    (verdict Set k (laid k words r) (taken u).interpreter) refl (sym (ap (λ o. o.result) is) ∙ e) in
    let marks : drop (suc (next_busy i.coming)) (drop (length words + 2) acks) ≡ drop (accesses words i) acks =
    drop-drop (suc (next_busy i.coming)) (length words + 2) acks ∙ ap (λ n. drop n acks) (omega arith) in
    record {
      registers = laid k words r;
      full = laid_full k words r full;
      session = ap (λ o. o.session) at_end;
      after = ap (λ o. o.after) at_end ∙ ap (λ m. up 0 m (laid k words r) (set_in k words i)) marks;
    }

-- A call that is carried out passed its first tests.
passed : (session : Session) (call : Call) (s : CameraState) → (outcome camera session call s).result ≡ Ok tt →
    (refused_first session call ≡ None) × (outcome camera session call s ≡ carried camera session call s)
passed session call s = go (refused_first session call) refl
  where
    go : (o : Option Refusal) → refused_first session call ≡ o →
        (elim o as (λ _. Served CameraState) [ Some refusal ↦ served (Err refusal) (buffer_of call) session s | None ↦ carried camera session call s ]).result ≡ Ok tt →
        (refused_first session call ≡ None) × ((elim o as (λ _. Served CameraState) [ Some refusal ↦ served (Err refusal) (buffer_of call) session s | None ↦ carried camera session call s ]) ≡ carried camera session call s)
    go None is e = (is, refl)
    go (Some refusal) is e = grind arith

-- what the first tests of a set say
pub record SetBegins (session : Session) (k : ℕ) (words : List ℕ) : Type 0 where
  pub is_ready : session ≡ ready
  pub offered : offers Set k ≡ true
  pub size : length words ≡ size_of k

begins : (session : Session) (k : ℕ) (words : List ℕ) (budget : ℕ) → refused_first session (set k words budget) ≡ None → SetBegins session k words
begins asleep k words budget e = let pass = all_pass (checks asleep (set k words budget)) e in grind (arith, pass.0)
begins ready k words budget e =
    let pass = all_pass (checks ready (set k words budget)) e in
    record { is_ready = refl; offered = pass.1.1.0; size = grind (arith, pass.1.1.1.0) }
begins (parked c stage) k words budget e = let pass = all_pass (checks (parked c stage) (set k words budget)) e in grind (arith, pass.1.0)

pub set_begins : (session : Session) (k : ℕ) (words : List ℕ) (budget : ℕ) (s : CameraState) → (outcome camera session (set k words budget) s).result ≡ Ok tt → SetBegins session k words
set_begins session k words budget s e = begins session k words budget (passed session (set k words budget) s e).0

-- A set that is carried out, from an idle camera.
pub set_done : (k : ℕ) (words : List ℕ) (budget : ℕ) (acks : List Bool) (r : Registers) (i : Interpreter) → RegistersFull r →
    (outcome camera ready (set k words budget) (up 0 acks r i)).result ≡ Ok tt → SetDone k words acks i (outcome camera ready (set k words budget) (up 0 acks r i))
set_done k words budget acks r i full e =
    let p = passed ready (set k words budget) (up 0 acks r i) e in
    let b = begins ready k words budget p.0 in
    let d = issues k words budget acks r i full b.offered b.size (sym (ap (λ o. o.result) p.1) ∙ e) in
    record { registers = d.registers; full = d.full; session = ap (λ o. o.session) p.1 ∙ d.session; after = ap (λ o. o.after) p.1 ∙ d.after }

-- Two sets, one after the other.
abbrev pub after_two : Call → Call → Session → CameraState → Served CameraState
after_two a b session s = outcome camera (outcome camera session a s).session b (outcome camera session a s).after

pub record TwoDone (k l : ℕ) (words others : List ℕ) (acks : List Bool) (i : Interpreter) (o : Served CameraState) : Type 0 where
  pub registers : Registers
  pub session : o.session ≡ ready
  pub after : o.after ≡ up 0 (drop (accesses words i + accesses others (set_in k words i)) acks) registers (set_in l others (set_in k words i))

pub two_done : (k l : ℕ) (words others : List ℕ) (budget allowed : ℕ) (acks : List Bool) (r : Registers) (i : Interpreter) → RegistersFull r →
    (outcome camera ready (set k words budget) (up 0 acks r i)).result ≡ Ok tt →
    (after_two (set k words budget) (set l others allowed) ready (up 0 acks r i)).result ≡ Ok tt →
    TwoDone k l words others acks i (after_two (set k words budget) (set l others allowed) ready (up 0 acks r i))
two_done k l words others budget allowed acks r i full e e' =
    let d = set_done k words budget acks r i full e in
    let acks' = drop (accesses words i) acks in
    let is : after_two (set k words budget) (set l others allowed) ready (up 0 acks r i) ≡ outcome camera ready (set l others allowed) (up 0 acks' d.registers (set_in k words i)) =
    ap₂ (λ session t. outcome camera session (set l others allowed) t) d.session d.after in
    let d' = set_done l others allowed acks' d.registers (set_in k words i) d.full (sym (ap (λ o. o.result) is) ∙ e') in
    record {
      registers = d'.registers;
      session = ap (λ o. o.session) is ∙ d'.session;
      after = ap (λ o. o.after) is ∙ d'.after
          ∙ ap (λ m. up 0 m d'.registers (set_in l others (set_in k words i))) (drop-drop (accesses others (set_in k words i)) (accesses words i) acks);
    }

-- Sets of different attributes commute.
one_and_other : (k l : ℕ) (words others : List ℕ) (w : Words) → eqb k l ≡ false → with_one l others (with_one k words w) ≡ with_one k words (with_one l others w)
unfolding with_one
one_and_other k l words others w apart = fun_ext (λ x. go x (eqb x l) (eqb x k) refl refl)
  where
    go : (x : ℕ) (b d : Bool) → eqb x l ≡ b → eqb x k ≡ d → cond b others (cond d words (w x)) ≡ cond d words (cond b others (w x))
    go x true true is_l is_k = absurd (grind (arith, apart, is_l, is_k))
    go x true false is_l is_k = refl
    go x false true is_l is_k = refl
    go x false false is_l is_k = refl

-- In both orders they leave the same but for the registers.
pub sets_commute : (k l : ℕ) (words others : List ℕ) (acks : List Bool) (i : Interpreter) (o o' : Served CameraState) → eqb k l ≡ false →
    TwoDone k l words others acks i o → TwoDone l k others words acks i o' → with_registers o'.after.registers o.after ≡ o'.after
sets_commute k l words others acks i o o' apart d d' =
    ap₂ with_registers (ap (λ s. s.registers) d'.after) d.after
    ∙ ap₂ (λ n w. up 0 (drop n acks) d'.registers (record { code = pos 0; count = ((i.count + 1) % 65536 + 1) % 65536; words = w; saved = i.saved; coming = later_busy (later_busy i.coming) }))
    (omega arith) (one_and_other k l words others i.words apart)
    ∙ sym d'.after
