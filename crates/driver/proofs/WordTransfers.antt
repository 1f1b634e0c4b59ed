-- One word more, written or read.
use Rattle.std.proofs.Common.{◌≡◌, ℕ, suc, ◌+◌, ◌<◌, ◌≤◌, Bool, true, false, List, [], ◌∷◌, ◌++◌, length, get_or, take, drop, set, Ok, Err, Result, sym, refl, ap, ◌∙◌, ap₂, append_assoc, append-nil, add-one, arith, take-append-drop, take_all, drop-cons}
use Rattle.std.proofs.lemmas.List.{drop_all, drop-set-lt, set-get_or, take_more_set}
use Rattle.camera.specs.declared.fault.Fault.{Fault}
use Rattle.camera.specs.State.{CameraState}
use Rattle.camera.specs.Steps.{ended}
use Rattle.calls.specs.Outcomes.{Fetched, by_answer}
use Rattle.camera.specs.declared.attribute.Kind.{Kind}
use Rattle.camera.specs.declared.attribute.Kind.TheVariants.{Get, Set, Run}
use Rattle.camera.specs.Attributes.{size_of}
use Rattle.camera.specs.Execution.{by_data}
use Rattle.camera.proofs.Sizes.{size_bound}
use Rattle.calls.specs.Beginning.{words_sent}
use Rattle.driver.specs.Driving.{bank_size, fetched}
use Rattle.calls.specs.Accesses.{register_read, register_written, place_register, words_written, words_read, with_word}

-- words read before, in front of what is read after them
abbrev pub in_front : List ℕ → Fetched CameraState → Fetched CameraState
in_front words f = record { answer = f.answer; words = words ++ f.words; after = f.after }

written_step : (through : Bool) (place word : ℕ) (words : List ℕ) (s : CameraState) →
    words_written through place (word ∷ words) s
    ≡ by_answer (register_written (place_register through place) word s) (λ _ t. words_written through (suc place) words t) (λ fault t. ended (Err fault) t)
unfolding words_written
written_step through place word words s = refl

-- The first word is written, and then the rest.
pub first_written : (through : Bool) (place : ℕ) (words : List ℕ) (s : CameraState) → place < length words →
    words_written through place (drop place words) s
    ≡ by_answer (register_written (place_register through place) (get_or words place 0) s) (λ _ t. words_written through (place + 1) (drop (place + 1) words) t) (λ fault t. ended (Err fault) t)
first_written through place words s h =
    ap (λ ws. words_written through place ws s) (drop-cons words place 0 h)
    ∙ written_step through place (get_or words place 0) (drop (suc place) words) s
    ∙ ap (λ n. by_answer (register_written (place_register through place) (get_or words place 0) s) (λ _ t. words_written through n (drop n words) t) (λ fault t. ended (Err fault) t)) (sym (add-one place))

-- nothing is left to be written
pub all_written : (through : Bool) (place : ℕ) (words : List ℕ) (s : CameraState) → length words ≤ place →
    words_written through place (drop place words) s ≡ ended (Ok tt) s
unfolding words_written
all_written through place words s h = ap (λ ws. words_written through place ws s) (drop_all place words h)

read_step_is : (through : Bool) (place old : ℕ) (rest : List ℕ) (s : CameraState) →
    words_read through place (old ∷ rest) s
    ≡ by_answer (register_read (place_register through place) s) (λ word t. with_word word (words_read through (suc place) rest t))
    (λ fault t. record { answer = Err fault; words = old ∷ rest; after = t })
unfolding words_read
read_step_is through place old rest s = refl

-- the buffer after a fault is the buffer before it
untouched : (place : ℕ) (buffer : List ℕ) (fault : Fault) (t : CameraState) → place < length buffer →
    in_front (take place buffer) (fetched (Err fault) (get_or buffer place 0 ∷ drop (suc place) buffer) t) ≡ fetched (Err fault) buffer t
untouched place buffer fault t h =
    ap (λ ws. fetched (Err fault) (take place buffer ++ ws) t) (sym (drop-cons buffer place 0 h))
    ∙ ap (λ ws. fetched (Err fault) ws t) (take-append-drop place buffer)

-- a word that is read stands in the buffer, in front of what is read after it
stored : (through : Bool) (place : ℕ) (buffer : List ℕ) (word : ℕ) (t : CameraState) → place < length buffer →
    in_front (take place buffer) (with_word word (words_read through (suc place) (drop (suc place) buffer) t))
    ≡ in_front (take (place + 1) (set buffer place word)) (words_read through (place + 1) (drop (place + 1) (set buffer place word)) t)
stored through place buffer word t h =
    let less : place < place + 1 = omega arith in
    let after : Fetched CameraState = words_read through (suc place) (drop (suc place) buffer) t in
    let rest : words_read through (place + 1) (drop (place + 1) (set buffer place word)) t ≡ after =
    ap (λ b. words_read through (place + 1) b t) (drop-set-lt (place + 1) buffer place word less) ∙ ap (λ n. words_read through n (drop n buffer) t) (add-one place) in
    sym (ap₂ in_front (take_more_set buffer place word h) rest
    ∙ ap (λ ws. record { answer = after.answer; words = ws; after = after.after }) (append_assoc (take place buffer) (word ∷ []) after.words))

-- The first word is read into the buffer, and then the rest.
pub first_read : (through : Bool) (place : ℕ) (buffer : List ℕ) (s : CameraState) → place < length buffer →
    in_front (take place buffer) (words_read through place (drop place buffer) s)
    ≡ by_answer (register_read (place_register through place) s)
    (λ word t. in_front (take (place + 1) (set buffer place word)) (words_read through (place + 1) (drop (place + 1) (set buffer place word)) t))
    (λ fault t. fetched (Err fault) buffer t)
first_read through place buffer s h =
    ap (λ b. in_front (take place buffer) (words_read through place b s)) (drop-cons buffer place 0 h)
    ∙ ap (in_front (take place buffer)) (read_step_is through place (get_or buffer place 0) (drop (suc place) buffer) s)
    ∙ by_case (register_read (place_register through place) s).answer (register_read (place_register through place) s).after
  where
    by_case : (r : Result ℕ Fault) (t : CameraState) →
        in_front (take place buffer) (by_answer (ended r t) (λ word t. with_word word (words_read through (suc place) (drop (suc place) buffer) t))
        (λ fault t. record { answer = Err fault; words = get_or buffer place 0 ∷ drop (suc place) buffer; after = t }))
        ≡ by_answer (ended r t) (λ word t. in_front (take (place + 1) (set buffer place word)) (words_read through (place + 1) (drop (place + 1) (set buffer place word)) t))
        (λ fault t. fetched (Err fault) buffer t)
    by_case (Ok word) t = stored through place buffer word t h
    by_case (Err fault) t = untouched place buffer fault t h

-- nothing is left to be read
pub all_read : (through : Bool) (place : ℕ) (buffer : List ℕ) (s : CameraState) → length buffer ≤ place →
    in_front (take place buffer) (words_read through place (drop place buffer) s) ≡ fetched (Ok tt) buffer s
unfolding words_read
all_read through place buffer s h =
    ap (λ b. in_front (take place buffer) (words_read through place b s)) (drop_all place buffer h)
    ∙ ap (λ ws. fetched (Ok tt) ws s) (append-nil (take place buffer) ∙ take_all place buffer h)

pub ruleset writing = (first_written, all_written)

pub ruleset reading = (first_read, all_read, set-get_or)

-- the words of a command that passed its tests fit the bank through which they pass
bank_holds : (number n : ℕ) (through : Bool) → through ≡ by_data number → n ≤ size_of number → n ≤ bank_size through
bank_holds number n true is h = let k : size_of number ≤ 16 = grind (arith, is) in omega arith
bank_holds number n false is h = omega (arith, size_bound number)

pub sent_fit : (kind : Kind) (number n : ℕ) (through : Bool) → n ≡ words_sent kind number → through ≡ by_data number → n ≤ bank_size through
sent_fit Get number n through few is = bank_holds number n through is (omega arith)
sent_fit Set number n through few is = bank_holds number n through is (omega arith)
sent_fit Run number n through few is = bank_holds number n through is (omega arith)
