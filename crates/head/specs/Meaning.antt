-- The camera's state that a head stands for.
use Rattle.std.specs.Prelude.{ℕ, cond, zero, suc, ◌<◌, List, take, replicate, Some, None, Option, slice_index, slice_index_or, refl}
use Rattle.std.proofs.Common.{lit<}
use Rattle.camera.specs.Attributes.{is_saved, size_of}
use Rattle.camera.specs.Execution.{only_saved}
use Rattle.camera.specs.State.{CameraState, Registers, Words}
use Rattle.head.specs.declared.inner.Inner.{Inner}
use Rattle.head.specs.declared.inner.Record.{Record}
use Rattle.head.specs.declared.inner.Table.{Table}
use Rattle.head.specs.declared.memory.Head.{Head}

pub zeros_below : (n k : ℕ) → slice_index (replicate n 0) k < 65536
zeros_below zero k = lit< tt
zeros_below (suc n) zero = lit< tt
zeros_below (suc n) (suc k) = zeros_below n k

-- a record of zeros
abbrev pub blank : Record
blank = record { words = replicate 512 0; full = (refl, zeros_below 512) }

-- the words of each attribute in a table of records
unfoldable pub words_in : List Record → Words
words_in records = λ number. take (size_of number) (slice_index_or records number blank).words

-- the record of a number after a restore: the saved one if the user defaults save that attribute, else its own
abbrev pub after_restore : List Record → List Record → ℕ → Record
after_restore saved own number = cond (is_saved number) (slice_index_or saved number blank) (slice_index_or own number blank)

-- the user defaults, of which only the saved attributes count
abbrev pub saved_in : Option Table → Option Words
saved_in None = None
saved_in (Some table) = Some (only_saved (words_in table.records))

abbrev pub registers_in : Inner → Registers
registers_in inner = record { size = inner.size; data_words = inner.«data»; block_words = inner.block }

-- the camera's state
abbrev pub head_state : Head → CameraState
head_state head =
    record {
      hung = head.inner.hung;
      boot = head.inner.boot;
      busy = head.inner.busy;
      acks = head.acks.items;
      registers = registers_in head.inner;
      interpreter = record {
        code = head.inner.code;
        count = head.inner.count;
        words = words_in head.inner.table.records;
        saved = saved_in head.inner.saved;
        coming = head.coming.items;
      };
    }
