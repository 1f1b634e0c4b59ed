-- Making a head: the limits, and the state that is made.
use Rattle.std.specs.Prelude.{ℕ, Bool, false, cond, [], ◌∷◌, replicate, pos, None, vec_items, vec_len, ◌==◌, nat_le}
use Rattle.checks.specs.Tests.{both}
use Rattle.words.specs.Words.{number_words}
use Rattle.camera.specs.Registers.{data_size, block_size}
use Rattle.camera.specs.Attributes.{all_at_most, fpa_temperature, serial_number, start_words}
use Rattle.camera.specs.State.{CameraState, Words}
use Rattle.head.specs.declared.settings.HeadSettings.{HeadSettings}

-- the number of the refusal
abbrev pub refusal_number : ℕ
refusal_number = 53

-- the most boot polls, and the most busy polls of a command
abbrev pub most_polls : ℕ
most_polls = 9999

-- Boot polls and busy polls up to 9,999, up to 64 numbers of busy polls, up to 4,096 acknowledgement marks.
abbrev pub lawful_settings : HeadSettings → Bool
lawful_settings s =
    both (nat_le s.boot most_polls)
    (both (nat_le (vec_len s.busy) 64) (both (nat_le (vec_len s.acks) 4096) (all_at_most most_polls (vec_items s.busy))))

-- The start words, but for the serial number and the sensor's temperature.
unfoldable pub made_words : ℕ → ℕ → Words
made_words serial fpa = λ number.
    cond (number == serial_number) (number_words 4 serial)
    (cond (number == fpa_temperature) (fpa ∷ []) (start_words number))

-- The state of a new head: it boots, does not hang and is not busy; code, count and registers are 0; nothing is saved.
abbrev pub made_state : HeadSettings → CameraState
made_state s =
    record {
      hung = false;
      boot = s.boot;
      busy = 0;
      acks = vec_items s.acks;
      registers = record { size = 0; data_words = replicate data_size 0; block_words = replicate block_size 0 };
      interpreter = record {
        code = pos 0;
        count = 0;
        words = made_words s.serial s.fpa;
        saved = None;
        coming = vec_items s.busy;
      };
    }
