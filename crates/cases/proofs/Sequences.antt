-- The worked call sequences, by computing. Each lemma stands alone, since a check of one lemma may only take so many steps.
use Rattle.std.specs.Prelude.{[], ◌∷◌, refl}
use Rattle.camera.specs.Attributes.{attribute_at, start_words, colours_fit}
use Rattle.camera.specs.Commands.{attribute_in}
use Rattle.camera.specs.Execution.{commanded, with_one, only_saved, put_back}
use Rattle.camera.specs.State.{shown}
use Rattle.calls.specs.Accesses.{register_read, register_written, words_written, words_read}
use Rattle.calls.specs.Outcomes.{polled}
use Rattle.calls.specs.Sequences.{ran}
use Rattle.cases.specs.Sequences.{ComeOut, worked_sequences, exchanged, threshold_set, colours_set, colours_not_saved, colours_resumed}

pub small : ComeOut worked_sequences
unfolding start_words colours_fit with_one only_saved put_back shown register_read register_written words_written words_read polled ran attribute_at attribute_in commanded
small = record { at_once = refl; in_parts = refl }

pub colours_behind : ComeOut (exchanged threshold_set colours_set ∷ [])
unfolding start_words colours_fit with_one only_saved put_back shown register_read register_written words_written words_read polled ran attribute_at attribute_in commanded
colours_behind = record { at_once = refl; in_parts = refl }

pub colours_in_front : ComeOut (exchanged colours_set threshold_set ∷ [])
unfolding start_words colours_fit with_one only_saved put_back shown register_read register_written words_written words_read polled ran attribute_at attribute_in commanded
colours_in_front = record { at_once = refl; in_parts = refl }

pub colours_put_after_a_save : ComeOut (colours_not_saved ∷ [])
unfolding start_words colours_fit with_one only_saved put_back shown register_read register_written words_written words_read polled ran attribute_at attribute_in commanded
colours_put_after_a_save = record { at_once = refl; in_parts = refl }

pub colours_read_again : ComeOut (colours_resumed ∷ [])
unfolding start_words colours_fit with_one only_saved put_back shown register_read register_written words_written words_read polled ran attribute_at attribute_in commanded
colours_read_again = record { at_once = refl; in_parts = refl }
