-- The laws of call sequences, from the facts about the camera and the walk through calls and sequences.
use Rattle.calls.specs.Accesses.{camera}
use Rattle.calls.specs.Sequences.{ran}
use Rattle.calls.specs.History.{known}
use Rattle.calls.specs.Laws.{LawsOfSequences}
use Rattle.calls.proofs.CameraKept.{camera_kept, fresh}
use Rattle.calls.proofs.Walk as walk
use Rattle.calls.proofs.Sequencing.{ran_append, unhung_and_counted, last_put}
use Rattle.calls.proofs.Exchange.{RunsAlike, exchange}

runs_alike : RunsAlike
runs_alike start calls session s t h beside =
    let r = walk.ran_alike (camera_kept start) calls session s t h beside in
    record {
      answers = walk.same_answers r;
      session = walk.same_session r;
      history = known calls (ran camera calls session s).answers h;
      beside = walk.still_related r;
    }

pub laws_of_sequences : LawsOfSequences
laws_of_sequences s possible unhung calls =
    record {
      unhung_and_counted = unhung_and_counted camera_kept fresh s possible unhung calls;
      last_put = last_put camera_kept fresh s possible unhung calls;
      exchange = exchange runs_alike (ran_append camera) fresh s possible unhung calls;
    }
