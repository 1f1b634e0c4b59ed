-- A frame for a head.
use Rattle.std.specs.Prelude.{ℕ, [], ◌∷◌, Ok, Err, Result}
use Rattle.camera.specs.Attributes.{frame_mean}
use Rattle.camera.specs.Execution.{with_one}
use Rattle.camera.specs.State.{CameraState, with_interpreter, with_words}
use Rattle.camera.specs.Steps.{Outcome, ended}
use Rattle.frame.specs.declared.FrameRefusal.{FrameRefusal}

-- the state with another frame mean, and nothing else changed
abbrev pub with_mean : ℕ → CameraState → CameraState
with_mean mean s = with_interpreter (with_words (with_one frame_mean (mean ∷ []) s.interpreter.words) s.interpreter) s

-- A frame that has a mean gives the camera that mean; any other is refused and changes nothing.
abbrev pub framed : Result ℕ FrameRefusal → CameraState → Outcome CameraState (Unit {0}) FrameRefusal
framed (Ok mean) s = ended (Ok tt) (with_mean mean s)
framed (Err refusal) s = ended (Err refusal) s
