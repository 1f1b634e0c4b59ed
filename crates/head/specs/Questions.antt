-- What a program may ask of a head.
use Rattle.camera.specs.Execution.{is_some}
use Rattle.camera.specs.State.{CameraState}
use Rattle.head.specs.declared.questions.HeadReport.{HeadReport}

-- the plain values of a state
abbrev pub report_of : CameraState → HeadReport
report_of s =
    record {
      hung = s.hung;
      boot = s.boot;
      busy = s.busy;
      code = s.interpreter.code;
      count = s.interpreter.count;
      size = s.registers.size;
      saved = is_some s.interpreter.saved;
    }
