-- Response codes: those of rejections, and that of a command that is carried out.
use Rattle.std.specs.Prelude.{ℤ, pos, Some, None, Ok, Err, Option, Result}
use Rattle.camera.specs.Execution.{wrong_size, no_command, not_offered, out_of_limits, already_saved, nothing_saved}
use Rattle.head.specs.declared.rejection.Rejection.{Rejection}
use Rattle.head.specs.declared.rejection.Rejection.TheVariants.{WrongSize, NoCommand, NotOffered, OutOfLimits, AlreadySaved, NothingSaved}

-- the response code of a rejection
abbrev pub code_of : Rejection → ℤ
code_of WrongSize = wrong_size
code_of NoCommand = no_command
code_of NotOffered = not_offered
code_of OutOfLimits = out_of_limits
code_of AlreadySaved = already_saved
code_of NothingSaved = nothing_saved

-- the verdict of the tests: the code of the rejection, if there is one
abbrev pub verdict_of : Result (Unit {0}) Rejection → Option ℤ
verdict_of (Ok done) = None
verdict_of (Err rejection) = Some (code_of rejection)

-- the response code: 0 of a command that is carried out
abbrev pub response : Result (Unit {0}) Rejection → ℤ
response (Ok done) = pos 0
response (Err rejection) = code_of rejection
