-- The code's values as the definitions have them.
use Rattle.std.specs.Prelude.{[], ◌∷◌, Ok, Err, Result}
use Rattle.checks.specs.Tests.{judged}
use Rattle.packet.specs.declared.refusal.PacketRefusal.{PacketRefusal}
use Rattle.packet.specs.declared.refusal.PacketRefusal.TheVariants.{WrongFunction}
use Rattle.packet.specs.declared.parts.Parts.{Parts}
use Rattle.packet.specs.Layout.{Content, function_code}
use Rattle.packet.specs.Reading.{is_function}

-- what the parts of an opened packet say
abbrev pub parts_content : Parts → Content
parts_content parts = record { status = parts.status; function = function_code parts.function; arguments = parts.arguments.now }

-- the same of what opening a packet answers
abbrev pub opened_content : Result Parts PacketRefusal → Result Content PacketRefusal
opened_content (Ok parts) = Ok (parts_content parts)
opened_content (Err refusal) = Err refusal

-- a content whose function is known
abbrev pub known : Content → Result Content PacketRefusal
known content = judged ((is_function content.function, WrongFunction) ∷ []) content
