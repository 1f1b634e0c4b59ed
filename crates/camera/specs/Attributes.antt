-- The attributes of a camera: one table, and the questions that are asked of it.
use Rattle.std.specs.Prelude.{ℕ, suc, ◌+◌, ◌-◌, ◌*◌, ◌%◌, Bool, true, false, cond, not, List, [], ◌∷◌, take, replicate, pos, negsuc, Some, None, Option, ◌==◌, int_le, nat_le, slice_index}
use Rattle.std.specs.Int.{w32}
use Rattle.std.proofs.Common.{to_z}
use Rattle.std.specs.List.{slice_get}
use Rattle.camera.specs.Registers.{over}
use Rattle.camera.specs.declared.attribute.Attribute.{Attribute}
use Rattle.camera.specs.declared.attribute.Kind.{Kind}
use Rattle.camera.specs.declared.attribute.Kind.TheVariants.{Get, Set, Run}
use Rattle.camera.specs.declared.attribute.Kinds.{Kinds}
use Rattle.camera.specs.declared.attribute.Limits.{Limits}
use Rattle.camera.specs.declared.attribute.Limits.TheVariants.{Fixed, Any, AtMost, Between, FocusRegion, Colours}
use Rattle.camera.specs.declared.attribute.Name.{Name}
use Rattle.camera.specs.declared.attribute.Name.TheVariants.{GainControl, Status, SerialNumber, FpaTemperature, Telemetry, TelemetryPlace, FrameAverage, FramesAveraged, ColourScheme, ColourTable, Focus, Region, Threshold, FlatFieldTarget, OemStatus, FrameMean, PinMode, SyncDelay, UserDefaults, Restore}
use Rattle.checks.specs.Tests.{both}

-- the sensor's size in pixels
abbrev pub columns : ℕ
columns = 80

abbrev pub rows : ℕ
rows = 60

-- which kinds of command an attribute has
abbrev pub kinds : Bool → Bool → Bool → Kinds
kinds gets sets runs = record { gets = gets; sets = sets; runs = runs }

abbrev pub G : Kinds
G = kinds true false false

abbrev pub GS : Kinds
GS = kinds true true false

abbrev pub R : Kinds
R = kinds false false true

abbrev pub GR : Kinds
GR = kinds true false true

abbrev pub GSR : Kinds
GSR = kinds true true true

abbrev pub attribute : Name → ℕ → ℕ → Kinds → Limits → List ℕ → Attribute
attribute name base words kinds limits start =
    record { name = name; base = base; words = words; kinds = kinds; limits = limits; start = start }

-- the first four start words of an attribute whose other start words are 0
abbrev pub zeros : List ℕ
zeros = 0 ∷ 0 ∷ 0 ∷ 0 ∷ []

abbrev pub starts : ℕ → List ℕ
starts word = word ∷ 0 ∷ 0 ∷ 0 ∷ []

-- The attributes, by number: name, base of the command words, number of words, kinds, limits of a set, start words.
-- (The status, the serial number, the sensor's temperature and the user defaults show other words: see the state.)
abbrev pub attributes : List Attribute
attributes =
    attribute GainControl 0x0100 2 GS (AtMost 1) zeros
    ∷ attribute Status 0x0204 4 G Fixed zeros
    ∷ attribute SerialNumber 0x0208 4 G Fixed zeros
    ∷ attribute FpaTemperature 0x0214 1 G Fixed zeros
    ∷ attribute Telemetry 0x0218 2 GS (AtMost 1) zeros
    ∷ attribute TelemetryPlace 0x021C 2 GS (AtMost 1) (starts 1)
    ∷ attribute FrameAverage 0x0220 0 R Fixed zeros
    ∷ attribute FramesAveraged 0x0224 2 GS (AtMost 7) (starts 3)
    ∷ attribute ColourScheme 0x0304 2 GS (AtMost 8) (starts 1)
    ∷ attribute ColourTable 0x0308 512 GS Colours zeros
    ∷ attribute Focus 0x030C 2 GS (AtMost 1) zeros
    ∷ attribute Region 0x0310 4 GS FocusRegion (1 ∷ 1 ∷ (columns - 2) ∷ (rows - 2) ∷ [])
    ∷ attribute Threshold 0x0314 2 GS Any (starts 30)
    ∷ attribute FlatFieldTarget 0x0844 1 GSR (AtMost 16383) (starts 8192)
    ∷ attribute OemStatus 0x0848 2 G Fixed zeros
    ∷ attribute FrameMean 0x084C 1 G (AtMost 16383) zeros
    ∷ attribute PinMode 0x0854 2 GS (AtMost 5) zeros
    ∷ attribute SyncDelay 0x0858 2 GS (Between (negsuc 2) (pos 3)) zeros
    ∷ attribute UserDefaults 0x085C 2 GR Fixed zeros
    ∷ attribute Restore 0x0860 0 R Fixed zeros
    ∷ []

-- the numbers of those that have rules of their own
abbrev pub status : ℕ
status = 1

abbrev pub serial_number : ℕ
serial_number = 2

abbrev pub fpa_temperature : ℕ
fpa_temperature = 3

abbrev pub colour_table : ℕ
colour_table = 9

abbrev pub frame_mean : ℕ
frame_mean = 15

abbrev pub user_defaults : ℕ
user_defaults = 18

abbrev pub restore : ℕ
restore = 19

-- the attribute of a number
unfoldable pub attribute_at : ℕ → Option Attribute
attribute_at number = slice_get attributes number

-- a question to the attribute of a number, with an answer for numbers that have none
abbrev pub asked : {A : Type 0} → (Attribute → A) → A → ℕ → A
asked question otherwise number = elim (attribute_at number) [ None ↦ otherwise | Some found ↦ question found ]

-- how many words the attribute of a number has
abbrev pub size_of : ℕ → ℕ
size_of number = asked (λ a. a.words) 0 number

-- whether an attribute has a kind of command
abbrev pub has : Kinds → Kind → Bool
has k Get = k.gets
has k Set = k.sets
has k Run = k.runs

abbrev pub offers : Kind → ℕ → Bool
offers kind number = asked (λ a. has a.kinds kind) false number

-- whether a user may set it
abbrev pub is_settable : ℕ → Bool
is_settable number = offers Set number

-- The user defaults save every attribute that can be set but the colour table.
abbrev pub is_saved : ℕ → Bool
is_saved number = both (is_settable number) (not (number == colour_table))

-- the words of an attribute when the camera is made
unfoldable pub start_words : ℕ → List ℕ
start_words number = take (size_of number) (over (asked (λ a. a.start) [] number) (replicate 512 0))

-- The number in one word, or in two words with the low one first.
abbrev pub pair_number : List ℕ → ℕ
pair_number words = slice_index words 0 + 65536 * slice_index words 1

-- A region spans from a start of at least 1 to an end at least 2 behind it, and ends 2 before the sensor's edge at most.
abbrev pub span_fits : ℕ → ℕ → ℕ → Bool
span_fits edge start end = both (nat_le 1 start) (both (nat_le (start + 2) end) (nat_le (end + 2) edge))

-- A region is start column, start row, end column, end row.
abbrev pub region_fits : ℕ → ℕ → List ℕ → Bool
region_fits width height words =
    both (span_fits width (slice_index words 0) (slice_index words 2)) (span_fits height (slice_index words 1) (slice_index words 3))

-- An entry of the colour table is two words, and the high byte of its first word is 0.
abbrev pub colour_fits : ℕ → ℕ → Bool
colour_fits place word = cond (place % 2 == 0) (nat_le word 255) true

-- the same of all words from a place on
unfoldable pub colours_fit : ℕ → List ℕ → Bool
colours_fit place [] = true
colours_fit place (word ∷ words) = both (colour_fits place word) (colours_fit (suc place) words)

-- no word is above a greatest one
unfoldable pub all_at_most : ℕ → List ℕ → Bool
all_at_most greatest [] = true
all_at_most greatest (word ∷ words) = both (nat_le word greatest) (all_at_most greatest words)

-- whether words keep an attribute's limits
abbrev pub within : Limits → List ℕ → Bool
within Fixed words = false
within Any words = true
within (AtMost greatest) words = nat_le (pair_number words) greatest
within (Between least greatest) words =
    both (int_le least (to_z w32 (pair_number words))) (int_le (to_z w32 (pair_number words)) greatest)
within FocusRegion words = region_fits columns rows words
within Colours words = colours_fit 0 words
