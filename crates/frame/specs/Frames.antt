-- A frame is what the sensor sees: a number for each of its pixels. Its mean, and the frames that have none.
use Rattle.std.specs.Prelude.{ℕ, ◌*◌, ◌/◌, Bool, List, [], ◌∷◌, length, sum, Result, ◌==◌}
use Rattle.camera.specs.Attributes.{all_at_most, columns, rows}
use Rattle.checks.specs.Tests.{judged}
use Rattle.frame.specs.declared.FrameRefusal.{FrameRefusal}
use Rattle.frame.specs.declared.FrameRefusal.TheVariants.{Size, Bright}

-- how many pixels the sensor has
abbrev pub pixel_count : ℕ
pixel_count = columns * rows

-- the greatest number that a pixel can have: the sensor measures with fourteen bits
abbrev pub greatest_pixel : ℕ
greatest_pixel = 16383

-- No pixel is above that.
abbrev pub all_dim : List ℕ → Bool
all_dim pixels = all_at_most greatest_pixel pixels

-- A frame has as many pixels as the sensor, and all of them are dim: the tests, in order.
abbrev pub frame_tests : List ℕ → List (Bool × FrameRefusal)
frame_tests pixels = ((length pixels == pixel_count), Size) ∷ (all_dim pixels, Bright) ∷ []

-- The mean of a frame: the sum of its pixels divided by their number, rounded down.
abbrev pub mean_of : List ℕ → Result ℕ FrameRefusal
mean_of pixels = judged (frame_tests pixels) (sum pixels / pixel_count)

-- the number of each refusal
abbrev pub refusal_number : FrameRefusal → ℕ
refusal_number Size = 51
refusal_number Bright = 52
