-- How large the sum of dim pixels can be.
use Rattle.std.proofs.Common.{◌≡◌, ℕ, ◌*◌, ◌≤◌, true, List, [], ◌∷◌, length, sum, arith}
use Rattle.std.proofs.ByRecursion.{sum_by_le}
use Rattle.std.specs.List.{AllByRecursion as All}
use Rattle.camera.specs.Attributes.{all_at_most}
use Rattle.frame.specs.Frames.{all_dim, greatest_pixel, pixel_count}

each_dim : (pixels : List ℕ) → all_dim pixels ≡ true → All (λ pixel. pixel ≤ greatest_pixel) pixels
unfolding all_at_most
each_dim [] h = tt
each_dim (pixel ∷ pixels) h =
    let here : pixel ≤ greatest_pixel = grind (arith, h) in
    let rest : all_dim pixels ≡ true = grind (arith, h) in
    (here, each_dim pixels rest)

pub dim_sum : (pixels : List ℕ) → length pixels ≡ pixel_count → all_dim pixels ≡ true → sum pixels ≤ pixel_count * greatest_pixel
dim_sum pixels size dim = omega (arith, sum_by_le (λ x. x) greatest_pixel pixels (each_dim pixels dim), size)
