-- No attribute has more words than the block buffer.
use Rattle.std.proofs.Common.{◌≡◌, ℕ, ◌≤◌, Bool, leb, Some, None, Option, refl, arith}
use Rattle.camera.specs.declared.attribute.Attribute.{Attribute}
use Rattle.camera.specs.Attributes.{attributes, attribute_at, size_of}
use Rattle.camera.proofs.Lists.{every_at}

fits_block : ℕ → Attribute → Bool
fits_block k a = leb a.words 512

pub words_bound : (k : ℕ) (a : Attribute) → attribute_at k ≡ Some a → a.words ≤ 512
unfolding attribute_at fits_block
words_bound k a e = grind (arith, every_at fits_block 0 attributes refl k a e)

pub size_bound : (k : ℕ) → size_of k ≤ 512
size_bound k = go (attribute_at k) refl
  where
    go : (o : Option Attribute) → attribute_at k ≡ o → (elim o as (λ _. ℕ) [ None ↦ 0 | Some a ↦ a.words ]) ≤ 512
    go None e = omega arith
    go (Some a) e = words_bound k a e
