-- Laws of what a crash may leave now.
use Rattle.std.proofs.Common.{◌≡◌, ℕ, List, [], ◌∷◌, refl, subst}
use Rattle.media_disk.specs.Content.{Torn}
use Rattle.media_disk.specs.Images.{IsImage}

-- what is the same is torn nowhere
pub torn_same : (at n : ℕ) (bytes : List ℕ) → Torn at n bytes bytes
torn_same at n bytes = record { as_long = refl; before = refl; after = refl }

-- a crash may leave what a read gives
pub image_now : (bytes : List ℕ) (ranges : List (ℕ × ℕ)) → IsImage bytes ranges bytes
image_now bytes [] = refl
image_now bytes (range ∷ ranges) = (bytes, torn_same range.0 range.1 bytes, image_now bytes ranges)

-- where nothing is pending it leaves nothing else
pub one_image : (bytes : List ℕ) (ranges : List (ℕ × ℕ)) (image : List ℕ) → ranges ≡ [] → IsImage bytes ranges image → image ≡ bytes
one_image bytes ranges image none left = subst (λ (pending : List (ℕ × ℕ)). IsImage bytes pending image) none left
