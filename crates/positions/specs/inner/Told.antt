-- What a location tells by the places of its values, as the code has them; `told-caller` and `told-live` of proofs/ObjectLaws.antt tie it to `position_at` of
-- Objects.antt. Assumes nothing.
use Rattle.json_text.specs.Places.{bytes}
use Rattle.particulars.specs.Leaves.{provider_of}
use Rattle.positions.specs.Objects.{metres_of, millionths, or_end}
use Rattle.positions.specs.declared.objects.Position.{Position}
use Rattle.std.specs.Prelude.{ℕ, List}

unfoldable pub told : List ℕ → ℕ → ℕ → ℕ → ℕ → Position
told v provider latitude longitude accuracy =
    record {
      provider = provider_of (bytes v (or_end v provider));
      latitude = millionths 90 (bytes v (or_end v latitude));
      longitude = millionths 180 (bytes v (or_end v longitude));
      accuracy = metres_of (bytes v (or_end v accuracy));
    }
