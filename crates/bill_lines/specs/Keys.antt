-- The key of an identifier as bytes at the front of an output. Assumes nothing.
use Rattle.std.proofs.Math.Option.{Option as Maybe, none, some}
use Rattle.std.specs.Prelude.{ℕ, take, Option, Some, None}
use Rattle.standard.specs.Tag.{Tag}
use Rattle.standard.specs.Delivery.{Bytes}

-- a key of n bytes, or a refusal
unfoldable pub key_is : Option ℕ → Bytes → Maybe Tag
key_is None out = none
key_is (Some n) out = some (take n out)
