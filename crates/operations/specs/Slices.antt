-- Parts of a buffer. Assumes nothing.
use Rattle.std.specs.Prelude.{◌≡◌, ℕ, ◌-◌, take, drop}
use Rattle.standard.specs.Delivery.{Bytes}

-- four parts that fill the front of a buffer
pub record Slices (buf a b c d : Bytes) (l s r n : ℕ) : Type 0 where
  pub first : take l buf ≡ a
  pub second : take (s - l) (drop l buf) ≡ b
  pub third : take (r - s) (drop s buf) ≡ c
  pub fourth : take (n - r) (drop r buf) ≡ d
