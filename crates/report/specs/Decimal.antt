-- 01, "The product": "All figures are in decimal." What the digits of a number say, whatever way they are made. proofs/Decimal.antt proves it.
use Rattle.std.specs.Prelude.{ℕ, ◌+◌, ◌-◌, ◌*◌, ◌<◌, ◌≤◌, ◌≡◌, List, [], ◌∷◌, length}
use Rattle.packing.specs.Plant.{at}
use Rattle.report.specs.Text.{digits}

-- the number that digits say, after those that say x: each is worth ten times the one behind it; the byte of 0 is 48
unfoldable pub figure : ℕ → List ℕ → ℕ
figure x [] = x
figure x (b ∷ bytes) = figure (10 * x + (b - 48)) bytes

-- bytes of 0 to 9, at least one, that say x, with no 0 in front of a number from 1 on
pub record Decimal (x : ℕ) (bytes : List ℕ) : Type 0 where
  pub some : 1 ≤ length bytes
  pub digit : (i : ℕ) → i < length bytes → (48 ≤ at bytes i) × (at bytes i ≤ 57)
  pub says : figure 0 bytes ≡ x
  pub plain : 1 ≤ x → 49 ≤ at bytes 0

-- every number of 16 bits
unfoldable pub InDecimal : Type 0
InDecimal = (x : ℕ) → x < 65536 → Decimal x (digits x)
