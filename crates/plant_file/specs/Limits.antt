-- 02, change 8: "A limit of 2 to 16 counts as written. Limit 0 goes by kind: kind 0 takes the plant's T, 1 to 31 take 2, 32 to 127 take 4, 128 to 191 take 8, 192 to 255 take 16."
-- The sentence, range by range, in 02's figures: the statement shares no test with PlantFile.antt. proofs/GatewayLimits.antt proves it.
use Rattle.std.specs.Prelude.{ℕ, ◌<◌, ◌≤◌, ◌≡◌, List}
use Rattle.plant_file.specs.PlantFile.{file_version, file_n, file_t, kind_byte, limit_byte, limit_of_kind, file_limit, file_refusal}

pub record KindsTake (t : ℕ) : Type 0 where
  pub zero : limit_of_kind t 0 ≡ t
  pub two : (kind : ℕ) → 1 ≤ kind → kind ≤ 31 → limit_of_kind t kind ≡ 2
  pub four : (kind : ℕ) → 32 ≤ kind → kind ≤ 127 → limit_of_kind t kind ≡ 4
  pub eight : (kind : ℕ) → 128 ≤ kind → kind ≤ 191 → limit_of_kind t kind ≡ 8
  pub sixteen : (kind : ℕ) → 192 ≤ kind → kind ≤ 255 → limit_of_kind t kind ≡ 16

-- what a file of either version says of gateway v
pub record LimitSaid (file : List ℕ) (v : ℕ) : Type 0 where
  pub one : file_version file ≡ 1 → file_limit file v ≡ file_t file
  pub written : file_version file ≡ 2 → 2 ≤ limit_byte file v → limit_byte file v ≤ 16 → file_limit file v ≡ limit_byte file v
  pub by_kind : file_version file ≡ 2 → limit_byte file v ≡ 0 → file_limit file v ≡ limit_of_kind (file_t file) (kind_byte file v)

unfoldable pub LimitsSaid : Type 0
LimitsSaid = ((t : ℕ) → KindsTake t) × ((file : List ℕ) (v : ℕ) → LimitSaid file v)

-- each limit of an accepted file is one of 2 to 16
unfoldable pub LimitsInRange : Type 0
LimitsInRange = (file : List ℕ) → file_refusal file ≡ 0 → (v : ℕ) → v < file_n file → (2 ≤ file_limit file v) × (file_limit file v ≤ 16)
