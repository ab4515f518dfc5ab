-- 01, "The plant file": "Bytes, numbers low byte first: "PLT", 16-bit version 1, 16-bit n, 8-bit T, 16-bit m, m links of two 16-bit ends, n 16-bit numbers of the order."
-- 02, change 8: "adds n pairs of bytes, kind and limit, at the end".
-- Where each number stands, byte by byte, for any bytes: on the right stand the bytes, by n and m alone; a limit of version 2 is `effective_limit` of three of them, which Limits.antt says range by range. proofs/Places.antt proves it.
use Rattle.std.specs.Prelude.{ℕ, ◌+◌, ◌*◌, ◌<◌, ◌≡◌, List, length}
use Rattle.packing.specs.Plant.{at}
use Rattle.packing.specs.Turns.{first_end, second_end}
use Rattle.plant_file.specs.PlantFile.{file_version, file_n, file_t, file_m, file_links, file_order, kind_byte, limit_byte, effective_limit, file_limits}

pub record Places (file : List ℕ) : Type 0 where
  pub version : file_version file ≡ at file 3 + 256 * at file 4
  pub gateways : file_n file ≡ at file 5 + 256 * at file 6
  pub limit : file_t file ≡ at file 7
  pub link_count : file_m file ≡ at file 8 + 256 * at file 9
  pub two_each : length (file_links file) ≡ 2 * file_m file
  pub first : (i : ℕ) → i < file_m file → first_end (file_links file) i ≡ at file (10 + 4 * i) + 256 * at file (11 + 4 * i)
  pub second : (i : ℕ) → i < file_m file → second_end (file_links file) i ≡ at file (12 + 4 * i) + 256 * at file (13 + 4 * i)
  pub one_each : length (file_order file) ≡ file_n file
  pub order : (i : ℕ) → i < file_n file → at (file_order file) i ≡ at file (10 + 4 * file_m file + 2 * i) + 256 * at file (11 + 4 * file_m file + 2 * i)
  pub kind : (v : ℕ) → v < file_n file → kind_byte file v ≡ at file (10 + 4 * file_m file + 2 * file_n file + 2 * v)
  pub limit_byte_at : (v : ℕ) → v < file_n file → limit_byte file v ≡ at file (11 + 4 * file_m file + 2 * file_n file + 2 * v)
  pub limit_each : length (file_limits file) ≡ file_n file
  -- in version 1 T for each; in version 2 by the gateway's kind and limit byte (Limits.antt)
  pub limits_one : at file 3 + 256 * at file 4 ≡ 1 → (v : ℕ) → v < file_n file → at (file_limits file) v ≡ at file 7
  pub limits_two : at file 3 + 256 * at file 4 ≡ 2 → (v : ℕ) → v < file_n file
      → at (file_limits file) v ≡ effective_limit (at file 7) (at file (10 + 4 * file_m file + 2 * file_n file + 2 * v)) (at file (11 + 4 * file_m file + 2 * file_n file + 2 * v))

unfoldable pub FileLayout : Type 0
FileLayout = (file : List ℕ) → Places file
