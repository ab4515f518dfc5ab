-- Each number stands where 01 says, low byte first.
use Prim.Native.Nat.{ℕ, ◌+◌, ◌*◌}
use mathlib.Core.Path.{◌≡◌, refl, ◌∙◌}
use mathlib.Core.List.{List}
use native.Mathlib.Omega.{arith}
use Rattle.packing.specs.Plant.{at}
use Rattle.plant_file.specs.PlantFile.{number, file_version, file_n, file_t, file_m, kind_byte, limit_byte}
use Rattle.plant_file.specs.Places.{FileLayout}
use Rattle.plant_file.proofs.LinksByIndex.{links-long, order-long, order-at, link-first, link-second}
use Rattle.plant_file.proofs.Versions.{limit-two, is-two}
use Rattle.plant_file.proofs.GatewayLimits.{limits-long, limits-at, limit_said}

-- the two bytes of a number at a place, and the place after it
bytes-at : (file : List ℕ) (i j : ℕ) → i + 1 ≡ j → number file i ≡ at file i + 256 * at file j
unfolding number
bytes-at file i j e = rw e

pub file_layout : FileLayout
unfolding FileLayout file_version file_n file_t file_m kind_byte limit_byte
file_layout file =
    record {
      version = bytes-at file 3 4 refl;
      gateways = bytes-at file 5 6 refl;
      limit = refl;
      link_count = bytes-at file 8 9 refl;
      two_each = links-long file;
      first = λ i l. link-first file i l ∙ bytes-at file (10 + 4 * i) (11 + 4 * i) (omega arith);
      second = λ i l. link-second file i l ∙ bytes-at file (12 + 4 * i) (13 + 4 * i) (omega arith);
      one_each = order-long file;
      order = λ i l. order-at file i l ∙ bytes-at file (10 + 4 * file_m file + 2 * i) (11 + 4 * file_m file + 2 * i) (omega arith);
      kind = λ v l. refl;
      limit_byte_at = λ v l. refl;
      limit_each = limits-long file;
      limits_one = λ one v l. limits-at file v l ∙ (limit_said file v).one (bytes-at file 3 4 refl ∙ one);
      limits_two = λ two v l. limits-at file v l ∙ limit-two file (is-two file (bytes-at file 3 4 refl ∙ two)) v;
    }
