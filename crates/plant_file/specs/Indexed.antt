-- A file checked once, with its links, the index of them, its order and its limits left in lists.
use Rattle.std.specs.Prelude.{ℕ, ◌+◌, ◌*◌, ◌≤◌, ◌≡◌, List, length, replicate}
use Rattle.packing.specs.Lists.{written}
use Rattle.packing.specs.Plant.{NONE, GATEWAYS, LINKS, ENDS}
use Rattle.chains.specs.Index.{Index}
use Rattle.plant_file.specs.PlantFile.{file_n, file_m, file_links, file_order, file_limits}

-- places for the links of a file, where it has no more than a plant may have, and an index of no links
pub record Unlinked (file links next : List ℕ) : Type 0 where
  pub ends : file_m file ≤ LINKS → 2 * file_m file ≤ length links
  pub few : length links ≤ ENDS
  pub empty : next ≡ replicate (length links + GATEWAYS) NONE

-- .. and places for the longest order and as many limits
pub record Blank (file links next order limits : List ℕ) : Type 0 where
  pub unlinked : Unlinked file links next
  pub gateways : length order ≡ GATEWAYS
  pub limited : length limits ≡ GATEWAYS

-- the links in the first 2m places, and the index of them
pub record LinksIndexed (file links₀ links next : List ℕ) : Type 0 where
  pub ends : links ≡ written (2 * file_m file) (file_links file) links₀
  pub index : Index (file_links file) next

-- .. with the order and the limits in the first n places
pub record Indexed (file links₀ order₀ limits₀ links next order limits : List ℕ) : Type 0 where
  pub ends : links ≡ written (2 * file_m file) (file_links file) links₀
  pub index : Index (file_links file) next
  pub ordered : order ≡ written (file_n file) (file_order file) order₀
  pub limited : limits ≡ written (file_n file) (file_limits file) limits₀
