-- What the contracts of private functions cite. A reader of the public ones needs none of it.
use Rattle.std.specs.Prelude.{ℕ, ◌+◌, ◌*◌, ◌<◌, ◌≤◌, ◌≡◌, not, ◌||◌, List, eqb, ltb, length, take, set}
use Rattle.packing.specs.Plant.{GATEWAYS, LINKS, LOWEST, HIGHEST}
use Rattle.packing.specs.Lists.{list_of}
use Rattle.packing.specs.Refusals.{refuse}
use Rattle.packing.specs.Orders.{repeats_or_outside}
use Rattle.chains.specs.Build.{Built}
use Rattle.plant_file.specs.declared.indexed.Links.{Links}
use Rattle.plant_file.specs.PlantFile.{file_version, file_n, file_t, file_m, file_order, kind_byte, limit_byte, effective_limit, file_length, begins_plt, ends_refusal}
use Rattle.plant_file.specs.Indexed.{Unlinked}

-- the conditions of a file that speak of its header and length alone, in their turn
unfoldable pub sizes_refusal : List ℕ → ℕ
sizes_refusal file =
    refuse (ltb GATEWAYS (file_n file)) 1
    (refuse (ltb (file_t file) LOWEST || ltb HIGHEST (file_t file)) 2
    (refuse (ltb LINKS (file_m file)) 12
    (refuse (not (eqb (length file) (file_length file))) 9 0)))

unfoldable pub header_refusal : List ℕ → ℕ
header_refusal file =
    refuse (ltb (length file) 10) 9
    (refuse (not (begins_plt file)) 7
    (refuse (not (eqb (file_version file) 1 || eqb (file_version file) 2)) 8 (sizes_refusal file)))

-- .. and the order's alone: 6
abbrev pub order_refusal : List ℕ → ℕ
order_refusal file = refuse (repeats_or_outside (file_n file) (file_order file)) 6 0

-- the limits that the pairs of version 2 give
unfoldable pub pair_limits : List ℕ → List ℕ
pair_limits file = list_of (file_n file) (λ v. effective_limit (file_t file) (kind_byte file v) (limit_byte file v))

-- there are places for one more of the links taken so far, which the lists hold
pub record Taking (so_far : Links) : Type 0 where
  pub few : so_far.n ≤ GATEWAYS
  pub more : 2 * so_far.count + 1 < length so_far.links.now
  pub built : Built so_far.links.now so_far.count so_far.next.now so_far.last

-- 3, 4, 20 for a link a-b after them
abbrev pub next_refusal : Links → ℕ → ℕ → ℕ
next_refusal so_far a b = ends_refusal so_far.n (take (2 * so_far.count) so_far.links.now) a b

-- .. and the lists hold it too
pub record Taken (old : Links) (a b : ℕ) (new : Links) : Type 0 where
  pub same : new.n ≡ old.n
  pub count : new.count ≡ old.count + 1
  pub ends : new.links.now ≡ set (set old.links.now (2 * old.count) a) (2 * old.count + 1) b
  pub built : Built new.links.now new.count new.next.now new.last

-- places for all links of a file whose header is not refused, and an index of no links
pub record Unindexed (file links next : List ℕ) : Type 0 where
  pub few : file_n file ≤ GATEWAYS
  pub links-few : file_m file ≤ LINKS
  pub unlinked : Unlinked file links next

-- places for an order of no more than 1,024
pub record Orderly (file order : List ℕ) : Type 0 where
  pub few : file_n file ≤ GATEWAYS
  pub places : file_n file ≤ length order
