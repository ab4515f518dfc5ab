-- Holders that a search may be made with: n is in range, there is an entry for each gateway, and nobody holds more than the highest limit. Every sound record's holders are so.
use Rattle.std.specs.Prelude.{ℕ, Bool, ◌&&◌, List, leb, length}
use Rattle.packing.specs.Plant.{GATEWAYS, HIGHEST, common}
use Rattle.sound.specs.Sound.{holders_within}

unfoldable pub searchable : ℕ → List ℕ → Bool
searchable n hs = leb n GATEWAYS && leb n (length hs) && holders_within n (common HIGHEST) hs
