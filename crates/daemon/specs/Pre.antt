-- What the contracts of private functions cite. A reader of the public ones needs none of it.
use Rattle.std.specs.Prelude.{ℕ, ◌+◌, ◌*◌, ◌/◌, ◌≤◌, List, min, length}
use Rattle.packing.specs.Plant.{GATEWAYS}
use Rattle.daemon.specs.Groups.{bytes_for}

-- n leaders and n choke bytes, and places for them and for four bytes more
pub record Plannable (n : ℕ) (leaders choke out : List ℕ) : Type 0 where
  pub led : n ≤ length leaders
  pub choked : n ≤ length choke
  pub places : bytes_for n ≤ length out

-- two sets of a plant's gateways, and places for their bytes
pub record Settable (first second out : List ℕ) : Type 0 where
  pub few : length first ≤ GATEWAYS
  pub few' : length second ≤ GATEWAYS
  pub places : 4 + 2 * length first + 2 * length second ≤ length out

-- how many entries of a leader list with so many bytes are read
abbrev pub entries_read : ℕ → ℕ
entries_read len = min (len / 2) GATEWAYS
