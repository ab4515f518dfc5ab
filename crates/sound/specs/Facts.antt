-- 01, "The record": "A record is sound if ..", each clause as a fact of the numbers and lists, with 01's own numbers; and 02, change 8: "a sound record has 2 to 16 in each and holds to them". The tests of Sound.antt are no part of it.
use Rattle.std.specs.Prelude.{ℕ, ◌*◌, ◌<◌, ◌≤◌, ◌≡◌, ◌⊎◌, ◌↔◌, true, List, length}
use Rattle.packing.specs.Plant.{at}
use Rattle.packing.specs.Holders.{holds}
use Rattle.packing.specs.Turns.{LinkThere, first_end, second_end}
use Rattle.sound.specs.Sound.{is_sound}

pub record Facts (n t m k : ℕ) (ls os hs ts : List ℕ) : Type 0 where
  -- "n, T, m are in range, k ≤ n"
  pub gateways : n ≤ 1024
  pub lowest : 2 ≤ t
  pub highest : t ≤ 16
  pub links : m ≤ 8192
  pub placed : k ≤ n
  -- "the lists are at least 2m, n and n long"
  pub links_long : 2 * m ≤ length ls
  pub order_long : n ≤ length os
  pub holders_long : n ≤ length hs
  -- the limits: "at least n places", "2 to 16 in each"
  pub limits_long : n ≤ length ts
  pub limits : (u : ℕ) → u < n → (2 ≤ at ts u) × (at ts u ≤ 16)
  -- "link ends differ and are below n"
  pub ends : (i : ℕ) → i < m → (first_end ls i < n) × (second_end ls i < n) × (first_end ls i ≡ second_end ls i → ⊥)
  -- "the first n of the order hold 0 to n − 1 once each"
  pub order : (v : ℕ) → v < n → (i : ℕ) × (i < n) × (at os i ≡ v) × ((j : ℕ) → j < n → at os j ≡ v → j ≡ i)
  -- "every holder is linked to what it holds"; 65535 for none
  pub along : (v : ℕ) → v < n → (at hs v ≡ 65535) ⊎ LinkThere m (first_end ls) (second_end ls) v (at hs v)
  -- "none holds more than T": than its own limit, "above T too"
  pub within : (u : ℕ) → u < n → holds n (at hs) u ≤ at ts u
  -- "only the first k in the order are held"
  pub free : (i : ℕ) → k ≤ i → i < n → at hs (at os i) ≡ 65535

-- soundness means just these facts
unfoldable pub SoundMeans : Type 0
SoundMeans = (n t m k : ℕ) (ls os hs ts : List ℕ) → is_sound n t m k ls os hs ts ≡ true ↔ Facts n t m k ls os hs ts
