-- A chain of the index as an iterator: the neighbours that stand along it.
use Rattle.std.specs.Prelude.{◌≡◌, ℕ, ◌-◌, ◌<◌, ◌≢◌, ◌⊎◌, Option, MatchOption}
use Rattle.std.specs.Iterator.{Count, at_most}
use Rattle.packing.specs.Plant.{NONE, GATEWAYS, at}
use Rattle.chains.specs.declared.chain.Chain.{Chain}
use Rattle.chains.specs.Index.{FarEnd, Index}

-- a chain of x at its end, or at a far end of x
pub record WholeOf (x : ℕ) (c : Chain) : Type 0 where
  pub index : Index c.links.now c.next.now
  pub below : x < GATEWAYS
  pub stands : (c.end ≡ NONE) ⊎ FarEnd c.links.now x c.end

-- .. of some gateway
abbrev pub Whole : Chain → Type 0
Whole c = (x : ℕ) × WholeOf x c

-- a chain gives the neighbour at its place, and is at the next then; nothing at its end
pub record Follows (old : Chain) (given : Option ℕ) (new : Chain) : Type 0 where
  pub gives : MatchOption given (old.end ≡ NONE) (λ u. (old.end ≢ NONE) × (u ≡ at old.links.now old.end) × (new.end ≡ at old.next.now old.end))
  pub links : new.links ≡ old.links
  pub next : new.next ≡ old.next

-- the places grow along a chain
abbrev pub ends_left : Chain → Count
ends_left c = at_most (NONE - c.end)
