-- 01, "The record": the small part and the lent lists, as every call is handed them; with the "lent byte list of limits" of 02, change 8.
use Rattle.std.specs.Prelude.{ℕ, Bool, List}
use Rattle.packing.specs.Plant.{at, first_links}
use Rattle.sound.specs.Sound.{is_sound}
use Rattle.planner.specs.declared.Small.{Small}

pub record State : Type 0 where
  pub small : Small
  pub links : List ℕ
  pub order : List ℕ
  pub holders : List ℕ
  pub limits : List ℕ

-- the state that a small part and the lists make
abbrev pub state_of : Small → List ℕ → List ℕ → List ℕ → List ℕ → State
state_of s ls os hs ts = record { small = s; links = ls; order = os; holders = hs; limits = ts }

-- .. with another small part, or another list in the place of one
abbrev pub with_small : Small → State → State
with_small small s = record { small = small; links = s.links; order = s.order; holders = s.holders; limits = s.limits }

abbrev pub with_links : List ℕ → State → State
with_links ls s = record { small = s.small; links = ls; order = s.order; holders = s.holders; limits = s.limits }

abbrev pub with_order : List ℕ → State → State
with_order os s = record { small = s.small; links = s.links; order = os; holders = s.holders; limits = s.limits }

abbrev pub with_holders : List ℕ → State → State
with_holders hs s = record { small = s.small; links = s.links; order = s.order; holders = hs; limits = s.limits }

abbrev pub with_limits : List ℕ → State → State
with_limits ts s = record { small = s.small; links = s.links; order = s.order; holders = s.holders; limits = ts }

-- its links: the first m of the lent list
abbrev pub links_of : State → List ℕ
links_of s = first_links s.small.m s.links

-- how many each gateway may hold and lead: "its own limit", whatever T is
unfoldable pub limit_of : State → ℕ → ℕ
limit_of s = at s.limits

-- 26's condition is that this is false
unfoldable pub sound_state : State → Bool
sound_state s = is_sound s.small.n s.small.t s.small.m s.small.k s.links s.order s.holders s.limits
