-- Looking for y along a chain that is an iterator.
use Rattle.std.proofs.Common.{◌≡◌, ℕ, ◌-◌, ◌<◌, true, false, List, length, ap, ◌∙◌, arith, Bor}
use Rattle.std.specs.Prelude.{Option, Some, None}
use Rattle.std.specs.Iterator.{MakesProgress}
use Rattle.packing.specs.Plant.{NONE, GATEWAYS, at, linked}
use Rattle.chains.specs.declared.chain.Chain.{Chain}
use Rattle.chains.specs.Index.{root_of, Index}
use Rattle.chains.specs.Chain.{Whole, Follows, ends_left}
use Rattle.chains.proofs.Following.{chain_next, chain_there}
use Rattle.chains.proofs.Finding.{Sought, sought_start, sought_found, sought_turn, sought_end}

-- a chain that gave a neighbour has fewer places left
pub follows-on : (old : Chain) → Whole old → (old.end ≡ NONE → ⊥) → {u e : ℕ} → e ≡ at old.next.now old.end → e < 65536 → MakesProgress Whole ends_left old (Some u) record { links = old.links; next = old.next; end = e }
follows-on old (x, w) more {u} {e} is few =
    let next = chain_next w.index w.below (chain_there w.index w.below w.stands more) in
    let whole : Whole record { links = old.links; next = old.next; end = e } = (x, record { index = w.index; below = w.below; stands = rw is next.1 }) in
    let less : NONE - e < NONE - old.end = omega (arith, next.2, is, few) in
    record { on = λ _. (whole, tt, less); keeps = whole; rests = λ _. tt }

-- a chain of these links and this index
pub record OfLists (ls next : List ℕ) (c : Chain) : Type 0 where
  pub links : c.links.now ≡ ls
  pub index : c.next.now ≡ next

-- .. stays one
pub along_on : {ls next : List ℕ} {old new : Chain} {given : Option ℕ} → OfLists ls next old → Follows old given new → OfLists ls next new
along_on s f = record { links = ap (λ (l : Bor (List ℕ)). l.now) f.links ∙ s.links; index = ap (λ (l : Bor (List ℕ)). l.now) f.next ∙ s.index }

module _ {ls next : List ℕ} {old new : Chain} {u : ℕ} (s : OfLists ls next old) (f : Follows old (Some u) new) where
  -- what it gives is the neighbour at its place
  pub along_neighbour : u ≡ at ls old.end
  along_neighbour = f.gives.1 ∙ rw s.links

  -- .. and its place is the next then
  pub along_next : new.end ≡ at next old.end
  along_next = f.gives.2 ∙ rw s.index

-- the loop's invariant
pub record Seeking (ls next : List ℕ) (x y : ℕ) (c : Chain) : Type 0 where
  pub along : OfLists ls next c
  pub sought : Sought ls x y c.end

module _ (ls next : List ℕ) (x y : ℕ) (d : Index ls next) (below : x < GATEWAYS) where
  pub seeking_start : {links₀ next₀ : Bor (List ℕ)} {e : ℕ} {c : Chain} → c ≡ record { links = links₀; next = next₀; end = e } → links₀.now ≡ ls → next₀.now ≡ next → e ≡ at next (root_of (length next) x) → Seeking ls next x y c
  seeking_start made l n q = rw made (record { along = record { links = l; index = n }; sought = sought_start ls next x y d below q })

  pub seeking_turn : {old new : Chain} {u : ℕ} → Seeking ls next x y old → Follows old (Some u) new → (u ≡ y → ⊥) → Seeking ls next x y new
  seeking_turn s f other = record { along = along_on s.along f; sought = sought_turn ls next x y d below s.sought f.gives.0 (along_neighbour s.along f) other (along_next s.along f) }

  pub seeking_found : {old new : Chain} {u : ℕ} → Seeking ls next x y old → Follows old (Some u) new → u ≡ y → true ≡ linked ls x y
  seeking_found s f is = sought_found ls next x y d below s.sought f.gives.0 (along_neighbour s.along f) is

  pub seeking_end : {old new : Chain} → Seeking ls next x y old → Follows old None new → false ≡ linked ls x y
  seeking_end s f = sought_end ls next x y d below s.sought f.gives
