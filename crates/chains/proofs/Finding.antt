-- Looking for y along the chain of x.
use Rattle.std.proofs.Common.{◌≡◌, ℕ, ◌+◌, ◌-◌, ◌*◌, ◌/◌, ◌<◌, ◌≤◌, true, false, ◌||◌, eqb, ◌⊎◌, List, ◌∷◌, length, drop, sym, ap, ◌∙◌, ⊎_elim, arith, eq-eqb, ne_eqb}
use Rattle.packing.specs.Plant.{NONE, GATEWAYS, at, linked, neighbours}
use Rattle.packing.specs.Lists.{member_of}
use Rattle.packing.proofs.Links.{neighbours-linked, linked_sym}
use Rattle.chains.specs.Index.{root_of, Index}
use Rattle.chains.proofs.Following.{Standing, chain_first, chain_next, chain-end, chain_there}

-- the loop's invariant: y is among x's neighbours by the links from the end at place e on, or x and y are not linked
pub record Sought (ls : List ℕ) (x y e : ℕ) : Type 0 where
  pub rest : member_of (neighbours (drop (2 * (e / 2)) ls) x) y ≡ linked ls x y
  pub stands : Standing ls x e

module _ (ls next : List ℕ) (x y : ℕ) (d : Index ls next) (below : x < GATEWAYS) where
  pub sought_start : {e : ℕ} → e ≡ at next (root_of (length next) x) → Sought ls x y e
  sought_start q =
      let (rest, stands) = chain_first d below in
      rw q (record { rest = ap (λ (l : List ℕ). member_of l y) (sym rest) ∙ neighbours-linked ls x y; stands = stands })

  module _ {e : ℕ} (s : Sought ls x y e) (there : e ≡ NONE → ⊥) where
    next_one : (neighbours (drop (2 * (e / 2)) ls) x ≡ at ls e ∷ neighbours (drop (2 * (at next e / 2)) ls) x) × Standing ls x (at next e) × (e < at next e)
    next_one = chain_next d below (chain_there d below s.stands there)

    -- the neighbour there, or one of those after it
    here : (eqb (at ls e) y || member_of (neighbours (drop (2 * (at next e / 2)) ls) x) y) ≡ linked ls x y
    unfolding member_of
    here = ap (λ (l : List ℕ). member_of l y) (sym next_one.0) ∙ s.rest

    pub sought_found : {z : ℕ} → z ≡ at ls e → z ≡ y → true ≡ linked ls x y
    sought_found q f = rw (eq-eqb (at ls e) y (sym q ∙ f)) at here

    module _ {z j : ℕ} (q : z ≡ at ls e) (f : z ≡ y → ⊥) (on : j ≡ at next e) where
      pub sought_turn : Sought ls x y j
      sought_turn = rw on (record { rest = rw (ne_eqb (at ls e) y (λ r. f (q ∙ r))) at here; stands = next_one.1 })

  pub sought_end : {e : ℕ} → Sought ls x y e → e ≡ NONE → false ≡ linked ls x y
  unfolding member_of
  sought_end s e = (rw (chain-end d below e) at s.rest)

-- one of the two ends of a link, and then the other
pub one-within : {a b x : ℕ} → (x ≡ a) ⊎ (x ≡ b) → x ≤ a + b
one-within = ⊎_elim (λ e. omega (arith, e)) (λ e. omega (arith, e))

pub one_below : {a b x k : ℕ} → (x ≡ a) ⊎ (x ≡ b) → a < k → b < k → x < k
one_below = ⊎_elim (λ e p q. rw e p) (λ e p q. rw e q)

pub either_end : (ls : List ℕ) {a b x : ℕ} → (x ≡ a) ⊎ (x ≡ b) → linked ls x (a + b - x) ≡ linked ls a b
either_end ls {a} {b} {x} = ⊎_elim (λ e. let y : a + b - x ≡ b = omega (arith, e) in rw (y, e)) (λ e. let y : a + b - x ≡ a = omega (arith, e) in rw (y, e) (linked_sym ls b a))
