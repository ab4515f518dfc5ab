-- Following a chain: from each of x's links to the next, the neighbours of x in order of arrival.
use Rattle.std.proofs.Common.{◌≡◌, ℕ, ◌+◌, ◌*◌, ◌/◌, ◌%◌, ◌<◌, ◌≤◌, eqb, ◌⊎◌, List, [], ◌∷◌, length, drop, refl, ap, ◌∙◌, inl, inr, ⊎_elim, arith, eq-eqb, eqb-true}
use borrow.Author.Tests.{eqb-false}
use Rattle.packing.specs.Plant.{NONE, GATEWAYS, at, other_end, neighbours}
use Rattle.packing.proofs.Tests.{by_bool}
use Rattle.packing.proofs.Flat.{pair-at, pair_end}
use Rattle.chains.specs.Index.{root_of, mate, FarEnd, NextEnd, Index}

-- a chain is at its end, or at a far end of x
abbrev pub Standing : List ℕ → ℕ → ℕ → Type 0
Standing ls x e = (e ≡ NONE) ⊎ FarEnd ls x e

-- .. as a chain stands once it has gone on
pub at_end : {ls : List ℕ} {x i e : ℕ} → NextEnd ls x i e → (e ≡ NONE) ⊎ ((2 * i ≤ e) × FarEnd ls x e)
at_end {e = e} n = by_bool (eqb e NONE) (λ q. inl (eqb-true e NONE q)) (λ q. inr (n.end (eqb-false e NONE q)))

-- no links are left past the end
pub past : (ls : List ℕ) (i x : ℕ) → length ls ≤ i + 1 → neighbours (drop i ls) x ≡ []
unfolding neighbours
past ls i x h = none (drop i ls) (pair_end ls i h)
  where
    none : (l : List ℕ) → length l ≤ 1 → neighbours l x ≡ []
    none [] e = refl
    none (a ∷ []) e = refl
    none (a ∷ b ∷ l) e = absurd (omega arith)

-- the two ends of a link
pub mates : (e : ℕ) → ((e ≡ 2 * (e / 2)) × (mate e ≡ 2 * (e / 2) + 1)) ⊎ ((e ≡ 2 * (e / 2) + 1) × (mate e ≡ 2 * (e / 2)))
mates e = by_bool (eqb (e % 2) 0) (λ q. let z = eqb-true (e % 2) 0 q in inl (omega (arith, z), omega (arith, z))) (λ q. let z = eqb-false (e % 2) 0 q in inr (omega (arith, z), omega (arith, z)))

-- .. of link i
pub mate-first : (i : ℕ) → mate (2 * i) ≡ 2 * i + 1
mate-first i = omega arith

pub mate-second : (i : ℕ) → mate (2 * i + 1) ≡ 2 * i
mate-second i = omega arith

-- place e is a far end of x, so the links from its link on give what stands there first
link_across : (ls : List ℕ) (x e : ℕ) → FarEnd ls x e → neighbours (drop (2 * (e / 2)) ls) x ≡ at ls e ∷ neighbours (drop (2 * (e / 2 + 1)) ls) x
unfolding neighbours
link_across ls x e h =
    rw (pair-at ls (2 * (e / 2)) h.inside, two)
    (⊎_elim (λ k. rw (ap (at ls) k.0) (second (rw k.1 at h.near))) (λ k. rw (ap (at ls) k.0, eq-eqb (at ls (2 * (e / 2))) x (rw k.1 at h.near))) (mates e))
  where
    two : 2 * (e / 2 + 1) ≡ 2 * (e / 2) + 2
    two = omega arith

    second : at ls (2 * (e / 2) + 1) ≡ x → other_end (at ls (2 * (e / 2))) (at ls (2 * (e / 2) + 1)) x (neighbours (drop (2 * (e / 2) + 2) ls) x) ≡ at ls (2 * (e / 2)) ∷ neighbours (drop (2 * (e / 2) + 2) ls) x
    second is = rw (eq-eqb (at ls (2 * (e / 2) + 1)) x is) (by_bool (eqb (at ls (2 * (e / 2))) x) (λ q. rw (q, is, eqb-true (at ls (2 * (e / 2))) x q)) (λ q. rw q))

module _ {ls next : List ℕ} (d : Index ls next) {x : ℕ} (below : x < GATEWAYS) where
  -- the first far end
  pub chain_first : (neighbours ls x ≡ neighbours (drop (2 * (at next (root_of (length next) x) / 2)) ls) x) × Standing ls x (at next (root_of (length next) x))
  chain_first = let n = d.first x below in (n.rest, ⊎_elim inl (λ k. inr k.1) (at_end n))

  -- from one far end to the next
  pub chain_next : {e : ℕ} → FarEnd ls x e
      → (neighbours (drop (2 * (e / 2)) ls) x ≡ at ls e ∷ neighbours (drop (2 * (at next e / 2)) ls) x) × Standing ls x (at next e) × (e < at next e)
  chain_next {e} h =
      let n = d.later x e below h in
      (link_across ls x e h ∙ ap (λ (l : List ℕ). at ls e ∷ l) n.rest, ⊎_elim inl (λ k. inr k.1) (at_end n), ⊎_elim (λ q. rw q (omega (arith, h.inside, d.room, d.few))) (λ k. omega (arith, k.0)) (at_end n))

  -- the end of the chain
  pub chain-end : {e : ℕ} → e ≡ NONE → neighbours (drop (2 * (e / 2)) ls) x ≡ []
  chain-end {e} q = past ls (2 * (e / 2)) x (omega (arith, d.room, d.few))

  module _ {e : ℕ} (s : Standing ls x e) (more : e ≡ NONE → ⊥) where
    -- a chain that is not at its end
    pub chain_there : FarEnd ls x e
    chain_there = ⊎_elim (λ q. absurd (more q)) (λ h. h) s

    -- .. stands at a place of the links and of the index
    pub chain-places : (e < length ls) × (e < length next)
    chain-places = (omega (arith, chain_there.inside), omega (arith, chain_there.inside, d.room))
