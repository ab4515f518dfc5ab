-- Placing the next gateway of an order, apart from any way to search: the holders before and after it, and what every such step keeps.
use Prim.Native.Nat.{ℕ, ◌+◌, ◌<◌, ◌≤◌}
use mathlib.Core.Path.{◌≡◌, refl, sym, ◌∙◌}
use mathlib.Core.Logic.{◌⊎◌, inl, inr, ⊎_elim}
use mathlib.Core.Bool.{Bool, true, false}
use mathlib.Core.List.{List}
use native.Mathlib.Omega.{arith}
use lib.Dec.{eqb, ltb}
use lib.ListN.{length, drop}
use borrow.Author.Tests.{eq-eqb, ne_eqb, ltb-true, ltb-false}
use Rattle.packing.specs.Plant.{at}
use Rattle.packing.specs.Holders.{held, Feasible}
use Rattle.packing.specs.Moved.{Kept, moved}
use Rattle.packing.proofs.Tests.{by_bool, clash, below_suc, or_l, or_r, or-none, or_false_l}
use Rattle.packing.proofs.Moved.{moved_none}
use Rattle.packing.proofs.Tight.{Tight, Blocked}
use Rattle.packing.proofs.TightPairs.{transfer_blocked}
use Rattle.packing.proofs.Prefixes.{IsOrder, Among, order-place}

-- v is left: no holder changed, v is in R of a tight pair, and every other gateway of R is held
pub record Left (n : ℕ) (limit : ℕ → ℕ) (adj : ℕ → ℕ → Bool) (h h' : ℕ → ℕ) (v : ℕ) : Type 0 where
  pub R : ℕ → Bool
  pub S : ℕ → Bool
  pub tight : Tight n limit adj h R S
  pub mine : R v ≡ true
  pub others : (x : ℕ) → x < n → R x ≡ true → (x ≡ v) ⊎ (held n h x ≡ true)
  pub unchanged : h' ≡ h

-- Any way of placing v, from the holders h to h'.
abbrev pub Placing : (n : ℕ) (limit : ℕ → ℕ) (adj : ℕ → ℕ → Bool) (h h' : ℕ → ℕ) (v : ℕ) → Type 0
Placing n limit adj h h' v = Kept n limit adj h h' v ⊎ Left n limit adj h h' v

-- .. in a list of holders: no entry past the first n changes, and each of these stays or becomes a gateway.
pub record PlacedIn (n : ℕ) (limit : ℕ → ℕ) (adj : ℕ → ℕ → Bool) (hs hs' : List ℕ) (v : ℕ) : Type 0 where
  pub placing : Placing n limit adj (at hs) (at hs') v
  pub long : length hs' ≡ length hs
  pub past : drop n hs' ≡ drop n hs
  pub entries : (w : ℕ) → w < n → (at hs' w ≡ at hs w) ⊎ (at hs' w < n)

-- whoever is left by a placing has moved nobody
pub left-moves-none : {n : ℕ} {limit : ℕ → ℕ} {adj : ℕ → ℕ → Bool} {h h' : ℕ → ℕ} {v : ℕ} → Placing n limit adj h h' v → v < n → held n h' v ≡ false → moved n h h' ≡ 0
left-moves-none {n} {h = h} {h'} {v} p l e =
    ⊎_elim (λ kept. clash (held n h' v) (kept.holding v l ∙ or_r (held n h v) (eqb v v) (eq-eqb v v refl)) e) (λ left. rw left.unchanged (moved_none n h)) p

-- The first k of the order are placed: the holders are feasible, nobody from place k on is held, and each placed gateway without holder has its pair.
pub record Standing (n : ℕ) (limit : ℕ → ℕ) (adj : ℕ → ℕ → Bool) (order : ℕ → ℕ) (h : ℕ → ℕ) (k : ℕ) : Type 0 where
  pub ordered : IsOrder n order
  pub placed : k ≤ n
  pub feasible : Feasible n limit adj h
  pub unplaced : (i : ℕ) → k ≤ i → i < n → held n h (order i) ≡ false
  pub left : (i : ℕ) → i < k → held n h (order i) ≡ false → Blocked n limit adj order h i

module _ {n : ℕ} {limit : ℕ → ℕ} {adj : ℕ → ℕ → Bool} {order h : ℕ → ℕ} {k : ℕ} (s : Standing n limit adj order h k) where
  -- a held gateway stands among the placed
  pub held-placed : (x : ℕ) → x < n → held n h x ≡ true → Among order k x
  held-placed x l e =
      let p = order-place s.ordered x l in
      (p.0, by_bool (ltb p.0 k) (ltb-true p.0 k) (λ f. clash (held n h x) e (rw p.2 at (s.unplaced p.0 (ltb-false p.0 k f) p.1))), p.2)

  module _ {h' : ℕ → ℕ} (below : k < n) where
    -- what was held is held after any placing
    pub still_held : Placing n limit adj h h' (order k) → (w : ℕ) → w < n → held n h w ≡ true → held n h' w ≡ true
    still_held p w l e = ⊎_elim (λ kept. kept.holding w l ∙ or_l (held n h w) (eqb w (order k)) e) (λ left. rw left.unchanged e) p

    -- one that is kept is held
    pub kept-held : Kept n limit adj h h' (order k) → held n h' (order k) ≡ true
    kept-held kept = kept.holding (order k) (s.ordered.below k below) ∙ or_r (held n h (order k)) (eqb (order k) (order k)) (eq-eqb (order k) (order k) refl)

    -- one that is left has its pair, with only held gateways before it in the order
    pub left_blocked : Left n limit adj h h' (order k) → Blocked n limit adj order h k
    left_blocked l =
        record { R = l.R; S = l.S; tight = l.tight; mine = l.mine; others = λ x p r. ⊎_elim (λ q. inl q) (λ q. inr (q, held-placed x p q)) (l.others x p r) }

    standing_kept : Kept n limit adj h h' (order k) → Standing n limit adj order h' (k + 1)
    standing_kept kept =
        record { ordered = s.ordered; placed = omega (arith, s.placed); feasible = kept.feasible; unplaced = unplaced; left = left }
      where
        unplaced : (i : ℕ) → k + 1 ≤ i → i < n → held n h' (order i) ≡ false
        unplaced i p l =
            kept.holding (order i) (s.ordered.below i l)
            ∙ or-none (held n h (order i)) (eqb (order i) (order k)) (s.unplaced i (omega arith) l)
            (ne_eqb (order i) (order k) (λ r. let z : i ≡ k = s.ordered.once i k l below r in omega arith))

        left : (i : ℕ) → i < k + 1 → held n h' (order i) ≡ false → Blocked n limit adj order h' i
        left i l e =
            below_suc i k (omega arith)
            (λ q. clash (held n h' (order k)) (kept-held kept) (rw q at e))
            (λ q. transfer_blocked s.feasible kept.feasible (still_held (inl kept))
            (s.left i q (or_false_l (held n h (order i)) (eqb (order i) (order k)) (sym (kept.holding (order i) (s.ordered.below i (omega arith))) ∙ e))))

    standing_left : Left n limit adj h h' (order k) → Standing n limit adj order h' (k + 1)
    standing_left l =
        rw l.unchanged
        (record {
          ordered = s.ordered;
          placed = omega (arith, s.placed);
          feasible = s.feasible;
          unplaced = λ i p q. s.unplaced i (omega arith) q;
          left = λ i p e. below_suc i k (omega arith) (λ q. rw q (left_blocked l)) (λ q. s.left i q e);
        })

    -- Every way of placing keeps it.
    pub standing_placed : Placing n limit adj h h' (order k) → Standing n limit adj order h' (k + 1)
    standing_placed = ⊎_elim standing_kept standing_left
