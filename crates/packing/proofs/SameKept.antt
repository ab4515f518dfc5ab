-- Who is kept is decided by the plant and the order alone: two ways of placing the same first k hold the same gateways.
use Prim.Native.Nat.{ℕ, zero, suc, ◌<◌}
use mathlib.Core.Path.{◌≡◌, sym, ◌∙◌}
use mathlib.Core.Logic.{inl, inr, ⊎_elim}
use mathlib.Core.Bool.{Bool, true}
use native.Mathlib.Nat.{not-suc-le-zero}
use native.Mathlib.Omega.{arith}
use lib.Dec.{ltb}
use borrow.Author.Tests.{ltb-true, ltb-false}
use Rattle.packing.specs.Holders.{held, Feasible}
use Rattle.packing.proofs.Tests.{by_bool, clash, iff_test}
use Rattle.packing.proofs.Below.{feasible-limits}
use Rattle.packing.proofs.Tight.{Tight, Blocked}
use Rattle.packing.proofs.Prefixes.{order-place, blocked_holders}
use Rattle.packing.proofs.Placing.{Standing}

module _ {n : ℕ} {limit : ℕ → ℕ} {adj : ℕ → ℕ → Bool} {order h h' : ℕ → ℕ} {k : ℕ} (s : Standing n limit adj order h k) (s' : Standing n limit adj order h' k) where
  -- a gateway that is left here has its pair, so it is left there, where the same are kept before it
  kept_here : (i : ℕ) → i < n → ((j : ℕ) → j < i → held n h (order j) ≡ true → held n h' (order j) ≡ true) → held n h' (order i) ≡ true → held n h (order i) ≡ true
  kept_here i l before e =
      by_bool (held n h (order i)) (λ q. q)
      (λ q.
      by_bool (ltb i k) (λ r. absurd (blocked_holders i s.ordered l (s.left i (ltb-true i k r) q) s.feasible q s'.feasible e before))
      (λ r. clash (held n h' (order i)) e (s'.unplaced i (ltb-false i k r) l)))

module _ {n : ℕ} {limit : ℕ → ℕ} {adj : ℕ → ℕ → Bool} {order h h' : ℕ → ℕ} {k : ℕ} (s : Standing n limit adj order h k) (s' : Standing n limit adj order h' k) where
  -- place by place
  same_first : (b i : ℕ) → i < b → i < n → held n h (order i) ≡ held n h' (order i)
  same_first zero i l inside = absurd (not-suc-le-zero l)
  same_first (suc b) i l inside =
      let same : (j : ℕ) → j < i → held n h (order j) ≡ held n h' (order j) = λ j q. same_first b j (omega arith) (omega arith) in
      iff_test (held n h (order i)) (held n h' (order i)) (kept_here s' s i inside (λ j q e. same j q ∙ e)) (kept_here s s' i inside (λ j q e. sym (same j q) ∙ e))

  pub standing_same : (v : ℕ) → v < n → held n h v ≡ held n h' v
  standing_same v l = let (i, inside, is) = order-place s.ordered v l in rw (← is) (same_first (suc i) i (omega arith) inside)

-- The same plant, gateway by gateway, ..
module _
    {n : ℕ} {limit limit' : ℕ → ℕ} {adj adj' : ℕ → ℕ → Bool} (limits : (u : ℕ) → u < n → limit u ≡ limit' u) (links : (x u : ℕ) → x < n → u < n → adj x u ≡ adj' x u)
  where
    pub feasible_alike : {h : ℕ → ℕ} → Feasible n limit adj h → Feasible n limit' adj' h
    feasible_alike {h} f = feasible-limits n limit limit' adj' limits (record { along = λ v l e. sym (links v (h v) l (ltb-true (h v) n e)) ∙ f.along v l e; within = f.within })

    pub tight_alike : {h : ℕ → ℕ} {R S : ℕ → Bool} → Tight n limit adj h R S → Tight n limit' adj' h R S
    tight_alike t = record { closed = λ x u l q r e. t.closed x u l q r (links x u l q ∙ e); full = λ u l q. t.full u l q ∙ limits u l; owned = t.owned }

    -- .. and the same order
    module _ {order order' : ℕ → ℕ} (orders : (i : ℕ) → i < n → order i ≡ order' i) where
      blocked_alike : {h : ℕ → ℕ} (i : ℕ) → i < n → Blocked n limit adj order h i → Blocked n limit' adj' order' h i
      blocked_alike i l b =
          record {
            R = b.R;
            S = b.S;
            tight = tight_alike b.tight;
            mine = rw (← orders i l) b.mine;
            others = λ x q r. ⊎_elim (λ e. inl (e ∙ orders i l)) (λ e. let (held-it, (j, before, is)) = e in inr (held-it, (j, before, sym (orders j (omega arith)) ∙ is))) (b.others x q r);
          }

      pub standing_alike : {h : ℕ → ℕ} {k : ℕ} → Standing n limit adj order h k → Standing n limit' adj' order' h k
      standing_alike s =
          record {
            ordered = record {
              below = λ i l. rw (← orders i l) (s.ordered.below i l);
              once = λ i j l q e. s.ordered.once i j l q (orders i l ∙ e ∙ sym (orders j q));
            };
            placed = s.placed;
            feasible = feasible_alike s.feasible;
            unplaced = λ i q l. rw (← orders i l) (s.unplaced i q l);
            left = λ i q e. let l : i < n = omega (arith, s.placed) in blocked_alike i l (s.left i q (rw (orders i l) e));
          }
