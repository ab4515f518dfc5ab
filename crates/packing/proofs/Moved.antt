-- How many gateways a change of holders moves.
use Prim.Native.Nat.{ℕ, suc, ◌+◌, ◌<◌, ◌≤◌}
use mathlib.Core.Path.{◌≡◌, refl, sym, ap, ◌∙◌}
use mathlib.Core.Bool.{Bool, true, false, not, ◌&&◌, ◌||◌, and_comm, and-false}
use native.Mathlib.Omega.{arith}
use lib.Dec.{eqb}
use borrow.Author.Tests.{eqb-false, eq-eqb, ne_eqb}
use Rattle.packing.specs.Count.{pick, count}
use Rattle.packing.specs.Holders.{held}
use Rattle.packing.specs.Moved.{Kept, moved, differs, differing, LeastMoved, Fewest}
use Rattle.packing.proofs.Tests.{by_bool, clash, and_r, not_i, not_i_false}
use Rattle.packing.proofs.Sums.{sum_ext, sum_single, pick-and, count_mono, count_ext, count_split, count_none, count-some, count_bound}

-- A count below n is one at x and those at other places.
pub count_point : (n : ℕ) (p : ℕ → Bool) (x : ℕ) → x < n → count n p ≡ pick (p x) 1 + count n (λ i. p i && not (eqb x i))
unfolding count
count_point n p x l =
    count_split n p (λ i. eqb x i)
    ∙ ap (λ (k : ℕ). k + count n (λ i. p i && not (eqb x i)))
    (sum_ext n (λ i. pick (p i && eqb x i) 1) (λ i. pick (eqb x i) (pick (p i) 1)) (λ i k. ap (λ (b : Bool). pick b 1) (and_comm (p i) (eqb x i)) ∙ pick-and (eqb x i) (p i)) ∙ sum_single n x (λ i. pick (p i) 1) l)

-- the same holders: nobody is moved
pub moved_none : (n : ℕ) (h : ℕ → ℕ) → moved n h h ≡ 0
unfolding moved
moved_none n h = count_none n (λ w. not (eqb (h w) (h w))) (λ w l. not_i_false (eqb (h w) (h w)) (eq-eqb (h w) (h w) refl))

-- one that is held and was not is counted
pub new-moved : (n : ℕ) (h h' : ℕ → ℕ) (v : ℕ) → v < n → held n h v ≡ false → held n h' v ≡ true → (h v ≡ h' v → ⊥) × (1 ≤ moved n h h')
unfolding moved
new-moved n h h' v l before after =
    let other : h v ≡ h' v → ⊥ = λ q. clash (held n h v) (rw q after) before in
    (other, count-some n (λ w. not (eqb (h w) (h' w))) v l (not_i _ (ne_eqb (h v) (h' v) other)))

pub moved_bound : (n : ℕ) (h h' : ℕ → ℕ) → moved n h h' ≤ n
unfolding moved
moved_bound n h h' = count_bound n (λ w. not (eqb (h w) (h' w)))

-- Holders h₁ that differ from h at x alone, and h₂ that agree with them there: from h on one more is moved.
pub moved-one : (n : ℕ) (h h₁ h₂ : ℕ → ℕ) (x : ℕ) → x < n → ((w : ℕ) → (w ≡ x → ⊥) → h₁ w ≡ h w) → h₂ x ≡ h₁ x → (h x ≡ h₂ x → ⊥) → moved n h h₂ ≡ suc (moved n h₁ h₂)
unfolding moved
moved-one n h h₁ h₂ x l others same differs =
    omega (
      arith,
      count_point n (λ w. not (eqb (h w) (h₂ w))) x l,
      ap (λ (b : Bool). pick b 1) (not_i (eqb (h x) (h₂ x)) (ne_eqb (h x) (h₂ x) differs)),
      count_point n (λ w. not (eqb (h₁ w) (h₂ w))) x l,
      ap (λ (b : Bool). pick b 1) (not_i_false (eqb (h₁ x) (h₂ x)) (eq-eqb (h₁ x) (h₂ x) (sym same))),
      count_ext n (λ w. not (eqb (h w) (h₂ w)) && not (eqb x w)) (λ w. not (eqb (h₁ w) (h₂ w)) && not (eqb x w)) rest,
    )
  where
    rest : (w : ℕ) → w < n → (not (eqb (h w) (h₂ w)) && not (eqb x w)) ≡ (not (eqb (h₁ w) (h₂ w)) && not (eqb x w))
    rest w k =
        by_bool (eqb x w) (λ e. rw e (and-false (not (eqb (h w) (h₂ w))) ∙ sym (and-false (not (eqb (h₁ w) (h₂ w)))))) (λ e. rw (others w (λ q. eqb-false x w e (sym q))))

-- Holders that differ have entries that do.
pub differing-moved : (n : ℕ) (h h' : ℕ → ℕ) → differing n h h' ≤ moved n h h'
unfolding moved differing differs
differing-moved n h h' = count_mono n (differs n h h') (λ w. not (eqb (h w) (h' w))) (λ w l. and_r (held n h w || held n h' w) (not (eqb (h w) (h' w))))

-- such holders, where none differ at fewer gateways than theirs have other entries
pub fewest : {n : ℕ} {limit : ℕ → ℕ} {adj : ℕ → ℕ → Bool} {h h' : ℕ → ℕ} {v : ℕ} → Kept n limit adj h h' v → LeastMoved n limit adj h v (moved n h h') → Fewest n limit adj h h' v (moved n h h')
fewest {n} {h = h} {h'} kept least = record { kept = kept; attained = omega (arith, least h' kept, differing-moved n h h'); least = least }
