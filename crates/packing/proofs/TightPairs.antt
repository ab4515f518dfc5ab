-- Laws of tight pairs: no holders hold more of R, pairs are closed under union, and a pair stays one while R's held gateways stay held.
use Prim.Native.Nat.{ℕ, ◌<◌, ◌≤◌}
use mathlib.Core.Path.{◌≡◌, refl}
use mathlib.Core.Logic.{inl, inr, ⊎_elim}
use mathlib.Core.Bool.{Bool, true, false, ◌&&◌, ◌||◌, false≢true}
use native.Mathlib.Omega.{arith}
use lib.Dec.{eqb}
use borrow.Author.Tests.{ltb-true, eq-eqb}
use Rattle.packing.specs.Count.{count, sum_over}
use Rattle.packing.specs.Holders.{held, holds, Feasible}
use Rattle.packing.proofs.Tests.{and_l, and_r, and_i, or_cases, or_l, or_r, iff_test}
use Rattle.packing.proofs.Sums.{count_mono, count_same, sum_over_equal}
use Rattle.packing.proofs.Tight.{Tight, Blocked}
use Rattle.packing.proofs.Hall.{holds_of, holds_of_most, held-from, hall, hall_met}

module _ {n : ℕ} {limit : ℕ → ℕ} {adj : ℕ → ℕ → Bool} where
  -- any feasible holders hold R from within S
  tight_into : {h h' : ℕ → ℕ} {R S : ℕ → Bool} → Tight n limit adj h R S → Feasible n limit adj h'
      → (x : ℕ) → x < n → R x ≡ true → held n h' x ≡ true → S (h' x) ≡ true
  tight_into {h' = h'} t f x l r e = t.closed x (h' x) l (ltb-true (h' x) n e) r (f.along x l e)

  -- R's held gateways number as many as S's limits allow
  pub tight-holds : {h : ℕ → ℕ} {R S : ℕ → Bool} → Feasible n limit adj h → Tight n limit adj h R S
      → count n (λ x. R x && held n h x) ≡ sum_over n S limit
  tight-holds {R = R} {S = S} f t = hall_met R S (tight_into t f) t.full t.owned

  -- no feasible holders hold more of R
  pub tight-most : {h h' : ℕ → ℕ} {R S : ℕ → Bool} → Feasible n limit adj h → Tight n limit adj h R S → Feasible n limit adj h'
      → count n (λ x. R x && held n h' x) ≤ count n (λ x. R x && held n h x)
  tight-most {R = R} {S = S} f t f' = omega (arith, tight-holds f t, hall R S f' (tight_into t f'))

  -- empty sets are a pair, and the unions of two pairs' sets are one
  pub tight-none : {h : ℕ → ℕ} → Tight n limit adj h (λ x. false) (λ u. false)
  tight-none = record { closed = λ x u l k r a. r; full = λ u l s. absurd (false≢true s); owned = λ v l e s. s }

  pub tight_union : {h : ℕ → ℕ} {R S R' S' : ℕ → Bool} → Tight n limit adj h R S → Tight n limit adj h R' S'
      → Tight n limit adj h (λ x. R x || R' x) (λ u. S u || S' u)
  tight_union {h = h} {R} {S} {R'} {S'} t t' =
      record {
        closed = λ x u l k r a. ⊎_elim (λ q. or_l (S u) (S' u) (t.closed x u l k q a)) (λ q. or_r (S u) (S' u) (t'.closed x u l k q a)) (or_cases (R x) (R' x) r);
        full = λ u l s. ⊎_elim (t.full u l) (t'.full u l) (or_cases (S u) (S' u) s);
        owned = λ v l e s. ⊎_elim (λ q. or_l (R v) (R' v) (t.owned v l e q)) (λ q. or_r (R v) (R' v) (t'.owned v l e q)) (or_cases (S (h v)) (S' (h v)) s);
      }

  -- Transfer. Other feasible holders that hold what h holds of R ..
  module _
      {h h' : ℕ → ℕ} {R S : ℕ → Bool} (f : Feasible n limit adj h) (t : Tight n limit adj h R S) (f' : Feasible n limit adj h')
      (keeps : (v : ℕ) → v < n → R v ≡ true → held n h v ≡ true → held n h' v ≡ true)
    where
      kept : (x : ℕ) → x < n → (R x && held n h x) ≡ true → (R x && held n h' x) ≡ true
      kept x l e = and_i (R x) (held n h' x) (and_l (R x) (held n h x) e) (keeps x l (and_l (R x) (held n h x) e) (and_r (R x) (held n h x) e))

      -- .. hold no more of R
      pub transfer_held : (v : ℕ) → v < n → R v ≡ true → held n h' v ≡ held n h v
      transfer_held v l r =
          iff_test (held n h' v) (held n h v)
          (λ e. and_r (R v) (held n h v) (count_same n (λ x. R x && held n h x) (λ x. R x && held n h' x) kept (tight-most f t f') v l (and_i (R v) (held n h' v) r e)))
          (keeps v l r)

      -- .. and need all of S for it, so that the pair is tight under them
      pub transfer : Tight n limit adj h' R S
      unfolding holds_of holds
      transfer = record { closed = t.closed; full = λ u l s. omega (arith, used u l s, holds_of_most n h' R u, f'.within u l); owned = owned' }
        where
          used : (u : ℕ) → u < n → S u ≡ true → holds_of n h' R u ≡ limit u
          used =
              sum_over_equal n S (holds_of n h' R) limit (λ u l s. omega (arith, holds_of_most n h' R u, f'.within u l))
              (omega (arith, tight-holds f t, held-from n h' R S (tight_into t f'), count_mono n (λ x. R x && held n h x) (λ x. R x && held n h' x) kept))

          owned' : (v : ℕ) → v < n → held n h' v ≡ true → S (h' v) ≡ true → R v ≡ true
          owned' v l e s =
              let u : ℕ = h' v in
              let k : u < n = ltb-true (h' v) n e in
              and_l (R v) (held n h' v)
              (and_l (R v && held n h' v) (eqb (h' v) u)
              (count_same n (λ x. R x && held n h' x && eqb (h' x) u) (λ x. eqb (h' x) u) (λ x q. and_r (R x && held n h' x) (eqb (h' x) u)) (omega (arith, used u k s, f'.within u k)) v l (eq-eqb u u refl)))

  -- the pair of a gateway that is left stays while what is held stays held
  pub transfer_blocked : {order : ℕ → ℕ} {h h' : ℕ → ℕ} {i : ℕ} → Feasible n limit adj h → Feasible n limit adj h'
      → ((v : ℕ) → v < n → held n h v ≡ true → held n h' v ≡ true) → Blocked n limit adj order h i → Blocked n limit adj order h' i
  transfer_blocked f f' keeps b =
      record {
        R = b.R;
        S = b.S;
        tight = transfer f b.tight f' (λ v l r. keeps v l);
        mine = b.mine;
        others = λ x l r. ⊎_elim (λ q. inl q) (λ q. inr (keeps x l q.0, q.1)) (b.others x l r);
      }
