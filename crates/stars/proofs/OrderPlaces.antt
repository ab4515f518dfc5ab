-- The place of a number in an order, and what it says of who is earlier.
use Prim.Native.Nat.{ℕ, ◌<◌, ◌≤◌}
use mathlib.Core.Path.{◌≡◌, sym, ap, fun_ext, ◌∙◌}
use mathlib.Core.Bool.{Bool, true, false}
use mathlib.Core.List.{List}
use native.Mathlib.Nat.{le_antisymm}
use native.Mathlib.Omega.{arith}
use lib.Dec.{eqb, ltb}
use borrow.Author.Tests.{eqb-true, eqb-false, eq-eqb, ne_eqb, ltb-true, ltb-false, leb-true, leb-false, le-leb, lt-leb}
use Rattle.packing.specs.Count.{any, first_with}
use Rattle.packing.specs.Plant.{at}
use Rattle.packing.specs.Pairs.{Earlier}
use Rattle.packing.proofs.Tests.{by_bool, any_fails, first_found}
use Rattle.stars.specs.Stars.{place_of, not_later, leader_list_by, leader_list}
use Rattle.stars.proofs.Firsts.{first_ext, first-least, first-none}

-- By a place for each, the one with the lower place leads a pair, and of two with one place the first named.
module _ (place : ℕ → ℕ) (a b : ℕ) where
  pub not-later : place a ≤ place b → not_later place a b ≡ true
  not-later = le-leb (place a) (place b)

  pub later : place b < place a → not_later place a b ≡ false
  later = lt-leb (place a) (place b)

  pub not_later_means : not_later place a b ≡ true → place a ≤ place b
  not_later_means = leb-true (place a) (place b)

  pub later_means : not_later place a b ≡ false → place b < place a
  later_means = leb-false (place a) (place b)

-- p is the first place from i on at which v stands, or n
pub record FirstFrom (i n : ℕ) (order : ℕ → ℕ) (v p : ℕ) : Type 0 where
  pub most : p ≤ n
  pub here : p < n → order p ≡ v
  pub before : (j : ℕ) → i ≤ j → j < p → order j ≡ v → ⊥

module _ (n : ℕ) (order : ℕ → ℕ) where
  -- v's place is the first from 0 on
  pub place_is : (v p : ℕ) → FirstFrom 0 n order v p → p ≡ place_of n order v
  unfolding place_of
  place_is v p e = first-least n (λ i. eqb (order i) v) p e.most (λ l. eq-eqb (order p) v (e.here l)) (λ j l. ne_eqb (order j) v (e.before j (omega arith) l))

  place : (v : ℕ) → FirstFrom 0 n order v (place_of n order v)
  unfolding place_of
  place v = by_bool (any n stands) stood nowhere
    where
      stands : ℕ → Bool
      stands i = eqb (order i) v

      stood : any n stands ≡ true → FirstFrom 0 n order v (first_with n stands)
      stood t = let (l, e, low) = first_found n stands t in record { most = omega arith; here = λ k. eqb-true (order (first_with n stands)) v e; before = λ j z k. eqb-false (order j) v (low j k) }

      nowhere : any n stands ≡ false → FirstFrom 0 n order v (first_with n stands)
      nowhere t =
          rw (← first-none n stands t)
          record { most = omega arith; here = λ k. absurd (omega arith); before = λ j z k. eqb-false (order j) v (any_fails n stands t j k) }

  -- the one with the lower place is earlier, ..
  place_earlier : (a b : ℕ) → place_of n order a < place_of n order b → Earlier n order a b
  place_earlier a b l =
      let below : place_of n order a < n = omega (arith, (place b).most) in
      record { place = place_of n order a; below = below; here = (place a).here below; before = λ j k. (place b).before j (omega arith) (omega arith) }

  -- .. and the one that is earlier has the lower place
  pub earlier_place : {a b : ℕ} → Earlier n order a b → place_of n order a < place_of n order b
  earlier_place {a} {b} e =
      by_bool (ltb e.place (place_of n order a)) (λ t. absurd ((place a).before e.place (omega arith) (ltb-true e.place (place_of n order a) t) e.here))
      (λ t. by_bool (ltb e.place (place_of n order b)) (λ s. omega (arith, ltb-false e.place (place_of n order a) t, ltb-true e.place (place_of n order b) s))
      (λ s. let low = ltb-false e.place (place_of n order b) s in absurd (e.before (place_of n order b) low ((place b).here (omega (arith, e.below))))))

  -- two with one place stand nowhere
  place-apart : (a b : ℕ) → (b ≡ a → ⊥) → place_of n order a ≡ place_of n order b → (i : ℕ) → i < n → (order i ≡ a → ⊥) × (order i ≡ b → ⊥)
  place-apart a b apart same i l =
      let past : place_of n order a < n → ⊥ = λ k. apart (sym ((place b).here (rw same at k)) ∙ rw (← same) ((place a).here k)) in
      (λ e. absurd (nowhere a past e), λ e. absurd (nowhere b (λ k. past (rw same k)) e))
    where
      nowhere : (v : ℕ) → (place_of n order v < n → ⊥) → order i ≡ v → ⊥
      nowhere v past e = by_bool (ltb (place_of n order v) n) (λ t. past (ltb-true (place_of n order v) n t)) (λ t. (place v).before i (omega arith) (omega (arith, ltb-false (place_of n order v) n t)) e)

  -- of two gateways one is earlier, or neither stands in the list
  pub who_cases : {A : Type 0} (a b : ℕ) → (b ≡ a → ⊥) → (Earlier n order a b → A) → (Earlier n order b a → A) → (((i : ℕ) → i < n → (order i ≡ a → ⊥) × (order i ≡ b → ⊥)) → A) → A
  who_cases a b apart first second neither =
      by_bool (ltb (place_of n order a) (place_of n order b)) (λ t. first (place_earlier a b (ltb-true (place_of n order a) (place_of n order b) t)))
      (λ t. by_bool (ltb (place_of n order b) (place_of n order a)) (λ s. second (place_earlier b a (ltb-true (place_of n order b) (place_of n order a) s)))
      (λ s. neither (place-apart a b apart (le_antisymm (ltb-false (place_of n order b) (place_of n order a) s) (ltb-false (place_of n order a) (place_of n order b) t)))))

  -- who stands nowhere is not before anybody
  pub place_last : (a b : ℕ) → ((i : ℕ) → i < n → order i ≡ b → ⊥) → place_of n order a ≤ place_of n order b
  place_last a b nowhere = by_bool (ltb (place_of n order b) n) (λ t. let l = ltb-true (place_of n order b) n t in absurd (nowhere (place_of n order b) l ((place b).here l))) (λ t. omega (arith, ltb-false (place_of n order b) n t, (place a).most))

-- The list goes by the first n of the order only.
pub list-by-order : (n : ℕ) (os os' hs : List ℕ) → ((i : ℕ) → i < n → at os i ≡ at os' i) → (v : ℕ) → leader_list n os hs v ≡ leader_list n os' hs v
unfolding leader_list place_of
list-by-order n os os' hs same v =
    ap (λ (place : ℕ → ℕ). leader_list_by (not_later place) n hs v)
    (fun_ext (λ a. first_ext n (λ i. eqb (at os i) a) (λ i. eqb (at os' i) a) (λ i l. ap (λ (x : ℕ). eqb x a) (same i l))))
