-- Hanging one end more: the place that was the last of the chain gets it, and it is the last place itself.
use Rattle.std.proofs.Common.{◌≡◌, ℕ, ◌+◌, ◌<◌, ◌≤◌, eqb, ltb, ◌⊎◌, List, length, set, replicate, sym, refl, ◌∙◌, inl, inr, ⊎_elim, not-suc-le-zero, add-one, arith, get_or-set_other, get_or-set_same, ltb-false, ltb-true, eqb-true}
use lib.ListN.{get_or-replicate}
use borrow.Author.Tests.{eqb-false}
use Rattle.packing.specs.Plant.{NONE, GATEWAYS, at}
use Rattle.packing.specs.Lists.{list_of}
use Rattle.packing.proofs.Tests.{by_bool, below_suc}
use Rattle.packing.proofs.Lists.{list_of-at}
use Rattle.chains.specs.Index.{root_of, mate}
use Rattle.chains.specs.Build.{Stands, Absent, FirstOrNone, LastPlace, Hung}

-- no end is hung: each chain is its root
pub hung-start : (ls : List ℕ) (slots : ℕ) {next last : List ℕ} → GATEWAYS ≤ slots → next ≡ replicate slots NONE → last ≡ list_of GATEWAYS (root_of slots) → Hung slots ls 0 next last
hung-start ls slots {next} few f g =
    record {
      chain = λ x s k h. ⊎_elim (λ r. inl (unused s (omega (arith, r.0, h, few)), λ i a b. absurd (not-suc-le-zero b))) (λ r. absurd (not-suc-le-zero r.0));
      tail = λ x h. (0, inl (rw g (list_of-at GATEWAYS (root_of slots) x h), refl), λ i a b. absurd (not-suc-le-zero b));
      unused = λ s a b. unused s (omega (arith, b));
    }
  where
    unused : (s : ℕ) → s < slots → at next s ≡ NONE
    unused s h = rw f (get_or-replicate slots s NONE 0 h)

module _ (slots : ℕ) (ls : List ℕ) where
  -- a place is in one chain only, once
  stands_one : {e e' x y s k k' : ℕ} → e + GATEWAYS ≤ slots → e' + GATEWAYS ≤ slots → Stands slots ls e x s k → Stands slots ls e' y s k' → (x ≡ y) × (k ≡ k')
  stands_one p q st st' =
      ⊎_elim (λ a. ⊎_elim (λ b. (omega (arith, a.0, b.0), a.1 ∙ sym b.1)) (λ b. absurd (omega (arith, a.0, b.0))) st')
      (λ a. ⊎_elim (λ b. absurd (omega (arith, a.0, b.0))) (λ b. (sym a.1 ∙ b.1, a.2 ∙ sym b.2)) st') st

  -- a chain has one last place
  last_one : {e y s k t : ℕ} → Stands slots ls e y s k → Absent ls y k e → LastPlace slots ls e y t → s ≡ t
  last_one {s = s} {t = t} st none (k', st', none') =
      ⊎_elim (λ a. ⊎_elim (λ b. a.0 ∙ sym b.0) (λ b. absurd (none t (omega (arith, a.1)) b.0 b.1)) st')
      (λ a.
      ⊎_elim (λ b. absurd (none' s (omega (arith, b.1)) a.0 a.1))
      (λ b.
      by_bool (ltb s t) (λ l. absurd (none t (omega (arith, a.2, ltb-true s t l)) b.0 b.1))
      (λ l. by_bool (ltb t s) (λ q. absurd (none' s (omega (arith, b.2, ltb-true t s q)) a.0 a.1)) (λ q. omega (arith, ltb-false s t l, ltb-false t s q)))) st') st

-- End e is a far end of y; t is the last place of y's chain.
module _
    (slots : ℕ) (ls : List ℕ) (e y t : ℕ) {next last : List ℕ} (d : Hung slots ls e next last) (few : e + GATEWAYS < slots) (places : length next ≡ slots) (gateways : length last ≡ GATEWAYS)
    (near : at ls (mate e) ≡ y) (below : y < GATEWAYS) (there : at last y ≡ t)
  where
    last_of : LastPlace slots ls e y t
    last_of = rw there at (d.tail y below)

    -- it is a root or an end that is hung
    last_place : (slots ≤ t + GATEWAYS) ⊎ (t < e)
    last_place = ⊎_elim (λ a. inl (omega (arith, a.0))) (λ a. inr a.0) last_of.1

    pub last_inside : t < slots
    last_inside = ⊎_elim (λ a. omega (arith, a.0, below, few)) (λ a. omega (arith, a.0, few)) last_of.1

    other : (s : ℕ) → (s ≡ t → ⊥) → at (set next t e) s ≡ at next s
    other s n = get_or-set_other next t s e 0 n

    -- no far end of x is added
    still : {x k : ℕ} → (y ≡ x → ⊥) → Absent ls x k e → Absent ls x k (e + 1)
    still n a i l h q = below_suc i e (rw (add-one e) at h) (λ r. n (sym near ∙ (rw r at q))) (λ r. a i l r q)

    later : (k : ℕ) → e < k → (x : ℕ) → Absent ls x k (e + 1)
    later k l x i a b q = omega (arith, l, a, b)

    -- a place of a chain other than t: what it had is still right
    kept : (x s k : ℕ) → (s ≡ t → ⊥) → Stands slots ls e x s k → FirstOrNone ls e x k (at next s) → FirstOrNone ls (e + 1) x k (at (set next t e) s)
    kept x s k n st old =
        rw (other s n)
        (⊎_elim
        (λ a. inl (a.0, by_bool (eqb y x) (λ q. let is : y ≡ x = eqb-true y x q in absurd (n (last_one slots ls st a.1 (rw is at last_of)))) (λ q. still (eqb-false y x q) a.1)))
        (λ a. inr (record { from = a.from; below = omega (arith, a.below); near = a.near; before = a.before })) old)

    chained : (x s k : ℕ) → x < GATEWAYS → Stands slots ls (e + 1) x s k → FirstOrNone ls (e + 1) x k (at (set next t e) s)
    chained x s k h st = by_bool (eqb s t) (λ q. at_last (eqb-true s t q)) (λ q. elsewhere (eqb-false s t q) st)
      where
        at_last : s ≡ t → FirstOrNone ls (e + 1) x k (at (set next t e) s)
        at_last q =
            let (k', st', none) = last_of in
            let (same, from) = stands_one slots ls (omega (arith, few)) (omega (arith, few)) (rw q at st) st' in
            rw (q, get_or-set_same next t e 0 (rw places last_inside), same, from)
            (inr (record { from = ⊎_elim (λ a. omega (arith, a.1)) (λ a. omega (arith, a.0, a.2)) st'; below = omega arith; near = near; before = none }))

        elsewhere : (s ≡ t → ⊥) → Stands slots ls (e + 1) x s k → FirstOrNone ls (e + 1) x k (at (set next t e) s)
        elsewhere n =
            ⊎_elim (λ a. kept x s k n (inl a) (d.chain x s k h (inl a)))
            (λ a.
            below_suc s e (rw (add-one e) at a.0) (λ q. rw (other s n) (inl (d.unused s (omega (arith, q)) (omega (arith, q, few)), later k (omega (arith, q, a.2)) x)))
            (λ q. kept x s k n (inr (q, a.1, a.2)) (d.chain x s k h (inr (q, a.1, a.2)))))

    tailed : (x : ℕ) → x < GATEWAYS → LastPlace slots ls (e + 1) x (at (set last y e) x)
    tailed x h =
        by_bool (eqb x y)
        (λ q. let is : x ≡ y = eqb-true x y q in rw (is, get_or-set_same last y e 0 (rw gateways below)) (e + 1, inr (omega arith, near, refl), later (e + 1) (omega arith) y))
        (λ q.
        let (k, st, none) = d.tail x h in
        rw (get_or-set_other last y x e 0 (eqb-false x y q)) (k, ⊎_elim inl (λ a. inr (omega (arith, a.0), a.1, a.2)) st, still (λ r. eqb-false x y q (sym r)) none))

    pub hung-more : Hung slots ls (e + 1) (set next t e) (set last y e)
    hung-more =
        record {
          chain = chained;
          tail = tailed;
          unused = λ s a b. other s (λ q. ⊎_elim (λ l. omega (arith, l, q, b)) (λ l. omega (arith, l, q, a)) last_place) ∙ d.unused s (omega (arith, a)) b;
        }
