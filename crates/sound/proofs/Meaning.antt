-- What a sound record is, as the facts that proofs use; the test of soundness means exactly these.
use Prim.Native.Nat.{ℕ, ◌*◌, ◌<◌, ◌≤◌}
use mathlib.Core.Path.{◌≡◌, refl, sym, ◌∙◌}
use mathlib.Core.Logic.{◌⊎◌, inl, inr, ⊎_elim}
use mathlib.Core.Bool.{true, not, ◌&&◌, ◌||◌, false≢true}
use mathlib.Core.List.{List, [], ◌∷◌}
use native.Mathlib.Omega.{arith}
use lib.Dec.{eqb, ltb, leb}
use lib.ListN.{length}
use borrow.Author.Tests.{eqb-true, eqb-false, eq-eqb, ne_eqb, ltb-true, ltb-false, lt-ltb, leb-true, le-leb, not-true}
use Rattle.packing.specs.Count.{count, all}
use Rattle.packing.specs.Plant.{GATEWAYS, LINKS, LOWEST, HIGHEST, NONE, at, first_links, linked, joins}
use Rattle.packing.specs.Holders.{held, holds, Feasible}
use Rattle.packing.proofs.Tests.{tests, by_bool, and_l, and_r, and_i, or_l, or_r, or_cases, iff_test, all_elim, all_intro}
use Rattle.packing.proofs.Sums.{count_ext, count-one, count_unique, count-some, count_same, count-all, fibre, sum_over_ext, sum_over_const}
use Rattle.packing.proofs.Prefixes.{IsOrder, order-place}
use Rattle.sound.specs.Sound.{numbers_sound, lists_long, is_limit, limits_sound, ends_sound, once_each, is_order, holders_linked, holders_within, only_placed_held, is_sound}

pub record Sound (n t m k : ℕ) (ls os hs ts : List ℕ) : Type 0 where
  pub few : n ≤ GATEWAYS
  pub low : LOWEST ≤ t
  pub high : t ≤ HIGHEST
  pub few-links : m ≤ LINKS
  pub placed : k ≤ n
  pub links-long : 2 * m ≤ length ls
  pub order-long : n ≤ length os
  pub holders-long : n ≤ length hs
  pub limits-long : n ≤ length ts
  pub limits : (u : ℕ) → u < n → (LOWEST ≤ at ts u) × (at ts u ≤ HIGHEST)
  pub ends : (x y : ℕ) → linked (first_links m ls) x y ≡ true → (x < n) × (y < n) × (x ≡ y → ⊥)
  pub order : IsOrder n (at os)
  pub range : (v : ℕ) → v < n → (at hs v ≡ NONE) ⊎ (at hs v < n)
  pub feasible : Feasible n (at ts) (linked (first_links m ls)) (at hs)
  pub free : (i : ℕ) → k ≤ i → i < n → at hs (at os i) ≡ NONE

pub numbers_mean : (n t m k : ℕ) → numbers_sound n t m k ≡ true → (n ≤ GATEWAYS) × (LOWEST ≤ t) × (t ≤ HIGHEST) × (m ≤ LINKS) × (k ≤ n)
unfolding numbers_sound
numbers_mean n t m k e = search (tests, leb-true)

pub lists_mean : (n m : ℕ) (ls os hs ts : List ℕ) → lists_long n m ls os hs ts ≡ true → (2 * m ≤ length ls) × (n ≤ length os) × (n ≤ length hs) × (n ≤ length ts)
unfolding lists_long
lists_mean n m ls os hs ts e = search (tests, leb-true)

-- one limit, and those of all gateways
pub limit_means : (limit : ℕ) → is_limit limit ≡ true → (LOWEST ≤ limit) × (limit ≤ HIGHEST)
unfolding is_limit
limit_means limit e = search (tests, leb-true)

pub means_limit : (limit : ℕ) → LOWEST ≤ limit → limit ≤ HIGHEST → is_limit limit ≡ true
unfolding is_limit
means_limit limit low high = rw (le-leb LOWEST limit low) (le-leb limit HIGHEST high)

limits_mean : (n : ℕ) (ts : List ℕ) → limits_sound n ts ≡ true → (u : ℕ) → u < n → (LOWEST ≤ at ts u) × (at ts u ≤ HIGHEST)
unfolding limits_sound
limits_mean n ts e u l = limit_means (at ts u) (all_elim n (λ w. is_limit (at ts w)) e u l)

mean_limits : (n : ℕ) (ts : List ℕ) → ((u : ℕ) → u < n → (LOWEST ≤ at ts u) × (at ts u ≤ HIGHEST)) → limits_sound n ts ≡ true
unfolding limits_sound
mean_limits n ts h = all_intro n (λ w. is_limit (at ts w)) (λ u l. means_limit (at ts u) (h u l).0 (h u l).1)

-- what a link whose ends differ and are below n joins differs and is below n
pub joined-ends : (n a b : ℕ) → a < n → b < n → (a ≡ b → ⊥) → (x y : ℕ) → joins a b x y ≡ true → (x < n) × (y < n) × (x ≡ y → ⊥)
joined-ends n a b below_a below_b apart x y e =
    ⊎_elim
    (λ q. let u : a ≡ x = eqb-true a x (and_l (eqb a x) (eqb b y) q) in let v : b ≡ y = eqb-true b y (and_r (eqb a x) (eqb b y) q) in (omega arith, omega arith, λ s. apart (cc)))
    (λ q. let u : a ≡ y = eqb-true a y (and_l (eqb a y) (eqb b x) q) in let v : b ≡ x = eqb-true b x (and_r (eqb a y) (eqb b x) q) in (omega arith, omega arith, λ s. apart (cc)))
    (or_cases (eqb a x && eqb b y) (eqb a y && eqb b x) e)

pub ends_mean : (n : ℕ) (l : List ℕ) → ends_sound n l ≡ true → (x y : ℕ) → linked l x y ≡ true → (x < n) × (y < n) × (x ≡ y → ⊥)
unfolding ends_sound linked
ends_mean n [] e x y j = absurd (false≢true j)
ends_mean n (a ∷ []) e x y j = absurd (false≢true j)
ends_mean n (a ∷ b ∷ l) e x y j =
    ⊎_elim (joined-ends n a b below_a below_b apart x y) (λ later. ends_mean n l (and_r (not (eqb a b) && ltb a n && ltb b n) (ends_sound n l) e) x y later) (or_cases (joins a b x y) (linked l x y) j)
  where
    pair : (not (eqb a b) && ltb a n && ltb b n) ≡ true
    pair = and_l (not (eqb a b) && ltb a n && ltb b n) (ends_sound n l) e

    low : (not (eqb a b) && ltb a n) ≡ true
    low = and_l (not (eqb a b) && ltb a n) (ltb b n) pair

    below_a : a < n
    below_a = ltb-true a n (and_r (not (eqb a b)) (ltb a n) low)

    below_b : b < n
    below_b = ltb-true b n (and_r (not (eqb a b) && ltb a n) (ltb b n) pair)

    apart : a ≡ b → ⊥
    apart = eqb-false a b (not-true (eqb a b) (and_l (not (eqb a b)) (ltb a n) low))

mean_ends : (n : ℕ) (l : List ℕ) → ((x y : ℕ) → linked l x y ≡ true → (x < n) × (y < n) × (x ≡ y → ⊥)) → ends_sound n l ≡ true
unfolding ends_sound linked
mean_ends n [] h = refl
mean_ends n (a ∷ []) h = refl
mean_ends n (a ∷ b ∷ l) h =
    let f = h a b (or_l (joins a b a b) (linked l a b) (or_l (eqb a a && eqb b b) (eqb a b && eqb b a) (and_i (eqb a a) (eqb b b) (eq-eqb a a refl) (eq-eqb b b refl)))) in
    rw (ne_eqb a b f.2, lt-ltb a n f.0, lt-ltb b n f.1) (mean_ends n l (λ x y j. h x y (or_r (joins a b x y) (linked l x y) j)))

-- where n is in range and there are n numbers, only whether each stands once is asked
pub order_is : (n : ℕ) (l : List ℕ) → n ≤ GATEWAYS → n ≤ length l → is_order n l ≡ once_each n l
unfolding is_order
order_is n l few long = rw (le-leb n GATEWAYS few, le-leb n (length l) long)

pub once_mean : (n : ℕ) (os : List ℕ) → once_each n os ≡ true → IsOrder n (at os)
unfolding once_each
once_mean n os e = record { below = below; once = once }
  where
    one : (v : ℕ) → v < n → count n (λ i. eqb (at os i) v) ≡ 1
    one v l = eqb-true _ 1 (all_elim n (λ w. eqb (count n (λ i. eqb (at os i) w)) 1) e v l)

    inside : count n (λ i. ltb (at os i) n) ≡ n
    inside =
        fibre n n (λ i. ltb (at os i) n) (λ v. true) (at os) (λ i l q. ltb-true _ _ q) (λ i l q. refl)
        ∙ sum_over_ext n (λ v. true) (λ v. count n (λ i. ltb (at os i) n && eqb (at os i) v)) (λ v. 1) (λ v l q. count_ext n (λ i. ltb (at os i) n && eqb (at os i) v) (λ i. eqb (at os i) v) (λ i k. within (at os i) v l) ∙ one v l)
        ∙ omega (arith, sum_over_const n 1 (λ v. true), count-all n (λ v. true) (λ v l. refl))
      where
        within : (x v : ℕ) → v < n → (ltb x n && eqb x v) ≡ eqb x v
        within x v l = iff_test (ltb x n && eqb x v) (eqb x v) (and_r (ltb x n) (eqb x v)) (λ q. and_i (ltb x n) (eqb x v) (lt-ltb x n (omega (arith, eqb-true x v q))) q)

    below : (i : ℕ) → i < n → at os i < n
    below i l = ltb-true _ _ (count_same n (λ j. ltb (at os j) n) (λ j. true) (λ j k q. refl) (omega (arith, inside, count-all n (λ j. true) (λ j k. refl))) i l refl)

    once : (i j : ℕ) → i < n → j < n → at os i ≡ at os j → i ≡ j
    once i j k l q = count-one n (λ w. eqb (at os w) (at os j)) (omega (arith, one (at os j) (below j l))) i j k l (eq-eqb (at os i) (at os j) q) (eq-eqb (at os j) (at os j) refl)

pub mean_once : (n : ℕ) (os : List ℕ) → IsOrder n (at os) → once_each n os ≡ true
unfolding once_each
mean_once n os o = all_intro n (λ v. eqb (count n (λ i. eqb (at os i) v)) 1) (λ v l. eq-eqb _ 1 (one v l))
  where
    one : (v : ℕ) → v < n → count n (λ i. eqb (at os i) v) ≡ 1
    one v l =
        let p = order-place o v l in
        omega (
          arith,
          count-some n (λ i. eqb (at os i) v) p.0 p.1 (eq-eqb _ v p.2),
          count_unique n (λ i. eqb (at os i) v) (λ i j a b q r. o.once i j a b (eqb-true _ v q ∙ sym (eqb-true _ v r))),
        )

module _ (n t m k : ℕ) (ls os hs ts : List ℕ) where
  holders-along : holders_linked n (first_links m ls) hs ≡ true → (v : ℕ) → v < n → (at hs v ≡ NONE) ⊎ (linked (first_links m ls) v (at hs v) ≡ true)
  unfolding holders_linked
  holders-along e v l =
      ⊎_elim (λ q. inl (eqb-true (at hs v) NONE q)) (λ q. inr q)
      (or_cases (eqb (at hs v) NONE) (linked (first_links m ls) v (at hs v)) (all_elim n (λ w. eqb (at hs w) NONE || linked (first_links m ls) w (at hs w)) e v l))

  -- the eight clauses, one by one
  record Clauses : Type 0 where
    numbers : numbers_sound n t m k ≡ true
    lists : lists_long n m ls os hs ts ≡ true
    limits : limits_sound n ts ≡ true
    link-ends : ends_sound n (first_links m ls) ≡ true
    once : once_each n os ≡ true
    tied : holders_linked n (first_links m ls) hs ≡ true
    within : holders_within n (at ts) hs ≡ true
    unplaced : only_placed_held n k os hs ≡ true

  clauses : is_sound n t m k ls os hs ts ≡ true → Clauses
  unfolding is_sound
  clauses e = search tests depth 9

  pub sound_means : is_sound n t m k ls os hs ts ≡ true → Sound n t m k ls os hs ts
  unfolding holders_within only_placed_held
  sound_means e =
      record {
        few = nums.0;
        low = nums.1;
        high = nums.2;
        few-links = nums.3;
        placed = nums.4;
        links-long = lens.0;
        order-long = lens.1;
        holders-long = lens.2;
        limits-long = lens.3;
        limits = limits_mean n ts c.limits;
        ends = ends;
        order = once_mean n os c.once;
        range = range;
        feasible = record { along = along; within = λ u l. leb-true _ _ (all_elim n (λ w. leb (holds n (at hs) w) (at ts w)) c.within u l) };
        free = λ i p l. ⊎_elim (λ q. absurd (omega (arith, ltb-true i k q))) (λ q. eqb-true _ NONE q) (or_cases (ltb i k) (eqb (at hs (at os i)) NONE) (all_elim n (λ j. ltb j k || eqb (at hs (at os j)) NONE) c.unplaced i l));
      }
    where
      c : Clauses
      c = clauses e

      nums : (n ≤ GATEWAYS) × (LOWEST ≤ t) × (t ≤ HIGHEST) × (m ≤ LINKS) × (k ≤ n)
      nums = numbers_mean n t m k c.numbers

      lens : (2 * m ≤ length ls) × (n ≤ length os) × (n ≤ length hs) × (n ≤ length ts)
      lens = lists_mean n m ls os hs ts c.lists

      ends : (x y : ℕ) → linked (first_links m ls) x y ≡ true → (x < n) × (y < n) × (x ≡ y → ⊥)
      ends = ends_mean n (first_links m ls) c.link-ends

      range : (v : ℕ) → v < n → (at hs v ≡ NONE) ⊎ (at hs v < n)
      range v l = ⊎_elim (λ q. inl q) (λ q. inr (ends v (at hs v) q).1) (holders-along c.tied v l)

      along : (v : ℕ) → v < n → held n (at hs) v ≡ true → linked (first_links m ls) v (at hs v) ≡ true
      along v l q = ⊎_elim (λ none. absurd (omega (arith, nums.0, ltb-true (at hs v) n q))) (λ j. j) (holders-along c.tied v l)

  pub means_sound : Sound n t m k ls os hs ts → is_sound n t m k ls os hs ts ≡ true
  unfolding is_sound numbers_sound lists_long holders_linked holders_within only_placed_held
  means_sound s =
      rw (
        le-leb n GATEWAYS s.few,
        le-leb LOWEST t s.low,
        le-leb t HIGHEST s.high,
        le-leb m LINKS s.few-links,
        le-leb k n s.placed,
        le-leb (2 * m) (length ls) s.links-long,
        le-leb n (length os) s.order-long,
        le-leb n (length hs) s.holders-long,
        le-leb n (length ts) s.limits-long,
        mean_limits n ts s.limits,
        mean_ends n (first_links m ls) s.ends,
        mean_once n os s.order,
        tied,
        within,
      ) unplaced
    where
      tied : all n (λ v. eqb (at hs v) NONE || linked (first_links m ls) v (at hs v)) ≡ true
      tied =
          all_intro n (λ v. eqb (at hs v) NONE || linked (first_links m ls) v (at hs v))
          (λ v l. ⊎_elim (λ q. or_l _ (linked (first_links m ls) v (at hs v)) (eq-eqb (at hs v) NONE q)) (λ q. or_r (eqb (at hs v) NONE) _ (s.feasible.along v l (lt-ltb (at hs v) n q))) (s.range v l))

      within : all n (λ u. leb (holds n (at hs) u) (at ts u)) ≡ true
      within = all_intro n (λ u. leb (holds n (at hs) u) (at ts u)) (λ u l. le-leb _ _ (s.feasible.within u l))

      unplaced : all n (λ i. ltb i k || eqb (at hs (at os i)) NONE) ≡ true
      unplaced =
          all_intro n (λ i. ltb i k || eqb (at hs (at os i)) NONE)
          (λ i l. by_bool (ltb i k) (λ q. or_l _ _ q) (λ q. or_r (ltb i k) _ (eq-eqb _ NONE (s.free i (ltb-false i k q) l))))
