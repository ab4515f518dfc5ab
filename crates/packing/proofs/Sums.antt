-- Laws of sums and counts over the i below n, with the fibre lemma.
use Prim.Native.Nat.{ℕ, zero, suc, ◌+◌, ◌*◌, ◌<◌, ◌≤◌}
use mathlib.Core.Path.{◌≡◌, refl, sym, ap, ◌∙◌}
use mathlib.Core.Bool.{Bool, true, false, not, ◌&&◌, and_comm, false≢true}
use native.Mathlib.Nat.{not-suc-le-zero, mul-zero, mul-one, mul-add}
use native.Mathlib.Omega.{arith}
use lib.Dec.{eqb}
use borrow.Author.Tests.{eqb-true, eq-eqb, ne_eqb, not-true}
use Rattle.packing.specs.Count.{pick, sum, count, sum_over}
use Rattle.packing.proofs.Tests.{by_bool, not_i, below_suc, and_l, and_r, and_i, not_test}

pub sum_ext : (n : ℕ) (f g : ℕ → ℕ) → ((i : ℕ) → i < n → f i ≡ g i) → sum n f ≡ sum n g
unfolding sum
sum_ext zero f g h = refl
sum_ext (suc n) f g h = omega (arith, sum_ext n f g (λ i l. h i (omega arith)), h n (omega arith))

pub sum_mono : (n : ℕ) (f g : ℕ → ℕ) → ((i : ℕ) → i < n → f i ≤ g i) → sum n f ≤ sum n g
unfolding sum
sum_mono zero f g h = omega arith
sum_mono (suc n) f g h = omega (arith, sum_mono n f g (λ i l. h i (omega arith)), h n (omega arith))

pub sum-zero : (n : ℕ) (f : ℕ → ℕ) → ((i : ℕ) → i < n → f i ≡ 0) → sum n f ≡ 0
unfolding sum
sum-zero zero f h = refl
sum-zero (suc n) f h = omega (arith, sum-zero n f (λ i l. h i (omega arith)), h n (omega arith))

pub sum_add : (n : ℕ) (f g : ℕ → ℕ) → sum n (λ i. f i + g i) ≡ sum n f + sum n g
unfolding sum
sum_add zero f g = refl
sum_add (suc n) f g = omega (arith, sum_add n f g)

pub sum_swap : (n m : ℕ) (f : ℕ → ℕ → ℕ) → sum n (λ i. sum m (λ j. f i j)) ≡ sum m (λ j. sum n (λ i. f i j))
unfolding sum
sum_swap zero m f = sym (sum-zero m (λ j. 0) (λ j l. refl))
sum_swap (suc n) m f = omega (arith, sum_swap n m f, sum_add m (λ j. sum n (λ i. f i j)) (λ j. f n j))

-- where no term of f is above its term of g and f's sum is not below g's, the terms are equal
pub sum_equal : (n : ℕ) (f g : ℕ → ℕ) → ((i : ℕ) → i < n → f i ≤ g i) → sum n g ≤ sum n f → (i : ℕ) → i < n → f i ≡ g i
unfolding sum
sum_equal zero f g h e i l = absurd (not-suc-le-zero l)
sum_equal (suc n) f g h e i l =
    let below : sum n f ≤ sum n g = sum_mono n f g (λ j k. h j (omega arith)) in
    below_suc i n l (λ q. rw q (omega (arith, h n (omega arith)))) (λ q. sum_equal n f g (λ j k. h j (omega arith)) (omega (arith, h n (omega arith))) i q)

-- of a sum with one term, the term
pub sum_single : (n a : ℕ) (g : ℕ → ℕ) → a < n → sum n (λ u. pick (eqb a u) (g u)) ≡ g a
unfolding sum
sum_single zero a g l = absurd (not-suc-le-zero l)
sum_single (suc n) a g l =
    below_suc a n l
    (λ q. rw q (omega (arith, ap (λ (b : Bool). pick b (g n)) (eq-eqb n n refl), sum-zero n (λ u. pick (eqb n u) (g u)) (λ u k. ap (λ (b : Bool). pick b (g u)) (ne_eqb n u (omega arith))))))
    (λ q. omega (arith, sum_single n a g q, ap (λ (b : Bool). pick b (g n)) (ne_eqb a n (omega arith))))

-- one term is at most the sum
pub sum_term : (n : ℕ) (f : ℕ → ℕ) (i : ℕ) → i < n → f i ≤ sum n f
unfolding sum
sum_term zero f i l = absurd (not-suc-le-zero l)
sum_term (suc n) f i l = below_suc i n l (λ q. rw q (omega arith)) (λ q. omega (arith, sum_term n f i q))

-- a larger bound adds terms
pub sum_longer : (n m : ℕ) (f : ℕ → ℕ) → n ≤ m → sum n f ≤ sum m f
unfolding sum
sum_longer n zero f l = rw (zero_of n l) (omega arith)
  where
    zero_of : (k : ℕ) → k ≤ 0 → k ≡ 0
    zero_of k q = omega arith
sum_longer n (suc m) f l = below_suc n (suc m) (omega arith) (λ q. rw q (omega arith)) (λ q. omega (arith, sum_longer n m f (omega arith)))

pub pick_mono : (a b : Bool) → (a ≡ true → b ≡ true) → pick a 1 ≤ pick b 1
pick_mono true true h = omega arith
pick_mono true false h = absurd (false≢true (h refl))
pick_mono false true h = omega arith
pick_mono false false h = omega arith

pub pick-one : (b : Bool) → pick b 1 ≡ 1 → b ≡ true
pick-one true e = refl
pick-one false e = let z : ◌≡◌ {A = ℕ} 0 1 = e in absurd (omega arith)

pub pick-and : (a b : Bool) → pick (a && b) 1 ≡ pick a (pick b 1)
pick-and true b = refl
pick-and false b = refl

pick_split : (a b : Bool) → pick a 1 ≡ pick (a && b) 1 + pick (a && not b) 1
pick_split true true = refl
pick_split true false = refl
pick_split false b = refl

pub count_mono : (n : ℕ) (p q : ℕ → Bool) → ((i : ℕ) → i < n → p i ≡ true → q i ≡ true) → count n p ≤ count n q
unfolding count
count_mono n p q h = sum_mono n (λ i. pick (p i) 1) (λ i. pick (q i) 1) (λ i l. pick_mono (p i) (q i) (h i l))

pub count_ext : (n : ℕ) (p q : ℕ → Bool) → ((i : ℕ) → i < n → p i ≡ q i) → count n p ≡ count n q
unfolding count
count_ext n p q h = sum_ext n (λ i. pick (p i) 1) (λ i. pick (q i) 1) (λ i l. ap (λ (b : Bool). pick b 1) (h i l))

pub count_split : (n : ℕ) (p q : ℕ → Bool) → count n p ≡ count n (λ i. p i && q i) + count n (λ i. p i && not (q i))
unfolding count
count_split n p q =
    sum_ext n (λ i. pick (p i) 1) (λ i. pick (p i && q i) 1 + pick (p i && not (q i)) 1) (λ i l. pick_split (p i) (q i))
    ∙ sum_add n (λ i. pick (p i && q i) 1) (λ i. pick (p i && not (q i)) 1)

pub count_none : (n : ℕ) (p : ℕ → Bool) → ((i : ℕ) → i < n → p i ≡ false) → count n p ≡ 0
unfolding count
count_none n p h = sum-zero n (λ i. pick (p i) 1) (λ i l. ap (λ (b : Bool). pick b 1) (h i l))

pub count-all : (n : ℕ) (p : ℕ → Bool) → ((i : ℕ) → i < n → p i ≡ true) → count n p ≡ n
unfolding count sum
count-all zero p h = refl
count-all (suc n) p h = omega (arith, count-all n p (λ i l. h i (omega arith)), ap (λ (b : Bool). pick b 1) (h n (omega arith)))

pub count_longer : (n m : ℕ) (p : ℕ → Bool) → n ≤ m → count n p ≤ count m p
unfolding count
count_longer n m p l = sum_longer n m (λ i. pick (p i) 1) l

pub count_bound : (n : ℕ) (p : ℕ → Bool) → count n p ≤ n
unfolding count sum
count_bound zero p = omega arith
count_bound (suc n) p = omega (arith, count_bound n p, pick_mono (p n) true (λ e. refl))

-- one more at the end
pub count-suc : (n : ℕ) (p : ℕ → Bool) → count (suc n) p ≡ count n p + pick (p n) 1
unfolding count sum
count-suc n p = refl

-- a set within another that is no smaller is the other
pub count_same : (n : ℕ) (p q : ℕ → Bool) → ((i : ℕ) → i < n → p i ≡ true → q i ≡ true) → count n q ≤ count n p → (i : ℕ) → i < n → q i ≡ true → p i ≡ true
unfolding count
count_same n p q h e i l t =
    pick-one (p i) (sum_equal n (λ j. pick (p j) 1) (λ j. pick (q j) 1) (λ j k. pick_mono (p j) (q j) (h j k)) e i l ∙ ap (λ (b : Bool). pick b 1) t)

-- where one has p the count is not 0, and a count that is not 0 has one with p
pub count-some : (n : ℕ) (p : ℕ → Bool) (i : ℕ) → i < n → p i ≡ true → 1 ≤ count n p
unfolding count
count-some n p i l e = omega (arith, sum_term n (λ j. pick (p j) 1) i l, ap (λ (b : Bool). pick b 1) e)

pub count_find : (n : ℕ) (p : ℕ → Bool) → 1 ≤ count n p → (i : ℕ) × (i < n) × (p i ≡ true)
unfolding count sum
count_find zero p e = absurd (not-suc-le-zero e)
count_find (suc n) p e =
    by_bool (p n) (λ t. (n, (omega arith), t)) (λ f. let r = count_find n p (omega (arith, ap (λ (b : Bool). pick b 1) f)) in (r.0, omega (arith, r.1), r.2))

-- where any two with p are equal there is at most one
pub count_unique : (n : ℕ) (p : ℕ → Bool) → ((i j : ℕ) → i < n → j < n → p i ≡ true → p j ≡ true → i ≡ j) → count n p ≤ 1
unfolding count sum
count_unique zero p h = omega arith
count_unique (suc n) p h =
    by_bool (p n)
    (λ t. omega (arith, ap (λ (b : Bool). pick b 1) t, count_none n p (λ i l. not_test (p i) (λ e. let q : i ≡ n = h i n (omega arith) (omega arith) e t in omega arith))))
    (λ f. omega (arith, ap (λ (b : Bool). pick b 1) f, count_unique n p (λ i j k l. h i j (omega arith) (omega arith))))

-- where there is one with p, any two with p are equal
pub count-one : (n : ℕ) (p : ℕ → Bool) → count n p ≤ 1 → (i j : ℕ) → i < n → j < n → p i ≡ true → p j ≡ true → i ≡ j
count-one n p few i j k l e f =
    by_bool (eqb i j) (λ q. eqb-true i j q)
    (λ q. absurd (omega (arith, count_split n p (λ v. eqb i v), count-some n (λ v. p v && eqb i v) i k (and_i _ _ e (eq-eqb i i refl)), count-some n (λ v. p v && not (eqb i v)) j l (and_i _ _ f (not_i _ q)))))

-- The fibre lemma: where f takes each x below n with p to a u below m with q, p's count is the sum of the fibres' counts over q.
pub fibre : (n m : ℕ) (p q : ℕ → Bool) (f : ℕ → ℕ) → ((x : ℕ) → x < n → p x ≡ true → f x < m) → ((x : ℕ) → x < n → p x ≡ true → q (f x) ≡ true)
    → count n p ≡ sum_over m q (λ u. count n (λ x. p x && eqb (f x) u))
unfolding count sum_over
fibre n m p q f below inside =
    sum_ext n (λ x. pick (p x) 1) (λ x. sum m (λ u. pick (q u) (pick (p x && eqb (f x) u) 1))) (λ x l. sym (one x l))
    ∙ sum_swap n m (λ x u. pick (q u) (pick (p x && eqb (f x) u) 1))
    ∙ sum_ext m (λ u. sum n (λ x. pick (q u) (pick (p x && eqb (f x) u) 1))) (λ u. pick (q u) (sum n (λ x. pick (p x && eqb (f x) u) 1))) (λ u l. out u (q u))
  where
    point : (x u : ℕ) → q (f x) ≡ true → pick (q u) (pick (eqb (f x) u) 1) ≡ pick (eqb (f x) u) 1
    point x u h = by_bool (eqb (f x) u) (λ e. rw (e, ← eqb-true (f x) u e, h)) (λ e. rw e (either (q u)))
      where
        either : (b : Bool) → pick b 0 ≡ 0
        either true = refl
        either false = refl

    one : (x : ℕ) → x < n → sum m (λ u. pick (q u) (pick (p x && eqb (f x) u) 1)) ≡ pick (p x) 1
    one x l =
        by_bool (p x)
        (λ e. rw e (sum_ext m (λ u. pick (q u) (pick (eqb (f x) u) 1)) (λ u. pick (eqb (f x) u) 1) (λ u k. point x u (inside x l e)) ∙ sum_single m (f x) (λ u. 1) (below x l e)))
        (λ e. rw e (sum-zero m (λ u. pick (q u) 0) (λ u k. none (q u))))
      where
        none : (b : Bool) → pick b 0 ≡ 0
        none true = refl
        none false = refl

    out : (u : ℕ) (b : Bool) → sum n (λ x. pick b (pick (p x && eqb (f x) u) 1)) ≡ pick b (sum n (λ x. pick (p x && eqb (f x) u) 1))
    out u true = refl
    out u false = sum-zero n (λ x. 0) (λ x l. refl)

-- terms of a sum over a set are compared on the set only
pick_le : (b : Bool) (x y : ℕ) → (b ≡ true → x ≤ y) → pick b x ≤ pick b y
pick_le true x y h = h refl
pick_le false x y h = omega arith

pub sum_over_mono : (n : ℕ) (s : ℕ → Bool) (f g : ℕ → ℕ) → ((i : ℕ) → i < n → s i ≡ true → f i ≤ g i) → sum_over n s f ≤ sum_over n s g
unfolding sum_over
sum_over_mono n s f g h = sum_mono n (λ i. pick (s i) (f i)) (λ i. pick (s i) (g i)) (λ i l. pick_le (s i) (f i) (g i) (h i l))

pub sum_over_ext : (n : ℕ) (s : ℕ → Bool) (f g : ℕ → ℕ) → ((i : ℕ) → i < n → s i ≡ true → f i ≡ g i) → sum_over n s f ≡ sum_over n s g
unfolding sum_over
sum_over_ext n s f g h = sum_ext n (λ i. pick (s i) (f i)) (λ i. pick (s i) (g i)) (λ i l. by_bool (s i) (λ e. rw e (h i l e)) (λ e. rw e refl))

pub sum_over_equal : (n : ℕ) (s : ℕ → Bool) (f g : ℕ → ℕ) → ((i : ℕ) → i < n → s i ≡ true → f i ≤ g i) → sum_over n s g ≤ sum_over n s f → (i : ℕ) → i < n → s i ≡ true → f i ≡ g i
unfolding sum_over
sum_over_equal n s f g h e i l t = rw t at (sum_equal n (λ j. pick (s j) (f j)) (λ j. pick (s j) (g j)) (λ j k. pick_le (s j) (f j) (g j) (h j k)) e i l)

-- p's count is at most q's where it is so within r, and outside r all with p have q
pub count-within : (n : ℕ) (p q r : ℕ → Bool) → count n (λ i. r i && p i) ≤ count n (λ i. r i && q i) → ((i : ℕ) → i < n → r i ≡ false → p i ≡ true → q i ≡ true) → count n p ≤ count n q
count-within n p q r inside outside =
    omega (
      arith,
      inside,
      count_split n p r,
      count_split n q r,
      swap p,
      swap q,
      count_mono n (λ i. p i && not (r i)) (λ i. q i && not (r i)) (λ i l e. and_i (q i) (not (r i)) (outside i l (not-true (r i) (and_r (p i) (not (r i)) e)) (and_l (p i) (not (r i)) e)) (and_r (p i) (not (r i)) e)),
    )
  where
    swap : (s : ℕ → Bool) → count n (λ i. s i && r i) ≡ count n (λ i. r i && s i)
    swap s = count_ext n (λ i. s i && r i) (λ i. r i && s i) (λ i l. and_comm (s i) (r i))

-- a sum of equal terms is their number times the term
pub sum_over_const : (n c : ℕ) (s : ℕ → Bool) → sum_over n s (λ i. c) ≡ c * count n s
unfolding sum_over count sum
sum_over_const zero c s = sym (mul-zero c)
sum_over_const (suc n) c s = rw mul-add (omega (arith, sum_over_const n c s, last (s n)))
  where
    last : (b : Bool) → pick b c ≡ c * pick b 1
    last true = sym (mul-one c)
    last false = sym (mul-zero c)
