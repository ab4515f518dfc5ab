-- Laws of lists of values and of those with a property, and of the loops that write one to the front of a lent list.
use Prim.Native.Nat.{ℕ, zero, suc, ◌+◌, ◌<◌, ◌≤◌}
use mathlib.Core.Path.{◌≡◌, refl, sym, ap, ◌∙◌}
use mathlib.Core.Logic.{⊎_elim}
use mathlib.Core.Bool.{Bool, true, false, cond, ◌||◌, or_assoc, false≢true}
use mathlib.Core.List.{List, [], ◌∷◌, ◌++◌, append-nil, append_assoc}
use native.Mathlib.Nat.{not-suc-le-zero, le_antisymm, add-zero, add-suc, suc-add}
use native.Mathlib.Numerals.{add-one}
use native.Mathlib.Omega.{arith}
use lib.Dec.{eqb}
use lib.ListN.{length, get_or, set, take, drop, replicate, length-append, length-drop, length-set, length-replicate, get_or-replicate, replicate-append-replicate, get_or-append, drop_of_length-le}
use lib.Seq.{get_or_at, get_or-set_same, get_or-set_other, drop-cons, set_at, take_at, append_snoc, ext_get_or, sets, drop-append_seam, get_or-append_seam}
use borrow.Author.Tests.{eqb-true, eqb-false, eq-eqb}
use Rattle.packing.specs.Count.{pick, sum, count}
use Rattle.packing.specs.Lists.{list_of, list_where, written, Ascending, member_of, Lists}
use Rattle.packing.specs.Plant.{at}
use Rattle.packing.proofs.Tests.{by_bool, below_suc, or_cases, or_l, or_r}
use Rattle.packing.proofs.Counting.{Tallied, tally_start, tally_more, tally_same, tally_less, tally_end}

pub list_of-length : (n : ℕ) (f : ℕ → ℕ) → length (list_of n f) ≡ n
unfolding list_of
list_of-length zero f = refl
list_of-length (suc n) f = omega (arith, length-append (list_of n f) (f n ∷ []), list_of-length n f)

pub list_of_ext : (n : ℕ) (f g : ℕ → ℕ) → ((v : ℕ) → v < n → f v ≡ g v) → list_of n f ≡ list_of n g
unfolding list_of
list_of_ext zero f g h = refl
list_of_ext (suc n) f g h = rw (list_of_ext n f g (λ v l. h v (omega arith)), h n (omega arith))

pub list_of-at : (n : ℕ) (f : ℕ → ℕ) (i : ℕ) → i < n → get_or (list_of n f) i 0 ≡ f i
unfolding list_of
list_of-at zero f i l = absurd (not-suc-le-zero l)
list_of-at (suc n) f i l =
    below_suc i n l (λ q. rw q (get_or_at (list_of n f) (f n) [] 0 n (list_of-length n f)))
    (λ q. get_or-append (list_of n f) (f n ∷ []) 0 i (omega (arith, list_of-length n f)) ∙ list_of-at n f i q)

-- the list of a constant
pub list_of_same : (n x : ℕ) → list_of n (λ i. x) ≡ replicate n x
unfolding list_of
list_of_same zero x = refl
list_of_same (suc n) x = rw (list_of_same n x) (replicate-append-replicate n 1 x ∙ ap (λ (k : ℕ). replicate k x) (add-one n))

-- every entry of a list of zeros is 0, also past its end
pub zero-at : (n v : ℕ) → at (replicate n 0) v ≡ 0
zero-at zero v = refl
zero-at (suc n) zero = refl
zero-at (suc n) (suc v) = zero-at n v

-- a list is the list of its entries
pub list-is : (l : List ℕ) → l ≡ list_of (length l) (λ i. get_or l i 0)
list-is l = ext_get_or 0 l (list_of (length l) (λ i. get_or l i 0)) (sym (list_of-length (length l) (λ i. get_or l i 0))) (λ i h. sym (list_of-at (length l) (λ i. get_or l i 0) i h))

-- .. and so is one whose entries are known
pub list-by : (n : ℕ) (l : List ℕ) (f : ℕ → ℕ) → length l ≡ n → ((v : ℕ) → v < n → at l v ≡ f v) → l ≡ list_of n f
list-by n l f long each = list-is l ∙ ap (λ (m : ℕ). list_of m (at l)) long ∙ list_of_ext n (at l) f each

-- those below n with p: their number
pub list_where-length : (n : ℕ) (p : ℕ → Bool) → length (list_where n p) ≡ count n p
unfolding list_where count sum
list_where-length zero p = refl
list_where-length (suc n) p = length-append (list_where n p) (cond (p n) (n ∷ []) []) ∙ rw (list_where-length n p) (ap (λ (k : ℕ). count n p + k) (one (p n)))
  where
    one : (b : Bool) → length (cond b (n ∷ []) []) ≡ pick b 1
    one true = refl
    one false = refl

-- .. and who they are
pub member-append : (l k : List ℕ) (y : ℕ) → member_of (l ++ k) y ≡ (member_of l y || member_of k y)
unfolding member_of
member-append [] k y = refl
member-append (a ∷ l) k y = rw (member-append l k y) (sym (or_assoc (eqb a y) (member_of l y) (member_of k y)))

pub list_where_in : (n : ℕ) (p : ℕ → Bool) (v : ℕ) → v < n → p v ≡ true → member_of (list_where n p) v ≡ true
unfolding list_where member_of
list_where_in zero p v h e = absurd (not-suc-le-zero h)
list_where_in (suc n) p v h e =
    let two = member-append (list_where n p) (cond (p n) (n ∷ []) []) v in
    below_suc v n h (λ q. two ∙ or_r (member_of (list_where n p) v) _ (rw (← q, e) (or_l (eqb v v) false (eq-eqb v v refl))))
    (λ q. two ∙ or_l (member_of (list_where n p) v) _ (list_where_in n p v q e))

pub list_where_out : (n : ℕ) (p : ℕ → Bool) (v : ℕ) → member_of (list_where n p) v ≡ true → (v < n) × (p v ≡ true)
unfolding list_where member_of
list_where_out zero p v e = absurd (false≢true e)
list_where_out (suc n) p v e =
    ⊎_elim (λ q. let r = list_where_out n p v q in (omega (arith, r.0), r.1)) (λ q. last (p n) refl q)
    (or_cases (member_of (list_where n p) v) _ (sym (member-append (list_where n p) (cond (p n) (n ∷ []) []) v) ∙ e))
  where
    last : (b : Bool) → p n ≡ b → member_of (cond b (n ∷ []) []) v ≡ true → (v < suc n) × (p v ≡ true)
    last true f q = let here : n ≡ v = eqb-true n v (⊎_elim (λ r. r) (λ r. absurd (false≢true r)) (or_cases (eqb n v) false q)) in (omega arith, rw (← here) f)
    last false f q = absurd (false≢true q)

pub list_where_ext : (n : ℕ) (p q : ℕ → Bool) → ((v : ℕ) → v < n → p v ≡ q v) → list_where n p ≡ list_where n q
unfolding list_where
list_where_ext zero p q h = refl
list_where_ext (suc n) p q h = rw (list_where_ext n p q (λ v l. h v (omega arith)), h n (omega arith))

pub member-at : (l : List ℕ) (i : ℕ) → i < length l → member_of l (at l i) ≡ true
unfolding member_of
member-at [] i h = absurd (not-suc-le-zero h)
member-at (a ∷ l) zero h = or_l (eqb a a) (member_of l a) (eq-eqb a a refl)
member-at (a ∷ l) (suc i) h = or_r (eqb a (at l i)) (member_of l (at l i)) (member-at l i (omega arith))

-- "ascending"
pub list_where-ascending : (n : ℕ) (p : ℕ → Bool) → Ascending (list_where n p)
unfolding list_where
list_where-ascending zero p i j l h = absurd (not-suc-le-zero h)
list_where-ascending (suc n) p i j l h = by (list_where-ascending n p i j l) (p n) h
  where
    first : List ℕ
    first = list_where n p

    by : (j < length first → at first i < at first j) → (b : Bool) → j < length (first ++ cond b (n ∷ []) []) → at (first ++ cond b (n ∷ []) []) i < at (first ++ cond b (n ∷ []) []) j
    by before false k = rw (append-nil first) (before (rw (append-nil first) at k))
    by before true k =
        below_suc j (length first) (omega (arith, length-append first (n ∷ [])))
        (λ e. rw (get_or-append first (n ∷ []) 0 i (omega arith), e, get_or-append_seam first n [] 0) (list_where_out n p (at first i) (member-at first i (omega arith))).0)
        (λ e. rw (get_or-append first (n ∷ []) 0 i (omega arith), get_or-append first (n ∷ []) 0 j e) (before e))

-- .. so it lists just those with a property that the test is
pub lists_where : (n : ℕ) (p : ℕ → Bool) {Has : ℕ → Type 0} → ((v : ℕ) → p v ≡ true → Has v) → ((v : ℕ) → Has v → p v ≡ true) → Lists n Has (list_where n p)
lists_where n p to from =
    record { just = λ v. (λ e. let (l, t) = list_where_out n p v e in (l, to v t), λ h. list_where_in n p v h.0 (from v h.1)); ascending = list_where-ascending n p }

-- .. and one more below n + 1, or none
list_where-more : (n : ℕ) (p : ℕ → Bool) → p n ≡ true → list_where (n + 1) p ≡ list_where n p ++ (n ∷ [])
unfolding list_where
list_where-more n p e = rw (add-one, e)

list_where_same : (n : ℕ) (p : ℕ → Bool) → p n ≡ false → list_where (n + 1) p ≡ list_where n p
unfolding list_where
list_where_same n p e = rw (add-one, e) (append-nil (list_where n p))

-- the same from the front, as a loop goes through them: those of the d numbers from x on with p
unfoldable pub where_from : ℕ → ℕ → (ℕ → Bool) → List ℕ
where_from zero x p = []
where_from (suc d) x p = cond (p x) (x ∷ where_from d (suc x) p) (where_from d (suc x) p)

where_parts : (d x n : ℕ) (p : ℕ → Bool) → n ≡ x + d → list_where x p ++ where_from d x p ≡ list_where n p
unfolding where_from list_where
where_parts zero x n p e = let same : x ≡ n = omega (arith, e) in append-nil (list_where x p) ∙ ap (λ (k : ℕ). list_where k p) same
where_parts (suc d) x n p e =
    let next : list_where (suc x) p ++ where_from d (suc x) p ≡ list_where n p = where_parts d (suc x) n p (omega (arith, e)) in
    let joined = sym (append_assoc (list_where x p) (cond (p x) (x ∷ []) []) (where_from d (suc x) p)) ∙ next in
    by_bool (p x) (λ q. rw q (rw q at joined)) (λ q. rw q (rw q at joined))

pub where_all : (n : ℕ) (p : ℕ → Bool) → list_where n p ≡ where_from n 0 p
unfolding list_where
where_all n p = sym (where_parts n 0 n p (omega arith))

-- A lent list whose first n entries are written, by any front of n entries: its length, its entries there, and that front
module _ (n : ℕ) (front lent : List ℕ) (long : length front ≡ n) where
  pub written-length : n ≤ length lent → length (written n front lent) ≡ length lent
  unfolding written
  written-length room = omega (arith, long, length-append front (drop n lent), length-drop n lent)

  pub written-room : n ≤ length (written n front lent)
  unfolding written
  written-room = omega (arith, long, length-append front (drop n lent))

  pub written_at : (i : ℕ) → i < n → get_or (written n front lent) i 0 ≡ get_or front i 0
  unfolding written
  written_at i l = get_or-append front (drop n lent) 0 i (omega arith)

  pub written-front : take n (written n front lent) ≡ front
  unfolding written
  written-front = take_at front (drop n lent) n long

  pub written-past : drop n (written n front lent) ≡ drop n lent
  unfolding written
  written-past = rw (← long) (drop-append_seam front (drop (length front) lent))

  -- a lent list of no more entries
  pub written-whole : length lent ≤ n → written n front lent ≡ front
  unfolding written
  written-whole few = ap (λ (l : List ℕ). front ++ l) (drop_of_length-le lent {i = n} few) ∙ append-nil front

  -- one entry more
  written-more : (x : ℕ) → n < length lent → set (written n front lent) n x ≡ written (n + 1) (front ++ (x ∷ [])) lent
  unfolding written
  written-more x h = rw (add-one, drop-cons lent n 0 h) (set_at front (get_or lent n 0) (drop (suc n) lent) x n long ∙ sym (append_snoc front x (drop (suc n) lent)))

-- .. where the front is a list of values
pub listed_at : (n : ℕ) (f : ℕ → ℕ) (lent : List ℕ) (i : ℕ) → i < n → get_or (written n (list_of n f) lent) i 0 ≡ f i
listed_at n f lent i l = written_at n (list_of n f) lent (list_of-length n f) i l ∙ list_of-at n f i l

-- .. and where it is one value n times
pub repeated_at : (n x : ℕ) (lent : List ℕ) (i : ℕ) → i < n → get_or (written n (replicate n x) lent) i 0 ≡ x
repeated_at n x lent i l = written_at n (replicate n x) lent (length-replicate n x) i l ∙ get_or-replicate n i x 0 l

-- each entry once one is replaced
pub replaced-at : (l : List ℕ) (u x v : ℕ) → v < length l → get_or (set l u x) v 0 ≡ cond (eqb v u) x (get_or l v 0)
replaced-at l u x v h = by_bool (eqb v u) (λ e. rw (e, ← eqb-true v u e) (get_or-set_same l v x 0 h)) (λ e. rw e (get_or-set_other l u v x 0 (eqb-false v u e)))

-- one list set over another from a place on, and a second behind it, are both set together
pub sets_append : (l : List ℕ) (i : ℕ) (a b : List ℕ) → sets (sets l i a) (i + length a) b ≡ sets l i (a ++ b)
sets_append l i [] b = rw add-zero
sets_append l i (x ∷ a) b = rw (add-suc i (length a), ← suc-add i (length a)) (sets_append (set l i x) (suc i) a b)

-- the first v values were written over old
pub record Listed (n : ℕ) (f : ℕ → ℕ) (old new : List ℕ) (v : ℕ) : Type 0 where
  pub upto : v ≤ n
  pub same : length new ≡ length old
  pub list : new ≡ written v (list_of v f) old

module _ (n : ℕ) (f : ℕ → ℕ) (old : List ℕ) where
  pub list-start : Listed n f old old 0
  unfolding list_of written
  list-start = record { upto = omega arith; same = refl; list = refl }

  pub list-turn : {new : List ℕ} {v x : ℕ} → n ≤ length old → Listed n f old new v → v < n → x ≡ f v → Listed n f old (set new v x) (v + 1)
  list-turn {new} {v} {x} room t h e =
      record {
        upto = omega arith;
        same = length-set new v x ∙ t.same;
        list = rw (t.list, e) (written-more v (list_of v f) old (list_of-length v f) (f v) (omega arith) ∙ ap (λ (l : List ℕ). written (v + 1) l old) next);
      }
    where
      next : list_of v f ++ (f v ∷ []) ≡ list_of (v + 1) f
      next = unfold list_of in rw add-one

  pub list-end : {new : List ℕ} {v : ℕ} → Listed n f old new v → n ≤ v → new ≡ written n (list_of n f) old
  list-end t h = rw (le_antisymm t.upto h) at t.list

-- those of the first w with p, k in number, were written over old
pub record Gathered (n : ℕ) (p : ℕ → Bool) (old new : List ℕ) (k w : ℕ) : Type 0 where
  pub tallied : Tallied n p k w
  pub same : length new ≡ length old
  pub list : new ≡ written k (list_where w p) old

module _ (n : ℕ) (p : ℕ → Bool) (old : List ℕ) where
  pub gather_start : Gathered n p old old 0 0
  unfolding list_where written
  gather_start = record { tallied = tally_start n p; same = refl; list = refl }

  module _ {new : List ℕ} {k w : ℕ} {b : Bool} (g : Gathered n p old new k w) (h : w < n) (e : b ≡ p w) where
    -- where w has p, there is a place for it
    pub gather_place : length (list_where n p) ≤ length old → b ≡ true → k < length old
    gather_place room f = omega (arith, list_where-length n p, tally_less n p g.tallied h e f)

    pub gather_more : length (list_where n p) ≤ length old → b ≡ true → Gathered n p old (set new k w) (k + 1) (w + 1)
    gather_more room f =
        record {
          tallied = tally_more n p g.tallied h e f;
          same = length-set new k w ∙ g.same;
          list = rw (g.list, list_where-more w p (sym e ∙ f)) (written-more k (list_where w p) old (list_where-length w p ∙ sym g.tallied.counted) w (gather_place room f));
        }

    pub gather_same : b ≡ false → Gathered n p old new k (w + 1)
    gather_same f = record { tallied = tally_same n p g.tallied h e f; same = g.same; list = rw (list_where_same w p (sym e ∙ f)) g.list }

  pub gather_end : {new : List ℕ} {k w : ℕ} → Gathered n p old new k w → n ≤ w → (k ≡ length (list_where n p)) × (new ≡ written k (list_where n p) old)
  gather_end g h = (tally_end n p g.tallied h ∙ sym (list_where-length n p), rw (le_antisymm g.tallied.upto h) at g.list)
