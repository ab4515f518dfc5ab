-- Laws of turns: a test is its condition in words, a chain of tests is a turn, and a turn names one number.
use Prim.Native.Nat.{ℕ, zero, suc, ◌+◌, ◌*◌, ◌<◌, ◌≤◌}
use mathlib.Core.Path.{◌≡◌, refl, sym, ◌∙◌}
use mathlib.Core.Logic.{◌⊎◌, inl, inr, ⊎_elim, ◌↔◌}
use mathlib.Core.Bool.{Bool, true, false, not, ◌&&◌, ◌||◌, true≢false, false≢true}
use mathlib.Core.List.{List, [], ◌∷◌}
use native.Mathlib.Nat.{not-suc-le-zero}
use native.Mathlib.Omega.{arith}
use lib.Dec.{eqb, ltb, leb}
use lib.ListN.{length, take}
use lib.Seq.{get_or-take, length-take-le}
use borrow.Author.Tests.{eqb-true, eqb-false, eq-eqb, ltb-true, ltb-false, le-ltb, leb-true, leb-false, not-true, not-false}
use Rattle.packing.specs.Count.{all, any}
use Rattle.packing.specs.Plant.{at, first_links, joins, linked}
use Rattle.packing.specs.Orders.{repeats_or_outside}
use Rattle.packing.specs.Refusals.{refuse}
use Rattle.packing.specs.Turns.{Turn, done, named, FirstNamed, SameLink, LinkThere, first_end, second_end, RepeatsOrOutside}
use Rattle.packing.proofs.Tests.{by_bool, clash, iff_test, not_i, not_i_false, all_elim, all_fails, or_l, or_r, or_cases, or_false_l, or_false_r, any_elim, any_intro}

-- a test says just what a condition in words says
pub record Says (b : Bool) (Condition : Type 0) : Type 0 where
  pub holds : b ≡ true → Condition
  pub fails : b ≡ false → Condition → ⊥

-- no number named
pub turn-done : FirstNamed done 0
unfolding FirstNamed
turn-done = refl

-- the first of a chain of tests, and the rest
pub turn-named : (b : Bool) (e rest : ℕ) {Condition : Type 0} (later : Turn) → Says b Condition → (b ≡ false → FirstNamed later rest) → FirstNamed (named e Condition later) (refuse b e rest)
unfolding FirstNamed
turn-named true e rest later s f = inl (s.holds refl, refl)
turn-named false e rest later s f = inr (s.fails refl, f refl)

-- a condition that does not hold names nothing
pub turn_passed : (d : ℕ) {Condition : Type 0} (later : Turn) (e : ℕ) → (Condition → ⊥) → FirstNamed later e → FirstNamed (named d Condition later) e
unfolding FirstNamed
turn_passed d later e fails f = inr (fails, f)

-- .. and may be left out
pub turn_without : (d : ℕ) {Condition : Type 0} (later : Turn) (e : ℕ) → (Condition → ⊥) → FirstNamed (named d Condition later) e → FirstNamed later e
unfolding FirstNamed
turn_without d later e fails f = ⊎_elim (λ p. absurd (fails p.0)) (λ p. p.1) f

-- a condition may be said in other words, and the turn go on in other words
pub turn-changed : (d : ℕ) {A B : Type 0} (x y : Turn) (e : ℕ) → (A → B) → (B → A) → (FirstNamed x e → FirstNamed y e) → FirstNamed (named d A x) e → FirstNamed (named d B y) e
unfolding FirstNamed
turn-changed d x y e to from on f = ⊎_elim (λ p. inl (to p.0, p.1)) (λ p. inr ((λ b. p.0 (from b)), on p.1)) f

-- .. one of the two
pub turn_as : (d : ℕ) {A B : Type 0} (later : Turn) (e : ℕ) → (A → B) → (B → A) → FirstNamed (named d A later) e → FirstNamed (named d B later) e
turn_as d later e to from f = turn-changed d later later e to from (λ g. g) f

pub turn-later : (d : ℕ) (A : Type 0) (x y : Turn) (e : ℕ) → (FirstNamed x e → FirstNamed y e) → FirstNamed (named d A x) e → FirstNamed (named d A y) e
turn-later d A x y e on f = turn-changed d x y e (λ a. a) (λ a. a) on f

-- a turn names one number
pub named-once : (turn : Turn) (d e : ℕ) → FirstNamed turn d → FirstNamed turn e → d ≡ e
unfolding FirstNamed
named-once done d e f g = f ∙ sym g
named-once (named x Condition later) d e f g =
    ⊎_elim (λ p. ⊎_elim (λ q. p.1 ∙ sym q.1) (λ q. absurd (q.0 p.0)) g)
    (λ p. ⊎_elim (λ q. absurd (p.0 q.0)) (λ q. named-once later d e p.1 q.1) g) f

-- so a number is given exactly if it is the first whose condition holds
pub given_exactly : (turn : Turn) (d e : ℕ) → FirstNamed turn e → (e ≡ d) ↔ FirstNamed turn d
given_exactly turn d e f = (λ q. rw q at f, λ g. named-once turn e d f g)

-- Tests, and what they say in words.
pub says_less : (a b : ℕ) → Says (ltb a b) (a < b)
says_less a b = record { holds = ltb-true a b; fails = λ e l. omega (arith, ltb-false a b e) }

pub says-most : (a b : ℕ) → Says (leb a b) (a ≤ b)
says-most a b = record { holds = leb-true a b; fails = λ e l. omega (arith, leb-false a b e) }

pub says_same : (a b : ℕ) → Says (eqb a b) (a ≡ b)
says_same a b = record { holds = eqb-true a b; fails = eqb-false a b }

pub says_either : (a b : Bool) {A B : Type 0} → Says a A → Says b B → Says (a || b) (A ⊎ B)
says_either a b s t =
    record {
      holds = λ e. ⊎_elim (λ p. inl (s.holds p)) (λ p. inr (t.holds p)) (or_cases a b e);
      fails = λ e p. ⊎_elim (s.fails (or_false_l a b e)) (t.fails (or_false_r a b e)) p;
    }

pub says_both : (a b : Bool) {A B : Type 0} → Says a A → Says b B → Says (a && b) (A × B)
says_both true true s t = record { holds = λ e. (s.holds refl, t.holds refl); fails = λ e p. true≢false e }
says_both true false s t = record { holds = λ e. absurd (false≢true e); fails = λ e p. t.fails refl p.1 }
says_both false b s t = record { holds = λ e. absurd (false≢true e); fails = λ e p. s.fails refl p.0 }

pub says-not : (b : Bool) {A : Type 0} → Says b A → Says (not b) (A → ⊥)
says-not true s = record { holds = λ e. absurd (false≢true e); fails = λ e p. p (s.holds refl) }
says-not false s = record { holds = λ e. s.fails refl; fails = λ e p. true≢false e }

-- where not all below n pass a test, the condition that it fails by holds of one
pub says_all : (n : ℕ) (p : ℕ → Bool) {Condition : ℕ → Type 0} → ((i : ℕ) → Says (not (p i)) (Condition i)) → Says (not (all n p)) ((i : ℕ) × (i < n) × Condition i)
says_all n p s =
    record {
      holds = λ e. let r = all_fails n p (not-true (all n p) e) in (r.0, r.1, (s r.0).holds (not_i (p r.0) r.2));
      fails = λ e r. (s r.0).fails (not_i_false (p r.0) (all_elim n p (not-false (all n p) e) r.0 r.1)) r.2;
    }

-- a condition in other words
pub says_as : {b : Bool} {A B : Type 0} → (A → B) → (B → A) → Says b A → Says b B
says_as to from s = record { holds = λ e. to (s.holds e); fails = λ e p. s.fails e (from p) }

-- a test holds where its condition does, ..
pub says-true : {b : Bool} {A : Type 0} → Says b A → A → b ≡ true
says-true {b} s a = by_bool b (λ e. e) (λ e. absurd (s.fails e a))

-- .. and two whose conditions follow from each other are equal
pub says_iff : {a b : Bool} {A B : Type 0} → Says a A → Says b B → (A → B) → (B → A) → a ≡ b
says_iff {a} {b} s t to from = iff_test a b (λ e. says-true t (to (s.holds e))) (λ e. says-true s (from (t.holds e)))

says_join : (a b x y : ℕ) → Says (joins a b x y) (SameLink a b x y)
says_join a b x y = says_either _ _ (says_both _ _ (says_same a x) (says_same b y)) (says_both _ _ (says_same a y) (says_same b x))

-- whether two are linked, by the ends of the links
pub says-linked : (m : ℕ) (l : List ℕ) (a b : ℕ) → length l ≡ 2 * m → Says (linked l a b) (LinkThere m (first_end l) (second_end l) a b)
unfolding linked
says-linked zero [] a b e = record { holds = λ q. absurd (false≢true q); fails = λ q p. not-suc-le-zero p.1 }
says-linked zero (x ∷ l) a b e = absurd (omega arith)
says-linked (suc m) [] a b e = absurd (omega arith)
says-linked (suc m) (x ∷ []) a b e = absurd (omega arith)
says-linked (suc m) (x ∷ y ∷ l) a b e = says_as to from (says_either _ _ (says_join x y a b) (says-linked m l a b (omega arith)))
  where
    first : (i : ℕ) → first_end (x ∷ y ∷ l) (suc i) ≡ first_end l i
    first i = let q : 2 * suc i ≡ suc (suc (2 * i)) = omega arith in rw q

    second : (i : ℕ) → second_end (x ∷ y ∷ l) (suc i) ≡ second_end l i
    second i = let q : 2 * suc i + 1 ≡ suc (suc (2 * i + 1)) = omega arith in rw q

    to : SameLink x y a b ⊎ LinkThere m (first_end l) (second_end l) a b → LinkThere (suc m) (first_end (x ∷ y ∷ l)) (second_end (x ∷ y ∷ l)) a b
    to = ⊎_elim (λ s. (0, omega arith, s)) (λ p. (suc p.0, omega (arith, p.1), rw (first p.0, second p.0) p.2))

    from : LinkThere (suc m) (first_end (x ∷ y ∷ l)) (second_end (x ∷ y ∷ l)) a b → SameLink x y a b ⊎ LinkThere m (first_end l) (second_end l) a b
    from (zero, p, s) = inl s
    from (suc i, p, s) = inr (i, omega arith, rw (first i, second i) at s)

-- .. by the first m links of a lent list
pub says_first : (m : ℕ) (ls : List ℕ) (a b : ℕ) → 2 * m ≤ length ls → Says (linked (first_links m ls) a b) (LinkThere m (first_end ls) (second_end ls) a b)
unfolding first_links
says_first m ls a b long =
    says_as (λ p. (p.0, p.1, rw (first p.0 p.1, second p.0 p.1) at p.2)) (λ p. (p.0, p.1, rw (first p.0 p.1, second p.0 p.1) p.2))
    (says-linked m (take (2 * m) ls) a b (length-take-le (2 * m) ls long))
  where
    first : (i : ℕ) → i < m → first_end (take (2 * m) ls) i ≡ first_end ls i
    first i l = get_or-take (2 * m) ls (2 * i) 0 (omega arith)

    second : (i : ℕ) → i < m → second_end (take (2 * m) ls) i ≡ second_end ls i
    second i l = get_or-take (2 * m) ls (2 * i + 1) 0 (omega arith)

-- whether numbers repeat or have one not below n
pub says-order : (n : ℕ) (l : List ℕ) → Says (repeats_or_outside n l) (RepeatsOrOutside n (at l))
unfolding repeats_or_outside
says-order n l = record { holds = holds; fails = fails }
  where
    test : ℕ → Bool
    test i = not (ltb (at l i) n) || any i (λ j. eqb (at l j) (at l i))

    holds : any n test ≡ true → RepeatsOrOutside n (at l)
    holds e =
        let (i, p, q) = any_elim n test e in
        ⊎_elim (λ o. inr (i, p, ltb-false (at l i) n (not-true (ltb (at l i) n) o)))
        (λ r. let (j, k, s) = any_elim i (λ j. eqb (at l j) (at l i)) r in inl (j, i, k, p, eqb-true (at l j) (at l i) s)) (or_cases (not (ltb (at l i) n)) (any i (λ j. eqb (at l j) (at l i))) q)

    fails : any n test ≡ false → RepeatsOrOutside n (at l) → ⊥
    fails e =
        ⊎_elim
        (λ r. let (i, j, p, q, s) = r in clash (any n test) (any_intro n test j q (or_r (not (ltb (at l j) n)) _ (any_intro j (λ w. eqb (at l w) (at l j)) i p (eq-eqb (at l i) (at l j) s)))) e)
        (λ r. let (i, p, q) = r in clash (any n test) (any_intro n test i p (or_l _ (any i (λ j. eqb (at l j) (at l i))) (not_i (ltb (at l i) n) (le-ltb (at l i) n q)))) e)
