-- A grouping gives holders: a member is held by its leader, and a leader by its first member.
-- They are feasible and hold what the grouping covers, so that what bounds all feasible holders bounds all groupings.
use Prim.Native.Nat.{ℕ, ◌<◌, ◌≤◌}
use mathlib.Core.Path.{◌≡◌, refl, sym, ◌∙◌}
use mathlib.Core.Logic.{◌⊎◌, inl, inr, ⊎_elim}
use mathlib.Core.Bool.{Bool, true, false, not, ◌&&◌, ◌||◌, cond}
use native.Mathlib.Omega.{arith}
use lib.Dec.{eqb, ltb, leb}
use borrow.Author.Tests.{ltb-true, lt-ltb, leb-true, eqb-true, eqb-false, eq-eqb, ne_eqb, not-true}
use Rattle.packing.specs.Count.{count, first_with}
use Rattle.packing.specs.Plant.{NONE}
use Rattle.packing.specs.Grouping.{Grouping, follows, member_count, is_alone, is_leader, is_member, covered}
use Rattle.packing.specs.Holders.{held, holds, Feasible}
use Rattle.packing.proofs.Tests.{by_bool, clash, and_l, and_r, and_i, or_cases, not_i, iff_test, any_intro, first_found}
use Rattle.packing.proofs.Sums.{count_mono, count_ext, count_find, count_unique}
use Rattle.packing.proofs.Tight.{Tight}
use Rattle.packing.proofs.TightPairs.{tight-most}

-- links go both ways
abbrev pub Sym : ℕ → (ℕ → ℕ → Bool) → Type 0
Sym n adj = (x u : ℕ) → x < n → u < n → adj x u ≡ true → adj u x ≡ true

-- no gateway is linked to itself (01: "link ends differ")
abbrev pub Loopless : ℕ → (ℕ → ℕ → Bool) → Type 0
Loopless n adj = (x : ℕ) → x < n → adj x x ≡ false

-- who has another's number as its entry
module _ (g : ℕ → ℕ) (u w : ℕ) where
  pub follows_is : g w ≡ u → (w ≡ u → ⊥) → follows g u w ≡ true
  follows_is e other = and_i _ _ (eq-eqb (g w) u e) (not_i _ (ne_eqb w u other))

  pub follows_means : follows g u w ≡ true → (g w ≡ u) × (w ≡ u → ⊥)
  follows_means t = (eqb-true (g w) u (and_l _ _ t), eqb-false w u (not-true (eqb w u) (and_r (eqb (g w) u) _ t)))

-- v's holder by the grouping g; n where g leaves v alone
unfoldable pub group_holder : ℕ → (ℕ → ℕ) → ℕ → ℕ
group_holder n g v = cond (eqb (g v) NONE) n (cond (eqb (g v) v) (first_with n (follows g v)) (g v))

-- v is a member of u's star
record Joins (n : ℕ) (adj : ℕ → ℕ → Bool) (g : ℕ → ℕ) (v u : ℕ) : Type 0 where
  entry : g v ≡ u
  other : v ≡ u → ⊥
  below : u < n
  linked : adj v u ≡ true
  leads : g u ≡ u
  some : u ≡ NONE → ⊥

module _ (n : ℕ) (limit : ℕ → ℕ) (adj : ℕ → ℕ → Bool) (g : ℕ → ℕ) (gr : Grouping n limit adj g) where
  -- the three kinds of entry
  pub entry_cases : {A : Type 0} (v : ℕ) → v < n → (is_alone g v ≡ true → A) → (is_leader n limit g v ≡ true → A) → (is_member n adj g v ≡ true → A) → A
  unfolding Grouping
  entry_cases v l alone leads joins =
      ⊎_elim (λ q. ⊎_elim alone leads (or_cases (is_alone g v) (is_leader n limit g v) q)) joins (or_cases (is_alone g v || is_leader n limit g v) (is_member n adj g v) (gr v l))

  -- an entry that names another gateway makes a member
  member-joins : (v u : ℕ) → v < n → g v ≡ u → (u ≡ NONE → ⊥) → (v ≡ u → ⊥) → Joins n adj g v u
  member-joins v u l e some other =
      entry_cases v l (λ a. absurd (some (sym e ∙ eqb-true (g v) NONE a))) (λ a. absurd (other (sym (eqb-true (g v) v (and_l _ _ (and_l _ _ a))) ∙ e)))
      (λ m. record {
        entry = e;
        other = other;
        below = rw e at (ltb-true (g v) n (and_l _ _ (and_l _ _ m)));
        linked = rw e at (and_r (ltb (g v) n) (adj v (g v)) (and_l _ _ m));
        leads = rw e at (eqb-true (g (g v)) (g v) (and_r (ltb (g v) n && adj v (g v)) _ m));
        some = some;
      })

  -- Were a gateway linked to itself, its own number would pass as a member's entry, without members or with too many: hence the premise.
  module _ (loopless : Loopless n adj) where
    -- an entry of the own number makes a leader
    pub leader-within : (u : ℕ) → u < n → g u ≡ u → (u ≡ NONE → ⊥) → (1 ≤ member_count n g u) × (member_count n g u ≤ limit u)
    leader-within u l e some =
        entry_cases u l (λ a. absurd (some (sym e ∙ eqb-true (g u) NONE a)))
        (λ a. (leb-true 1 (member_count n g u) (and_r (eqb (g u) u) _ (and_l _ _ a)), leb-true (member_count n g u) (limit u) (and_r (eqb (g u) u && leb 1 (member_count n g u)) _ a)))
        (λ m. clash (adj u u) (rw e at (and_r (ltb (g u) n) (adj u (g u)) (and_l _ _ m))) (loopless u l))

    -- of a covered gateway and its holder one is a member of the other's star
    arc : (v : ℕ) → v < n → covered g v ≡ true → (group_holder n g v < n) × (Joins n adj g v (group_holder n g v) ⊎ Joins n adj g (group_holder n g v) v)
    unfolding group_holder member_count
    arc v l c =
        let e : eqb (g v) NONE ≡ false = not-true (eqb (g v) NONE) c in
        let some : g v ≡ NONE → ⊥ = eqb-false (g v) NONE e in
        by_bool (eqb (g v) v)
        (λ q.
        let own : g v ≡ v = eqb-true (g v) v q in
        let m = count_find n (follows g v) (leader-within v l own (λ r. some (own ∙ r))).0 in
        let (k, t, _) = first_found n (follows g v) (any_intro n (follows g v) m.0 m.1 m.2) in
        let w : ℕ = first_with n (follows g v) in
        let means = follows_means g v w t in
        rw (e, q) (k, inr (member-joins w v k means.0 (λ r. some (own ∙ r)) means.1)))
        (λ q. let j = member-joins v (g v) l refl some (λ r. eqb-false (g v) v q (sym r)) in rw (e, q) (j.below, inl j))

    -- the holders hold what the grouping covers
    pub grouping-holds : (v : ℕ) → v < n → held n (group_holder n g) v ≡ covered g v
    unfolding group_holder
    grouping-holds v l =
        iff_test (held n (group_holder n g) v) (covered g v)
        (λ e. by_bool (eqb (g v) NONE) (λ q. absurd (omega (arith, ltb-true n n (rw q at e)))) (not_i (eqb (g v) NONE)))
        (λ c. lt-ltb (group_holder n g v) n (arc v l c).0)

    -- they are feasible: a leader holds only members, and any other gateway at most the one that its entry names
    pub grouping-feasible : Sym n adj → ((u : ℕ) → u < n → 1 ≤ limit u) → Feasible n limit adj (group_holder n g)
    unfolding holds member_count
    grouping-feasible symmetric one =
        record {
          along = λ v l e. let k = ltb-true (group_holder n g v) n e in ⊎_elim (λ j. j.linked) (λ j. symmetric (group_holder n g v) v k l j.linked) (arcs v (group_holder n g v) l k refl);
          within = λ u l. by_bool (eqb (g u) u && not (eqb u NONE)) (leader u l) (λ e. omega (arith, one u l, count_unique n (λ v. eqb (group_holder n g v) u) (λ v w k m p q. only u l e v k p ∙ sym (only u l e w m q))));
        }
      where
        arcs : (v u : ℕ) → v < n → u < n → group_holder n g v ≡ u → Joins n adj g v u ⊎ Joins n adj g u v
        arcs v u l k q = rw q at (arc v l (sym (grouping-holds v l) ∙ lt-ltb (group_holder n g v) n (rw q k))).1

        leader : (u : ℕ) → u < n → (eqb (g u) u && not (eqb u NONE)) ≡ true → holds n (group_holder n g) u ≤ limit u
        leader u l e =
            let own : g u ≡ u = eqb-true (g u) u (and_l _ _ e) in
            omega (
              arith,
              (leader-within u l own (eqb-false u NONE (not-true (eqb u NONE) (and_r (eqb (g u) u) _ e)))).1,
              count_mono n (λ v. eqb (group_holder n g v) u) (follows g u)
                  (λ v k q. ⊎_elim (λ j. follows_is g u v j.entry j.other) (λ j. absurd (j.other (sym own ∙ j.entry))) (arcs v u k l (eqb-true (group_holder n g v) u q))),
            )

        only : (u : ℕ) → u < n → (eqb (g u) u && not (eqb u NONE)) ≡ false → (v : ℕ) → v < n → eqb (group_holder n g v) u ≡ true → v ≡ g u
        only u l e v k q =
            ⊎_elim (λ j. clash _ (and_i (eqb (g u) u) (not (eqb u NONE)) (eq-eqb (g u) u j.leads) (not_i (eqb u NONE) (ne_eqb u NONE j.some))) e) (λ j. sym j.entry) (arcs v u k l (eqb-true (group_holder n g v) u q))

-- no grouping covers more of R
pub tight-covers : {n : ℕ} {limit : ℕ → ℕ} {adj : ℕ → ℕ → Bool} {h : ℕ → ℕ} {R S : ℕ → Bool} (g : ℕ → ℕ) → Sym n adj → Loopless n adj → ((u : ℕ) → u < n → 1 ≤ limit u)
    → Feasible n limit adj h → Tight n limit adj h R S → Grouping n limit adj g → count n (λ x. R x && covered g x) ≤ count n (λ x. R x && held n h x)
tight-covers {n} {limit} {adj} {h} {R} g symmetric loopless one f t gr =
    omega (
      arith,
      count_ext n (λ x. R x && covered g x) (λ x. R x && held n (group_holder n g) x) (λ x l. rw (grouping-holds n limit adj g gr loopless x l)),
      tight-most f t (grouping-feasible n limit adj g gr loopless symmetric one),
    )
