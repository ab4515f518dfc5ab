-- Rule 5 over any grouping, whoever leads a pair: the groups stay, and so does what is covered.
use Prim.Native.Nat.{ℕ, ◌+◌, ◌<◌, ◌≤◌}
use mathlib.Core.Path.{◌≡◌, refl, sym, ap, ◌∙◌}
use mathlib.Core.Logic.{◌⊎◌, inl, inr, ⊎_elim, ◌↔◌}
use mathlib.Core.Bool.{Bool, true, false, not, ◌&&◌, ◌||◌}
use native.Mathlib.Omega.{arith}
use lib.Dec.{eqb, ltb, leb}
use borrow.Author.Tests.{eqb-true, eqb-false, eq-eqb, ne_eqb, ltb-true, ltb-false, lt-ltb, le-leb}
use Rattle.packing.specs.Count.{count, first_with}
use Rattle.packing.specs.Plant.{NONE}
use Rattle.packing.specs.Grouping.{Grouping, follows, member_count, is_alone, is_leader, is_member, covered}
use Rattle.packing.proofs.Tests.{by_bool, clash, and_l, and_r, and_i, or_l, or_r, not_test, iff_test, any_intro, first_found}
use Rattle.packing.proofs.Sums.{count_ext, count_find, count-one}
use Rattle.packing.proofs.Below.{members-below}
use Rattle.packing.proofs.Groupings.{Sym, Loopless, follows_is, follows_means, entry_cases, leader-within}
use Rattle.stars.specs.Stars.{pair_leader, partner, rule_five}
use Rattle.stars.proofs.Firsts.{first_ext}
use Rattle.stars.proofs.Without.{count_without}

-- an entry is one of a grouping's three kinds
abbrev pub Kind : ℕ → (ℕ → ℕ) → (ℕ → ℕ → Bool) → (ℕ → ℕ) → ℕ → Type 0
Kind n limit adj g v = (is_alone g v || is_leader n limit g v || is_member n adj g v) ≡ true

module _ (n : ℕ) (limit : ℕ → ℕ) (adj : ℕ → ℕ → Bool) (g : ℕ → ℕ) (v : ℕ) where
  pub alone-is : g v ≡ NONE → Kind n limit adj g v
  alone-is e = or_l _ (is_member n adj g v) (or_l (is_alone g v) (is_leader n limit g v) (eq-eqb (g v) NONE e))

  pub leader-is : g v ≡ v → 1 ≤ member_count n g v → member_count n g v ≤ limit v → Kind n limit adj g v
  leader-is e some most =
      or_l _ (is_member n adj g v) (or_r (is_alone g v) (is_leader n limit g v) (and_i _ (leb (member_count n g v) (limit v)) (and_i _ (leb 1 (member_count n g v)) (eq-eqb (g v) v e) (le-leb 1 _ some)) (le-leb _ (limit v) most)))

  pub member_is : (u : ℕ) → g v ≡ u → u < n → adj v u ≡ true → g u ≡ u → Kind n limit adj g v
  member_is u e l a own = or_r (is_alone g v || is_leader n limit g v) _ (rw e (and_i _ _ (and_i _ _ (lt-ltb u n l) a) (eq-eqb (g u) u own)))

-- In a group of two, u's partner is the one other with u's number as its entry.
module _ (n : ℕ) (g : ℕ → ℕ) (u : ℕ) (one : member_count n g u ≡ 1) where
  pub partner-found : (partner n g u < n) × (g (partner n g u) ≡ u) × (partner n g u ≡ u → ⊥)
  unfolding member_count partner
  partner-found =
      let (w, l, e) = count_find n (follows g u) (omega arith) in
      let (k, t, _) = first_found n (follows g u) (any_intro n (follows g u) w l e) in
      let (q, other) = follows_means g u (first_with n (follows g u)) t in
      (k, q, other)

  pub partner-only : (w : ℕ) → w < n → g w ≡ u → (w ≡ u → ⊥) → partner n g u ≡ w
  unfolding member_count
  partner-only w l e other =
      let (k, f, another) = partner-found in
      count-one n (follows g u) (omega arith) (partner n g u) w k l (follows_is g u (partner n g u) f another) (follows_is g u w e other)

-- v stands in a group of two, or does not
pub two_cases : (n : ℕ) (g : ℕ → ℕ) (v : ℕ) {A : Type 0} → (g v < n → member_count n g (g v) ≡ 1 → A) → ((g v < n → member_count n g (g v) ≡ 1 → ⊥) → A) → A
two_cases n g v two other =
    by_bool (ltb (g v) n && eqb (member_count n g (g v)) 1)
    (λ t. two (ltb-true (g v) n (and_l _ _ t)) (eqb-true (member_count n g (g v)) 1 (and_r (ltb (g v) n) _ t)))
    (λ t. other (λ l one. clash _ (and_i _ _ (lt-ltb (g v) n l) (eq-eqb (member_count n g (g v)) 1 one)) t))

-- Rule 5 over any entries g, whoever leads a pair.
module _ (leadsPair : ℕ → ℕ → Bool) (n : ℕ) (g : ℕ → ℕ) where
  -- in a group of two, u with one other, both get the one that leads the pair
  pub five-pair : (v u : ℕ) → g v ≡ u → u < n → member_count n g u ≡ 1 → rule_five leadsPair n g v ≡ pair_leader leadsPair u (partner n g u)
  unfolding rule_five
  five-pair v u e l one = rw (e, lt-ltb u n l, one)

  -- every other gateway keeps its entry
  pub five-keeps : (v : ℕ) → (g v < n → member_count n g (g v) ≡ 1 → ⊥) → rule_five leadsPair n g v ≡ g v
  unfolding rule_five
  five-keeps v h = rw (not_test (ltb (g v) n && eqb (member_count n g (g v)) 1) (λ t. h (ltb-true (g v) n (and_l _ _ t)) (eqb-true (member_count n g (g v)) 1 (and_r (ltb (g v) n) _ t))))

  -- .. as who has no gateway for its entry
  pub five-past : (v : ℕ) → (g v < n → ⊥) → rule_five leadsPair n g v ≡ g v
  five-past v h = five-keeps v (λ l one. h l)

  -- so that an entry stays, or becomes the partner of what it was
  five_cases : {A : Type 0} (v : ℕ) → (rule_five leadsPair n g v ≡ g v → A) → (g v < n → member_count n g (g v) ≡ 1 → rule_five leadsPair n g v ≡ partner n g (g v) → A) → A
  unfolding pair_leader
  five_cases v same other =
      two_cases n g v
      (λ l one. let q = five-pair v (g v) refl l one in by_bool (leadsPair (g v) (partner n g (g v))) (λ t. same (rw t at q)) (λ t. other l one (rw t at q)))
      (λ h. same (five-keeps v h))

  -- who is covered stays covered, and no other is
  pub rule_five-covered : n ≤ NONE → (v : ℕ) → covered (rule_five leadsPair n g) v ≡ covered g v
  rule_five-covered few v =
      five_cases v (λ e. rw e) (λ l one e. rw (e, some (partner n g (g v)) (partner-found n g (g v) one).0, some (g v) l))
    where
      some : (x : ℕ) → x < n → eqb x NONE ≡ false
      some x l = ne_eqb x NONE (omega arith)

  -- an entry becomes a gateway whose entry it was
  pub five-entry : (v : ℕ) → g v < n → g (g v) ≡ g v → (rule_five leadsPair n g v < n) × (g (rule_five leadsPair n g v) ≡ g v)
  five-entry v l own = five_cases v (λ e. rw e (l, own)) (λ k one e. let (m, f, other) = partner-found n g (g v) one in rw e (m, f))

  -- all with an entry get the same one, and no other gets it
  five-by : (v w : ℕ) → g w ≡ g v → rule_five leadsPair n g w ≡ rule_five leadsPair n g v
  unfolding rule_five
  five-by v w e = rw e

  five_same : (v w : ℕ) → g v < n → g (g v) ≡ g v → (g w < n → g (g w) ≡ g w) → rule_five leadsPair n g w ≡ rule_five leadsPair n g v → g w ≡ g v
  five_same v w l own owned e =
      let (below, from) = five-entry v l own in
      let k : g w < n = five_cases w (λ q. omega arith) (λ k one q. k) in
      sym (five-entry w k (owned k)).1 ∙ ap g e ∙ from

-- One entry by rule 5, as the code finds it: u is the entry before.
module _ (leadsPair : ℕ → ℕ → Bool) (n : ℕ) (g : ℕ → ℕ) (v : ℕ) {u : ℕ} (here : u ≡ g v) where
  pub five-none : n ≤ u → u ≡ rule_five leadsPair n g v
  five-none h = here ∙ sym (five-keeps leadsPair n g v (λ k one. omega arith))

  pub five-more : (member_count n g u ≡ 1 → ⊥) → u ≡ rule_five leadsPair n g v
  five-more f = here ∙ sym (five-keeps leadsPair n g v (λ _ one. f (ap (member_count n g) here ∙ one)))

  pub five-two : {w r : ℕ} → u < n → (member_count n g u ≡ 1) × (w ≡ partner n g u) → r ≡ pair_leader leadsPair u w → r ≡ rule_five leadsPair n g v
  five-two h (one, q) s = s ∙ ap (pair_leader leadsPair u) q ∙ sym (five-pair leadsPair n g v u (sym here) h one)

-- The entries by rule 5 go by the entries below n.
module _ (n : ℕ) (g g' : ℕ → ℕ) (same : (w : ℕ) → w < n → g w ≡ g' w) where
  follows_ext : (u w : ℕ) → w < n → follows g u w ≡ follows g' u w
  follows_ext u w l = ap (λ (x : ℕ). eqb x u && not (eqb w u)) (same w l)

  pub five_ext : (leadsPair : ℕ → ℕ → Bool) (v : ℕ) → v < n → rule_five leadsPair n g v ≡ rule_five leadsPair n g' v
  unfolding rule_five partner
  five_ext leadsPair v l = rw (same v l, members-below n g g' same (g' v), first_ext n (follows g (g' v)) (follows g' (g' v)) (follows_ext (g' v)))

-- Who leads a pair is asked of gateways only.
pub five_ways : (n : ℕ) (g : ℕ → ℕ) (leadsPair other : ℕ → ℕ → Bool) → ((a b : ℕ) → a < n → b < n → leadsPair a b ≡ other a b) → (v : ℕ) → rule_five leadsPair n g v ≡ rule_five other n g v
unfolding pair_leader
five_ways n g leadsPair other same v =
    two_cases n g v
    (λ l one. five-pair leadsPair n g v (g v) refl l one ∙ rw (same (g v) (partner n g (g v)) l (partner-found n g (g v) one).0) (sym (five-pair other n g v (g v) refl l one)))
    (λ h. five-keeps leadsPair n g v h ∙ sym (five-keeps other n g v h))

-- a group without one of it is as large as without another of it
group_without : (n : ℕ) (g : ℕ → ℕ) (u x : ℕ) → x < n → g x ≡ u → count n (λ w. eqb (g w) u) ≡ 1 + count n (λ w. eqb (g w) u && not (eqb w x))
group_without n g u x l e = count_without n (λ w. eqb (g w) u) x l (eq-eqb (g x) u e)

-- Rule 5 over entries by which each leader leads itself, as in every grouping.
module _ (leadsPair : ℕ → ℕ → Bool) (n : ℕ) (g : ℕ → ℕ) (own : (v : ℕ) → v < n → g v < n → g (g v) ≡ g v) where
  -- the new leader has as many members as the old
  pub five-members : (v : ℕ) → v < n → g v < n → member_count n (rule_five leadsPair n g) (rule_five leadsPair n g v) ≡ member_count n g (g v)
  unfolding member_count
  five-members v l k =
      let (below, from) = five-entry leadsPair n g v k (own v l k) in
      omega (
        arith,
        group_without n g (g v) (rule_five leadsPair n g v) below from,
        group_without n g (g v) (g v) k (own v l k),
        count_ext n (λ w. eqb (rule_five leadsPair n g w) (rule_five leadsPair n g v) && not (eqb w (rule_five leadsPair n g v))) (λ w. eqb (g w) (g v) && not (eqb w (rule_five leadsPair n g v)))
            (λ w m. ap (λ (b : Bool). b && not (eqb w (rule_five leadsPair n g v))) (iff_test _ _
            (λ e. eq-eqb (g w) (g v) (five_same leadsPair n g v w k (own v l k) (own w m) (eqb-true _ _ e)))
            (λ e. eq-eqb _ _ (five-by leadsPair n g v w (eqb-true (g w) (g v) e))))),
      )

  -- gateways have one entry just where they had one
  pub five-together : (v w : ℕ) → v < n → w < n → rule_five leadsPair n g v ≡ rule_five leadsPair n g w ↔ g v ≡ g w
  five-together v w l m = (same, λ e. five-by leadsPair n g w v e)
    where
      past : rule_five leadsPair n g v ≡ rule_five leadsPair n g w → (g v < n → ⊥) → g v ≡ g w
      past e h =
          let stays = five-past leadsPair n g v h in
          sym stays ∙ e ∙ five-past leadsPair n g w (λ k. h (rw (sym stays ∙ e) (five-entry leadsPair n g w k (own w m k)).0))

      same : rule_five leadsPair n g v ≡ rule_five leadsPair n g w → g v ≡ g w
      same e = by_bool (ltb (g v) n) (λ t. let k = ltb-true (g v) n t in sym (five_same leadsPair n g v w k (own v l k) (own w m) (sym e))) (λ t. past e (λ k. clash _ (lt-ltb (g v) n k) t))

module _
    (leadsPair : ℕ → ℕ → Bool) (n : ℕ) (limit : ℕ → ℕ) (adj : ℕ → ℕ → Bool) (g : ℕ → ℕ) (few : n ≤ NONE) (symmetric : Sym n adj) (loopless : Loopless n adj)
    (one : (u : ℕ) → u < n → 1 ≤ limit u) (gr : Grouping n limit adj g)
  where
    -- an entry that is a gateway names its leader, itself or one linked to it
    star : (v u : ℕ) → v < n → u < n → g v ≡ u → (g u ≡ u) × ((v ≡ u) ⊎ (adj v u ≡ true))
    star v u l k e =
        entry_cases n limit adj g gr v l (λ a. absurd (omega (arith, eqb-true (g v) NONE a)))
        (λ a. let own : g v ≡ v = eqb-true (g v) v (and_l _ _ (and_l _ _ a)) in let same : v ≡ u = sym own ∙ e in (rw same at own, inl same))
        (λ m. (rw e at (eqb-true (g (g v)) (g v) (and_r (ltb (g v) n && adj v (g v)) _ m)), inr (rw e at (and_r (ltb (g v) n) (adj v (g v)) (and_l _ _ m)))))

    pair-linked : (u : ℕ) → u < n → member_count n g u ≡ 1 → adj u (partner n g u) ≡ true
    pair-linked u l pair =
        let (k, e, other) = partner-found n g u pair in
        symmetric (partner n g u) u k l (⊎_elim (λ s. absurd (other s)) (λ a. a) (star (partner n g u) u k l e).1)

    pub rule_five-grouping : Grouping n limit adj (rule_five leadsPair n g)
    unfolding Grouping
    rule_five-grouping v l = by_bool (ltb (g v) n) (λ t. grouped (ltb-true (g v) n t)) alone
      where
        x : ℕ
        x = rule_five leadsPair n g v

        alone : ltb (g v) n ≡ false → Kind n limit adj (rule_five leadsPair n g) v
        alone t =
            entry_cases n limit adj g gr v l
            (λ a. five_cases leadsPair n g v (λ e. alone-is n limit adj (rule_five leadsPair n g) v (e ∙ eqb-true (g v) NONE a)) (λ k q e. clash _ (lt-ltb (g v) n k) t))
            (λ a. absurd (omega (arith, eqb-true (g v) v (and_l _ _ (and_l _ _ a)), ltb-false (g v) n t)))
            (λ m. clash _ (and_l _ _ (and_l _ _ m)) t)

        linked : g v < n → (v ≡ x → ⊥) → adj v x ≡ true
        linked k other =
            five_cases leadsPair n g v
            (λ e. rw e (⊎_elim (λ s. absurd (other (s ∙ sym e))) (λ a. a) (star v (g v) l k refl).1))
            (λ _ pair e.
            rw e (by_bool (eqb v (g v))
            (λ s. ap (λ (y : ℕ). adj y (partner n g (g v))) (eqb-true v (g v) s) ∙ pair-linked (g v) k pair)
            (λ s. absurd (other (sym (partner-only n g (g v) pair v l refl (eqb-false v (g v) s)) ∙ sym e)))))

        grouped : g v < n → Kind n limit adj (rule_five leadsPair n g) v
        grouped k =
            let own : g (g v) ≡ g v = (star v (g v) l k refl).0 in
            let (below, from) = five-entry leadsPair n g v k own in
            let (some, most) = leader-within n limit adj g gr loopless (g v) k own (omega arith) in
            by_bool (eqb v x)
            (λ t.
            let here : v ≡ x = eqb-true v x t in
            let size : member_count n (rule_five leadsPair n g) v ≡ member_count n g (g v) = rw (← here) at (five-members leadsPair n g (λ w m j. (star w (g w) m j refl).0) v l k) in
            leader-is n limit adj (rule_five leadsPair n g) v (sym here) (omega arith)
            (by_bool (eqb (member_count n g (g v)) 1) (λ q. omega (arith, one v l, eqb-true (member_count n g (g v)) 1 q))
            (λ q. let same : v ≡ g v = here ∙ five-keeps leadsPair n g v (λ m. eqb-false _ 1 q) in omega (arith, ap limit same))))
            (λ t. member_is n limit adj (rule_five leadsPair n g) v x refl below (linked k (eqb-false v x t)) (five-by leadsPair n g v x from))
