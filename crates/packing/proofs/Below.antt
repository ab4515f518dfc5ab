-- Groupings, groups of two, holders and choke differences look at nothing from n on.
use Prim.Native.Nat.{ℕ, ◌+◌, ◌<◌}
use mathlib.Core.Path.{◌≡◌, refl, sym, ap, ◌∙◌}
use mathlib.Core.Bool.{Bool, not, ◌&&◌, ◌||◌}
use native.Mathlib.Omega.{arith}
use lib.Dec.{eqb, ltb}
use borrow.Author.Tests.{ltb-true}
use Rattle.packing.specs.Count.{pick, sum, count, sum_over, all}
use Rattle.packing.specs.Grouping.{Grouping, follows, member_count, is_alone, is_leader, is_member}
use Rattle.packing.specs.Pairs.{Two, Earlier, EarlierLeads, SameGroups}
use Rattle.packing.specs.Holders.{Feasible}
use Rattle.packing.specs.Moved.{Kept, Fewest}
use Rattle.packing.specs.Choke.{stranded, ChokeDifference}
use Rattle.packing.proofs.Tests.{by_bool, all_ext}
use Rattle.packing.proofs.Sums.{count_ext, sum_ext}

pub members-below : (n : ℕ) (g h : ℕ → ℕ) → ((v : ℕ) → v < n → g v ≡ h v) → (u : ℕ) → member_count n g u ≡ member_count n h u
unfolding member_count
members-below n g h same u = count_ext n (follows g u) (follows h u) (λ w k. rw (same w k))

module _ (n : ℕ) (limit : ℕ → ℕ) (adj : ℕ → ℕ → Bool) where
  pub grouping-below : (g h : ℕ → ℕ) → ((v : ℕ) → v < n → g v ≡ h v) → Grouping n limit adj g → Grouping n limit adj h
  unfolding Grouping
  grouping-below g h same group v l =
      sym entries ∙ group v l
    where
      member : (u : ℕ) → (ltb u n && adj v u && eqb (g u) u) ≡ (ltb u n && adj v u && eqb (h u) u)
      member u = by_bool (ltb u n) (λ e. rw (e, same u (ltb-true u n e))) (λ e. rw e)

      entries : (is_alone g v || is_leader n limit g v || is_member n adj g v) ≡ (is_alone h v || is_leader n limit h v || is_member n adj h v)
      entries = rw (same v l, members-below n g h same v) (ap (λ (b : Bool). is_alone h v || is_leader n limit h v || b) (member (h v)))

  pub difference_below : (s r : ℕ → Bool) (d e : ℕ) → ((v : ℕ) → v < n → s v ≡ r v) → d ≡ e → ChokeDifference n limit adj s d → ChokeDifference n limit adj r e
  unfolding ChokeDifference stranded sum_over
  difference_below s r d e same q diff =
      sym counts ∙ diff ∙ rw q (ap (λ (k : ℕ). e + k) sums)
    where
      inner : (v : ℕ) → all n (λ u. not (adj v u) || s u) ≡ all n (λ u. not (adj v u) || r u)
      inner v = all_ext n (λ u. not (adj v u) || s u) (λ u. not (adj v u) || r u) (λ u l. rw (same u l))

      counts : count n (λ v. not (s v) && all n (λ u. not (adj v u) || s u)) ≡ count n (λ v. not (r v) && all n (λ u. not (adj v u) || r u))
      counts = count_ext n (λ v. not (s v) && all n (λ u. not (adj v u) || s u)) (λ v. not (r v) && all n (λ u. not (adj v u) || r u)) (λ v l. rw (same v l, inner v))

      sums : sum n (λ i. pick (s i) (limit i)) ≡ sum n (λ i. pick (r i) (limit i))
      sums = sum_ext n (λ i. pick (s i) (limit i)) (λ i. pick (r i) (limit i)) (λ i l. rw (same i l))

-- .. nor at a limit from n on.
module _ (n : ℕ) (limit limit' : ℕ → ℕ) (adj : ℕ → ℕ → Bool) (same : (u : ℕ) → u < n → limit u ≡ limit' u) where
  pub grouping-limits : (g : ℕ → ℕ) → Grouping n limit adj g → Grouping n limit' adj g
  unfolding Grouping
  grouping-limits g group v l = rw (same v l) at (group v l)

  pub feasible-limits : {h : ℕ → ℕ} → Feasible n limit adj h → Feasible n limit' adj h
  feasible-limits f = record { along = f.along; within = λ u l. rw (same u l) at (f.within u l) }

  pub kept-limits : {h h' : ℕ → ℕ} {v : ℕ} → Kept n limit adj h h' v → Kept n limit' adj h h' v
  kept-limits kept = record { feasible = feasible-limits kept.feasible; holding = kept.holding }

  pub difference-limits : (s : ℕ → Bool) (d : ℕ) → ChokeDifference n limit adj s d → ChokeDifference n limit' adj s d
  unfolding ChokeDifference sum_over
  difference-limits s d e =
      e ∙ ap (λ (k : ℕ). d + k) (sum_ext n (λ i. pick (s i) (limit i)) (λ i. pick (s i) (limit' i)) (λ i l. rw (same i l)))

pub fewest-limits : (n : ℕ) (limit limit' : ℕ → ℕ) (adj : ℕ → ℕ → Bool) → ((u : ℕ) → u < n → limit u ≡ limit' u) → {h h' : ℕ → ℕ} {v moves : ℕ} → Fewest n limit adj h h' v moves → Fewest n limit' adj h h' v moves
fewest-limits n limit limit' adj same f =
    record { kept = kept-limits n limit limit' adj same f.kept; attained = f.attained; least = λ other k. f.least other (kept-limits n limit' limit adj (λ u l. sym (same u l)) k) }

pub two-below : (n : ℕ) (g h : ℕ → ℕ) → ((v : ℕ) → v < n → g v ≡ h v) → {u w : ℕ} → Two n h u w → Two n g u w
two-below n g h same {u} {w} t =
    record { leader = t.leader; member = t.member; own = same u t.leader ∙ t.own; led = same w t.member ∙ t.led; apart = t.apart; only = members-below n g h same u ∙ t.only }

pub earlier_below : (n : ℕ) (order order' : ℕ → ℕ) → ((i : ℕ) → i < n → order i ≡ order' i) → {a b : ℕ} → Earlier n order a b → Earlier n order' a b
earlier_below n order order' same e =
    record { place = e.place; below = e.below; here = sym (same e.place e.below) ∙ e.here; before = λ j l q. e.before j l (same j (omega (arith, e.below)) ∙ q) }

pub leads-below : (n : ℕ) (order order' g h : ℕ → ℕ) → ((i : ℕ) → i < n → order i ≡ order' i) → ((v : ℕ) → v < n → g v ≡ h v) → EarlierLeads n order g → EarlierLeads n order' h
unfolding EarlierLeads
leads-below n order order' g h alike same leads u w t = earlier_below n order order' alike (leads u w (two-below n g h same t))

-- a list has its own groups
pub same_itself : (n : ℕ) (g : ℕ → ℕ) → SameGroups n g g
same_itself n g = record { cover = λ v l. refl; together = λ v w l m. (λ e. e, λ e. e); others = λ v l h. refl }

pub same_below : (n : ℕ) (g h g' h' : ℕ → ℕ) → ((v : ℕ) → v < n → g v ≡ g' v) → ((v : ℕ) → v < n → h v ≡ h' v) → SameGroups n g h → SameGroups n g' h'
same_below n g h g' h' same alike groups =
    record {
      cover = λ v l. rw (← same v l, ← alike v l) (groups.cover v l);
      together = λ v w l m. rw (← same v l, ← same w m, ← alike v l, ← alike w m) (groups.together v w l m);
      others = λ v l h. sym (same v l) ∙ groups.others v l (λ k one. h (rw (same v l) at k) (rw (← same v l) (sym (members-below n g g' same (g v)) ∙ one))) ∙ alike v l;
    }
