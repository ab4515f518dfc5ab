-- Rules 1 to 4 name the entry of each gateway: rule 1 fixes who leads, and every gateway has its place in one of the rules.
use Prim.Native.Nat.{ℕ, zero, suc, ◌+◌, ◌*◌, ◌<◌, ◌≤◌}
use mathlib.Core.Path.{◌≡◌, refl, sym, ap, ◌∙◌}
use mathlib.Core.Bool.{Bool, true, false}
use mathlib.Core.List.{List}
use native.Mathlib.Omega.{arith}
use borrow.Author.Tests.{ltb-true}
use Rattle.packing.specs.Count.{any}
use Rattle.packing.specs.Plant.{NONE, at}
use Rattle.packing.specs.Holders.{held}
use Rattle.packing.proofs.Tests.{by_bool, any_elim, any_fails}
use Rattle.stars.specs.Stars.{back, on_cycle, leads_in_trees, leader_of}
use Rattle.stars.specs.Rules.{RuleOne, RuleTwo, Leaderless, Run, Itself, OneToFour}
use Rattle.stars.proofs.Cycles.{cycle_met}
use Rattle.stars.proofs.Leads.{lead-only}
use Rattle.stars.proofs.Rules.{entries_hold}
use Rattle.stars.proofs.CyclePlaces.{rule_3_place, rule_4_place}

-- Rule 1 fixes who leads.
named-lead : (n : ℕ) (hs : List ℕ) → n ≤ NONE → {lead : ℕ → Bool} {g : ℕ → ℕ} → RuleOne n hs lead g → (u : ℕ) → u < n → lead u ≡ leads_in_trees n hs u
named-lead n hs few {lead} one = lead-only n hs few lead one.leads

parity : {A : Type 0} (k : ℕ) → ((m : ℕ) → k ≡ 2 * m → A) → ((m : ℕ) → k ≡ 2 * m + 1 → A) → A
parity zero even odd = even 0 refl
parity (suc k) even odd = parity k (λ m e. odd m (omega arith)) (λ m e. even (m + 1) (omega arith))

-- v's entry is the same in all entries by rules 1 to 4
abbrev Named : ℕ → List ℕ → ℕ → Type 0
Named n hs v = (u : ℕ) × ((lead : ℕ → Bool) (g : ℕ → ℕ) → OneToFour n hs lead g → g v ≡ u)

-- Rule 3 names the entry of each gateway of its cycle.
module _ (n : ℕ) (hs : List ℕ) (few : n ≤ NONE) (length : ℕ) (c : ℕ → ℕ) (cycle : Leaderless n hs (leads_in_trees n hs) length c) where
  quiet : {lead : ℕ → Bool} {g : ℕ → ℕ} → RuleOne n hs lead g → (i : ℕ) → i < length → lead (c i) ≡ false
  quiet one i l = named-lead n hs few one (c i) (cycle.below i l) ∙ cycle.none i l

  leaderless : {lead : ℕ → Bool} {g : ℕ → ℕ} → OneToFour n hs lead g → Leaderless n hs lead length c
  leaderless r = record { some = cycle.some; below = cycle.below; arc = cycle.arc; closed = cycle.closed; once = cycle.once; none = quiet r.one; lowest = cycle.lowest }

  three-even : (m : ℕ) → length ≡ 2 * m → (i : ℕ) → i < length → Named n hs (c i)
  three-even m e i l =
      parity i (λ j q. (c (2 * j), λ lead g r. rw q (r.three.even length c (leaderless r) m e j (omega arith)).0))
      (λ j q. (c (2 * j), λ lead g r. rw q (r.three.even length c (leaderless r) m e j (omega arith)).1))

  three-one : length ≡ 1 → Named n hs (c 0)
  unfolding Itself
  three-one e = (c 0, λ lead g r. r.itself (c 0) (cycle.below 0 cycle.some) (ap (at hs) (sym cycle.closed ∙ ap c e) ∙ cycle.arc 0 cycle.some) (quiet r.one 0 cycle.some))

  three_odd : (m : ℕ) → length ≡ 2 * m + 3 → (i : ℕ) → i < length → Named n hs (c i)
  three_odd m e zero l = (c 1, λ lead g r. (r.three.three length c (leaderless r) m e).0)
  three_odd m e (suc zero) l = (c 1, λ lead g r. (r.three.three length c (leaderless r) m e).1)
  three_odd m e (suc (suc zero)) l = (c 1, λ lead g r. (r.three.three length c (leaderless r) m e).2)
  three_odd m e (suc (suc (suc i))) l =
      parity i (λ j q. let at_j : suc (suc (suc i)) ≡ 2 * j + 3 = omega arith in (c (2 * j + 3), λ lead g r. rw at_j (r.three.follow length c (leaderless r) m e j (omega arith)).0))
      (λ j q. let at_j : suc (suc (suc i)) ≡ 2 * j + 4 = omega arith in (c (2 * j + 3), λ lead g r. rw at_j (r.three.follow length c (leaderless r) m e j (omega arith)).1))

  three_names : (i : ℕ) → i < length → Named n hs (c i)
  three_names i l = parity length (λ m e. three-even m e i l) odd
    where
      odd : (m : ℕ) → length ≡ 2 * m + 1 → Named n hs (c i)
      odd zero e = let first : i ≡ 0 = omega arith in rw first (three-one e)
      odd (suc m) e = three_odd m (omega arith) i l

-- Rule 4 names the entry of each gateway of a run.
module _ (n : ℕ) (hs : List ℕ) (few : n ≤ NONE) (r : ℕ) (c : ℕ → ℕ) (run : Run n hs (leads_in_trees n hs) r c) where
  run_of : {lead : ℕ → Bool} {g : ℕ → ℕ} → OneToFour n hs lead g → Run n hs lead r c
  run_of {lead} rules =
      record {
        below = run.below;
        on = run.on;
        arc = run.arc;
        before = same 0 (omega arith) ∙ run.before;
        others = λ i a l. same i (omega arith) ∙ run.others i a l;
        after = same (r + 1) (omega arith) ∙ run.after;
      }
    where
      same : (i : ℕ) → i ≤ r + 1 → lead (c i) ≡ leads_in_trees n hs (c i)
      same i l = named-lead n hs few rules.one (c i) (run.below i l)

  four-even : (m : ℕ) → r ≡ 2 * m → (i : ℕ) → i < r → Named n hs (c (suc i))
  four-even m e i l =
      parity i (λ j q. let at_j : suc i ≡ 2 * j + 1 = omega arith in (c (2 * j + 1), λ lead g rules. rw at_j (rules.four.even r c (run_of rules) m e j (omega arith)).0))
      (λ j q. let at_j : suc i ≡ 2 * j + 2 = omega arith in (c (2 * j + 1), λ lead g rules. rw at_j (rules.four.even r c (run_of rules) m e j (omega arith)).1))

  four_odd : (m : ℕ) → r ≡ 2 * m + 1 → (i : ℕ) → i < r → Named n hs (c (suc i))
  four_odd m e zero l = (c 0, λ lead g rules. rules.four.first r c (run_of rules) m e)
  four_odd m e (suc i) l =
      parity i (λ j q. let at_j : suc (suc i) ≡ 2 * j + 2 = omega arith in (c (2 * j + 2), λ lead g rules. rw at_j (rules.four.follow r c (run_of rules) m e j (omega arith)).0))
      (λ j q. let at_j : suc (suc i) ≡ 2 * j + 3 = omega arith in (c (2 * j + 2), λ lead g rules. rw at_j (rules.four.follow r c (run_of rules) m e j (omega arith)).1))

  four_names : (i : ℕ) → i < r → Named n hs (c (suc i))
  four_names i l = parity r (λ m e. four-even m e i l) (λ m e. four_odd m e i l)

module _ (n : ℕ) (hs : List ℕ) (few : n ≤ NONE) where
  -- one on a cycle that leads nobody has a place in rule 3 or, where another on it leads, in rule 4
  cycle_names : (v : ℕ) → v < n → on_cycle n hs v ≡ true → leads_in_trees n hs v ≡ false → Named n hs v
  cycle_names v l on still =
      by_bool (any n behind)
      (λ t. let (j, _, e) = any_elim n behind t in let (r, c, run, i, k, m) = rule_4_place n hs few v l on still j e in rw (← m) (four_names n hs few r c run i k))
      (λ t. let (length, c, cycle, i, k, m) = rule_3_place n hs few v l on (none t) in rw (← m) (three_names n hs few length c cycle i k))
    where
      behind : ℕ → Bool
      behind j = leads_in_trees n hs (back n hs j v)

      none : any n behind ≡ false → (j : ℕ) → behind j ≡ false
      none t j = let (k, l, e) = cycle_met n hs v on j in rw e (any_fails n behind t k l)

  -- rules 1 to 4 name the entry of each gateway
  names : (v : ℕ) → v < n → Named n hs v
  unfolding RuleTwo
  names v l = by_bool (leads_in_trees n hs v) leader (λ t. by_bool (on_cycle n hs v) (λ on. cycle_names v l on t) (λ off. by_bool (held n (at hs) v) (child t off) (root t)))
    where
      leader : leads_in_trees n hs v ≡ true → Named n hs v
      leader t = (v, λ lead g r. r.one.leader v l (named-lead n hs few r.one v l ∙ t))

      child : leads_in_trees n hs v ≡ false → on_cycle n hs v ≡ false → held n (at hs) v ≡ true → Named n hs v
      child t off h = (at hs v, λ lead g r. r.one.member v (at hs v) l (ltb-true (at hs v) n h) refl off (named-lead n hs few r.one v l ∙ t))

      root : leads_in_trees n hs v ≡ false → held n (at hs) v ≡ false → Named n hs v
      root t h = (NONE, λ lead g r. r.two v l h (named-lead n hs few r.one v l ∙ t))

  -- so there is one way to obey them
  pub entry-only : {lead : ℕ → Bool} {g : ℕ → ℕ} → OneToFour n hs lead g → (v : ℕ) → v < n → g v ≡ leader_of n hs v
  entry-only {lead} {g} r v l = let (u, named) = names v l in named lead g r ∙ sym (named (leads_in_trees n hs) (leader_of n hs) (entries_hold n hs few))
