-- Laws of members: the entries looked at, the conditions, and the answers.
use Prim.Native.Nat.{ℕ, zero, suc, ◌≤◌}
use mathlib.Core.Path.{◌≡◌, refl, sym, ap, ◌∙◌}
use mathlib.Core.Bool.{not, ◌||◌}
use mathlib.Core.List.{List, [], ◌∷◌}
use native.Mathlib.Omega.{arith}
use lib.Dec.{eqb, ltb}
use lib.ListN.{length, take, length-take}
use borrow.Author.Tests.{ltb-false}
use Rattle.packing.specs.Lists.{list_where, written}
use Rattle.packing.specs.Plant.{GATEWAYS, at}
use Rattle.packing.specs.Grouping.{member_count, members_of}
use Rattle.packing.proofs.Lists.{list_where-length, written-front}
use Rattle.packing.specs.Refusals.{by_number}
use Rattle.refusal.specs.declared.Refusal.{Refusal}
use Rattle.refusal.specs.Refusals.{number}
use Rattle.refusal.proofs.Numbers.{number-ne-0}
use Rattle.planner.specs.Members.{listed_leaders, members_conditions, members_refusal, members_part, members_list}
use Rattle.packing.proofs.Refusals.{refuse-none, refused, accepted}

-- the entries looked at
listed-few : (l : List ℕ) → length (listed_leaders l) ≤ GATEWAYS
unfolding listed_leaders
listed-few l = rw length-take (omega arith)

pub listed-room : (leaders : List ℕ) {l : List ℕ} → l ≡ listed_leaders leaders → length l ≤ GATEWAYS
listed-room leaders e = rw e (listed-few leaders)

-- the count of members is the length of their list
pub counted : (l : List ℕ) (u : ℕ) {c : ℕ} → c ≡ member_count (length l) (at l) u → c ≡ length (members_of (length l) (at l) u)
unfolding member_count members_of
counted l u e = e ∙ sym (list_where-length _ _)

module _ (leaders : List ℕ) (u : ℕ) (lent : List ℕ) where
  -- a refused call
  pub write_refused : (e : Refusal) → number e ≡ members_refusal leaders u (length lent) → (0 ≡ length (members_part leaders u (length lent))) × (lent ≡ members_list leaders u lent)
  unfolding members_part members_list
  write_refused e g = (ap length (refused _ _ g (number-ne-0 e)), refused _ _ g (number-ne-0 e))

  -- an accepted one: the members have a place, and are written
  module _ (z : 0 ≡ members_refusal leaders u (length lent)) {l : List ℕ} (looked : l ≡ listed_leaders leaders) where
    pub write_room : (length l ≤ GATEWAYS) × (length (members_of (length l) (at l) u) ≤ length lent)
    unfolding members_refusal members_conditions
    write_room =
        let none : members_refusal leaders u (length lent) ≡ 0 = sym z in
        let passed = refuse-none (not (ltb u (length l)) || not (eqb (at l u) u) || eqb (length (members_of (length l) (at l) u)) 0) 11 _ (omega arith) (rw (← looked) at none) in
        (listed-room leaders looked, ltb-false (length lent) (length (members_of (length l) (at l) u)) (refuse-none (ltb (length lent) (length (members_of (length l) (at l) u))) 10 0 (omega arith) passed.1).0)

    pub write_accepted : {out : List ℕ} {c : ℕ} → c ≡ length (members_of (length l) (at l) u) → out ≡ written c (members_of (length l) (at l) u) lent
        → (c ≡ length (members_part leaders u (length lent))) × (out ≡ members_list leaders u lent)
    unfolding members_part members_list
    write_accepted p q = (p ∙ ap length (accepted _ [] z refl (rw looked refl)), accepted _ _ z refl (rw (p, looked) at q))

-- the part handed back
part_of : (r : ℕ) (m lent : List ℕ) → take (length (by_number r m [])) (by_number r (written (length m) m lent) lent) ≡ by_number r m []
part_of zero m lent = written-front (length m) m lent refl
part_of (suc r) m lent = refl

part : (leaders : List ℕ) (u : ℕ) (lent : List ℕ) → take (length (members_part leaders u (length lent))) (members_list leaders u lent) ≡ members_part leaders u (length lent)
unfolding members_part members_list
part leaders u lent = part_of (members_refusal leaders u (length lent)) _ lent

pub part_is : (leaders : List ℕ) (u : ℕ) (lent : List ℕ) {c : ℕ} {out : List ℕ} → c ≡ length (members_part leaders u (length lent)) → out ≡ members_list leaders u lent → take c out ≡ members_part leaders u (length lent)
part_is leaders u lent e f = rw (e, f) (part leaders u lent)

pub part_long : (leaders : List ℕ) (u : ℕ) (lent : List ℕ) {c : ℕ} {out : List ℕ} → c ≡ length (members_part leaders u (length lent)) → out ≡ members_list leaders u lent → c ≡ length (take c out)
part_long leaders u lent e f = e ∙ ap length (sym (part_is leaders u lent e f))

-- 01's listing, leaders 0 2 2 0 0: 0 leads 3 and 4; 1 leads nobody, 5 is outside the list, and two members need two places
abbrev example_leaders : List ℕ
example_leaders = 0 ∷ 2 ∷ 2 ∷ 0 ∷ 0 ∷ []

example_part : members_part example_leaders 0 2 ≡ 3 ∷ 4 ∷ []
unfolding members_part members_refusal members_conditions members_of listed_leaders list_where
example_part = refl

example_refusals : (members_refusal example_leaders 1 2 ≡ 11) × (members_refusal example_leaders 5 2 ≡ 11) × (members_refusal example_leaders 0 1 ≡ 10)
unfolding members_refusal members_conditions members_of listed_leaders list_where
example_refusals = (refl, refl, refl)

example_list : members_list example_leaders 0 (7 ∷ 7 ∷ 7 ∷ []) ≡ 3 ∷ 4 ∷ 7 ∷ []
unfolding members_list members_refusal members_conditions members_of listed_leaders list_where written
example_list = refl
