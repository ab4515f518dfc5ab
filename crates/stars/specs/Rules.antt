-- 01, "Reading": rules 1 to 5, each as 01 writes it, rule 5 as 02, change 2 does. hs are the holders of n gateways; the arc into w comes from its holder.
-- lead u: u leads by rule 1. g are the entries by rules 1 to 4: its own number for a leader, the leader's number for a member, NONE for alone. list are the entries by all five.
-- RulesFix says that they fix the leader list of specs/Stars.antt (proofs/Rules.antt, proofs/Only.antt).
use Rattle.std.specs.Prelude.{ℕ, ◌+◌, ◌*◌, ◌<◌, ◌≤◌, ◌≡◌, ◌↔◌, Bool, true, false, not, List}
use Rattle.packing.specs.Count.{count}
use Rattle.packing.specs.Plant.{NONE, at}
use Rattle.packing.specs.Grouping.{member_count, covered}
use Rattle.packing.specs.Pairs.{Two, Earlier, SameGroups}
use Rattle.packing.specs.Holders.{held}
use Rattle.packing.specs.Choke.{ChokeDifference}
use Rattle.stars.specs.Stars.{on_cycle, leader_list_by, leader_list}

-- Rule 1: "From the deepest upwards, a gateway leads those of its children that lead nobody." "Children are tree arcs only, not the next on the cycle."
pub record RuleOne (n : ℕ) (hs : List ℕ) (lead : ℕ → Bool) (g : ℕ → ℕ) : Type 0 where
  pub leads : (u : ℕ) → u < n → lead u ≡ true ↔ ((w : ℕ) × (w < n) × (at hs w ≡ u) × (on_cycle n hs w ≡ false) × (lead w ≡ false))
  pub leader : (u : ℕ) → u < n → lead u ≡ true → g u ≡ u
  pub member : (w u : ℕ) → w < n → u < n → at hs w ≡ u → on_cycle n hs w ≡ false → lead w ≡ false → g w ≡ u

-- Rule 2: "In a piece that is a tree, a root that leads nobody is alone." A gateway without holder is the root of a tree.
unfoldable pub RuleTwo : ℕ → List ℕ → (ℕ → Bool) → (ℕ → ℕ) → Type 0
RuleTwo n hs lead g = (v : ℕ) → v < n → held n (at hs) v ≡ false → lead v ≡ false → g v ≡ NONE

-- "A cycle none of whose gateways lead: begin at its lowest number, follow the arcs": c 0, c 1, .. up to c length, which is c 0 for the first time again.
pub record Leaderless (n : ℕ) (hs : List ℕ) (lead : ℕ → Bool) (length : ℕ) (c : ℕ → ℕ) : Type 0 where
  pub some : 1 ≤ length
  pub below : (i : ℕ) → i < length → c i < n
  pub arc : (i : ℕ) → i < length → at hs (c (i + 1)) ≡ c i
  pub closed : c length ≡ c 0
  pub once : (i : ℕ) → 0 < i → i < length → c i ≡ c 0 → ⊥
  pub none : (i : ℕ) → i < length → lead (c i) ≡ false
  pub lowest : (i : ℕ) → i < length → c 0 ≤ c i

-- a pair that a leads; until rule 5 that is its first
abbrev pub Pair : (ℕ → ℕ) → ℕ → ℕ → Type 0
Pair g a b = (g a ≡ a) × (g b ≡ a)

-- "one group led by the middle one"
abbrev pub Three : (ℕ → ℕ) → ℕ → ℕ → ℕ → Type 0
Three g a b c = (g a ≡ b) × (g b ≡ b) × (g c ≡ b)

-- Rule 3: "A cycle none of whose gateways lead: begin at its lowest number, follow the arcs, make pairs; if its length is odd, the first three form one group led by the middle one, and pairs follow."
pub record RuleThree (n : ℕ) (hs : List ℕ) (lead : ℕ → Bool) (g : ℕ → ℕ) : Type 0 where
  pub even : (length : ℕ) (c : ℕ → ℕ) → Leaderless n hs lead length c → (m : ℕ) → length ≡ 2 * m → (j : ℕ) → j < m → Pair g (c (2 * j)) (c (2 * j + 1))
  pub three : (length : ℕ) (c : ℕ → ℕ) → Leaderless n hs lead length c → (m : ℕ) → length ≡ 2 * m + 3 → Three g (c 0) (c 1) (c 2)
  pub follow : (length : ℕ) (c : ℕ → ℕ) → Leaderless n hs lead length c → (m : ℕ) → length ≡ 2 * m + 3 → (j : ℕ) → j < m → Pair g (c (2 * j + 3)) (c (2 * j + 4))

-- "each unbroken run of the others" on a cycle: c 0 leads, c 1 to c r do not, and c (r + 1), which may be c 0 again, does.
pub record Run (n : ℕ) (hs : List ℕ) (lead : ℕ → Bool) (r : ℕ) (c : ℕ → ℕ) : Type 0 where
  pub below : (i : ℕ) → i ≤ r + 1 → c i < n
  pub on : (i : ℕ) → i ≤ r + 1 → on_cycle n hs (c i) ≡ true
  pub arc : (i : ℕ) → i ≤ r → at hs (c (i + 1)) ≡ c i
  pub before : lead (c 0) ≡ true
  pub others : (i : ℕ) → 1 ≤ i → i ≤ r → lead (c i) ≡ false
  pub after : lead (c (r + 1)) ≡ true

-- Rule 4: "A cycle with some that lead: each unbroken run of the others is paired from its start; if the run is odd, its first joins the gateway before it on the cycle, and pairs follow."
pub record RuleFour (n : ℕ) (hs : List ℕ) (lead : ℕ → Bool) (g : ℕ → ℕ) : Type 0 where
  pub even : (r : ℕ) (c : ℕ → ℕ) → Run n hs lead r c → (m : ℕ) → r ≡ 2 * m → (j : ℕ) → j < m → Pair g (c (2 * j + 1)) (c (2 * j + 2))
  pub first : (r : ℕ) (c : ℕ → ℕ) → Run n hs lead r c → (m : ℕ) → r ≡ 2 * m + 1 → g (c 1) ≡ c 0
  pub follow : (r : ℕ) (c : ℕ → ℕ) → Run n hs lead r c → (m : ℕ) → r ≡ 2 * m + 1 → (j : ℕ) → j < m → Pair g (c (2 * j + 2)) (c (2 * j + 3))

-- What 01 leaves free: a gateway that holds itself and leads nobody has its own number. Link ends differ, so no sound record has one.
unfoldable pub Itself : ℕ → List ℕ → (ℕ → Bool) → (ℕ → ℕ) → Type 0
Itself n hs lead g = (v : ℕ) → v < n → at hs v ≡ v → lead v ≡ false → g v ≡ v

-- Rule 5, as 02, change 2 has it: "In a group of two the one earlier in the order now leads." Every other gateway keeps its entry.
-- order may be any list, in which a number may be missing or stand twice. What 02 leaves free: where it has neither of the two, the group keeps its leader. No order of a sound record misses one.
pub record RuleFive (n : ℕ) (order : ℕ → ℕ) (g list : ℕ → ℕ) : Type 0 where
  pub leader : (u w : ℕ) → Two n g u w → Earlier n order u w → Pair list u w
  pub member : (u w : ℕ) → Two n g u w → Earlier n order w u → Pair list w u
  pub neither : (u w : ℕ) → Two n g u w → ((i : ℕ) → i < n → (order i ≡ u → ⊥) × (order i ≡ w → ⊥)) → Pair list u w
  pub keeps : (v : ℕ) → v < n → (g v < n → member_count n g (g v) ≡ 1 → ⊥) → list v ≡ g v

-- who leads by rule 1, and the entries by rules 1 to 4
pub record OneToFour (n : ℕ) (hs : List ℕ) (lead : ℕ → Bool) (g : ℕ → ℕ) : Type 0 where
  pub one : RuleOne n hs lead g
  pub two : RuleTwo n hs lead g
  pub three : RuleThree n hs lead g
  pub four : RuleFour n hs lead g
  pub itself : Itself n hs lead g

-- the list is one by all five rules
pub record ByRules (n : ℕ) (order : ℕ → ℕ) (hs : List ℕ) (list : ℕ → ℕ) : Type 0 where
  pub lead : ℕ → Bool
  pub entry : ℕ → ℕ
  pub grouped : OneToFour n hs lead entry
  pub five : RuleFive n order entry list

-- The five rules fix the list, for any order and any holders: the list of Stars.antt is one by the rules, and no other list is. 65535 is no gateway.
unfoldable pub RulesFix : Type 0
RulesFix =
    (n : ℕ) (os hs : List ℕ) → n ≤ 65535
    → ByRules n (at os) hs (leader_list n os hs)
    × ((list : ℕ → ℕ) → ByRules n (at os) hs list → (v : ℕ) → v < n → list v ≡ leader_list n os hs v)

-- 02, change 2: "covered sets and choke sets are the same as before". With any two ways to decide who leads a pair, be it by an order, by the numbers or by what else, the lists have the same groups;
-- so a set whose difference is the number alone in the one list is such a set for the other.
unfoldable pub WhoeverLeads : Type 0
WhoeverLeads =
    (leadsPair other : ℕ → ℕ → Bool) (n : ℕ) (hs : List ℕ) → n ≤ 65535
    → SameGroups n (leader_list_by leadsPair n hs) (leader_list_by other n hs)
    × ((limit : ℕ → ℕ) (adj : ℕ → ℕ → Bool) (s : ℕ → Bool)
    → ChokeDifference n limit adj s (count n (λ v. not (covered (leader_list_by leadsPair n hs) v)))
    ↔ ChokeDifference n limit adj s (count n (λ v. not (covered (leader_list_by other n hs) v))))
