-- 01, "Reading", rules 1 to 5. hs are the holders of n gateways; the arc into w comes from its holder.
-- Pairing a run of a cycle from its start, with the first of an odd run joining the gateway before it, gives the same groups as rule 1 once the arcs into
-- certain cycle gateways are cut: a run then ends in a leaf. specs/Rules.antt states each rule in the papers' words; proofs/Rules.antt and proofs/Only.antt prove that they fix this list.
use Rattle.std.specs.Prelude.{ℕ, zero, suc, Bool, false, not, cond, ◌&&◌, ◌||◌, List, eqb, ltb, leb, length}
use Rattle.packing.specs.Count.{all, any, first_with}
use Rattle.packing.specs.Plant.{NONE, at}
use Rattle.packing.specs.Grouping.{follows, member_count}
use Rattle.packing.specs.Lists.{list_of, written, fits}

-- v's holder; what is no gateway has none
unfoldable pub holder : ℕ → List ℕ → ℕ → ℕ
holder n hs v = cond (ltb v n) (at hs v) NONE

-- the gateway i arcs back from v
unfoldable pub back : ℕ → List ℕ → ℕ → ℕ → ℕ
back n hs zero v = v
back n hs (suc i) v = holder n hs (back n hs i v)

-- v stands on a cycle: some arcs back, at most n, is v again
unfoldable pub on_cycle : ℕ → List ℕ → ℕ → Bool
on_cycle n hs v = any n (λ i. eqb (back n hs (suc i) v) v)

-- the next on the cycle after v
unfoldable pub next_on_cycle : ℕ → List ℕ → ℕ → ℕ
next_on_cycle n hs v = first_with n (λ w. on_cycle n hs w && eqb (at hs w) v)

-- Rule 1, "a gateway leads those of its children that lead nobody", over the arcs that are kept: round f + 1 says that u leads if some child of it leads nobody in round f.
-- n rounds go from the deepest upwards.
unfoldable pub leads_in : ℕ → ℕ → List ℕ → (ℕ → Bool) → ℕ → Bool
leads_in zero n hs kept u = false
leads_in (suc f) n hs kept u = any n (λ w. eqb (at hs w) u && kept w && not (leads_in f n hs kept w))

-- who leads by rule 1: "Children are tree arcs only, not the next on the cycle."
unfoldable pub leads_in_trees : ℕ → List ℕ → ℕ → Bool
leads_in_trees n hs = leads_in n n hs (λ w. not (on_cycle n hs w))

-- v begins a cycle none of whose gateways lead: it is the lowest number on it (rule 3)
unfoldable pub begins : ℕ → List ℕ → ℕ → Bool
begins n hs v = on_cycle n hs v && all n (λ i. not (leads_in_trees n hs (back n hs i v)) && leb v (back n hs i v))

-- the arc into v is cut: v is on a cycle, and leads (rule 4: a run ends before it) or begins it (rule 3)
unfoldable pub cut : ℕ → List ℕ → ℕ → Bool
cut n hs v = (on_cycle n hs v && leads_in_trees n hs v) || begins n hs v

-- who leads by rules 1 to 4
unfoldable pub leads : ℕ → List ℕ → ℕ → Bool
leads n hs = leads_in n n hs (λ w. not (cut n hs w))

-- v's leader by rules 1 to 4: itself; or the holder whose arc to it is kept; or, for the first of an odd cycle none of whose gateways lead, the next on it, the middle one of three
unfoldable pub leader_of : ℕ → List ℕ → ℕ → ℕ
leader_of n hs v =
    cond (leads n hs v) v
    (cond (cut n hs v) (next_on_cycle n hs v) (cond (ltb (at hs v) n) (at hs v) NONE))

-- who leads a pair. leadsPair a b: of the pair a and b, a leads. It may be any test: where it says no, b leads.
unfoldable pub pair_leader : (ℕ → ℕ → Bool) → ℕ → ℕ → ℕ
pair_leader leadsPair a b = cond (leadsPair a b) a b

-- the one other than u with u's number as its entry
unfoldable pub partner : ℕ → (ℕ → ℕ) → ℕ → ℕ
partner n g u = first_with n (follows g u)

-- Rule 5 over any grouping g: in a group of two both get the one that leads the pair, and every other gateway keeps its entry
unfoldable pub rule_five : (ℕ → ℕ → Bool) → ℕ → (ℕ → ℕ) → ℕ → ℕ
rule_five leadsPair n g v = cond (ltb (g v) n && eqb (member_count n g (g v)) 1) (pair_leader leadsPair (g v) (partner n g (g v))) (g v)

-- the leader list by all five rules, one entry for each gateway, with any way to decide who leads a pair
unfoldable pub leader_list_by : (ℕ → ℕ → Bool) → ℕ → List ℕ → ℕ → ℕ
leader_list_by leadsPair n hs = rule_five leadsPair n (leader_of n hs)

-- the place of a number in an order: where it first stands among the first n entries; n where it does not
unfoldable pub place_of : ℕ → (ℕ → ℕ) → ℕ → ℕ
place_of n order v = first_with n (λ i. eqb (order i) v)

-- by a place for each, a leads the pair a and b where b is not earlier
abbrev pub not_later : (ℕ → ℕ) → ℕ → ℕ → Bool
not_later place a b = leb (place a) (place b)

-- the leader list, with rule 5 as 02, change 2 has it: "In a group of two the one earlier in the order now leads". os is the list of the order, and may be any list.
unfoldable pub leader_list : ℕ → List ℕ → List ℕ → ℕ → ℕ
leader_list n os hs = leader_list_by (not_later (place_of n (at os))) n hs

-- n is in range, and there are n entries in the order, in the holders and in the list that is written, by their lengths
unfoldable pub leaders_fit : ℕ → ℕ → ℕ → ℕ → Bool
leaders_fit n order holders out = leb n order && fits n holders out

-- a lent list after the call: the leader list in its first n entries, or as it came where n or a length does not fit
unfoldable pub leaders_written : ℕ → List ℕ → List ℕ → List ℕ → List ℕ
leaders_written n os hs out = cond (leaders_fit n (length os) (length hs) (length out)) (written n (list_of n (leader_list n os hs)) out) out
