-- What the functions of this crate ask and say of their arrays. hs are the holders of n gateways; waits says for how many of those that it holds each waits; taken marks who is taken, read who is read, in a tree or on a cycle gone round, and leading who leads;
-- nexts says with whom the first of a cycle goes. ws, ts, ls and xs are such lists where they are lent one by one.
-- A function that is lent lists as one says that it holds the same ones afterwards: by that its caller knows what they hold.
use Rattle.std.specs.Prelude.{ℕ, ◌-◌, ◌<◌, ◌≤◌, ◌≡◌, ◌⊎◌, Bool, true, false, not, cond, ◌&&◌, List, eqb, ltb, length, set, replicate}
use Rattle.packing.specs.Count.{count}
use Rattle.packing.specs.Grouping.{follows}
use Rattle.packing.specs.Lists.{tally_of}
use Rattle.packing.specs.Plant.{GATEWAYS, NONE, at}
use Rattle.stars.specs.Stars.{back, on_cycle, next_on_cycle, leads_in_trees, begins, cut, leads, pair_leader, not_later}
use Rattle.stars.specs.declared.groups_of_two.Pairs.{Pairs}
use Rattle.stars.specs.declared.rounds.Round.{Round}
use Rattle.stars.specs.declared.rounds.Rounds.{Rounds}
use Rattle.stars.specs.declared.trees.Trees.{Trees}

-- an array of 1,024 that holds f's value at each v below n
pub record Table (n : ℕ) (f : ℕ → ℕ) (l : List ℕ) : Type 0 where
  pub long : GATEWAYS ≡ length l
  pub entry : (v : ℕ) → v < n → at l v ≡ f v

-- v is marked
abbrev pub marked : List ℕ → ℕ → Bool
marked l v = eqb (at l v) 1

-- of those below n just those with p are marked
abbrev pub Marks : ℕ → (ℕ → Bool) → List ℕ → Type 0
Marks n p l = (v : ℕ) → v < n → marked l v ≡ p v

-- Trees. They are the same lists as before, of the same holders
pub record SameTrees (t t' : Trees) : Type 0 where
  pub n : t'.n ≡ t.n
  pub holders : t'.holders.now ≡ t.holders.now
  pub waits : t'.waits.ghost_name ≡ t.waits.ghost_name
  pub taken : t'.taken.ghost_name ≡ t.taken.ghost_name
  pub leading : t'.leading.ghost_name ≡ t.leading.ghost_name

-- u may be taken: it is a gateway, waits for none that it holds, and is not taken yet
unfoldable pub is_next : Trees → ℕ → Bool
is_next t u = ltb u t.n && eqb (at t.waits.now u) 0 && not (marked t.taken.now u)

-- u's holder waits for it
pub record Waited (t : Trees) (u : ℕ) : Type 0 where
  pub some : at t.holders.now u < t.n → 1 ≤ at t.waits.now (at t.holders.now u)

-- u was taken: its holder, r, waits for one fewer, and leads if u does not
pub record Taken (u : ℕ) (t t' : Trees) (r : ℕ) : Type 0 where
  pub same : SameTrees t t'
  pub holder : r ≡ at t.holders.now u
  pub taken : t'.taken.now ≡ set t.taken.now u 1
  pub waits : t'.waits.now ≡ cond (ltb (at t.holders.now u) t.n) (set t.waits.now (at t.holders.now u) (at t.waits.now (at t.holders.now u) - 1)) t.waits.now
  pub leading : t'.leading.now ≡ cond (ltb (at t.holders.now u) t.n && not (marked t.leading.now u)) (set t.leading.now (at t.holders.now u) 1) t.leading.now

-- the lists that are lent: two of 1,024 zeros, and one of n entries
pub record Cleared (n : ℕ) (ws ts ls : List ℕ) : Type 0 where
  pub few : n ≤ GATEWAYS
  pub waits : ws ≡ replicate GATEWAYS 0
  pub long : n ≡ length ts
  pub leading : ls ≡ replicate GATEWAYS 0

-- .. before any is taken: nothing is marked, and each waits for all that it holds
pub record Waiting (t : Trees) : Type 0 where
  pub few : t.n ≤ GATEWAYS
  pub waits : t.waits.now ≡ tally_of t.n t.holders.now
  pub taken : t.taken.now ≡ replicate t.n 0
  pub leading : t.leading.now ≡ replicate GATEWAYS 0

-- once all that can be are taken: they are those in trees, and who leads by rule 1 is known
pub record Treed (n : ℕ) (hs ts ls : List ℕ) : Type 0 where
  pub few : n ≤ GATEWAYS
  pub trees-long : n ≡ length ts
  pub leading-long : GATEWAYS ≡ length ls
  pub trees : Marks n (λ v. not (on_cycle n hs v)) ts
  pub leading : Marks n (leads_in_trees n hs) ls

-- .. in the same lists
pub record AllTaken (t t' : Trees) : Type 0 where
  pub same : SameTrees t t'
  pub treed : Treed t.n t.holders.now t'.taken.now t'.leading.now

-- Cycles. They are the same lists as before, of the same holders
pub record SameRounds (t t' : Rounds) : Type 0 where
  pub n : t'.n ≡ t.n
  pub holders : t'.holders.now ≡ t.holders.now
  pub read : t'.read.ghost_name ≡ t.read.ghost_name
  pub leading : t'.leading.ghost_name ≡ t.leading.ghost_name
  pub nexts : t'.nexts.ghost_name ≡ t.nexts.ghost_name

-- v stands on one of which none is marked
pub record Unmet (t : Rounds) (v : ℕ) : Type 0 where
  pub few : t.n ≤ GATEWAYS
  pub long : t.n ≡ length t.read.now
  pub below : v < t.n
  pub on : on_cycle t.n t.holders.now v ≡ true
  pub none : (j : ℕ) → marked t.read.now (back t.n t.holders.now j v) ≡ false

-- v's cycle was gone round: it is marked, the number of its arcs is known, and a start on it that leads or, where none leads, is v
pub record Rounded (t t' : Rounds) (v : ℕ) (r : Round) : Type 0 where
  pub same : SameRounds t t'
  pub leading : t'.leading.now ≡ t.leading.now
  pub nexts : t'.nexts.now ≡ t.nexts.now
  pub long : t.n ≡ length t'.read.now
  pub keeps : (x : ℕ) → marked t.read.now x ≡ true → marked t'.read.now x ≡ true
  pub marks : (j : ℕ) → marked t'.read.now (back t.n t.holders.now j v) ≡ true
  pub only : (x : ℕ) → marked t'.read.now x ≡ true → marked t.read.now x ≡ false → (j : ℕ) × (back t.n t.holders.now j v ≡ x)
  pub some : 1 ≤ r.arcs
  pub round : back t.n t.holders.now r.arcs v ≡ v
  pub on : (j : ℕ) × (back t.n t.holders.now j v ≡ r.start)
  pub start : (marked t.leading.now r.start ≡ true) ⊎ ((r.start ≡ v) × ((j : ℕ) → marked t.leading.now (back t.n t.holders.now j v) ≡ false))

-- the start stands on a cycle of so many arcs; the arc into it is cut, and no other on it begins it; of those on it leading marks who leads by rule 1
pub record Broken (t : Rounds) (r : Round) : Type 0 where
  pub few : t.n ≤ GATEWAYS
  pub long : GATEWAYS ≡ length t.leading.now
  pub below : r.start < t.n
  pub on : on_cycle t.n t.holders.now r.start ≡ true
  pub some : 1 ≤ r.arcs
  pub round : back t.n t.holders.now r.arcs r.start ≡ r.start
  pub stops : cut t.n t.holders.now r.start ≡ true
  pub only : (j : ℕ) → begins t.n t.holders.now (back t.n t.holders.now j r.start) ≡ true → back t.n t.holders.now j r.start ≡ r.start
  pub trees : (j : ℕ) → marked t.leading.now (back t.n t.holders.now j r.start) ≡ leads_in_trees t.n t.holders.now (back t.n t.holders.now j r.start)

-- .. and afterwards who leads by rules 1 to 4; r is the next after s
pub record Led (t t' : Rounds) (s r : ℕ) : Type 0 where
  pub same : SameRounds t t'
  pub read : t'.read.now ≡ t.read.now
  pub nexts : t'.nexts.now ≡ t.nexts.now
  pub long : GATEWAYS ≡ length t'.leading.now
  pub next : r ≡ next_on_cycle t.n t.holders.now s
  pub leading : (j : ℕ) → marked t'.leading.now (back t.n t.holders.now j s) ≡ leads t.n t.holders.now (back t.n t.holders.now j s)
  pub others : (x : ℕ) → ((j : ℕ) → back t.n t.holders.now j s ≡ x → ⊥) → marked t'.leading.now x ≡ marked t.leading.now x

-- with whom v goes, if it does not lead and its arc is cut; else none
abbrev pub goes_with : ℕ → List ℕ → ℕ → ℕ
goes_with n hs v = cond (cut n hs v) (next_on_cycle n hs v) NONE

-- The trees and the cycles with a number below v are read: of those read it is known who leads by rules 1 to 4, and with whom the first of a cycle goes; of the others, who leads by rule 1.
pub record Reading (t : Rounds) (v : ℕ) : Type 0 where
  pub few : t.n ≤ GATEWAYS
  pub upto : v ≤ t.n
  pub read-long : t.n ≡ length t.read.now
  pub leading-long : GATEWAYS ≡ length t.leading.now
  pub next-long : GATEWAYS ≡ length t.nexts.now
  pub trees : (x : ℕ) → x < t.n → on_cycle t.n t.holders.now x ≡ false → marked t.read.now x ≡ true
  pub met : (x : ℕ) → x < v → marked t.read.now x ≡ true
  pub whole : (x : ℕ) → x < t.n → on_cycle t.n t.holders.now x ≡ true → marked t.read.now x ≡ true → (j : ℕ) → marked t.read.now (back t.n t.holders.now j x) ≡ true
  pub leading : (x : ℕ) → x < t.n → marked t.leading.now x ≡ cond (marked t.read.now x) (leads t.n t.holders.now x) (leads_in_trees t.n t.holders.now x)
  pub next : (x : ℕ) → x < t.n → marked t.read.now x ≡ true → leads t.n t.holders.now x ≡ false → at t.nexts.now x ≡ goes_with t.n t.holders.now x
  pub blank : (x : ℕ) → x < t.n → marked t.read.now x ≡ false → at t.nexts.now x ≡ NONE

-- .. and all cycles are
pub record Read (n : ℕ) (hs ls xs : List ℕ) : Type 0 where
  pub few : n ≤ GATEWAYS
  pub leading : Marks n (leads n hs) ls
  pub next : (v : ℕ) → v < n → leads n hs v ≡ false → at xs v ≡ goes_with n hs v

-- Groups of two. u, or the one that leads the pair where u leads a group of two, by the places and the partners
unfoldable pub turned : Pairs → ℕ → ℕ
turned p u = cond (ltb u p.n && ltb (at p.partners.now u) p.n) (pair_leader (not_later (at p.places.now)) u (at p.partners.now u)) u

-- x says of the i first entries which one goes with u: 65535 for nobody, the one where there is one, 1,024 where there are more
pub record Partner (i : ℕ) (g : ℕ → ℕ) (u x : ℕ) : Type 0 where
  pub nobody : count i (follows g u) ≡ 0 → x ≡ NONE
  pub one : count i (follows g u) ≡ 1 → (x < i) × (follows g u x ≡ true)
  pub more : 2 ≤ count i (follows g u) → x ≡ GATEWAYS

-- .. for each gateway
pub record Partners (n i : ℕ) (g : ℕ → ℕ) (l : List ℕ) : Type 0 where
  pub long : GATEWAYS ≡ length l
  pub partner : (u : ℕ) → u < n → Partner i g u (at l u)
