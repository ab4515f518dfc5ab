-- The results of the passes, put together, are the clauses of soundness.
use Prim.Native.Nat.{ℕ, ◌*◌, ◌<◌, ◌≤◌}
use mathlib.Core.Path.{◌≡◌, sym, ap, ◌∙◌}
use mathlib.Core.Bool.{Bool, true, ◌||◌}
use mathlib.Core.List.{List}
use native.Mathlib.Omega.{arith}
use lib.Dec.{eqb, leb}
use lib.ListN.{length, replicate, get_or-replicate}
use Rattle.packing.specs.Count.{count, all}
use Rattle.packing.specs.Lists.{tally_of}
use Rattle.packing.specs.Plant.{GATEWAYS, NONE, at, common, linked}
use Rattle.packing.specs.Holders.{holds}
use Rattle.packing.proofs.Tests.{all_ext}
use Rattle.lists.proofs.Tallies.{tally_at}
use Rattle.sound.specs.Sound.{numbers_sound, lists_long, once_each, holders_linked, holders_within}
use Rattle.sound.proofs.Meaning.{numbers_mean, lists_mean}
use Rattle.sound.specs.Marks.{linked_entries}
use Rattle.packing.specs.Count.{pick}
use Rattle.packing.proofs.Counting.{pick_test}
use Rattle.packing.proofs.Lists.{list_of-at}

-- the tally of the holders is what each holds
pub loads_are : (n : ℕ) (limit : ℕ → ℕ) (hs : List ℕ) {loads : List ℕ} → n ≤ GATEWAYS → loads ≡ tally_of n hs → all n (λ v. leb (at loads v) (limit v)) ≡ holders_within n limit hs
unfolding holders_within holds
loads_are n limit hs few e =
    rw e (all_ext n (λ v. leb (at (tally_of n hs) v) (limit v)) (λ u. leb (count n (λ v. eqb (at hs v) u)) (limit u)) (λ v l. ap (λ (c : ℕ). leb c (limit v)) (tally_at hs n v (omega arith))))

marked : (ls hs : List ℕ) (v : ℕ) → v < GATEWAYS → eqb (at (linked_entries ls hs) v) 1 ≡ linked ls v (at hs v)
unfolding linked_entries
marked ls hs v l = rw (list_of-at GATEWAYS (λ v. pick (linked ls v (at hs v)) 1) v l) (pick_test (linked ls v (at hs v)))

module _ (n : ℕ) (few : n ≤ GATEWAYS) where
  pub once_results : (os : List ℕ) {counts : List ℕ} {r : Bool} → counts ≡ tally_of n os → r ≡ all n (λ v. eqb (at counts v) 1) → r ≡ once_each n os
  unfolding once_each
  once_results os c e =
      e ∙ rw c (all_ext n (λ v. eqb (at (tally_of n os) v) 1) (λ v. eqb (count n (λ i. eqb (at os i) v)) 1) (λ v l. ap (λ (c : ℕ). eqb c 1) (tally_at os n v (omega arith))))

  -- who is marked is linked to its holder
  pub linked_results : (ls hs : List ℕ) {marks : List ℕ} {r : Bool} → marks ≡ linked_entries ls hs → r ≡ all n (λ v. eqb (at hs v) NONE || eqb (at marks v) 1) → r ≡ holders_linked n ls hs
  unfolding holders_linked
  linked_results ls hs m e =
      e ∙ rw m (all_ext n (λ v. eqb (at hs v) NONE || eqb (at (linked_entries ls hs) v) 1) (λ v. eqb (at hs v) NONE || linked ls v (at hs v)) (λ v l. ap (λ (b : Bool). eqb (at hs v) NONE || b) (marked ls hs v (omega arith))))

-- the loads are compared with the limits of the gateways below n only
pub within-below : (n : ℕ) (limit limit' : ℕ → ℕ) (hs : List ℕ) → ((u : ℕ) → u < n → limit u ≡ limit' u) → holders_within n limit hs ≡ holders_within n limit' hs
unfolding holders_within
within-below n limit limit' hs same =
    all_ext n (λ u. leb (holds n (at hs) u) (limit u)) (λ u. leb (holds n (at hs) u) (limit' u)) (λ u l. ap (λ (t : ℕ). leb (holds n (at hs) u) t) (same u l))

-- .. so a list with T for each gateway stands for the common limit T
pub within-common : (n t : ℕ) (limits hs : List ℕ) → n ≤ GATEWAYS → limits ≡ replicate GATEWAYS t → holders_within n (at limits) hs ≡ holders_within n (common t) hs
unfolding common
within-common n t limits hs few e = within-below n (at limits) (λ u. t) hs (λ u l. rw e (get_or-replicate GATEWAYS u t 0 (omega arith)))

-- what the first two tests say where soundness is asked further
pub numbers_few : (n t m k : ℕ) {b : Bool} → b ≡ numbers_sound n t m k → b ≡ true → n ≤ GATEWAYS
numbers_few n t m k {b} e f = (numbers_mean n t m k (sym e ∙ f)).0

pub links-lent : (n m : ℕ) (ls os hs ts : List ℕ) {b : Bool} → b ≡ lists_long n m ls os hs ts → b ≡ true → 2 * m ≤ length ls
links-lent n m ls os hs ts {b} e f = (lists_mean n m ls os hs ts (sym e ∙ f)).0
