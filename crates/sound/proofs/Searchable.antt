-- Holders that a search may be made with: what the test says and takes, and the counts that it is made of.
use Prim.Native.Nat.{ℕ, ◌<◌, ◌≤◌}
use mathlib.Core.Path.{◌≡◌, ◌∙◌}
use mathlib.Core.Bool.{Bool, true}
use mathlib.Core.List.{List}
use native.Mathlib.Omega.{arith}
use lib.Dec.{leb}
use lib.ListN.{length, replicate}
use borrow.Author.Tests.{leb-true, le-leb}
use Rattle.packing.specs.Count.{all}
use Rattle.packing.specs.Plant.{GATEWAYS, HIGHEST, at, common}
use Rattle.packing.specs.Holders.{holds}
use Rattle.packing.proofs.Tests.{tests, all_intro, all_elim}
use Rattle.sound.specs.Sound.{holders_within}
use Rattle.packing.specs.Lists.{tally_of}
use Rattle.sound.specs.Searchable.{searchable}
use Rattle.sound.proofs.Meaning.{Sound}
use Rattle.sound.proofs.PassResults.{loads_are, within-common}

pub record Searchable (n : ℕ) (hs : List ℕ) : Type 0 where
  pub few : n ≤ GATEWAYS
  pub holders : n ≤ length hs
  pub within : (u : ℕ) → u < n → holds n (at hs) u ≤ HIGHEST

within_means : (n : ℕ) (hs : List ℕ) → holders_within n (common HIGHEST) hs ≡ true → (u : ℕ) → u < n → holds n (at hs) u ≤ HIGHEST
unfolding holders_within common
within_means n hs e u l = leb-true _ _ (all_elim n (λ w. leb (holds n (at hs) w) HIGHEST) e u l)

within-holds : (n : ℕ) (hs : List ℕ) → ((u : ℕ) → u < n → holds n (at hs) u ≤ HIGHEST) → holders_within n (common HIGHEST) hs ≡ true
unfolding holders_within common
within-holds n hs h = all_intro n (λ w. leb (holds n (at hs) w) HIGHEST) (λ u l. le-leb _ _ (h u l))

pub searchable_means : (n : ℕ) (hs : List ℕ) → searchable n hs ≡ true → Searchable n hs
unfolding searchable
searchable_means n hs e = record { few = search (tests, leb-true); holders = search (tests, leb-true); within = within_means n hs (search tests) }

pub searchable-holds : {n : ℕ} {hs : List ℕ} → Searchable n hs → searchable n hs ≡ true
unfolding searchable
searchable-holds {n} {hs} s = rw (le-leb n GATEWAYS s.few, le-leb n (length hs) s.holders) (within-holds n hs s.within)

-- the holders of a sound record are such
pub sound_searchable : {n t m k : ℕ} {ls os hs ts : List ℕ} → Sound n t m k ls os hs ts → Searchable n hs
sound_searchable s = record { few = s.few; holders = s.holders-long; within = λ u l. omega (arith, s.feasible.within u l, (s.limits u l).1) }

-- what the tally of the holders says, compared with a list of the highest limit
pub within_tallied : (n : ℕ) (hs limits : List ℕ) {loads : List ℕ} {r : Bool} → n ≤ GATEWAYS → loads ≡ tally_of n hs → limits ≡ replicate GATEWAYS HIGHEST → r ≡ all n (λ v. leb (at loads v) (at limits v))
    → r ≡ holders_within n (common HIGHEST) hs
within_tallied n hs limits few t is e = e ∙ loads_are n (at limits) hs few t ∙ within-common n HIGHEST limits hs few is
