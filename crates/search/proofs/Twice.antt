-- A link listed twice counts where it first stands, whatever the calls are handed: the laws of Repeats where the calls do something.
use Prim.Native.Nat.{ℕ}
use mathlib.Core.Path.{◌≡◌, ap, ◌∙◌}
use mathlib.Core.Logic.{⊎_elim}
use mathlib.Core.Bool.{true, ◌&&◌}
use mathlib.Core.List.{List, ◌∷◌, ◌++◌}
use lib.Dec.{eqb}
use lib.ListN.{length}
use borrow.Author.Tests.{eqb-true}
use Rattle.packing.specs.Count.{pick}
use Rattle.packing.specs.Lists.{written}
use Rattle.packing.specs.Plant.{common, joins, linked}
use Rattle.packing.proofs.Links.{linked_sym, linked_parts}
use Rattle.packing.proofs.Lists.{list_of_ext}
use Rattle.packing.proofs.Tests.{by_bool, and_l, and_r, or_cases}
use Rattle.search.specs.Search.{Search, placeable, holders_after}
use Rattle.search.specs.ChokeSet.{choke_walk, seen_in, walk_saw, in_choke, choke_byte, chokeable, choke_written}
use Rattle.search.specs.Twice.{CountsFirst}
use Rattle.search.proofs.Tested.{placeable_means, chokeable_means}
use Rattle.search.proofs.Repeats.{walk_repeat, place_repeat}
use Rattle.search.proofs.Unheld.{unheld_startable}

-- what a-b joins is linked where a-b is
joined-linked : (l : List ℕ) (a b x y : ℕ) → linked l a b ≡ true → joins a b x y ≡ true → linked l x y ≡ true
joined-linked l a b x y there j =
    ⊎_elim (λ q. rw (eqb-true a x (and_l (eqb a x) (eqb b y) q), eqb-true b y (and_r (eqb a x) (eqb b y) q)) at there)
    (λ q. linked_sym l x y ∙ (rw (eqb-true a y (and_l (eqb a y) (eqb b x) q), eqb-true b x (and_r (eqb a y) (eqb b x) q)) at there)) (or_cases (eqb a x && eqb b y) (eqb a y && eqb b x) j)

pub counts-first : CountsFirst
unfolding CountsFirst linked holders_after choke_written choke_byte in_choke walk_saw choke_walk
counts-first m ls rest a b whole there = (same, placed, choke)
  where
    same : (x y : ℕ) → linked (ls ++ a ∷ b ∷ rest) x y ≡ linked (ls ++ rest) x y
    same x y =
        rw (linked_parts m ls (a ∷ b ∷ rest) x y whole, linked_parts m ls rest x y whole)
        (by_bool (joins a b x y) (λ j. rw (joined-linked ls a b x y there j)) (λ j. rw j))

    placed : (n : ℕ) (limit : ℕ → ℕ) (hs : List ℕ) (v : ℕ) → holders_after n limit (ls ++ a ∷ b ∷ rest) hs v ≡ holders_after n limit (ls ++ rest) hs v
    placed n limit hs v = by_bool (placeable n hs v) (λ e. rw e (place_repeat n limit hs m ls rest a b whole there (placeable_means n hs v e))) (λ e. rw e)

    choke : (n : ℕ) (hs out : List ℕ) → choke_written n (ls ++ a ∷ b ∷ rest) hs out ≡ choke_written n (ls ++ rest) hs out
    choke n hs out =
        by_bool (chokeable n hs (length out))
        (λ e.
        let few = (chokeable_means n hs (length out) e).0.few in
        let walks = walk_repeat n (common 0) hs m ls rest a b whole there (unheld_startable n hs few) in
        rw e (ap (λ (l : List ℕ). written n l out) (list_of_ext n _ _ (λ v l. ap (λ (s : Search). pick (seen_in s v) 1) walks)))) (λ e. rw e)
