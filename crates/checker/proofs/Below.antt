-- The checker looks at nothing from n on: of limits, leader lists and choke lists.
use Prim.Native.Nat.{ℕ, ◌<◌}
use mathlib.Core.Path.{◌≡◌, sym, ap}
use mathlib.Core.Bool.{Bool}
use mathlib.Core.List.{List}
use native.Mathlib.Omega.{arith}
use lib.Dec.{eqb, ltb}
use lib.ListN.{length, take, length-take}
use lib.Seq.{get_or-take}
use borrow.Author.Tests.{ltb-true, ltb-false, lt-ltb, le-ltb}
use Rattle.packing.specs.Count.{any}
use Rattle.packing.specs.Plant.{at, linked}
use Rattle.packing.specs.Grouping.{is_grouping}
use Rattle.packing.specs.Choke.{is_difference}
use Rattle.packing.specs.Refusals.{first_of}
use Rattle.packing.proofs.Tests.{by_bool, any_ext}
use Rattle.packing.proofs.Turns.{says_iff}
use Rattle.packing.proofs.Checks.{says-grouping, says-difference, alone-below}
use Rattle.packing.proofs.Below.{grouping-limits, difference-limits, grouping-below, difference_below}
use Rattle.plant_file.specs.PlantFile.{file_n, file_links, file_limit, file_refusal}
use Rattle.checker.specs.Check.{in_set, alone_count, leaders_off, choke_off, lists_refusal, check_refusal}
use Rattle.checker.specs.Claim.{FirstOnly}

pub lists_below : (n : ℕ) (limit limit' : ℕ → ℕ) (adj : ℕ → ℕ → Bool) (leaders choke : List ℕ) → ((u : ℕ) → u < n → limit u ≡ limit' u)
    → lists_refusal n limit adj leaders choke ≡ lists_refusal n limit' adj leaders choke
unfolding lists_refusal leaders_off choke_off
lists_below n limit limit' adj leaders choke same = rw (groups, differs)
  where
    back : (u : ℕ) → u < n → limit' u ≡ limit u
    back u l = sym (same u l)

    groups : is_grouping n limit adj (at leaders) ≡ is_grouping n limit' adj (at leaders)
    groups = says_iff (says-grouping n limit adj (at leaders)) (says-grouping n limit' adj (at leaders)) (grouping-limits n limit limit' adj same (at leaders)) (grouping-limits n limit' limit adj back (at leaders))

    differs : is_difference n limit adj (in_set choke) (alone_count n (at leaders)) ≡ is_difference n limit' adj (in_set choke) (alone_count n (at leaders))
    differs =
        says_iff (says-difference n limit adj (in_set choke) (alone_count n (at leaders))) (says-difference n limit' adj (in_set choke) (alone_count n (at leaders)))
        (difference-limits n limit limit' adj same (in_set choke) (alone_count n (at leaders))) (difference-limits n limit' limit adj back (in_set choke) (alone_count n (at leaders)))

-- there are n entries in a list exactly if there are n in its first n
take_short : (n : ℕ) (l : List ℕ) → ltb (length (take n l)) n ≡ ltb (length l) n
take_short n l =
    by_bool (ltb (length l) n) (λ e. rw e (lt-ltb (length (take n l)) n (omega (arith, ltb-true (length l) n e, length-take n l))))
    (λ e. rw e (le-ltb (length (take n l)) n (omega (arith, ltb-false (length l) n e, length-take n l))))

module _ (n : ℕ) (leaders choke : List ℕ) where
  entry_first : (l : List ℕ) (v : ℕ) → v < n → at (take n l) v ≡ at l v
  entry_first l v k = get_or-take n l v 0 k

  alone-first : alone_count n (at (take n leaders)) ≡ alone_count n (at leaders)
  unfolding alone_count
  alone-first = alone-below n (at (take n leaders)) (at leaders) (entry_first leaders)

  set_first : (v : ℕ) → v < n → in_set (take n choke) v ≡ in_set choke v
  unfolding in_set
  set_first v l = ap (λ (x : ℕ). eqb x 1) (entry_first choke v l)

  pub lists_first : (limit : ℕ → ℕ) (adj : ℕ → ℕ → Bool) → lists_refusal n limit adj (take n leaders) (take n choke) ≡ lists_refusal n limit adj leaders choke
  unfolding lists_refusal leaders_off choke_off
  lists_first limit adj = rw (take_short n leaders, take_short n choke, groups, bytes, differs)
    where
      groups : is_grouping n limit adj (at (take n leaders)) ≡ is_grouping n limit adj (at leaders)
      groups =
          says_iff (says-grouping n limit adj (at (take n leaders))) (says-grouping n limit adj (at leaders)) (grouping-below n limit adj _ _ (entry_first leaders)) (grouping-below n limit adj _ _ (λ v l. sym (entry_first leaders v l)))

      bytes : any n (λ v. ltb 1 (at (take n choke) v)) ≡ any n (λ v. ltb 1 (at choke v))
      bytes = any_ext n (λ v. ltb 1 (at (take n choke) v)) (λ v. ltb 1 (at choke v)) (λ v l. ap (ltb 1) (entry_first choke v l))

      differs : is_difference n limit adj (in_set (take n choke)) (alone_count n (at (take n leaders))) ≡ is_difference n limit adj (in_set choke) (alone_count n (at leaders))
      differs =
          says_iff (says-difference n limit adj (in_set (take n choke)) (alone_count n (at (take n leaders)))) (says-difference n limit adj (in_set choke) (alone_count n (at leaders))) (difference_below n limit adj _ _ _ _ set_first alone-first)
          (difference_below n limit adj _ _ _ _ (λ v l. sym (set_first v l)) (sym alone-first))

pub first-only : FirstOnly
unfolding FirstOnly check_refusal
first-only file leaders choke = ap (first_of (file_refusal file)) (lists_first (file_n file) leaders choke (file_limit file) (linked (file_links file)))
