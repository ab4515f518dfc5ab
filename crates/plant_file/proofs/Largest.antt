-- The plant with the most gateways and links is in range, and so its file is accepted, in either version.
use Prim.Native.Nat.{ℕ, ◌+◌, ◌*◌, ◌/◌, ◌%◌, ◌<◌}
use mathlib.Core.Path.{◌≡◌, refl, ◌∙◌}
use mathlib.Core.Logic.{◌⊎◌, inl, inr, ⊎_elim}
use native.Mathlib.Omega.{arith}
use lib.Dec.{eqb, ltb}
use borrow.Author.Tests.{eq-eqb, ne_eqb, ltb-true, ltb-false}
use Rattle.packing.specs.Plant.{at}
use Rattle.packing.specs.Orders.{up_to}
use Rattle.packing.specs.Turns.{first_end, second_end}
use Rattle.packing.specs.Lists.{list_of}
use Rattle.packing.proofs.Tests.{by_bool}
use Rattle.packing.proofs.Lists.{list_of-length, list_of-at}
use Rattle.lists.proofs.Entries.{entry_past}
use Rattle.plant_file.specs.EveryPlant.{InRange, EveryPlant, PairsInRange, EveryPlantTwo}
use Rattle.plant_file.specs.Largest.{largest_end, largest_links, largest_file, LargestAccepted, largest_pair, largest_pairs, largest_two, LargestTwoAccepted}
use Rattle.plant_file.proofs.EveryPlant.{every_plant, every_plant_two}

first-is : (j : ℕ) → j < 8192 → first_end largest_links j ≡ j % 16
unfolding largest_links
first-is j h = list_of-at 16384 largest_end (2 * j) (omega arith) ∙ rw (eq-eqb (2 * j % 2) 0 (omega arith), half)
  where
    half : 2 * j / 2 ≡ j
    half = omega arith

second_is : (j : ℕ) → j < 8192 → second_end largest_links j ≡ 16 + j / 16
unfolding largest_links
second_is j h = list_of-at 16384 largest_end (2 * j + 1) (omega arith) ∙ rw (ne_eqb ((2 * j + 1) % 2) 0 (omega arith), half)
  where
    half : (2 * j + 1) / 2 ≡ j
    half = omega arith

order_is : (i : ℕ) → i < 1024 → at (up_to 1024) i ≡ i
unfolding up_to
order_is i h = list_of-at 1024 (λ i. i) i h

in_range : InRange 1024 16 8192 largest_links (up_to 1024)
unfolding largest_links up_to
in_range =
    record {
      gateways = omega arith;
      least = omega arith;
      most = omega arith;
      few = omega arith;
      two-each = list_of-length 16384 _;
      first_below = λ i h. omega (arith, first-is i h);
      second_below = λ i h. omega (arith, second_is i h);
      differ = λ i h e. omega (arith, first-is i h, second_is i h);
      once = λ i j h k.
          ⊎_elim (λ s. omega (arith, s, first-is i (omega arith), first-is j k, second_is i (omega arith), second_is j k)) (λ s. omega (arith, s, first-is i (omega arith), second_is j k));
      one_each = list_of-length 1024 _;
      order_below = λ i h. omega (arith, order_is i h);
      order-once = λ i j h k e. omega (arith, order_is i (omega arith), order_is j k);
    }

pub largest_accepted : LargestAccepted
unfolding LargestAccepted largest_file EveryPlant
largest_accepted = let (file, long) = every_plant 1024 16 8192 largest_links (up_to 1024) in_range in (file.says-n, file.says-m, long, file.accepted)

-- every number of the pairs is a byte, and every limit byte 0 or 16
pair-below : (i : ℕ) → largest_pair i < 256
pair-below i =
    by_bool (eqb (i % 2) 0) (λ e. rw e (omega arith)) (λ e. rw e (by_bool (eqb (i % 8 / 4) 0) (λ f. rw f (omega arith)) (λ f. rw f (omega arith))))

limit_is : (v : ℕ) → (largest_pair (2 * v + 1) ≡ 0) ⊎ (largest_pair (2 * v + 1) ≡ 16)
limit_is v =
    rw (ne_eqb ((2 * v + 1) % 2) 0 (omega arith)) (by_bool (eqb ((2 * v + 1) % 8 / 4) 0) (λ f. rw f (inl refl)) (λ f. rw f (inr refl)))

pairs_in_range : PairsInRange 1024 largest_pairs
unfolding largest_pairs
pairs_in_range =
    record {
      two-each = list_of-length 2048 _;
      bytes = record { below = below };
      limits = λ v h.
          ⊎_elim (λ z. inl (list_of-at 2048 largest_pair (2 * v + 1) (omega arith) ∙ z))
          (λ z. let is = list_of-at 2048 largest_pair (2 * v + 1) (omega arith) ∙ z in inr (omega (arith, is), omega (arith, is))) (limit_is v);
    }
  where
    below : (i : ℕ) → at (list_of 2048 largest_pair) i < 256
    below i =
        by_bool (ltb i 2048) (λ e. rw (list_of-at 2048 largest_pair i (ltb-true i 2048 e)) (pair-below i))
        (λ e. omega (arith, entry_past (list_of 2048 largest_pair) i (omega (arith, ltb-false i 2048 e, list_of-length 2048 largest_pair))))

pub largest_two_accepted : LargestTwoAccepted
unfolding LargestTwoAccepted largest_two EveryPlantTwo
largest_two_accepted = let (file, long) = every_plant_two 1024 16 8192 largest_links (up_to 1024) largest_pairs in_range pairs_in_range in (file.says-n, file.says-m, long, file.accepted)
