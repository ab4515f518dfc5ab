-- A file of version 2 for any limits of 2 to 16: its pairs have kind 0 and say each limit as it is.
use Prim.Native.Nat.{ℕ, zero, suc, ◌+◌, ◌*◌, ◌<◌, ◌≤◌}
use mathlib.Core.Path.{◌≡◌, refl}
use mathlib.Core.Logic.{inr}
use mathlib.Core.List.{List, [], ◌∷◌}
use native.Mathlib.Omega.{arith}
use lib.ListN.{length}
use Rattle.packing.specs.Plant.{at}
use Rattle.plant_file.specs.Encode.{pairs_of}
use Rattle.plant_file.specs.EveryPlant.{PairsInRange, EveryLimits}
use Rattle.plant_file.proofs.GatewayLimits.{limit-written}
use Rattle.plant_file.proofs.EveryPlant.{file_of_two}

pairs-long : (l : List ℕ) → length (pairs_of l) ≡ 2 * length l
unfolding pairs_of
pairs-long [] = refl
pairs-long (x ∷ l) = omega (arith, pairs-long l)

next-limit : (v : ℕ) → 2 * suc v + 1 ≡ suc (suc (2 * v + 1))
next-limit v = omega arith

pairs-limit : (l : List ℕ) (v : ℕ) → at (pairs_of l) (2 * v + 1) ≡ at l v
unfolding pairs_of
pairs-limit [] v = refl
pairs-limit (x ∷ l) zero = refl
pairs-limit (x ∷ l) (suc v) = rw (next-limit v) (pairs-limit l v)

-- a number of the pairs is 0 or a limit
pairs_below : (l : List ℕ) → ((v : ℕ) → v < length l → at l v ≤ 16) → (i : ℕ) → at (pairs_of l) i < 256
unfolding pairs_of
pairs_below [] h i = omega arith
pairs_below (x ∷ l) h zero = omega arith
pairs_below (x ∷ l) h (suc zero) = omega (arith, h 0 (omega arith))
pairs_below (x ∷ l) h (suc (suc i)) = pairs_below l (λ v k. h (suc v) (omega arith)) i

pub every_limits : EveryLimits
unfolding EveryLimits
every_limits n t m links order limits plant long range = file_of_two n t m links order plant (pairs_of limits) good (at limits) (λ v l. rw (pairs-limit limits v) (limit-written t _ (at limits v) (λ e. omega (arith, (range v l).0))))
  where
    good : PairsInRange n (pairs_of limits)
    good =
        record {
          two-each = omega (arith, pairs-long limits);
          bytes = record { below = pairs_below limits (λ v l. (range v (omega arith)).1) };
          limits = λ v l. rw (pairs-limit limits v) (inr (range v l));
        }
