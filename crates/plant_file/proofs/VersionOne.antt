-- A file of version 1 goes by 01's turn: the conditions of version 2 say the same of it, and 33 is not named.
use Prim.Native.Nat.{ℕ, zero, suc, ◌+◌, ◌*◌}
use mathlib.Core.Path.{◌≡◌, sym, fun_ext, ◌∙◌}
use mathlib.Core.Logic.{inl, ⊎_elim}
use mathlib.Core.List.{List}
use native.Mathlib.Omega.{arith}
use lib.ListN.{length}
use Rattle.packing.specs.Plant.{common}
use Rattle.packing.specs.Turns.{Turn, done, FirstNamed}
use Rattle.packing.proofs.Turns.{turn_without, turn-changed, turn-later}
use Rattle.plant_file.specs.PlantFile.{number, file_version, file_n, file_t, file_m, file_limit, file_refusal}
use Rattle.plant_file.specs.Turns.{each_link, LengthGiven, file_turn, FileExactly}
use Rattle.plant_file.specs.VersionOne.{turn_of_one, VersionOne}
use Rattle.plant_file.proofs.Turns.{file_exactly}
use Rattle.plant_file.proofs.GatewayLimits.{limit_said}

-- the links' conditions are the same
links-later : (n : ℕ) (first second : ℕ → ℕ) (i count : ℕ) (x y : Turn) (e : ℕ) → (FirstNamed x e → FirstNamed y e)
    → FirstNamed (each_link n first second i count x) e → FirstNamed (each_link n first second i count y) e
unfolding each_link
links-later n first second i zero x y e on f = on f
links-later n first second i (suc count) x y e on f =
    turn-later 3 _ _ _ e (turn-later 4 _ _ _ e (turn-later 20 _ _ _ e (links-later n first second (suc i) count x y e on))) f

module _ (file : List ℕ) (one : number file 3 ≡ 1) where
  not-two : number file 3 ≡ 2 → ⊥
  not-two two = omega (arith, sym one ∙ two)

  given : LengthGiven file → length file ≡ 10 + 4 * file_m file + 2 * file_n file
  given = ⊎_elim (λ p. p.1) (λ p. absurd (not-two p.0))

  turn_of_one_lem : (later : Turn) (e : ℕ) → FirstNamed (file_turn file later) e → FirstNamed (turn_of_one file later) e
  unfolding file_turn turn_of_one
  turn_of_one_lem later e =
      turn-later 9 _ _ _ e (turn-later 7 _ _ _ e
      (turn-changed 8 _ _ e (λ f k. f (inl k)) (λ f k. f one)
      (turn-later 1 _ _ _ e (turn-later 2 _ _ _ e (turn-later 12 _ _ _ e
      (turn-changed 9 _ _ e (λ f k. f (inl (one, k))) (λ f k. f (given k))
      (links-later (file_n file) _ _ 0 (file_m file) _ _ e (turn-later 6 _ _ _ e (turn_without 33 later e (λ r. not-two r.0))))))))))

-- T for each gateway
pub limits-common : (file : List ℕ) → file_version file ≡ 1 → file_limit file ≡ common (file_t file)
unfolding common
limits-common file one = fun_ext (λ v. (limit_said file v).one one)

pub version-one : VersionOne
unfolding VersionOne FileExactly file_version
version-one file one = (turn_of_one_lem file one done (file_refusal file) (file_exactly file), limits-common file one)
