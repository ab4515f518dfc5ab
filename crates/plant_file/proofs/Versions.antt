-- What goes by the version: the length that a header gives, the limit of a gateway, and which limit bytes there are to look at.
use Prim.Native.Nat.{ℕ, ◌+◌, ◌*◌, ◌≤◌}
use mathlib.Core.Path.{◌≡◌}
use mathlib.Core.Logic.{◌⊎◌, inl, inr, ⊎_elim}
use mathlib.Core.Bool.{true, false, not, ◌||◌}
use mathlib.Core.List.{List}
use native.Mathlib.Omega.{arith}
use lib.Dec.{eqb}
use borrow.Author.Tests.{eqb-true, eq-eqb, ne_eqb, not-false}
use Rattle.packing.specs.Count.{all}
use Rattle.packing.proofs.Tests.{by_bool, or_cases}
use Rattle.plant_file.specs.PlantFile.{file_version, file_n, file_t, file_m, kind_byte, limit_byte, effective_limit, file_limit, file_length, limit_allowed, limits_allowed}

-- "number 8 now means neither 1 nor 2"
pub one-or-two : (file : List ℕ) → not (eqb (file_version file) 1 || eqb (file_version file) 2) ≡ false → (file_version file ≡ 1) ⊎ (file_version file ≡ 2)
one-or-two file e =
    ⊎_elim (λ p. inl (eqb-true (file_version file) 1 p)) (λ p. inr (eqb-true (file_version file) 2 p)) (or_cases (eqb (file_version file) 1) _ (not-false _ e))

module _ (file : List ℕ) where
  -- version 2
  module _ (two : eqb (file_version file) 2 ≡ true) where
    pub length_two : file_length file ≡ 10 + 4 * file_m file + 4 * file_n file
    unfolding file_length
    length_two = rw two

    pub limit-two : (v : ℕ) → file_limit file v ≡ effective_limit (file_t file) (kind_byte file v) (limit_byte file v)
    unfolding file_limit
    limit-two v = rw two

    pub allowed_two : limits_allowed file ≡ all (file_n file) (λ v. limit_allowed (limit_byte file v))
    unfolding limits_allowed
    allowed_two = rw two

  -- any other is as version 1
  module _ (other : eqb (file_version file) 2 ≡ false) where
    pub length_other : file_length file ≡ 10 + 4 * file_m file + 2 * file_n file
    unfolding file_length
    length_other = rw other

    pub limit_other : (v : ℕ) → file_limit file v ≡ file_t file
    unfolding file_limit
    limit_other v = rw other

    pub allowed_other : limits_allowed file ≡ true
    unfolding limits_allowed
    allowed_other = rw other

  pub length_most : file_length file ≤ 10 + 4 * file_m file + 4 * file_n file
  length_most = by_bool (eqb (file_version file) 2) (λ e. omega (arith, length_two e)) (λ e. omega (arith, length_other e))

  -- the version as a number
  pub is-two : file_version file ≡ 2 → eqb (file_version file) 2 ≡ true
  is-two e = eq-eqb (file_version file) 2 e

  pub is_one : file_version file ≡ 1 → eqb (file_version file) 2 ≡ false
  is_one e = ne_eqb (file_version file) 2 (λ f. omega (arith, e, f))
