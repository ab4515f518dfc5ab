-- What is written of a file's limits, by its version, and whether its limit bytes are allowed.
use Prim.Native.Nat.{ℕ, ◌+◌, ◌*◌}
use mathlib.Core.Path.{◌≡◌, sym, ap, ◌∙◌}
use mathlib.Core.Bool.{Bool, true, false}
use mathlib.Core.List.{List}
use native.Mathlib.Omega.{arith}
use lib.ListN.{replicate}
use lib.Dec.{eqb}
use Rattle.packing.specs.Lists.{written}
use Rattle.packing.specs.Plant.{at}
use Rattle.packing.specs.Count.{all}
use Rattle.packing.proofs.Lists.{Listed, list_of_ext, list_of_same}
use Rattle.plant_file.specs.PlantFile.{file_version, file_n, file_t, file_m, kind_byte, limit_byte, effective_limit, file_limit, file_limits, limit_allowed, limits_allowed}
use Rattle.plant_file.specs.Pre.{pair_limits}
use Rattle.plant_file.proofs.Versions.{limit-two, limit_other, allowed_two, allowed_other}

-- a gateway's limit by its pair
abbrev pub pair_limit : List ℕ → ℕ → ℕ
pair_limit file v = effective_limit (file_t file) (kind_byte file v) (limit_byte file v)

-- .. and the test of its limit byte
abbrev pub byte_allowed : List ℕ → ℕ → Bool
byte_allowed file v = limit_allowed (limit_byte file v)

-- the first v pairs were read
pub record PairsRead (file old new : List ℕ) (ok : Bool) (v : ℕ) : Type 0 where
  pub listed : Listed (file_n file) (pair_limit file) old new v
  pub tested : ok ≡ all v (byte_allowed file)

module _ (file : List ℕ) where
  -- .. as the code reads it
  limit-entry : (v : ℕ) {m n limit : ℕ} → m ≡ file_m file → n ≡ file_n file → limit ≡ at file (10 + 4 * m + 2 * n + 2 * v + 1) → limit ≡ limit_byte file v
  unfolding limit_byte
  limit-entry v is_m is-n is = is ∙ rw (is_m, is-n) (ap (at file) place)
    where
      place : 10 + 4 * file_m file + 2 * file_n file + 2 * v + 1 ≡ 11 + 4 * file_m file + 2 * file_n file + 2 * v
      place = omega arith

  pub pair-entry : (v : ℕ) {t m n kind limit x : ℕ} → t ≡ file_t file → m ≡ file_m file → n ≡ file_n file → kind ≡ at file (10 + 4 * m + 2 * n + 2 * v) → limit ≡ at file (10 + 4 * m + 2 * n + 2 * v + 1)
      → x ≡ effective_limit t kind limit → x ≡ pair_limit file v
  unfolding kind_byte
  pair-entry v is-t is_m is-n is-kind is-limit is = is ∙ rw (is-t, is-kind, limit-entry v is_m is-n is-limit, is_m, is-n)

  pub byte-entry : (v : ℕ) {m n limit : ℕ} {a : Bool} → m ≡ file_m file → n ≡ file_n file → limit ≡ at file (10 + 4 * m + 2 * n + 2 * v + 1) → a ≡ limit_allowed limit → a ≡ byte_allowed file v
  byte-entry v is_m is-n is-limit is = is ∙ ap limit_allowed (limit-entry v is_m is-n is-limit)

  -- by whether it has pairs
  module _ (old : List ℕ) {paired : Bool} (is : paired ≡ eqb (file_version file) 2) {new : List ℕ} where
    pub limits-two : {b : Bool} → paired ≡ true → b ≡ all (file_n file) (byte_allowed file) → new ≡ written (file_n file) (pair_limits file) old
        → (b ≡ limits_allowed file) × (new ≡ written (file_n file) (file_limits file) old)
    unfolding pair_limits file_limits
    limits-two h e f = (
      e ∙ sym (allowed_two file (sym is ∙ h)),
      f ∙ ap (λ (l : List ℕ). written (file_n file) l old) (list_of_ext (file_n file) (pair_limit file) (file_limit file) (λ v l. sym (limit-two file (sym is ∙ h) v))),
    )

    pub limits_other : {n t : ℕ} → paired ≡ false → n ≡ file_n file → t ≡ file_t file → new ≡ written n (replicate n t) old
        → (true ≡ limits_allowed file) × (new ≡ written (file_n file) (file_limits file) old)
    unfolding file_limits
    limits_other h is-n is-t f = (
      sym (allowed_other file (sym is ∙ h)),
      (rw (is-n, is-t) at f)
          ∙ ap (λ (l : List ℕ). written (file_n file) l old)
          (sym (list_of_same (file_n file) (file_t file)) ∙ list_of_ext (file_n file) (λ v. file_t file) (file_limit file) (λ v l. sym (limit_other file (sym is ∙ h) v))),
    )
