-- The limit of each gateway: what it goes by, its range, and the list of all.
use Prim.Native.Nat.{ℕ, ◌<◌, ◌≤◌}
use mathlib.Core.Path.{◌≡◌, refl, sym, ◌∙◌}
use mathlib.Core.Bool.{true, not}
use mathlib.Core.List.{List}
use native.Mathlib.Omega.{arith}
use lib.Dec.{eqb, ltb, leb}
use lib.ListN.{length}
use borrow.Author.Tests.{eqb-false, ne_eqb, lt-ltb, le-ltb, leb-true, not-true}
use Rattle.packing.specs.Plant.{LOWEST, HIGHEST, at}
use Rattle.packing.proofs.Tests.{by_bool, and_l, and_r, all_elim}
use Rattle.packing.proofs.Lists.{list_of-length, list_of-at}
use Rattle.plant_file.specs.PlantFile.{file_version, file_n, file_t, kind_byte, limit_byte, limit_of_kind, effective_limit, file_limit, file_limits, limit_allowed, limits_allowed}
use Rattle.plant_file.specs.Limits.{KindsTake, LimitSaid, LimitsSaid, LimitsInRange}
use Rattle.plant_file.proofs.Versions.{limit-two, limit_other, allowed_two, is_one, is-two}
use Rattle.plant_file.proofs.Accepted.{file_allowed}

-- the list of the limits
pub limits-long : (file : List ℕ) → length (file_limits file) ≡ file_n file
unfolding file_limits
limits-long file = list_of-length (file_n file) (file_limit file)

pub limits-at : (file : List ℕ) (v : ℕ) → v < file_n file → at (file_limits file) v ≡ file_limit file v
unfolding file_limits
limits-at file = list_of-at (file_n file) (file_limit file)

-- each kind, by its range
pub kinds_take : (t : ℕ) → KindsTake t
unfolding limit_of_kind
kinds_take t =
    record {
      zero = refl;
      two = λ kind h k. rw (ne_eqb kind 0 (omega arith), lt-ltb kind 32 (omega arith));
      four = λ kind h k. rw (ne_eqb kind 0 (omega arith), le-ltb kind 32 (omega arith), lt-ltb kind 128 (omega arith));
      eight = λ kind h k. rw (ne_eqb kind 0 (omega arith), le-ltb kind 32 (omega arith), le-ltb kind 128 (omega arith), lt-ltb kind 192 (omega arith));
      sixteen = λ kind h k. rw (ne_eqb kind 0 (omega arith), le-ltb kind 32 (omega arith), le-ltb kind 128 (omega arith), le-ltb kind 192 (omega arith));
    }

-- a limit byte that is not 0 counts as written
pub limit-written : (t kind limit : ℕ) → (limit ≡ 0 → ⊥) → effective_limit t kind limit ≡ limit
unfolding effective_limit
limit-written t kind limit h = rw (ne_eqb limit 0 h)

pub limit_said : (file : List ℕ) (v : ℕ) → LimitSaid file v
unfolding effective_limit
limit_said file v =
    record {
      one = λ e. limit_other file (is_one file e) v;
      written = λ e low high. limit-two file (is-two file e) v ∙ limit-written (file_t file) (kind_byte file v) (limit_byte file v) (λ z. omega arith);
      by_kind = λ e z. limit-two file (is-two file e) v ∙ rw z;
    }

pub limits_said : LimitsSaid
unfolding LimitsSaid
limits_said = (kinds_take, limit_said)

-- one of 2 to 16
abbrev TwoToSixteen : ℕ → Type 0
TwoToSixteen x = (LOWEST ≤ x) × (x ≤ HIGHEST)

-- a kind's limit is, where T is
kind_range : (t kind : ℕ) → TwoToSixteen t → TwoToSixteen (limit_of_kind t kind)
unfolding limit_of_kind
kind_range t kind r =
    by_bool (eqb kind 0) (λ e. rw e r)
    (λ e. rw e (by_bool (ltb kind 32) (λ f. rw f (omega arith, omega arith))
    (λ f. rw f (by_bool (ltb kind 128) (λ g. rw g (omega arith, omega arith))
    (λ g. rw g (by_bool (ltb kind 192) (λ h. rw h (omega arith, omega arith)) (λ h. rw h (omega arith, omega arith))))))))

-- .. and so is that of a pair whose limit byte is allowed
pair_range : (t kind limit : ℕ) → TwoToSixteen t → limit_allowed limit ≡ true → TwoToSixteen (effective_limit t kind limit)
unfolding effective_limit limit_allowed
pair_range t kind limit r a =
    by_bool (eqb limit 0) (λ e. rw e (kind_range t kind r))
    (λ e. rw e (two (eqb-false limit 0 e) (eqb-false limit 1 (not-true (eqb limit 1) (and_l _ (leb limit HIGHEST) a))) (leb-true limit HIGHEST (and_r (not (eqb limit 1)) _ a))))
  where
    two : (limit ≡ 0 → ⊥) → (limit ≡ 1 → ⊥) → limit ≤ HIGHEST → TwoToSixteen limit
    two p q h = (omega arith, h)

-- each limit of a file with a T of 2 to 16 and no limit byte of 1 or above 16
said_range : (file : List ℕ) → TwoToSixteen (file_t file) → limits_allowed file ≡ true → (v : ℕ) → v < file_n file → TwoToSixteen (file_limit file v)
said_range file r a v l =
    by_bool (eqb (file_version file) 2)
    (λ e. rw (limit-two file e v) (pair_range (file_t file) (kind_byte file v) (limit_byte file v) r (all_elim (file_n file) (λ v. limit_allowed (limit_byte file v)) (sym (allowed_two file e) ∙ a) v l)))
    (λ e. rw (limit_other file e v) r)

pub limits_in_range : LimitsInRange
unfolding LimitsInRange
limits_in_range file z = let a = file_allowed file z in said_range file (a.least, a.most) a.limits
