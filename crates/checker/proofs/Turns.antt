-- The refusals in words.
use Prim.Native.Nat.{ℕ, ◌<◌, ◌≤◌}
use mathlib.Core.Path.{◌≡◌, sym}
use mathlib.Core.Logic.{inl, inr, ⊎_elim}
use mathlib.Core.List.{List}
use native.Mathlib.Omega.{arith}
use lib.Dec.{ltb}
use lib.ListN.{length}
use borrow.Author.Tests.{ltb-true, ltb-false}
use Rattle.packing.specs.Plant.{at, linked}
use Rattle.packing.proofs.Tests.{by_bool}
use Rattle.packing.proofs.Below.{grouping-below}
use Rattle.packing.specs.Turns.{done}
use Rattle.packing.proofs.Turns.{Says, turn-done, turn-named, says_less, says_either, says-not}
use Rattle.packing.proofs.Checks.{says-grouping, says-difference, says_some}
use Rattle.plant_file.specs.PlantFile.{file_n, file_links, file_limit}
use Rattle.plant_file.proofs.Turns.{file_then}
use Rattle.checker.specs.Check.{in_set, alone_count, leaders_off, choke_off, lists_refusal, check_refusal}
use Rattle.checker.specs.Turns.{NoPacking, ChokeOff, CheckExactly}

module _ (file leaders : List ℕ) where
  pub says_leaders : Says (leaders_off (file_n file) (file_limit file) (linked (file_links file)) leaders) (NoPacking file (length leaders) (at leaders))
  unfolding leaders_off
  says_leaders = says_either _ _ (says_less (length leaders) (file_n file)) (says-not _ (says-grouping (file_n file) (file_limit file) (linked (file_links file)) (at leaders)))

  pub says_choke : (choke : List ℕ) → Says (choke_off (file_n file) (file_limit file) (linked (file_links file)) leaders choke) (ChokeOff file (at leaders) choke)
  unfolding choke_off
  says_choke choke =
      says_either _ _ (says_either _ _ (says_less (length choke) (file_n file)) (says_some (file_n file) _ (λ v. says_less 1 (at choke v))))
      (says-not _ (says-difference (file_n file) (file_limit file) (linked (file_links file)) (in_set choke) (alone_count (file_n file) (at leaders))))

-- only the first n entries are looked at, where there are n
pub no_packing_below : (file : List ℕ) {entries : ℕ} {g h : ℕ → ℕ} → (file_n file ≤ entries → (v : ℕ) → v < file_n file → g v ≡ h v) → NoPacking file entries g → NoPacking file entries h
no_packing_below file {entries} {g} {h} same p =
    by_bool (ltb entries (file_n file)) (λ e. inl (ltb-true entries (file_n file) e))
    (λ e. let enough = ltb-false entries (file_n file) e in
    ⊎_elim (λ q. absurd (omega arith)) (λ none. inr (λ group. none (grouping-below (file_n file) (file_limit file) (linked (file_links file)) h g (λ v l. sym (same enough v l)) group))) p)

pub check_exactly : CheckExactly
unfolding CheckExactly check_refusal lists_refusal
check_exactly file leaders choke = file_then file _ _ (turn-named _ 31 _ _ (says_leaders file leaders) (λ _. turn-named _ 32 0 done (says_choke file leaders choke) (λ _. turn-done)))
