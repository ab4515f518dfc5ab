-- A file cut off one byte after the length of the longest plant file: its refusal stays, and so does the file where it is accepted.
use Prim.Native.Nat.{ℕ, ◌+◌, ◌*◌, ◌<◌, ◌≤◌}
use mathlib.Core.Path.{◌≡◌, refl, sym, ap, ◌∙◌}
use mathlib.Core.Bool.{false, not, ◌||◌}
use mathlib.Core.List.{List}
use native.Mathlib.Omega.{arith}
use lib.Dec.{eqb, ltb}
use lib.ListN.{length, take}
use lib.Seq.{take_all, get_or-take, length-take-le}
use borrow.Author.Tests.{ltb-true, ltb-false, le-ltb, ne_eqb}
use Rattle.packing.specs.Plant.{GATEWAYS, LINKS, LOWEST, HIGHEST, at}
use Rattle.packing.specs.Refusals.{refuse}
use Rattle.packing.proofs.Tests.{by_bool}
use Rattle.plant_file.specs.PlantFile.{LONGEST, number, file_version, file_n, file_t, file_m, file_length, begins_plt, file_refusal}
use Rattle.plant_file.proofs.Versions.{length_most}
use Rattle.plant_file.proofs.Accepted.{file_allowed}

-- of the two lengths the longer one, "10 + 4m + 4n"
longest_is : LONGEST ≡ 10 + 4 * LINKS + 4 * GATEWAYS
longest_is = refl

-- no accepted file is longer
pub accepted_short : (file : List ℕ) → file_refusal file ≡ 0 → length file ≤ LONGEST
accepted_short file z = let a = file_allowed file z in omega (arith, a.few, a.links-few, a.long, length_most file)

-- what a longer file is refused for: its header, and at last its length
abbrev long_refusal : List ℕ → ℕ
long_refusal file =
    refuse (not (begins_plt file)) 7
    (refuse (not (eqb (file_version file) 1 || eqb (file_version file) 2)) 8
    (refuse (ltb GATEWAYS (file_n file)) 1
    (refuse (ltb (file_t file) LOWEST || ltb HIGHEST (file_t file)) 2
    (refuse (ltb LINKS (file_m file)) 12 9))))

long-refused : (file : List ℕ) → LONGEST < length file → file_refusal file ≡ long_refusal file
unfolding file_refusal
long-refused file h =
    rw (le-ltb (length file) 10 (omega arith))
    (by_bool (ltb GATEWAYS (file_n file)) (λ e. rw e)
    (λ e. rw e (by_bool (ltb LINKS (file_m file)) (λ f. rw f)
    (λ f. rw (f, other (ltb-false GATEWAYS (file_n file) e) (ltb-false LINKS (file_m file) f))))))
  where
    other : file_n file ≤ GATEWAYS → file_m file ≤ LINKS → eqb (length file) (file_length file) ≡ false
    other p q = ne_eqb (length file) (file_length file) (λ e. omega (arith, length_most file))

-- the header is within the cut
module _ (file : List ℕ) where
  abbrev cut : List ℕ
  cut = take (LONGEST + 1) file

  cut_at : (i : ℕ) → i ≤ LONGEST → at cut i ≡ at file i
  cut_at i h = get_or-take (LONGEST + 1) file i 0 (omega arith)

  cut-number : (i : ℕ) → i < LONGEST → number cut i ≡ number file i
  unfolding number
  cut-number i h = rw (cut_at i (omega arith), cut_at (i + 1) (omega arith))

  cut-begins : begins_plt cut ≡ begins_plt file
  unfolding begins_plt
  cut-begins = rw (cut_at 0 (omega arith), cut_at 1 (omega arith), cut_at 2 (omega arith))

  cut_header : long_refusal cut ≡ long_refusal file
  unfolding file_version file_n file_t file_m
  cut_header = rw (cut-begins, cut-number 3 (omega arith), cut-number 5 (omega arith), cut_at 7 (omega arith), cut-number 8 (omega arith))

  pub cut-refusal : file_refusal cut ≡ file_refusal file
  cut-refusal = by_bool (ltb LONGEST (length file)) (λ e. longer (ltb-true LONGEST (length file) e)) (λ e. short (ltb-false LONGEST (length file) e))
    where
      longer : LONGEST < length file → file_refusal cut ≡ file_refusal file
      longer h = long-refused cut (omega (arith, length-take-le (LONGEST + 1) file (omega arith))) ∙ cut_header ∙ sym (long-refused file h)

      short : length file ≤ LONGEST → file_refusal cut ≡ file_refusal file
      short h = ap file_refusal (take_all (LONGEST + 1) file (omega arith))

  pub cut-accepted : file_refusal file ≡ 0 → cut ≡ file
  cut-accepted z = take_all (LONGEST + 1) file (omega (arith, accepted_short file z))
