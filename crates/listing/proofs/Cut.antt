-- The text of a file that is cut off one byte after the length of the longest plant file.
use Prim.Native.Nat.{ℕ, ◌+◌}
use mathlib.Core.Path.{◌≡◌, refl, sym, ap, ◌∙◌}
use mathlib.Core.List.{List}
use lib.Dec.{eqb}
use lib.ListN.{take}
use borrow.Author.Tests.{eqb-true, eqb-false}
use Rattle.packing.proofs.Tests.{by_bool}
use Rattle.plant_file.specs.PlantFile.{LONGEST, file_refusal}
use Rattle.plant_file.proofs.Refusing.{then_file}
use Rattle.plant_file.proofs.Cut.{cut-refusal, cut-accepted}
use Rattle.plan.specs.Plan.{plan_refusal}
use Rattle.report.specs.Text as text
use Rattle.listing.specs.Listed.{file_text}
use Rattle.listing.specs.Reading.{SameWhenCut}
use Rattle.listing.proofs.Texts.{text_refused}

-- a refused file's text goes by its number alone
refused_text : (file : List ℕ) → (file_refusal file ≡ 0 → ⊥) → file_text file ≡ text.refused_line (file_refusal file)
unfolding file_text plan_refusal
refused_text file z = rw (← then_file file _ refl z) (text_refused (file_refusal file) _ z)

pub same_when_cut : SameWhenCut
unfolding SameWhenCut
same_when_cut file = by_bool (eqb (file_refusal file) 0) (λ e. ap file_text (cut-accepted file (eqb-true (file_refusal file) 0 e))) (λ e. refused (eqb-false (file_refusal file) 0 e))
  where
    refused : (file_refusal file ≡ 0 → ⊥) → file_text (take (LONGEST + 1) file) ≡ file_text file
    refused z = refused_text (take (LONGEST + 1) file) (λ e. z (sym (cut-refusal file) ∙ e)) ∙ ap text.refused_line (cut-refusal file) ∙ sym (refused_text file z)
