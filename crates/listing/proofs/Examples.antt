-- The text computed for a file of 0 bytes, as which one that can't be opened counts.
use mathlib.Core.Path.{◌≡◌, refl}
use mathlib.Core.List.{[], ◌∷◌}
use Rattle.plant_file.specs.PlantFile.{file_refusal, file_then_short}
use Rattle.plan.specs.Plan.{plan_refusal}
use Rattle.report.specs.Text.{digits_in, digits, spaced, line, refused_line}
use Rattle.listing.specs.Listed.{file_text}

-- refused 9
no_bytes : file_text [] ≡ 114 ∷ 101 ∷ 102 ∷ 117 ∷ 115 ∷ 101 ∷ 100 ∷ 32 ∷ 57 ∷ 10 ∷ []
unfolding file_refusal file_then_short plan_refusal digits_in digits spaced line refused_line file_text
no_bytes = refl
