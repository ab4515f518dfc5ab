-- 01, "The plant file and the listing": the text for a file's bytes.
use Rattle.std.specs.Prelude.{ℕ, zero, suc, List, replicate}
use Rattle.packing.specs.Plant.{GATEWAYS}
use Rattle.plant_file.specs.PlantFile.{file_n, file_t}
use Rattle.plan.specs.Plan.{plan_refusal, plan_leaders, plan_choke}
use Rattle.report.specs.Text as text

-- "A refused file gives the one line "refused", a space and the number"
abbrev pub text_by : ℕ → List ℕ → List ℕ
text_by zero listing = listing
text_by (suc e) listing = text.refused_line (suc e)

-- the listing of the plan, read into lists with room for every plant
unfoldable pub file_text : List ℕ → List ℕ
file_text file =
    text_by (plan_refusal file GATEWAYS GATEWAYS)
    (text.listing (file_n file) (file_t file) (plan_leaders file (replicate GATEWAYS 0) (replicate GATEWAYS 0)) (plan_choke file (replicate GATEWAYS 0) (replicate GATEWAYS 0)))
