-- What load gives: its answer, and the three lent lists after it; and the list that order writes.
use Rattle.std.specs.Prelude.{ℕ, ◌*◌, cond, ◌||◌, List, ltb, leb, length}
use Rattle.packing.specs.Lists.{written}
use Rattle.packing.specs.Refusals.{by_number}
use Rattle.plant_file.specs.PlantFile.{file_n, file_m, file_links, file_order, file_limits, file_then_short}

-- the file's number, "then 10": a lent list too short for the 2m numbers of the links, for the n of the order, or for the n limits
unfoldable pub load_refusal : List ℕ → ℕ → ℕ → ℕ → ℕ
load_refusal file linksLen orderLen limitsLen = file_then_short file (ltb linksLen (2 * file_m file) || ltb orderLen (file_n file) || ltb limitsLen (file_n file))

-- the links in the first 2m places; all as it was on refusal
unfoldable pub load_links : List ℕ → List ℕ → List ℕ → List ℕ → List ℕ
load_links file links order limits =
    by_number (load_refusal file (length links) (length order) (length limits)) (written (2 * file_m file) (file_links file) links) links

-- the order in the first n places; all as it was on refusal
unfoldable pub load_order : List ℕ → List ℕ → List ℕ → List ℕ → List ℕ
load_order file links order limits =
    by_number (load_refusal file (length links) (length order) (length limits)) (written (file_n file) (file_order file) order) order

-- the limits in the first n places; all as it was on refusal
unfoldable pub load_limits : List ℕ → List ℕ → List ℕ → List ℕ → List ℕ
load_limits file links order limits =
    by_number (load_refusal file (length links) (length order) (length limits)) (written (file_n file) (file_limits file) limits) limits

-- the order alone, of any bytes: in the first n places, where there are as many
unfoldable pub order_written : List ℕ → List ℕ → List ℕ
order_written file out = cond (leb (file_n file) (length out)) (written (file_n file) (file_order file) out) out
