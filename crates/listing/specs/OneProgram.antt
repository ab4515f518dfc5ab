-- 00: "Two programs of ours form groups: one at the release desk, one in the gateway daemon. They must become one."
-- The desk's is the listing, the daemon's the call from C: what the one prints is the text of what the other's bytes say. proofs/OneProgram.antt proves it.
use Rattle.std.specs.Prelude.{ℕ, ◌+◌, ◌*◌, ◌≤◌, ◌≡◌, List, length}
use Rattle.packing.specs.Lists.{list_of}
use Rattle.plant_file.specs.PlantFile.{file_n, file_t}
use Rattle.report.specs.Text as text
use Rattle.daemon.specs.Groups.{groups_refusal, groups_out}
use Rattle.daemon.specs.Claim.{leader_at, choke_at}
use Rattle.listing.specs.Listed.{text_by, file_text}

-- the text of a number and bytes that the call gave for a file
unfoldable pub text_of : List ℕ → ℕ → List ℕ → List ℕ
text_of file number bytes = text_by number (text.listing (file_n file) (file_t file) (list_of (file_n file) (leader_at bytes)) (list_of (file_n file) (choke_at (file_n file) bytes)))

-- for every file, accepted or refused, and every lent list with room for every plant
unfoldable pub OneProgram : Type 0
OneProgram = (file out : List ℕ) → 3 * 1024 + 4 ≤ length out → file_text file ≡ text_of file (groups_refusal file (length out)) (groups_out file out)
