-- 02, change 6: what is claimed of the checker.
use Rattle.std.specs.Prelude.{ℕ, ◌<◌, ◌≤◌, ◌≡◌, ◌⊎◌, ◌↔◌, List, length, take}
use Rattle.packing.specs.Count.{count}
use Rattle.packing.specs.Plant.{at, linked}
use Rattle.packing.specs.Grouping.{covered}
use Rattle.planner.specs.State.{State}
use Rattle.planner.specs.Refusals.{open_refusal}
use Rattle.planner.specs.Calls.{Call, read_leaders, read_choke}
use Rattle.planner.specs.Told.{Told}
use Rattle.planner.specs.Claims.{told_by, OnceRead}
use Rattle.plant_file.specs.PlantFile.{file_n, file_t, file_links, file_limit, file_refusal}
use Rattle.plant_file.specs.FilePlant.{GroupingOf, DifferenceOf}
use Rattle.checker.specs.Check.{in_set, alone_count, check_refusal}

-- "It accepts exactly if every entry is 65535, or its own number with one to T members, or a linked gateway that leads itself, and the choke difference equals the number of 65535 entries."
-- The first is what a grouping is (packing/specs/Grouping.antt), with each leader's own limit for T; the difference goes by the sum of the set's limits (02, change 8). The difference is stated as a sum, so one below zero is no number.
-- A leader list is how many entries it has, and g, which gives each of them: so the same is said of a list of numbers and of bytes.
pub record Accepted (file : List ℕ) (entries : ℕ) (g : ℕ → ℕ) (choke : List ℕ) : Type 0 where
  -- the file is accepted
  pub of_file : file_refusal file ≡ 0
  -- n entries at least, and the first n are a grouping of its plant
  pub enough : file_n file ≤ entries
  pub grouping : GroupingOf file g
  -- n choke bytes at least, and each of the first n is 0 or 1
  pub bytes : file_n file ≤ length choke
  pub zero-or-one : (v : ℕ) → v < file_n file → (at choke v ≡ 0) ⊎ (at choke v ≡ 1)
  -- the difference is the number alone
  pub difference : DifferenceOf file (in_set choke) (alone_count (file_n file) g)

unfoldable pub AcceptsExactly : Type 0
AcceptsExactly = (file leaders choke : List ℕ) → (check_refusal file leaders choke ≡ 0) ↔ Accepted file (length leaders) (at leaders) choke

-- nothing past the first n is looked at
unfoldable pub FirstOnly : Type 0
FirstOnly = (file leaders choke : List ℕ) → check_refusal file (take (file_n file) leaders) (take (file_n file) choke) ≡ check_refusal file leaders choke

-- g covers as many gateways as any grouping of the file's plant can
abbrev pub CoversMost : List ℕ → (ℕ → ℕ) → Type 0
CoversMost file g = (other : ℕ → ℕ) → GroupingOf file other → count (file_n file) (covered other) ≤ count (file_n file) (covered g)

-- "What it accepts covers as many gateways as any grouping can."
unfoldable pub AcceptedCoversMost : Type 0
AcceptedCoversMost = (file leaders choke : List ℕ) → check_refusal file leaders choke ≡ 0 → CoversMost file (at leaders)

-- a leader list that is as good as any: it has n entries, is a grouping, and covers the most
abbrev pub Best : List ℕ → ℕ → (ℕ → ℕ) → Type 0
Best file entries g = (file_n file ≤ entries) × GroupingOf file g × CoversMost file g

-- A choke list that is accepted with some leader list is accepted with just those that are groupings and cover the most. So one of them is enough to check leader lists by any hand.
unfoldable pub OneChokeList : Type 0
OneChokeList =
    (file leaders choke others : List ℕ) → check_refusal file leaders choke ≡ 0
    → (check_refusal file others choke ≡ 0) ↔ Best file (length others) (at others)

-- a file describes the plant told: it has its n, the limit of each gateway, and its links. In which order the links came, and which end of a link is named first, does not matter, and neither does the file's order.
pub record Describes (file : List ℕ) (told : Told) : Type 0 where
  pub gateways : file_n file ≡ told.n
  pub limits : (u : ℕ) → u < file_n file → file_limit file u ≡ told.limit u
  pub links : (x y : ℕ) → linked (file_links file) x y ≡ linked told.links x y

-- "Read's answer for a fully placed record made by accepted calls is always accepted": with every accepted file that describes the plant told.
abbrev pub ReadAcceptedOf : (n : ℕ) (told : Told) (made : State) (leaders choke : List ℕ) → Type 0
ReadAcceptedOf n told made leaders choke =
    (file : List ℕ) → file_refusal file ≡ 0 → Describes file told → check_refusal file (read_leaders made leaders choke) (read_choke made leaders choke) ≡ 0

unfoldable pub ReadAccepted : Type 0
ReadAccepted = OnceRead ReadAcceptedOf

-- There is such a file for every plant told, with the T that open was handed: after an accepted open and any list of calls.
unfoldable pub ToldHasFile : Type 0
ToldHasFile =
    (n t : ℕ) (ls os hs ts : List ℕ) → open_refusal n t os hs ts ≡ 0 → (calls : List Call)
    → (file : List ℕ) × (file_refusal file ≡ 0) × (file_t file ≡ t) × Describes file (told_by n t ls calls)
