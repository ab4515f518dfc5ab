-- What the contracts of private functions cite. A reader of the public ones needs none of it. file is the list of bytes, w the way of placing.
use Rattle.std.specs.Prelude.{ℕ, ◌<◌, ◌≤◌, ◌≡◌, Bool, true, false, List, length, replicate}
use Rattle.packing.specs.Plant.{GATEWAYS, HIGHEST, NONE, at}
use Rattle.chains.specs.Index.{IndexFor}
use Rattle.search.specs.Search.{seen}
use Rattle.search.specs.RowPre.{RowsOf}
use Rattle.search.specs.ChokeSet.{in_choke}
use Rattle.search.specs.Dead.{DeadThen}
use Rattle.planner.specs.declared.Way.{Way}
use Rattle.planner.specs.declared.Way.TheVariants.{Queued, Recursive}
use Rattle.plant_file.specs.PlantFile.{file_n, file_links, file_order, file_limit, file_refusal}
use Rattle.plan.specs.Plan.{state_by}
use Rattle.plan.specs.declared.work.Work.{Work}

-- the way is 01's search
unfoldable pub is_queued : Way → Bool
is_queued Queued = true
is_queued Recursive = false

-- the dead after a placing: the short search passes nobody by
abbrev pub DeadBy : Way → (n : ℕ) (limit : ℕ → ℕ) (ls hs : List ℕ) (v : ℕ) (dead hs' dead' : List ℕ) → Type 0
DeadBy Queued n limit ls hs v dead hs' dead' = DeadThen n limit ls hs v dead hs' dead'
DeadBy Recursive n limit ls hs v dead hs' dead' = dead' ≡ dead

-- the lists of an accepted file, with the index of its links: limits and order from their first n entries
pub record Loaded (file ls next os ts : List ℕ) : Type 0 where
  pub accepted : file_refusal file ≡ 0
  pub links : ls ≡ file_links file
  pub index : IndexFor (file_n file) ls next
  pub order-long : file_n file ≤ length os
  pub order : (i : ℕ) → i < file_n file → at os i ≡ at (file_order file) i
  pub limits-long : file_n file ≤ length ts
  pub limits : (u : ℕ) → u < file_n file → at ts u ≡ file_limit file u

-- what k placings of such a file work on: holders of which none is one, their rows, a queue, marks of nobody, and room to note whom a search marks
pub record Placings (w : Way) (file : List ℕ) (k : ℕ) (work : Work) : Type 0 where
  pub within : k ≤ file_n file
  pub first : work.held.holders.now ≡ (state_by w file 0).holders
  pub table : RowsOf (file_n file) work.held.holders.now work.held.rows.now
  pub places : file_n file ≤ length work.queue.now
  pub none : work.dead.now ≡ replicate (file_n file) NONE
  pub room : file_n file ≤ length work.looked.now

-- once all are placed by 01's search, those marked are the choke set
abbrev pub DeadChoke : Way → List ℕ → ℕ → List ℕ → Type 0
DeadChoke w file k dead = is_queued w ≡ true → k ≡ file_n file → (length dead ≡ file_n file) × ((u : ℕ) → u < file_n file → seen dead u ≡ in_choke (file_n file) (file_links file) (state_by w file k).holders u)

-- rows for n gateways, with nobody in them
pub record NobodyIn (n : ℕ) (rows : List (List ℕ)) : Type 0 where
  pub wide : n ≤ length rows
  pub most : length rows ≤ GATEWAYS
  pub empty : rows ≡ replicate (length rows) (replicate HIGHEST NONE)

-- what k placings start from: rows with nobody in them, lists of zeros for the holders, a queue, marks of nobody, and room to note whom a search marks
pub record Making (file : List ℕ) (k : ℕ) (work : Work) : Type 0 where
  pub within : k ≤ file_n file
  pub nobody : NobodyIn (file_n file) work.held.rows.now
  pub zeros : work.held.holders.now ≡ replicate GATEWAYS 0
  pub places : file_n file ≤ length work.queue.now
  pub none : work.dead.now ≡ replicate (file_n file) NONE
  pub room : file_n file ≤ length work.looked.now

-- what the choke bytes are written from
pub record Choking (w : Way) (file : List ℕ) (k : ℕ) (work : Work) (choke : List ℕ) : Type 0 where
  pub within : k ≤ file_n file
  pub made : work.held.holders.now ≡ (state_by w file k).holders
  pub table : RowsOf (file_n file) work.held.holders.now work.held.rows.now
  pub places : file_n file ≤ length work.queue.now
  pub marks : length work.dead.now ≡ file_n file
  pub dead_choke : DeadChoke w file k work.dead.now
  pub room : file_n file ≤ length choke

-- what a plan is written to
pub record Readable (file : List ℕ) (k : ℕ) (leaders choke : List ℕ) : Type 0 where
  pub within : k ≤ file_n file
  pub room : file_n file ≤ length leaders
  pub room₂ : file_n file ≤ length choke
