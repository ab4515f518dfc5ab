-- Every call that an accepted file stands for is accepted, and so they tell the file's plant.
use Prim.Native.Nat.{ℕ, zero, suc, ◌+◌, ◌*◌, ◌<◌, ◌≤◌}
use mathlib.Core.Path.{◌≡◌, refl, sym, ap, ◌∙◌}
use mathlib.Core.Bool.{true, false}
use mathlib.Core.List.{List, [], ◌∷◌, ◌++◌}
use native.Mathlib.Nat.{not-suc-le-zero, zero-add}
use native.Mathlib.Omega.{arith}
use lib.Dec.{eqb}
use lib.ListN.{length, take, drop, drop_of_length-le}
use lib.Seq.{take_all, take-add}
use borrow.Author.Tests.{le-ltb, lt-leb, eq-eqb, ne_eqb}
use Rattle.packing.specs.Plant.{GATEWAYS, LINKS, LOWEST, HIGHEST, at, common}
use Rattle.packing.proofs.Tests.{by_bool, or-none}
use Rattle.packing.proofs.Flat.{pair-at}
use Rattle.packing.specs.Orders.{up_to, repeats_or_outside}
use Rattle.planner.specs.Refusals.{open_refusal, link_conditions, order_conditions, place_conditions, read_conditions}
use Rattle.planner.specs.declared.Way.{Way}
use Rattle.planner.specs.Calls.{Call, link, order, place_by, read}
use Rattle.planner.specs.Told.{Told, beginning, refuses, accepted, tell}
use Rattle.planner.proofs.LimitsTold.{limits_told, told_at, tells_one, limits-tell}
use Rattle.planner.specs.Run.{link_calls, limit_calls, place_calls_by, plant_calls_by}
use Rattle.packing.proofs.Refusals.{refuse-none, first-none}
use Rattle.plant_file.specs.PlantFile.{file_version, file_n, file_t, file_m, file_links, file_order, file_limit, file_limits, links_refusal, file_refusal}
use Rattle.sound.specs.Sound.{is_limit}
use Rattle.sound.proofs.Meaning.{means_limit}
use Rattle.plant_file.specs.Limits.{LimitsInRange}
use Rattle.plant_file.specs.Pre.{header_refusal}
use Rattle.plant_file.proofs.LinksByIndex.{links-long, order-long}
use Rattle.plant_file.proofs.Refusing.{body_refusal, file_parts}
use Rattle.plant_file.proofs.Versions.{limit_other}
use Rattle.plant_file.proofs.GatewayLimits.{limits-long, limits-at, limits_in_range}
use Rattle.plant_file.proofs.Accepted.{LinkAllowed, file_allowed, file_link_allowed}
use Rattle.plan.specs.Plan.{limits_to_set, calls_by}

-- a link more is two numbers more
twice : (i : ℕ) → 2 * (i + 1) ≡ 2 * i + 2
twice i = omega arith

-- the calls for the links from link i on: the first of them, and that there is none after the last
abbrev pub links_from : List ℕ → ℕ → List Call
links_from file i = link_calls (drop (2 * i) (file_links file))

pub links-next : (file : List ℕ) (i : ℕ) → i < file_m file → links_from file i ≡ link (at (file_links file) (2 * i)) (at (file_links file) (2 * i + 1)) ∷ links_from file (i + 1)
unfolding link_calls
links-next file i l = rw (pair-at (file_links file) (2 * i) (omega (arith, links-long file)), twice i)

pub links_last : (file : List ℕ) → links_from file (file_m file) ≡ []
unfolding link_calls
links_last file = rw (drop_of_length-le (file_links file) {i = 2 * file_m file} (omega (arith, links-long file)))

one_more_lem : (file : List ℕ) (i : ℕ) → i < file_m file → take (2 * (i + 1)) (file_links file) ≡ take (2 * i) (file_links file) ++ (at (file_links file) (2 * i) ∷ at (file_links file) (2 * i + 1) ∷ [])
one_more_lem file i l = rw (twice i) (take-add (2 * i) 2 (file_links file) ∙ rw (pair-at (file_links file) (2 * i) (omega (arith, links-long file))))

module _ (file : List ℕ) (z : file_refusal file ≡ 0) where
  pub open_accepted : (os hs ts : List ℕ) → GATEWAYS ≤ length os → GATEWAYS ≤ length hs → GATEWAYS ≤ length ts → open_refusal (file_n file) (file_t file) os hs ts ≡ 0
  unfolding open_refusal
  open_accepted os hs ts p q r =
      let f = file_allowed file z in
      rw (
        le-ltb GATEWAYS (file_n file) f.few,
        or-none _ _ (le-ltb (file_t file) LOWEST f.least) (le-ltb HIGHEST (file_t file) f.most),
        le-ltb (length os) (file_n file) (omega (arith, f.few)),
        or-none _ _ (le-ltb (length hs) (file_n file) (omega (arith, f.few))) (le-ltb (length ts) (file_n file) (omega (arith, f.few))),
      )

  in_order : repeats_or_outside (file_n file) (file_order file) ≡ false
  in_order =
      let body = (first-none (header_refusal file) (body_refusal file) (sym (file_parts file) ∙ z)).1 in
      (refuse-none (repeats_or_outside (file_n file) (file_order file)) 6 _ (omega arith) (first-none (links_refusal (file_n file) [] (file_links file)) _ body).1).0

-- the limits that a file's calls tell are the file's
unfoldable pub told_limit : List ℕ → ℕ → ℕ
told_limit file = limits_told (common (file_t file)) 0 (limits_to_set file)

-- .. which version 2 sets each, and any other none
pub set-each : (file : List ℕ) → eqb (file_version file) 2 ≡ true → limits_to_set file ≡ file_limits file
unfolding limits_to_set
set-each file e = rw e

pub set-none : (file : List ℕ) → eqb (file_version file) 2 ≡ false → limits_to_set file ≡ []
unfolding limits_to_set
set-none file e = rw e

pub told_limits : (file : List ℕ) (v : ℕ) → v < file_n file → told_limit file v ≡ file_limit file v
unfolding told_limit limits_told common
told_limits file v l =
    by_bool (eqb (file_version file) 2)
    (λ e. rw (set-each file e) ((rw zero-add at (told_at (common (file_t file)) 0 (file_limits file) v (rw (limits-long file) l))) ∙ limits-at file v l))
    (λ e. rw (set-none file e) (sym (limit_other file e v)))

-- they are as many as there are gateways at most, and each is one of 2 to 16
set-few : (file : List ℕ) → length (limits_to_set file) ≤ file_n file
set-few file = by_bool (eqb (file_version file) 2) (λ e. rw (set-each file e, limits-long file) (omega arith)) (λ e. rw (set-none file e) (omega arith))

set_range : (file : List ℕ) → file_refusal file ≡ 0 → (i : ℕ) → i < length (limits_to_set file) → is_limit (at (limits_to_set file) i) ≡ true
unfolding LimitsInRange
set_range file z i h = by_bool (eqb (file_version file) 2) (λ e. two e) (λ e. absurd (not-suc-le-zero (rw (set-none file e) at h)))
  where
    two : eqb (file_version file) 2 ≡ true → is_limit (at (limits_to_set file) i) ≡ true
    two e =
        let below : i < file_n file = rw (set-each file e, limits-long file) at h in
        let (low, high) = limits_in_range file z i below in rw (set-each file e, limits-at file i below) (means_limit (file_limit file i) low high)

module _ (file : List ℕ) (room : ℕ) where
  -- after i links; after the order, with any limits; after k placings
  abbrev links_told : ℕ → Told
  links_told i = record { n = file_n file; t = file_t file; limit = common (file_t file); room = room; links = take (2 * i) (file_links file); m = i; order = up_to (file_n file); placed = 0 }

  abbrev filled_told : (ℕ → ℕ) → ℕ → Told
  filled_told limit k = record { n = file_n file; t = file_t file; limit = limit; room = room; links = file_links file; m = file_m file; order = file_order file; placed = k }

  abbrev pub placed_told : ℕ → Told
  placed_told k = filled_told (told_limit file) k

  link-accepted : (i : ℕ) → 2 * i + 2 ≤ room → i < LINKS → LinkAllowed (file_n file) (take (2 * i) (file_links file)) (at (file_links file) (2 * i)) (at (file_links file) (2 * i + 1))
      → refuses (links_told i) (link (at (file_links file) (2 * i)) (at (file_links file) (2 * i + 1))) ≡ 0
  unfolding refuses link_conditions
  link-accepted i long few f =
      rw (or-none _ _ (lt-leb _ _ f.first) (lt-leb _ _ f.second), ne_eqb _ _ f.differ, f.new, or-none _ _ (ne_eqb i LINKS (λ e. omega arith)) (le-ltb room (2 * i + 2) long))

  place-accepted : (w : Way) (k : ℕ) → k < file_n file → refuses (placed_told k) (place_by w) ≡ 0
  unfolding refuses place_conditions
  place-accepted w k l = rw (ne_eqb k (file_n file) (λ e. omega arith))

  -- j placings more after i make k
  places-tell : (w : Way) (j i k : ℕ) → i + j ≡ k → k ≤ file_n file → tell (placed_told i) (place_calls_by w j) ≡ placed_told k
  unfolding place_calls_by accepted tell
  places-tell w zero i k e l = ap placed_told last
    where
      last : i ≡ k
      last = omega arith
  places-tell w (suc j) i k e l = tells_one (placed_told i) (place_by w) (place_calls_by w j) (place-accepted w i (omega arith)) ∙ places-tell w j (i + 1) k (omega arith) l

  pub read-accepted : (k : ℕ) (leaders choke : List ℕ) → file_n file ≤ length leaders → file_n file ≤ length choke → refuses (placed_told k) (read leaders choke) ≡ 0
  unfolding refuses read_conditions
  read-accepted k leaders choke p q = rw (or-none _ _ (le-ltb (length leaders) (file_n file) p) (le-ltb (length choke) (file_n file) q))

  module _ (z : file_refusal file ≡ 0) (long : 2 * file_m file ≤ room) where
    links-tell : (j i : ℕ) (rest : List Call) → i + j ≡ file_m file → tell (links_told i) (links_from file i ++ rest) ≡ tell (links_told (file_m file)) rest
    unfolding accepted
    links-tell zero i rest e = rw (last, links_last file)
      where
        last : i ≡ file_m file
        last = omega arith
    links-tell (suc j) i rest e =
        rw (links-next file i (omega arith))
        (tells_one (links_told i) _ _ (link-accepted i (omega arith) (omega (arith, (file_allowed file z).links-few)) (file_link_allowed file z i (omega arith)))
        ∙ rw (← one_more_lem file i (omega arith)) (links-tell j (i + 1) rest (omega arith)))

    order-accepted : refuses (links_told (file_m file)) (order (file_order file)) ≡ 0
    unfolding refuses order_conditions
    order-accepted = rw (eq-eqb _ _ (order-long file), in_order file z)

    all-links : take (2 * file_m file) (file_links file) ≡ file_links file
    all-links = take_all (2 * file_m file) (file_links file) (omega (arith, links-long file))

    -- the whole list of calls, with k placings
    pub file_tells : (w : Way) (k : ℕ) → k ≤ file_n file → tell (beginning (file_n file) (file_t file) room) (calls_by w file k) ≡ placed_told k
    unfolding calls_by plant_calls_by beginning accepted told_limit
    file_tells w k l =
        links-tell (file_m file) 0 (order (file_order file) ∷ limit_calls 0 (limits_to_set file) ++ place_calls_by w k) (omega arith)
        ∙ tells_one (links_told (file_m file)) (order (file_order file)) (limit_calls 0 (limits_to_set file) ++ place_calls_by w k) order-accepted
        ∙ rw all-links (limits-tell (filled_told (common (file_t file)) 0) 0 (limits_to_set file) (place_calls_by w k) refl (omega (arith, set-few file)) (set_range file z) ∙ places-tell w k 0 k (omega arith) l)
