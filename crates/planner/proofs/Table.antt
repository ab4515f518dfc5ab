-- The tables of specs/Cases.antt: the checker computes that every row holds, and what a row that holds means.
use Prim.Native.Nat.{ℕ, zero, suc, ◌<◌}
use mathlib.Core.Path.{◌≡◌, refl, ap, ◌∙◌}
use mathlib.Core.Bool.{true, ◌&&◌, false≢true}
use mathlib.Core.List.{List, [], ◌∷◌}
use native.Mathlib.Nat.{not-suc-le-zero, le_of_suc-le-suc}
use lib.ListN.{length, get_or}
use lib.Dec.{eqb}
use borrow.Author.Tests.{eqb-true}
use Rattle.packing.specs.Count.{sum, count, sum_over, all, any, first_with}
use Rattle.packing.specs.Lists.{list_of, list_where, written}
use Rattle.packing.specs.Plant.{common, first_links, linked, neighbours}
use Rattle.packing.specs.Grouping.{member_count}
use Rattle.packing.specs.Holders.{holds as heldCount}
use Rattle.packing.specs.Moved.{moved}
use Rattle.packing.specs.Choke.{stranded}
use Rattle.packing.proofs.Tests.{and_l, and_r}
use Rattle.sound.specs.Sound.{numbers_sound, lists_long, is_limit, limits_sound, ends_sound, once_each, holders_linked, holders_within, only_placed_held, is_sound}
use Rattle.search.specs.Search.{held_by, look, visit, turn, turns, walk, shift, settled, placed_holders}
use Rattle.stars.specs.Stars.{holder, back, on_cycle, next_on_cycle, leads_in, leads_in_trees, begins, cut, leads, leader_of, pair_leader, partner, rule_five, leader_list_by, place_of, leader_list}
use Rattle.search.specs.ChokeSet.{without_holder, choke_walk, seen_in, walk_saw, in_choke, choke_byte}
use Rattle.packing.specs.Orders.{up_to, repeats_or_outside}
use Rattle.planner.specs.Refusals.{open_refusal, link_conditions, order_conditions, limit_conditions, place_conditions, read_conditions}
use Rattle.planner.specs.State.{limit_of, sound_state}
use Rattle.planner.specs.Ways.{placed_by}
use Rattle.planner.specs.Calls.{opened, open_call, conditions, call_refusal, changed, call, call_moves, read_leaders, read_choke}
use Rattle.planner.specs.Run.{run, run_moves, link_calls, place_calls_by}
use Rattle.planner.specs.Cases.{Row, stands, limited, reads_after, holds, gives, differs_after, moves, moves_of, after, leaders_of, choke_of, without_link, limits_of, alone_of, same_list, row_holds, empty, one, two, path, star, star_back, star4, star_above, star_below, listed, ring, two_linked, two_linked_back, ring_back, chain, table, early, pairs, moving, limiting, rows_hold, Means}

-- all of them, computed
tables_hold : (rows_hold table ≡ true) × (rows_hold early ≡ true) × (rows_hold pairs ≡ true) × (rows_hold moving ≡ true) × (rows_hold limiting ≡ true)
unfolding sum count sum_over all any list_of list_where common first_links linked neighbours member_count heldCount stranded numbers_sound lists_long is_limit limits_sound ends_sound once_each holders_linked holders_within only_placed_held is_sound held_by look visit turn turns walk shift settled placed_holders placed_by first_with holder back on_cycle next_on_cycle leads_in leads_in_trees begins cut leads leader_of pair_leader partner rule_five leader_list_by place_of leader_list without_holder choke_walk seen_in walk_saw in_choke choke_byte up_to written repeats_or_outside open_refusal link_conditions order_conditions limit_conditions place_conditions read_conditions limit_of sound_state opened open_call conditions call_refusal changed call read_leaders read_choke run link_calls place_calls_by after leaders_of choke_of without_link limits_of alone_of same_list row_holds empty one two path star star_back star4 star_above star_below listed ring two_linked two_linked_back ring_back chain table early pairs moving limiting rows_hold moved call_moves run_moves moves_of
tables_hold = (refl, refl, refl, refl, refl)

pub table-holds : rows_hold table ≡ true
table-holds = tables_hold.0

pub early-holds : rows_hold early ≡ true
early-holds = tables_hold.1

pub pairs_hold : rows_hold pairs ≡ true
pairs_hold = tables_hold.2

pub moving-holds : rows_hold moving ≡ true
moving-holds = tables_hold.3

pub limiting-holds : rows_hold limiting ≡ true
limiting-holds = tables_hold.4

same_list_lem : (l r : List ℕ) → same_list l r ≡ true → l ≡ r
unfolding same_list
same_list_lem [] [] e = refl
same_list_lem [] (y ∷ ys) e = absurd (false≢true e)
same_list_lem (x ∷ xs) [] e = absurd (false≢true e)
same_list_lem (x ∷ xs) (y ∷ ys) e =
    ap (λ (z : ℕ). z ∷ xs) (eqb-true x y (and_l (eqb x y) (same_list xs ys) e)) ∙ ap (λ (l : List ℕ). y ∷ l) (same_list_lem xs ys (and_r (eqb x y) (same_list xs ys) e))

row_means : (r : Row) → row_holds r ≡ true → Means r
unfolding row_holds
row_means (stands p numbers) e = same_list_lem (after p 0).order numbers e
row_means (limited p limits) e = same_list_lem (after p 0).limits limits e
row_means (reads_after p k leaders choke) e = (
  same_list_lem (leaders_of p k) leaders (and_l (same_list (leaders_of p k) leaders) (same_list (choke_of p k) choke) e),
  same_list_lem (choke_of p k) choke (and_r (same_list (leaders_of p k) leaders) (same_list (choke_of p k) choke) e),
)
row_means (holds p k holders) e = same_list_lem (after p k).holders holders e
row_means (moves p k sum) e = eqb-true (moves_of p k) sum e
row_means (gives p k c e) f = eqb-true (call (after p k) c).refusal e f
row_means (differs_after p k without limits alone) e =
    let both = and_l (eqb (without_link p k) without && eqb (limits_of p k) limits) (eqb (alone_of p k) alone) e in (
      eqb-true _ without (and_l (eqb (without_link p k) without) (eqb (limits_of p k) limits) both),
      eqb-true _ limits (and_r (eqb (without_link p k) without) (eqb (limits_of p k) limits) both),
      eqb-true _ alone (and_r (eqb (without_link p k) without && eqb (limits_of p k) limits) (eqb (alone_of p k) alone) e),
    )

rows_mean : (rows : List Row) → rows_hold rows ≡ true → (i : ℕ) → i < length rows → (d : Row) → Means (get_or rows i d)
unfolding rows_hold
rows_mean [] e i l d = absurd (not-suc-le-zero l)
rows_mean (r ∷ rows) e zero l d = row_means r (and_l (row_holds r) (rows_hold rows) e)
rows_mean (r ∷ rows) e (suc i) l d = rows_mean rows (and_r (row_holds r) (rows_hold rows) e) i (le_of_suc-le-suc l) d

-- each row means what it says
pub case : (i : ℕ) → i < length table → (d : Row) → Means (get_or table i d)
case = rows_mean table table-holds

pub early_case : (i : ℕ) → i < length early → (d : Row) → Means (get_or early i d)
early_case = rows_mean early early-holds

pub pairs_case : (i : ℕ) → i < length pairs → (d : Row) → Means (get_or pairs i d)
pairs_case = rows_mean pairs pairs_hold

pub moving_case : (i : ℕ) → i < length moving → (d : Row) → Means (get_or moving i d)
moving_case = rows_mean moving moving-holds

pub limiting_case : (i : ℕ) → i < length limiting → (d : Row) → Means (get_or limiting i d)
limiting_case = rows_mean limiting limiting-holds
