-- The table through a shift: each round moves one gateway from one row to another. And that a search for v that found a place free gives a shift that keeps the table.
use Prim.Native.Nat.{ℕ, zero, suc, ◌+◌, ◌-◌, ◌<◌, ◌≤◌}
use mathlib.Core.Path.{◌≡◌, refl, sym, ap, ◌∙◌}
use mathlib.Core.Bool.{Bool}
use mathlib.Core.List.{List, [], ◌∷◌}
use native.Mathlib.Nat.{sub-zero}
use native.Mathlib.Omega.{arith}
use lib.Dec.{eqb}
use lib.ListN.{length, set, length-set}
use lib.Seq.{get_or-set_other}
use borrow.Author.Tests.{eqb-true, eq-eqb, le-ltb, ltb-true}
use Rattle.packing.specs.Count.{pick}
use Rattle.packing.specs.Plant.{NONE, GATEWAYS, HIGHEST, at}
use Rattle.packing.specs.Holders.{holds}
use Rattle.packing.proofs.Tests.{by_bool}
use Rattle.search.specs.Search.{found, walk, shift}
use Rattle.search.specs.Pre.{takings, Placeable}
use Rattle.search.specs.Table.{row_at}
use Rattle.search.specs.RowPre.{RowsOf, TakenFor, RowsFit, RowsKept, exchanged_row}
use Rattle.search.proofs.RowExchange.{Packed}
use Rattle.search.proofs.RowMoves.{rows_packed, nobody_goes, rows_handed, rows_unheld}
use Rattle.search.proofs.Taken.{taken_other, taken-holds}
use Rattle.search.proofs.Shifting.{Rounds, rounds_start, rounds_turn, rounds_done, rounds_end, Chain, chain_next, not_its_holder}
use Rattle.search.proofs.Placing.{walk-found}

-- After k rounds the rows are those of the holders, but that gone, whom the taker is to let go, still stands in its row; and the rounds that are left fit. At first nobody is to go.
pub record RowRounds (n v u x : ℕ) (from hs₀ : List ℕ) (rows₀ : List (List ℕ)) (hs : List ℕ) (rows : List (List ℕ)) (taker taken gone k : ℕ) : Type 0 where
  pub rounds : Rounds n v u x from hs₀ hs taker taken k
  pub wide : length rows ≡ length rows₀
  pub own : at hs v ≡ at hs₀ v
  pub kept : n ≤ GATEWAYS → n ≤ length hs₀ → RowsFit n n v from u x hs₀ → RowsOf n hs₀ rows₀
      → RowsFit (n - k) n v from taker taken hs × RowsOf n hs (exchanged_row gone NONE taker rows) × Packed (row_at rows taker)

module _ (n v u x : ℕ) (from hs₀ : List ℕ) (rows₀ : List (List ℕ)) where
  pub row_rounds_start : RowRounds n v u x from hs₀ rows₀ hs₀ rows₀ u x NONE 0
  row_rounds_start =
      record {
        rounds = rounds_start n v u x from hs₀;
        wide = refl;
        own = refl;
        kept = λ few long fits is. let packed = rows_packed is few u in (rw sub-zero fits, rw (nobody_goes rows₀ u packed) is, packed);
      }

  module _
      {hs : List ℕ} {rows : List (List ℕ)} {taker taken gone k : ℕ} (r : RowRounds n v u x from hs₀ rows₀ hs rows taker taken gone k) (l : k < n)
      {old : ℕ} {hs' : List ℕ} {rows' : List (List ℕ)} (t : TakenFor taken gone taker hs hs' rows rows' old)
    where
      -- the rows after one more round, and the rounds then left
      one_more_lem : n ≤ GATEWAYS → n ≤ length hs₀ → RowsFit n n v from u x hs₀ → RowsOf n hs₀ rows₀
          → RowsOf n hs' (exchanged_row taken NONE old rows') × Packed (row_at rows' old) × ((taken ≡ v → ⊥) → RowsFit (n - (k + 1)) n v from (at hs taken) (at from (at hs taken)) (set hs taken taker))
      unfolding RowsFit
      one_more_lem few long fits is =
          let before = r.kept few long fits is in
          let next : n - k ≡ suc (n - (k + 1)) = omega arith in
          let round = rw next at before.0 in
          let then = rows_handed n hs rows gone taken taker few round.0 before.2 round.2 (rw r.rounds.same long) round.1 before.1 in
          (rw (t.table, t.holders, t.old) then.0, rw (t.table, t.old) then.1, round.3)

      pub row_rounds_turn : {taken' : ℕ} → length rows' ≡ length rows → (taken ≡ v → ⊥) → taken' ≡ at from old → RowRounds n v u x from hs₀ rows₀ hs' rows' old taken' taken (k + 1)
      row_rounds_turn same go next =
          record {
            rounds = rounds_turn n v u x from hs₀ r.rounds l t.old t.holders go next;
            wide = same ∙ r.wide;
            own = rw t.holders (get_or-set_other hs taken v taker 0 (λ q. go (sym q)) ∙ r.own);
            kept = λ few long fits is. let m = one_more_lem few long fits is in (rw (next, t.old, t.holders) (m.2 go), m.0, m.1);
          }

      pub row_rounds_done : taken ≡ v → (hs' ≡ shift n v from u x hs₀) × ((k + 1 ≡ takings n v from u x hs₀) × RowsKept n v from u x hs₀ rows₀ rows')
      unfolding RowsKept
      row_rounds_done done =
          let e = rounds_done n v u x from hs₀ r.rounds l t.holders done in
          (e.0, (e.1, λ few long none fits is. rw (← e.0) (rows_unheld taken old rows' (omega (arith, t.old ∙ ap (at hs) done ∙ r.own ∙ none)) (one_more_lem few long fits is).0)))

  -- there is no shift that fits and does not come to v
  pub row_rounds_end : {hs : List ℕ} {rows : List (List ℕ)} {taker taken gone k : ℕ} → RowRounds n v u x from hs₀ rows₀ hs rows taker taken gone k → n ≤ k
      → (hs ≡ shift n v from u x hs₀) × ((k ≡ takings n v from u x hs₀) × RowsKept n v from u x hs₀ rows₀ rows)
  unfolding RowsKept RowsFit
  row_rounds_end {k = k} r l =
      let e = rounds_end n v u x from hs₀ r.rounds l in
      let out : n - k ≡ 0 = omega arith in
      (e.0, (e.1, λ few long none fits is. absurd (rw out at (r.kept few long fits is).0)))

-- Along a chain each that is taken has a holder, but v. Nobody holds more than a row has places, in any round: each taker has a place free when it takes.
module _ (n : ℕ) (ls : List ℕ) (v : ℕ) (from : List ℕ) (inside : v < n) (few : n ≤ GATEWAYS) where
  chain_fits : (fuel k : ℕ) (hs : List ℕ) (u x : ℕ) → k < fuel → n ≤ length hs → u < n → Chain n ls v from inside hs k x → ((w : ℕ) → w < n → holds n (at hs) w ≤ HIGHEST)
      → holds n (at hs) u < HIGHEST → at hs v ≡ NONE → at from u ≡ x → RowsFit fuel n v from u x hs
  unfolding RowsFit Chain
  chain_fits zero k hs u x less long l c most free none seer = absurd (omega arith)
  chain_fits (suc fuel) zero hs u x less long l c most free none seer =
      (rw c inside, λ q. absurd (omega (arith, ap (at hs) c, none, q)), not_its_holder n ls v from inside hs zero u x l (le-ltb (at hs v) n (omega (arith, none))) seer (unfold Chain in c), λ go. absurd (go c))
  chain_fits (suc fuel) (suc k) hs u x less long l c most free none seer =
      let old : at hs x < n = ltb-true _ _ c.2 in (
        c.1,
        λ q. most (at hs x) old,
        not_its_holder n ls v from inside hs (suc k) u x l (le-ltb (at hs v) n (omega (arith, none))) seer (unfold Chain in c),
        λ go. chain_fits fuel k (set hs x u) (at hs x) (at from (at hs x)) (omega arith) (rw length-set long) old (chain_next n ls v from inside hs x u k c) within freed
            (taken_other n hs x u long c.1 v (λ e. c.0 (sym e)) ∙ none) refl,
      )
    where
      one : (w : ℕ) → pick (eqb w w) 1 ≡ 1
      one w = ap (λ (b : Bool). pick b 1) (eq-eqb w w refl)

      within : (w : ℕ) → w < n → holds n (at (set hs x u)) w ≤ HIGHEST
      within w f =
          by_bool (eqb u w) (λ q. rw (← eqb-true u w q) (omega (arith, taken-holds n hs x u long c.1 u, one u)))
          (λ q. omega (arith, most w f, taken-holds n hs x u long c.1 w, ap (λ (b : Bool). pick b 1) q))

      freed : holds n (at (set hs x u)) (at hs x) < HIGHEST
      freed =
          by_bool (eqb u (at hs x)) (λ q. let same : u ≡ at hs x = eqb-true u (at hs x) q in omega (arith, taken-holds n hs x u long c.1 (at hs x), one (at hs x), ap (λ (b : Bool). pick b 1) q, rw same at free))
          (λ q. omega (arith, taken-holds n hs x u long c.1 (at hs x), one (at hs x), ap (λ (b : Bool). pick b 1) q, most (at hs x) (ltb-true _ _ c.2)))

-- So it is for the shift of a search for v, which nobody holds, that found a place free, by whatever marks it found it: nobody has a limit above sixteen.
module _ {n : ℕ} {limit : ℕ → ℕ} (ls hs : List ℕ) {v : ℕ} (p : Placeable n hs v) (most : (w : ℕ) → w < n → limit w ≤ HIGHEST) (none : at hs v ≡ NONE) where
  pub found_rows : {u x : ℕ} {from : List ℕ} → walk n limit ls hs (v ∷ []) ≡ found u x from → RowsFit n n v from u x hs
  found_rows {u} {x} {from} e =
      let f = walk-found limit ls p e in
      chain_fits n ls v from p.inside p.few n f.steps hs u x f.few p.holders f.below f.chain p.within (omega (arith, f.free, most u f.below)) none f.seer

-- .. and for the shift by other marks, where those that it reads are the same: S says so of each round
module _
    (n v : ℕ) (from past : List ℕ) (S : List ℕ → ℕ → ℕ → Type 0)
    (step : (hs : List ℕ) (u x : ℕ) → S hs u x → (x ≡ v → ⊥) → (at past (at hs x) ≡ at from (at hs x)) × S (set hs x u) (at hs x) (at from (at hs x)))
  where
    pub fits_read : (fuel : ℕ) (hs : List ℕ) (u x : ℕ) → S hs u x → RowsFit fuel n v from u x hs → RowsFit fuel n v past u x hs
    unfolding RowsFit
    fits_read zero hs u x s f = f
    fits_read (suc fuel) hs u x s f =
        (f.0, f.1, f.2, λ other. let (same, next) = step hs u x s other in rw same (fits_read fuel (set hs x u) (at hs x) (at from (at hs x)) next (f.3 other)))
