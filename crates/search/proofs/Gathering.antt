-- The pass over the holders that fills the table: v takes the next place in its holder's row.
use Prim.Native.Nat.{ℕ, zero, suc, ◌+◌, ◌<◌, ◌≤◌}
use mathlib.Core.Path.{◌≡◌, refl, sym, ap, ◌∙◌}
use mathlib.Core.List.{List, [], ◌∷◌, ◌++◌, append-nil, append_assoc}
use native.Mathlib.Nat.{le_antisymm}
use native.Mathlib.Numerals.{add-one}
use native.Mathlib.Omega.{arith}
use lib.Dec.{ltb}
use lib.ListN.{length, set, take, replicate, length-append, length-replicate, get_or-replicate, replicate-append-replicate}
use lib.Seq.{set-append_seam, set_out, take-append-le, take-set-lt}
use borrow.Author.Tests.{eq-eqb, ne_eqb, ltb-true, ltb-false}
use Rattle.packing.specs.Lists.{list_where}
use Rattle.packing.specs.Plant.{NONE, GATEWAYS, HIGHEST, at}
use Rattle.packing.specs.Holders.{holds}
use Rattle.packing.proofs.Tests.{by_bool}
use Rattle.lists.proofs.Tallies.{Counted, counted_start, counted-few, counted-long, counted-turn, tally_at}
use Rattle.search.specs.Search.{held_by}
use Rattle.search.specs.Table.{as_row, held_row, held_table, row_at}
use Rattle.search.proofs.Queue.{held_by-length}
use Rattle.search.proofs.Rows.{row_length, table-length, table_row, table_is, one_row}

-- In a row of k places the next entry of a list takes the place behind those before it; if there is none, the row stays.
row_next : (k a v : ℕ) (l : List ℕ) → set (take k (l ++ replicate k a)) (length l) v ≡ take k ((l ++ v ∷ []) ++ replicate k a)
row_next zero a v l = refl
row_next (suc k) a v l =
    by_bool (ltb (length l) (suc k)) (λ e. free (ltb-true _ _ e)) (λ e. full (ltb-false _ _ e))
  where
    -- it takes the place of one a, and the last a falls off the row's end
    free : length l < suc k → set (take (suc k) (l ++ replicate (suc k) a)) (length l) v ≡ take (suc k) ((l ++ v ∷ []) ++ replicate (suc k) a)
    free h =
        sym (take-set-lt (suc k) (l ++ replicate (suc k) a) (length l) v h) ∙ ap (take (suc k)) (set-append_seam l a (replicate k a) v)
        ∙ sym (take-append-le (suc k) (l ++ v ∷ replicate k a) (a ∷ []) (omega (arith, length-append l (v ∷ replicate k a), length-replicate k a))) ∙ ap (take (suc k)) one_more_lem
      where
        one_more_lem : (l ++ v ∷ replicate k a) ++ a ∷ [] ≡ (l ++ v ∷ []) ++ replicate (suc k) a
        one_more_lem = rw (append_assoc, append_assoc) (ap (λ (r : List ℕ). l ++ v ∷ r) (replicate-append-replicate k 1 a ∙ ap (λ (i : ℕ). replicate i a) (add-one k)))

    full : suc k ≤ length l → set (take (suc k) (l ++ replicate (suc k) a)) (length l) v ≡ take (suc k) ((l ++ v ∷ []) ++ replicate (suc k) a)
    full h =
        set_out (take (suc k) (l ++ replicate (suc k) a)) (length l) v (rw (row_length (suc k) a l) h) ∙ take-append-le (suc k) l (replicate (suc k) a) h
        ∙ sym (rw append_assoc (take-append-le (suc k) l ((v ∷ []) ++ replicate (suc k) a) h))

-- the rows of the first v, with one more: it stands in its holder's row, and in no other
module _ (hs : List ℕ) (v : ℕ) where
  mine : held_row (v + 1) hs (at hs v) ≡ set (held_row v hs (at hs v)) (holds v (at hs) (at hs v)) v
  unfolding as_row held_row held_by list_where
  mine =
      rw (add-one, eq-eqb (at hs v) (at hs v) refl, ← held_by-length v hs (at hs v)) (sym (row_next HIGHEST NONE v (held_by v hs (at hs v))))

  other : (u : ℕ) → (at hs v ≡ u → ⊥) → held_row (v + 1) hs u ≡ held_row v hs u
  unfolding as_row held_row held_by list_where
  other u e = rw (add-one, ne_eqb (at hs v) u e, append-nil)

  -- .. so the table with it is the table without it, with that row set
  table-next : at hs v < GATEWAYS → held_table (v + 1) hs ≡ set (held_table v hs) (at hs v) (set (row_at (held_table v hs) (at hs v)) (holds v (at hs) (at hs v)) v)
  table-next l =
      one_row (v + 1) hs (held_table v hs) (at hs v) (set (row_at (held_table v hs) (at hs v)) (holds v (at hs) (at hs v)) v) (table-length v hs) (rw (table_row v hs (at hs v) l) mine)
      (λ w b apart. other w (λ q. apart (sym q)) ∙ sym (table_row v hs w b))

  -- .. and where its holder is past the table, nothing changes
  table-past : GATEWAYS ≤ at hs v → held_table v hs ≡ held_table (v + 1) hs
  table-past l = table_is (v + 1) hs (held_table v hs) (table-length v hs) (λ u b. table_row v hs u b ∙ sym (other u (λ e. omega arith)))

pub record Gathering (n : ℕ) (hs : List ℕ) (rows : List (List ℕ)) (loads : List ℕ) (v : ℕ) : Type 0 where
  pub counted : Counted n hs loads v
  pub is : rows ≡ held_table v hs

module _ (n : ℕ) (hs : List ℕ) where
  pub gathering_start : {rows : List (List ℕ)} {loads : List ℕ} → rows ≡ replicate GATEWAYS (replicate HIGHEST NONE) → loads ≡ replicate GATEWAYS 0 → Gathering n hs rows loads 0
  unfolding as_row held_row held_by list_where
  gathering_start {rows} e zeros =
      record {
        counted = counted_start n hs zeros;
        is = e ∙ table_is 0 hs (replicate GATEWAYS (replicate HIGHEST NONE)) (length-replicate GATEWAYS (replicate HIGHEST NONE)) (λ u l. get_or-replicate GATEWAYS u (replicate HIGHEST NONE) [] l);
      }

  module _ {rows : List (List ℕ)} {loads : List ℕ} {v : ℕ} (g : Gathering n hs rows loads v) (l : v < n) {u : ℕ} (e : u ≡ at hs v) where
    -- its load is below v
    pub gathering_few : at loads u ≤ v
    gathering_few = counted-few n hs u g.counted refl

    -- v takes the next place of the row
    pub gathering_turn : {row : List ℕ} → u < GATEWAYS → row ≡ set (row_at rows u) (at loads u) v → Gathering n hs (set rows u row) (set loads u (at loads u + 1)) (v + 1)
    unfolding holds
    gathering_turn b f =
        record {
          counted = counted-turn n hs g.counted l e refl refl;
          is = rw (f, g.is, g.counted.is, e, tally_at hs v (at hs v) (rw (← e) b)) (sym (table-next hs v (rw (← e) b)));
        }

    pub gathering_past : GATEWAYS ≤ u → Gathering n hs rows loads (v + 1)
    gathering_past b =
        record {
          counted = counted-turn n hs g.counted l e refl (sym (set_out loads u (at loads u + 1) (omega (arith, counted-long n hs g.counted))));
          is = g.is ∙ table-past hs v (rw (← e) b);
        }

  pub gathering_end : {rows : List (List ℕ)} {loads : List ℕ} {v : ℕ} → Gathering n hs rows loads v → n ≤ v → rows ≡ held_table n hs
  gathering_end g l = g.is ∙ ap (λ (k : ℕ). held_table k hs) (le_antisymm g.counted.upto l)
