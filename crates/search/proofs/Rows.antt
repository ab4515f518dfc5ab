-- The table of what each gateway holds: its rows, what stands in them, and whether there is a place free.
use Prim.Native.Nat.{ℕ, zero, suc, ◌+◌, ◌-◌, ◌<◌, ◌≤◌}
use mathlib.Core.Path.{◌≡◌, refl, sym, ap, ◌∙◌}
use mathlib.Core.Logic.{⊎_elim}
use mathlib.Core.List.{List, [], ◌∷◌, ◌++◌, map}
use native.Mathlib.Omega.{arith}
use lib.Dec.{eqb, ltb}
use lib.ListN.{length, set, take, get_or, replicate, length-set, length-map, length-append, length-replicate, get_or-replicate, get_or-map, get_or-append}
use lib.Seq.{ext_get_or, get_or-set_same, get_or-set_other, length-take-le, get_or-take, take_all, take-append-add, take-append_seam, get_or-append-add}
use borrow.Author.Tests.{eqb-true, eqb-false, eq-eqb, ne_eqb, lt-ltb, le-ltb, ltb-true, ltb-false}
use Rattle.packing.specs.Count.{count}
use Rattle.packing.specs.Lists.{list_of, list_where}
use Rattle.packing.specs.Plant.{NONE, GATEWAYS, HIGHEST, at}
use Rattle.packing.specs.Holders.{holds}
use Rattle.packing.proofs.Tests.{by_bool}
use Rattle.packing.proofs.Sums.{count_none}
use Rattle.packing.proofs.Lists.{list_of-length, list_of-at, member-at}
use Rattle.sound.proofs.Meaning.{Sound, sound_means}
use Rattle.sound.proofs.Searchable.{sound_searchable}
use Rattle.search.specs.Search.{held_by}
use Rattle.search.specs.Table.{as_row, held_row, held_table, row_at, RowHolds, TableHolds}
use Rattle.search.specs.Ascending.{HeldAscend}
use Rattle.search.specs.RowPre.{RowsOf}
use Rattle.search.specs.Pre.{in_row, row_has_place, TableOf}
use Rattle.search.proofs.Queue.{held_by-length, held_by_out}
use Rattle.search.proofs.Ascending.{held_ascend}

-- the first n of a list of equal entries
pub take-replicate : {A : Type 0} (n m : ℕ) (a : A) → n ≤ m → take n (replicate m a) ≡ replicate n a
take-replicate zero m a h = refl
take-replicate (suc n) zero a h = absurd (omega arith)
take-replicate {A} (suc n) (suc m) a h = ap {B = List A} (λ l. a ∷ l) (take-replicate n m a (omega arith))

-- a default does not matter below the length
pub default_below : {A : Type 0} (l : List A) (i : ℕ) (a b : A) → i < length l → get_or l i a ≡ get_or l i b
default_below [] i a b h = absurd (omega arith)
default_below (x ∷ l) zero a b h = refl
default_below (x ∷ l) (suc i) a b h = default_below l i a b (omega arith)

-- past the entries that are all a stands a
replicate-all : (m i a : ℕ) → get_or (replicate m a) i a ≡ a
replicate-all zero i a = refl
replicate-all (suc m) zero a = refl
replicate-all (suc m) (suc i) a = replicate-all m i a

pub table-length : (n : ℕ) (hs : List ℕ) → length (held_table n hs) ≡ GATEWAYS
unfolding held_table
table-length n hs = length-map (list_of GATEWAYS (λ u. u)) (held_row n hs) ∙ list_of-length GATEWAYS (λ u. u)

pub table_row : (n : ℕ) (hs : List ℕ) (u : ℕ) → u < GATEWAYS → row_at (held_table n hs) u ≡ held_row n hs u
unfolding held_table
table_row n hs u l =
    let rows : List (List ℕ) = map (held_row n hs) (list_of GATEWAYS (λ w. w)) in
    default_below rows u [] (held_row n hs 0) (rw (length-map (list_of GATEWAYS (λ w. w)) (held_row n hs), list_of-length GATEWAYS (λ w. w)) l)
    ∙ get_or-map (held_row n hs) (list_of GATEWAYS (λ w. w)) u 0
    ∙ ap (held_row n hs) (list_of-at GATEWAYS (λ w. w) u l)

-- a table is known by its rows
pub table_is : (n : ℕ) (hs : List ℕ) (rows : List (List ℕ)) → length rows ≡ GATEWAYS → ((u : ℕ) → u < GATEWAYS → row_at rows u ≡ held_row n hs u) → rows ≡ held_table n hs
table_is n hs rows long each =
    ext_get_or [] rows (held_table n hs) (long ∙ sym (table-length n hs)) (λ u l. let b : u < GATEWAYS = omega (arith, long) in each u b ∙ sym (table_row n hs u b))

-- .. so a list of rows that differs from it in one is the table once that row is set
pub one_row : (n : ℕ) (hs : List ℕ) (rows : List (List ℕ)) (u : ℕ) (row : List ℕ) → length rows ≡ GATEWAYS → held_row n hs u ≡ row
    → ((w : ℕ) → w < GATEWAYS → (w ≡ u → ⊥) → held_row n hs w ≡ row_at rows w) → held_table n hs ≡ set rows u row
one_row n hs rows u row long mine others =
    sym
    (table_is n hs (set rows u row) (length-set rows u row ∙ long)
    (λ w l. by_bool (eqb w u) (λ e. rw (eqb-true w u e) (get_or-set_same rows u row [] (omega (arith, eqb-true w u e, long)) ∙ sym mine))
    (λ e. let apart = eqb-false w u e in get_or-set_other rows u w row [] apart ∙ sym (others w l apart))))

-- A list as a row of k places, and a behind it. Where it has no more than k entries, all of it stands there, ..
row_all : (k a : ℕ) (l : List ℕ) → length l ≤ k → take k (l ++ replicate k a) ≡ l ++ replicate (k - length l) a
row_all k a l h =
    ap (λ (i : ℕ). take i (l ++ replicate k a)) (sum h) ∙ take-append-add l (replicate k a) (k - length l) ∙ ap (λ (r : List ℕ). l ++ r) (take-replicate (k - length l) k a (omega arith))
  where
    sum : length l ≤ k → k ≡ length l + (k - length l)
    sum q = omega arith

-- .. and the row has k places, whatever its length
pub row_length : (k a : ℕ) (l : List ℕ) → length (take k (l ++ replicate k a)) ≡ k
row_length k a l = length-take-le k (l ++ replicate k a) (omega (arith, length-append l (replicate k a), length-replicate k a))

-- the whole table is rows from its front on
pub rows_whole : {n : ℕ} {hs : List ℕ} {rows : List (List ℕ)} → n ≤ GATEWAYS → rows ≡ held_table n hs → RowsOf n hs rows
rows_whole {n} {hs} few is = rw is (record { wide = rw table-length few; is = sym (take_all (length (held_table n hs)) (held_table n hs) (omega arith)) })

-- each gateway's row among them is that of the table
pub rows_row : {n : ℕ} {hs : List ℕ} {rows : List (List ℕ)} → RowsOf n hs rows → n ≤ GATEWAYS → {u : ℕ} → u < n → row_at rows u ≡ held_row n hs u
rows_row {n} {hs} {rows} r few {u} l = ap (λ (k : List (List ℕ)). row_at k u) r.is ∙ get_or-take (length rows) (held_table n hs) u [] (omega (arith, r.wide)) ∙ table_row n hs u (omega arith)

pub row_long : {n : ℕ} {hs : List ℕ} {rows : List (List ℕ)} → RowsOf n hs rows → n ≤ GATEWAYS → {u : ℕ} → u < n → length (row_at rows u) ≡ HIGHEST
unfolding held_row as_row
row_long {n} {hs} r few {u} l = ap length (rows_row r few l) ∙ row_length HIGHEST NONE (held_by n hs u)

-- what stands in a row, where no entry is 65535
in_padded : (l : List ℕ) (k : ℕ) → ((i : ℕ) → i < length l → at l i ≡ NONE → ⊥) → in_row (l ++ replicate k NONE) ≡ l
unfolding in_row
in_padded [] zero h = refl
in_padded [] (suc k) h = refl
in_padded (a ∷ l) k h = rw (ne_eqb a NONE (h 0 (omega arith))) (ap {B = List ℕ} (λ r. a ∷ r) (in_padded l k (λ i q. h (suc i) (omega arith))))

-- fewer than t stand in it where the place of the last that t allows is free
padded_place : (l : List ℕ) (k t : ℕ) → ((i : ℕ) → i < length l → at l i ≡ NONE → ⊥) → row_has_place (l ++ replicate k NONE) t ≡ ltb (length l) t
unfolding row_has_place
padded_place l k zero h = sym (le-ltb (length l) 0 (omega arith))
padded_place l k (suc t) h =
    rw (lt-ltb 0 (suc t) (omega arith), last t)
    (by_bool (ltb t (length l))
    (λ e. let q : t < length l = ltb-true _ _ e in
    rw (le-ltb (length l) (suc t) (omega arith)) (ne_eqb _ NONE (λ f. h t q (default_below l t 0 NONE q ∙ sym (get_or-append l (replicate k NONE) NONE t q) ∙ f))))
    (λ e. let q : length l ≤ t = ltb-false _ _ e in rw (lt-ltb (length l) (suc t) (omega arith)) (eq-eqb _ NONE (behind q))))
  where
    last : (i : ℕ) → suc i - 1 ≡ i
    last i = omega arith

    behind : length l ≤ t → get_or (l ++ replicate k NONE) t NONE ≡ NONE
    behind q =
        let there : t ≡ length l + (t - length l) = omega arith in
        ap (λ (i : ℕ). get_or (l ++ replicate k NONE) i NONE) there ∙ get_or-append-add l (replicate k NONE) (t - length l) NONE ∙ replicate-all k (t - length l) NONE

-- what u holds is no 65535
held-some : {n : ℕ} (hs : List ℕ) (u i : ℕ) → n ≤ GATEWAYS → i < length (held_by n hs u) → at (held_by n hs u) i ≡ NONE → ⊥
held-some {n} hs u i few l e = omega (arith, (held_by_out n hs u (at (held_by n hs u) i) (member-at (held_by n hs u) i l)).0)

-- A list and then 65535 to the sixteenth place; so is the row of one that holds no more than sixteen.
unfoldable pub padded : List ℕ → List ℕ
padded l = l ++ replicate (HIGHEST - length l) NONE

held_row_lem : (n : ℕ) (hs : List ℕ) (u : ℕ) → holds n (at hs) u ≤ HIGHEST → held_row n hs u ≡ padded (held_by n hs u)
unfolding as_row held_row padded
held_row_lem n hs u h = row_all HIGHEST NONE (held_by n hs u) (omega (arith, held_by-length n hs u))

-- What the table tells of u.
module _ {n : ℕ} {hs : List ℕ} {rows : List (List ℕ)} (t : TableOf n hs rows) (few : n ≤ GATEWAYS) {u : ℕ} (l : u < n) where
  row_is : row_at rows u ≡ padded (held_by n hs u)
  row_is = rows_row t.is few l ∙ held_row_lem n hs u (t.within u l)

  pub table-holds : in_row (row_at rows u) ≡ held_by n hs u
  unfolding padded
  table-holds = rw row_is (in_padded (held_by n hs u) (HIGHEST - length (held_by n hs u)) (λ i q. held-some hs u i few q))

  pub table-place : (limit : ℕ) → row_has_place (row_at rows u) limit ≡ ltb (holds n (at hs) u) limit
  unfolding padded
  table-place limit = rw (row_is, ← held_by-length n hs u) (padded_place (held_by n hs u) (HIGHEST - length (held_by n hs u)) limit (λ i q. held-some hs u i few q))

-- The statements: a list of up to sixteen and what is behind it, and a sound record's rows.
padded_behind : (l : List ℕ) (i : ℕ) → length l ≤ i → i < HIGHEST → at (padded l) i ≡ NONE
unfolding padded
padded_behind l i q r =
    let there : i ≡ length l + (i - length l) = omega arith in
    ap (at (l ++ replicate (HIGHEST - length l) NONE)) there ∙ get_or-append-add l (replicate (HIGHEST - length l) NONE) (i - length l) 0
    ∙ get_or-replicate (HIGHEST - length l) (i - length l) NONE 0 (omega arith)

pub row_holds_lem : RowHolds
unfolding RowHolds HeldAscend padded
row_holds_lem n hs u l h =
    let is : row_at (held_table n hs) u ≡ padded (held_by n hs u) = table_row n hs u l ∙ held_row_lem n hs u h in
    record {
      places = rw (is, length-append) (omega (arith, held_by-length n hs u, length-replicate (HIGHEST - length (held_by n hs u)) NONE));
      load = length (held_by n hs u);
      front = rw (is, take-append_seam) (held_ascend n hs u);
      behind = λ i q r. rw is (padded_behind (held_by n hs u) i q r);
    }

pub sound_table : TableHolds
unfolding TableHolds RowHolds holds
sound_table n t m k ls os hs ts e = (table-length n hs, λ u l. row_holds_lem n hs u l (by_bool (ltb u n) (λ q. few u (ltb-true u n q)) (λ q. none u l (ltb-false u n q))))
  where
    s : Sound n t m k ls os hs ts
    s = sound_means n t m k ls os hs ts e

    few : (u : ℕ) → u < n → count n (λ v. eqb (at hs v) u) ≤ 16
    few u l = (sound_searchable s).within u l

    -- a holder is a gateway or 65535, so no number between has a row with anybody in it
    none : (u : ℕ) → u < 1024 → n ≤ u → count n (λ v. eqb (at hs v) u) ≤ 16
    none u l q = rw (count_none n (λ v. eqb (at hs v) u) (λ v b. ne_eqb (at hs v) u (λ f. ⊎_elim (λ no. omega arith) (λ below. omega arith) (s.range v b)))) (omega arith)

-- the table where nobody has a holder
nobody-held : (n : ℕ) (hs : List ℕ) (u : ℕ) → u < GATEWAYS → ((v : ℕ) → v < n → at hs v ≡ NONE) → held_by n hs u ≡ []
unfolding held_by list_where
nobody-held zero hs u l none = refl
nobody-held (suc n) hs u l none = rw (ne_eqb (at hs n) u (λ e. omega (arith, e, none n (omega arith))), nobody-held n hs u l (λ v q. none v (omega arith)))

table_none : (n : ℕ) (hs : List ℕ) → ((v : ℕ) → v < n → at hs v ≡ NONE) → replicate GATEWAYS (replicate HIGHEST NONE) ≡ held_table n hs
unfolding held_row as_row
table_none n hs none =
    table_is n hs (replicate GATEWAYS (replicate HIGHEST NONE)) (length-replicate GATEWAYS (replicate HIGHEST NONE))
    (λ u l. get_or-replicate GATEWAYS u (replicate HIGHEST NONE) [] l ∙ rw (nobody-held n hs u l none) (sym (take-replicate HIGHEST HIGHEST NONE (omega arith))))

pub rows_none : (n : ℕ) (hs : List ℕ) (c : ℕ) {rows : List (List ℕ)} → n ≤ c → c ≤ GATEWAYS → ((v : ℕ) → v < n → at hs v ≡ NONE) → rows ≡ replicate c (replicate HIGHEST NONE) → RowsOf n hs rows
rows_none n hs c wide few none is =
    rw is
    (record {
      wide = rw length-replicate wide;
      is = sym (take-replicate c GATEWAYS (replicate HIGHEST NONE) few) ∙ ap (take c) (table_none n hs none) ∙ ap (λ (k : ℕ). take k (held_table n hs)) (sym (length-replicate c (replicate HIGHEST NONE)));
    })
