-- The table kept: where x leaves the row of its old holder and joins that of its new one, the rows are those of the new holders.
use Prim.Native.Nat.{ℕ, zero, suc, ◌+◌, ◌<◌, ◌≤◌}
use mathlib.Core.Path.{◌≡◌, refl, sym, ap, ◌∙◌}
use mathlib.Core.Logic.{inl, inr}
use mathlib.Core.Bool.{Bool, true, false}
use mathlib.Core.List.{List, [], ◌∷◌, ◌++◌}
use native.Mathlib.Omega.{arith}
use lib.Dec.{eqb, ltb}
use lib.ListN.{length, set, take, replicate, get_or, length-set, get_or-eq_default}
use lib.Seq.{set-set, set_out, set_comm, set-get_or, get_or-set_same, get_or-set_other, get_or-take, take-set-lt, take-set-le}
use borrow.Author.Tests.{eqb-true, eqb-false, eq-eqb, ne_eqb, lt-ltb, le-ltb, ltb-true, ltb-false}
use Rattle.packing.specs.Lists.{list_where}
use Rattle.packing.specs.Plant.{NONE, GATEWAYS, HIGHEST, at}
use Rattle.packing.specs.Holders.{holds}
use Rattle.packing.proofs.Tests.{by_bool}
use Rattle.packing.proofs.Lists.{where_from, where_all, list_where_ext}
use Rattle.search.specs.Search.{held_by}
use Rattle.search.specs.Table.{as_row, held_row, held_table, row_at}
use Rattle.search.specs.RowPre.{RowsOf, raised, pushed, exchanged, exchanged_row, moved_rows}
use Rattle.search.proofs.RowExchange.{Packed, exchanged_twice, exchanged-none}
use Rattle.search.proofs.Queue.{held_by-length}
use Rattle.search.proofs.Rows.{table-length, table_row, table_is, one_row}
use Rattle.search.proofs.Taken.{taken_here, taken_other}

-- a list as a row of k places, place by place
pad_to : ℕ → List ℕ → List ℕ
pad_to zero l = []
pad_to (suc k) [] = NONE ∷ pad_to k []
pad_to (suc k) (a ∷ l) = a ∷ pad_to k l

as_padded : (k m : ℕ) (l : List ℕ) → k ≤ m → take k (l ++ replicate m NONE) ≡ pad_to k l
unfolding pad_to
as_padded zero m l h = refl
as_padded (suc k) zero l h = absurd (omega arith)
as_padded (suc k) (suc m) [] h = ap (λ (r : List ℕ). NONE ∷ r) (as_padded k m [] (omega arith))
as_padded (suc k) (suc m) (a ∷ l) h = ap (λ (r : List ℕ). a ∷ r) (as_padded k (suc m) l (omega arith))

-- tests that agree from x on give the same numbers
from_same : (d x : ℕ) (p q : ℕ → Bool) → ((v : ℕ) → x ≤ v → p v ≡ q v) → where_from d x p ≡ where_from d x q
unfolding where_from
from_same zero x p q h = refl
from_same (suc d) x p q h = rw (h x (omega arith), from_same d (suc x) p q (λ v l. h v (omega arith)))

-- a takes the first place, and all others move on
all-pushed : (d x : ℕ) (p : ℕ → Bool) → x + d ≤ NONE → (a k : ℕ) → pushed NONE a (pad_to k (where_from d x p)) ≡ pad_to k (a ∷ where_from d x p)
unfolding pad_to pushed where_from
all-pushed d x p h a zero = refl
all-pushed zero x p h a (suc k) = refl
all-pushed (suc d) x p h a (suc k) =
    by_bool (p x) (λ e. rw (e, ne_eqb x NONE (λ q. omega arith)) (ap (λ (r : List ℕ). a ∷ r) (all-pushed d (suc x) p (omega arith) x k)))
    (λ e. rw e (all-pushed d (suc x) p (omega arith) a (suc k)))

-- an empty row begins with 65535
none_first : (k : ℕ) → get_or (pad_to k []) 0 NONE ≡ NONE
unfolding pad_to
none_first zero = refl
none_first (suc k) = refl

-- a joins before all others
joins-first : (k d x a : ℕ) (p : ℕ → Bool) → a < x → x + d ≤ NONE → exchanged NONE a (pad_to k (where_from d x p)) ≡ pad_to k (a ∷ where_from d x p)
unfolding pad_to raised pushed exchanged where_from
joins-first zero d x a p l h = refl
joins-first (suc k) zero x a p l h = rw (none_first k, le-ltb NONE a (omega arith))
joins-first (suc k) (suc d) x a p l h =
    by_bool (p x) (λ e. rw (e, ne_eqb x NONE (λ q. omega arith), le-ltb x a (omega arith)) (ap (λ (r : List ℕ). a ∷ r) (all-pushed d (suc x) p (omega arith) x k)))
    (λ e. rw e (joins-first (suc k) d (suc x) a p (omega arith) (omega arith)))

-- .. and where one before it stays, behind that
joins-behind : (k y a : ℕ) (l l' : List ℕ) → y < NONE → a < y → ((j : ℕ) → exchanged NONE y (pad_to j l) ≡ pad_to j l') → exchanged NONE y (pad_to k (a ∷ l)) ≡ pad_to k (a ∷ l')
unfolding pad_to exchanged
joins-behind zero y a l l' b h e = refl
joins-behind (suc k) y a l l' b h e = rw (ne_eqb a NONE (λ q. omega arith), lt-ltb a y h) (ap (λ (r : List ℕ). a ∷ r) (e k))

-- A row in which every entry of a list has a place: those behind one that leaves move up.
up_first : (k a b : ℕ) (l : List ℕ) → b < NONE → length (b ∷ l) ≤ k → ((j : ℕ) → length l ≤ j → raised NONE (b ∷ pad_to j l) ≡ pad_to (suc j) l) → raised NONE (a ∷ pad_to k (b ∷ l)) ≡ pad_to (suc k) (b ∷ l)
unfolding pad_to raised
up_first zero a b l some h e = absurd (omega arith)
up_first (suc k) a b l some h e = rw (lt-ltb b NONE some) (ap (λ (r : List ℕ). b ∷ r) (e k (omega arith)))

up_where : (d x : ℕ) (p : ℕ → Bool) → x + d ≤ NONE → (a k : ℕ) → length (where_from d x p) ≤ k → raised NONE (a ∷ pad_to k (where_from d x p)) ≡ pad_to (suc k) (where_from d x p)
unfolding pad_to raised where_from
up_where zero x p b a zero h = refl
up_where zero x p b a (suc k) h = refl
up_where (suc d) x p b a k h =
    by_bool (p x) (λ e. rw e (up_first k a x (where_from d (suc x) p) (omega arith) (rw e at h) (λ j l. up_where d (suc x) p (omega arith) x j l)))
    (λ e. rw e (up_where d (suc x) p (omega arith) a k (rw e at h)))

-- the first leaves, ..
leaves_first : (k y : ℕ) (l : List ℕ) → length (y ∷ l) ≤ k → ((j : ℕ) → length l ≤ j → raised NONE (y ∷ pad_to j l) ≡ pad_to (suc j) l) → exchanged y NONE (pad_to k (y ∷ l)) ≡ pad_to k l
unfolding pad_to exchanged
leaves_first zero y l h e = absurd (omega arith)
leaves_first (suc k) y l h e = rw (eq-eqb y y refl) (e k (omega arith))

-- .. or one behind it does
leaves_behind : (k y a : ℕ) (l l' : List ℕ) → (a ≡ y → ⊥) → a < NONE → length (a ∷ l) ≤ k → ((j : ℕ) → length l ≤ j → exchanged y NONE (pad_to j l) ≡ pad_to j l') → exchanged y NONE (pad_to k (a ∷ l)) ≡ pad_to k (a ∷ l')
unfolding pad_to exchanged
leaves_behind zero y a l l' apart some h e = absurd (omega arith)
leaves_behind (suc k) y a l l' apart some h e = rw (ne_eqb a y apart, lt-ltb a NONE some) (ap (λ (r : List ℕ). a ∷ r) (e k (omega arith)))

-- those with p among the d numbers from x on, and with q, where the tests differ at y alone
module _ (y : ℕ) (p q : ℕ → Bool) (other : (v : ℕ) → (v ≡ y → ⊥) → p v ≡ q v) where
  behind : (d x : ℕ) → x ≡ y → where_from d (suc x) p ≡ where_from d (suc x) q
  behind d x here = from_same d (suc x) p q (λ v l. other v (λ e. omega arith))

  -- y joins those with p
  joins_where : p y ≡ false → q y ≡ true → (d x : ℕ) → x ≤ y → y < x + d → x + d ≤ NONE → (k : ℕ) → exchanged NONE y (pad_to k (where_from d x p)) ≡ pad_to k (where_from d x q)
  unfolding where_from
  joins_where was is zero x l h b k = absurd (omega arith)
  joins_where was is (suc d) x l h b k =
      by_bool (eqb x y)
      (λ e. let here : x ≡ y = eqb-true x y e in
      rw (rw (← here) at was, rw (← here) at is, ← behind d x here) (rw (← here) (joins-first k d (suc x) x p (omega arith) (omega arith))))
      (λ e. let apart : x ≡ y → ⊥ = eqb-false x y e in
      let rest : (j : ℕ) → exchanged NONE y (pad_to j (where_from d (suc x) p)) ≡ pad_to j (where_from d (suc x) q) = joins_where was is d (suc x) (omega arith) (omega arith) (omega arith) in
      by_bool (p x) (λ t. rw (t, sym (other x apart) ∙ t) (joins-behind k y x (where_from d (suc x) p) (where_from d (suc x) q) (omega arith) (omega arith) rest)) (λ t. rw (t, sym (other x apart) ∙ t) (rest k)))

  -- y leaves those with p
  leaves_where : p y ≡ true → q y ≡ false → (d x : ℕ) → x ≤ y → y < x + d → x + d ≤ NONE → (k : ℕ) → length (where_from d x p) ≤ k → exchanged y NONE (pad_to k (where_from d x p)) ≡ pad_to k (where_from d x q)
  unfolding where_from
  leaves_where was is zero x l h b k r = absurd (omega arith)
  leaves_where was is (suc d) x l h b k r =
      by_bool (eqb x y)
      (λ e. let here : x ≡ y = eqb-true x y e in
      let has : p x ≡ true = rw here was in
      let gone : q x ≡ false = rw here is in
      rw (has, gone, ← behind d x here, ← here) (leaves_first k x (where_from d (suc x) p) (rw has at r) (up_where d (suc x) p (omega arith) x)))
      (λ e. let apart : x ≡ y → ⊥ = eqb-false x y e in
      let rest : (j : ℕ) → length (where_from d (suc x) p) ≤ j → exchanged y NONE (pad_to j (where_from d (suc x) p)) ≡ pad_to j (where_from d (suc x) q) =
      leaves_where was is d (suc x) (omega arith) (omega arith) (omega arith) in
      by_bool (p x) (λ t. rw (t, sym (other x apart) ∙ t) (leaves_behind k y x (where_from d (suc x) p) (where_from d (suc x) q) apart (omega arith) (rw t at r) rest))
      (λ t. rw (t, sym (other x apart) ∙ t) (rest k (rw t at r))))

-- The row of u, and its length before it is a row
held_padded : (n : ℕ) (hs : List ℕ) (u : ℕ) → held_row n hs u ≡ pad_to HIGHEST (where_from n 0 (λ v. eqb (at hs v) u))
unfolding held_row as_row held_by
held_padded n hs u = as_padded HIGHEST HIGHEST (list_where n (λ v. eqb (at hs v) u)) (omega arith) ∙ ap (pad_to HIGHEST) (where_all n (λ v. eqb (at hs v) u))

held-few : (n : ℕ) (hs : List ℕ) (u : ℕ) → length (where_from n 0 (λ v. eqb (at hs v) u)) ≡ holds n (at hs) u
unfolding held_by
held-few n hs u = ap length (sym (where_all n (λ v. eqb (at hs v) u))) ∙ held_by-length n hs u

module _ (n : ℕ) (hs : List ℕ) (x u : ℕ) (few : n ≤ GATEWAYS) (long : n ≤ length hs) (inside : x < n) where
  other : (w v : ℕ) → (v ≡ x → ⊥) → eqb (at hs v) w ≡ eqb (at (set hs x u) v) w
  other w v apart = ap (λ (k : ℕ). eqb k w) (sym (taken_other n hs x u long inside v apart))

  here : (w : ℕ) → eqb (at (set hs x u) x) w ≡ eqb u w
  here w = ap (λ (k : ℕ). eqb k w) (taken_here n hs x u long inside)

  -- the row of one that x neither leaves nor joins
  row_same : (w : ℕ) → (at hs x ≡ w → ⊥) → (u ≡ w → ⊥) → held_row n (set hs x u) w ≡ held_row n hs w
  unfolding held_row held_by
  row_same w old new =
      ap as_row
      (list_where_ext n (λ v. eqb (at (set hs x u) v) w) (λ v. eqb (at hs v) w)
      (λ v l. by_bool (eqb v x) (λ e. rw (eqb-true v x e) (here w ∙ ne_eqb u w new ∙ sym (ne_eqb (at hs x) w old))) (λ e. sym (other w v (eqb-false v x e)))))

  row_left : holds n (at hs) (at hs x) ≤ HIGHEST → (u ≡ at hs x → ⊥) → exchanged x NONE (held_row n hs (at hs x)) ≡ held_row n (set hs x u) (at hs x)
  row_left fits apart =
      let w : ℕ = at hs x in
      ap (exchanged x NONE) (held_padded n hs w)
      ∙ leaves_where x (λ v. eqb (at hs v) w) (λ v. eqb (at (set hs x u) v) w) (λ v e. other w v e) (eq-eqb (at hs x) w refl) (here w ∙ ne_eqb u w apart) n 0 (omega arith) (omega arith) (omega arith) HIGHEST
      (omega (arith, held-few n hs w))
      ∙ sym (held_padded n (set hs x u) w)

  row_joined : (at hs x ≡ u → ⊥) → exchanged NONE x (held_row n hs u) ≡ held_row n (set hs x u) u
  row_joined apart =
      ap (exchanged NONE x) (held_padded n hs u)
      ∙ joins_where x (λ v. eqb (at hs v) u) (λ v. eqb (at (set hs x u) v) u) (λ v e. other u v e) (ne_eqb (at hs x) u apart) (here u ∙ eq-eqb u u refl) n 0 (omega arith) (omega arith) (omega arith) HIGHEST
      ∙ sym (held_padded n (set hs x u) u)

  -- the table once x has a holder past it instead of its own, ..
  table-left : GATEWAYS ≤ u → (at hs x < GATEWAYS → holds n (at hs) (at hs x) ≤ HIGHEST) → exchanged_row x NONE (at hs x) (held_table n hs) ≡ held_table n (set hs x u)
  unfolding exchanged_row
  table-left past fits =
      by_bool (ltb (at hs x) GATEWAYS)
      (λ e. let l : at hs x < GATEWAYS = ltb-true _ _ e in
      (sym
      (one_row n (set hs x u) (held_table n hs) (at hs x) (exchanged x NONE (row_at (held_table n hs) (at hs x))) (table-length n hs)
      (sym (ap (exchanged x NONE) (table_row n hs (at hs x) l) ∙ row_left (fits l) (λ q. omega arith)))
      (λ w b apart. row_same w (λ q. apart (sym q)) (λ q. omega arith) ∙ sym (table_row n hs w b)))))
      (λ e. let l : GATEWAYS ≤ at hs x = ltb-false _ _ e in
      set_out (held_table n hs) (at hs x) (exchanged x NONE (row_at (held_table n hs) (at hs x))) (rw table-length l)
      ∙ (table_is n (set hs x u) (held_table n hs) (table-length n hs) (λ w b. table_row n hs w b ∙ sym (row_same w (λ q. omega arith) (λ q. omega arith)))))

  -- .. and once it has a holder whose own was past it
  table-joined : GATEWAYS ≤ at hs x → exchanged_row NONE x u (held_table n hs) ≡ held_table n (set hs x u)
  unfolding exchanged_row
  table-joined past =
      by_bool (ltb u GATEWAYS)
      (λ e. let l : u < GATEWAYS = ltb-true _ _ e in
      (sym
      (one_row n (set hs x u) (held_table n hs) u (exchanged NONE x (row_at (held_table n hs) u)) (table-length n hs) (sym (ap (exchanged NONE x) (table_row n hs u l) ∙ row_joined (λ q. omega arith)))
      (λ w b apart. row_same w (λ q. omega arith) (λ q. apart (sym q)) ∙ sym (table_row n hs w b)))))
      (λ e. let l : GATEWAYS ≤ u = ltb-false _ _ e in
      set_out (held_table n hs) u (exchanged NONE x (row_at (held_table n hs) u)) (rw table-length l)
      ∙ (table_is n (set hs x u) (held_table n hs) (table-length n hs) (λ w b. table_row n hs w b ∙ sym (row_same w (λ q. omega arith) (λ q. omega arith)))))

-- The table of the holders is that of the new holders once x, held by u now, has left its old holder's row and joined u's. The old holder may be u, and either may be past the table.
table-moved : (n : ℕ) (hs : List ℕ) (x u : ℕ) → n ≤ GATEWAYS → n ≤ length hs → x < n → (at hs x < GATEWAYS → holds n (at hs) (at hs x) ≤ HIGHEST)
    → moved_rows x (at hs x) u (held_table n hs) ≡ held_table n (set hs x u)
table-moved n hs x u few long inside fits =
    ap (exchanged_row NONE x u) (table-left n hs x NONE few long inside (omega arith) fits)
    ∙ table-joined n (set hs x NONE) x u few (rw length-set long) inside (rw (taken_here n hs x NONE long inside) (omega arith))
    ∙ ap (held_table n) (set-set hs x NONE u)

front_length : (c : ℕ) (rows : List (List ℕ)) → length (take c rows) ≤ c
front_length zero rows = omega arith
front_length (suc c) [] = omega arith
front_length (suc c) (row ∷ rows) = omega (arith, front_length c rows)

-- a row changed among those from the front on is that row changed in the whole table
front-set : (c : ℕ) (rows : List (List ℕ)) (u : ℕ) (f : List ℕ → List ℕ) → set (take c rows) u (f (row_at (take c rows) u)) ≡ take c (set rows u (f (row_at rows u)))
front-set c rows u f =
    by_bool (ltb u c) (λ e. let l : u < c = ltb-true _ _ e in rw (get_or-take c rows u [] l) (sym (take-set-lt c rows u (f (row_at rows u)) l)))
    (λ e.
    let l : c ≤ u = ltb-false _ _ e in
    set_out (take c rows) u (f (row_at (take c rows) u)) (omega (arith, front_length c rows)) ∙ sym (take-set-le c rows u (f (row_at rows u)) l))

-- so with the rows of the gateways
pub rows_moved : (n : ℕ) (hs : List ℕ) {rows : List (List ℕ)} (x u : ℕ) → n ≤ GATEWAYS → n ≤ length hs → x < n → (at hs x < GATEWAYS → holds n (at hs) (at hs x) ≤ HIGHEST) → RowsOf n hs rows
    → RowsOf n (set hs x u) (moved_rows x (at hs x) u rows)
unfolding exchanged_row
rows_moved n hs {rows} x u few long inside fits r =
    record {
      wide = rw same r.wide;
      is =
          ap (moved_rows x (at hs x) u) r.is
          ∙ ap (exchanged_row NONE x u) (front-set (length rows) (held_table n hs) (at hs x) (exchanged x NONE))
          ∙ front-set (length rows) (exchanged_row x NONE (at hs x) (held_table n hs)) u (exchanged NONE x)
          ∙ ap (take (length rows)) (table-moved n hs x u few long inside fits)
          ∙ ap (λ (c : ℕ). take c (held_table n (set hs x u))) (sym same);
    }
  where
    same : length (moved_rows x (at hs x) u rows) ≡ length rows
    same = length-set (exchanged_row x NONE (at hs x) rows) u (exchanged NONE x (row_at (exchanged_row x NONE (at hs x) rows) u)) ∙ length-set rows (at hs x) (exchanged x NONE (row_at rows (at hs x)))

-- Each row of the table has its gateways in front.
where_packed : (k d x : ℕ) (p : ℕ → Bool) → x + d ≤ NONE → Packed (pad_to k (where_from d x p))
unfolding pad_to where_from Packed
where_packed zero d x p h = tt
where_packed (suc k) zero x p h = inr (refl, nobody k)
  where
    nobody : (j : ℕ) → pad_to j [] ≡ replicate (length (pad_to j [])) NONE
    nobody zero = refl
    nobody (suc j) = ap (λ (r : List ℕ). NONE ∷ r) (nobody j)
where_packed (suc k) (suc d) x p h = by_bool (p x) (λ e. rw e (inl (omega arith, where_packed k d (suc x) p (omega arith)))) (λ e. rw e (where_packed (suc k) d (suc x) p (omega arith)))

rows_few : {n : ℕ} {hs : List ℕ} {rows : List (List ℕ)} → RowsOf n hs rows → length rows ≤ GATEWAYS
rows_few {n} {hs} {rows} r = omega (arith, ap length r.is, front_in (length rows) (held_table n hs), table-length n hs)
  where
    front_in : (c : ℕ) (l : List (List ℕ)) → length (take c l) ≤ length l
    front_in zero l = omega arith
    front_in (suc c) [] = omega arith
    front_in (suc c) (a ∷ l) = omega (arith, front_in c l)

pub rows_packed : {n : ℕ} {hs : List ℕ} {rows : List (List ℕ)} → RowsOf n hs rows → n ≤ GATEWAYS → (u : ℕ) → Packed (row_at rows u)
unfolding Packed
rows_packed {n} {hs} {rows} r few u =
    by_bool (ltb u (length rows))
    (λ e. let l : u < length rows = ltb-true _ _ e in
    rw (ap (λ (k : List (List ℕ)). row_at k u) r.is ∙ get_or-take (length rows) (held_table n hs) u [] l ∙ table_row n hs u (omega (arith, rows_few r)) ∙ held_padded n hs u) (where_packed HIGHEST n 0 (λ v. eqb (at hs v) u) (omega arith)))
    (λ e. rw (get_or-eq_default rows [] {n = u} (ltb-false _ _ e)) tt)

-- nobody leaves a row of one who has none
pub rows_unheld : {n : ℕ} {hs : List ℕ} (x u : ℕ) (rows : List (List ℕ)) → GATEWAYS ≤ u → RowsOf n hs (exchanged_row x NONE u rows) → RowsOf n hs rows
unfolding exchanged_row
rows_unheld x u rows past r =
    let row : List ℕ = exchanged x NONE (row_at rows u) in
    rw (set_out rows u row (omega (arith, rows_few r, length-set rows u row))) at r

-- where nobody is to leave a row, the rows are as they are
pub nobody_goes : (rows : List (List ℕ)) (u : ℕ) → Packed (row_at rows u) → exchanged_row NONE NONE u rows ≡ rows
unfolding exchanged_row
nobody_goes rows u packed = rw (exchanged-none (row_at rows u) packed) (set-get_or rows u [])

-- Rows that would be those of the holders if gone left the row of u: u lets gone go and takes x in one pass, and then they would be those of the new holders if x left the row of its old holder.
module _ (n : ℕ) (hs : List ℕ) (rows : List (List ℕ)) (gone x u : ℕ) (few : n ≤ GATEWAYS) (inside : x < n) (packed : Packed (row_at rows u)) where
  in_one : exchanged_row gone x u rows ≡ exchanged_row NONE x u (exchanged_row gone NONE u rows)
  unfolding exchanged_row
  in_one =
      by_bool (ltb u (length rows))
      (λ e. let l : u < length rows = ltb-true _ _ e in
      rw (get_or-set_same rows u (exchanged gone NONE (row_at rows u)) [] l, set-set, exchanged_twice gone x (row_at rows u) (omega arith) packed))
      (λ e. let l : length rows ≤ u = ltb-false _ _ e in
      set_out rows u (exchanged gone x (row_at rows u)) l ∙ sym (rw (set_out rows u (exchanged gone NONE (row_at rows u)) l) (set_out rows u (exchanged NONE x (row_at rows u)) l)))

  module _ (apart : at hs x ≡ u → ⊥) where
    -- who leaves one row and who joins another do not meet
    in_turn : (rs : List (List ℕ)) → exchanged_row x NONE (at hs x) (exchanged_row NONE x u rs) ≡ moved_rows x (at hs x) u rs
    unfolding exchanged_row
    in_turn rs =
        let other : u ≡ at hs x → ⊥ = λ q. apart (sym q) in
        rw (get_or-set_other rs u (at hs x) (exchanged NONE x (row_at rs u)) [] apart, get_or-set_other rs (at hs x) u (exchanged x NONE (row_at rs (at hs x))) [] other)
        (set_comm rs u (at hs x) (exchanged NONE x (row_at rs u)) (exchanged x NONE (row_at rs (at hs x))) other)

    old_packed : RowsOf n hs (exchanged_row gone NONE u rows) → Packed (row_at (exchanged_row gone x u rows) (at hs x))
    unfolding exchanged_row
    old_packed r =
        rw in_one
        (rw (get_or-set_other (exchanged_row gone NONE u rows) u (at hs x) (exchanged NONE x (row_at (exchanged_row gone NONE u rows) u)) [] apart) (rows_packed r few (at hs x)))

    pub rows_handed : n ≤ length hs → (at hs x < GATEWAYS → holds n (at hs) (at hs x) ≤ HIGHEST) → RowsOf n hs (exchanged_row gone NONE u rows)
        → RowsOf n (set hs x u) (exchanged_row x NONE (at hs x) (exchanged_row gone x u rows)) × Packed (row_at (exchanged_row gone x u rows) (at hs x))
    rows_handed long fits r = (rw (in_one, in_turn (exchanged_row gone NONE u rows)) (rows_moved n hs x u few long inside fits r), old_packed r)
