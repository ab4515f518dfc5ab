-- The search goes by what each gateway holds, and so by the table alone.
use Prim.Native.Nat.{ℕ, ◌<◌}
use mathlib.Core.Path.{◌≡◌, refl, sym, ap, ◌∙◌}
use mathlib.Core.List.{List, [], ◌∷◌}
use lib.ListN.{length, set, length-set, length-replicate}
use Rattle.packing.specs.Plant.{NONE, at, neighbours}
use Rattle.packing.specs.Holders.{holds}
use Rattle.packing.proofs.Tests.{by_bool}
use Rattle.sound.proofs.Searchable.{Searchable, searchable_means}
use Rattle.search.specs.Search.{more, seen, held_by, look, visit}
use Rattle.search.specs.Table.{held_table, TableDecides}
use Rattle.search.specs.Pre.{TableOf}
use Rattle.search.proofs.Queue.{held_by-length}
use Rattle.search.proofs.Rows.{rows_whole, table-holds}
use Rattle.search.proofs.States.{unseen-below, look_cases, by_state, never_both, visit-found, walk_same}

-- a look keeps the number of marks, and so do the looks at any neighbours
look-long : (n : ℕ) (limit : ℕ → ℕ) (hs : List ℕ) (x u : ℕ) (queue from : List ℕ) {queue' from' : List ℕ} → look n limit hs x u queue from ≡ more queue' from' → length from' ≡ length from
look-long n limit hs x u queue from {queue'} {from'} r =
    look_cases n limit hs x u queue from (λ e s. let q : from' ≡ from = cc in ap length q) (λ e l s. absurd (never_both s r))
    (λ e l s. let q : from' ≡ set from u x = cc in ap length q ∙ length-set from u x)

visit-long : (n : ℕ) (limit : ℕ → ℕ) (hs : List ℕ) (x : ℕ) (us queue from : List ℕ) {queue' from' : List ℕ} → visit n limit hs x us (more queue from) ≡ more queue' from' → length from' ≡ length from
unfolding visit
visit-long n limit hs x [] queue from {queue'} {from'} r = let q : from' ≡ from = cc in ap length q
visit-long n limit hs x (u ∷ us) queue from r =
    by_state (look n limit hs x u queue from) (λ y z f e. absurd (never_both (visit-found n limit hs x us) (rw e at r)))
    (λ q f e. visit-long n limit hs x us q f (rw e at r) ∙ look-long n limit hs x u queue from e)

module _ (n : ℕ) (hs hs' : List ℕ) (same : (u : ℕ) → u < n → held_by n hs u ≡ held_by n hs' u) (limit : ℕ → ℕ) where
  look_same : (x u : ℕ) (queue from : List ℕ) → length from ≡ n → look n limit hs x u queue from ≡ look n limit hs' x u queue from
  unfolding look
  look_same x u queue from long =
      by_bool (seen from u) (λ e. rw e)
      (λ e.
      let held : held_by n hs u ≡ held_by n hs' u = same u (unseen-below from u long e) in
      let load : holds n (at hs) u ≡ holds n (at hs') u = sym (held_by-length n hs u) ∙ ap length held ∙ held_by-length n hs' u in
      rw (load, held))

  visit_same : (x : ℕ) (us queue from : List ℕ) → length from ≡ n → visit n limit hs x us (more queue from) ≡ visit n limit hs' x us (more queue from)
  unfolding visit
  visit_same x [] queue from long = refl
  visit_same x (u ∷ us) queue from long =
      ap (visit n limit hs x us) (look_same x u queue from long)
      ∙ by_state (look n limit hs' x u queue from) (λ w y f e. rw e (visit-found n limit hs x us ∙ sym (visit-found n limit hs' x us)))
      (λ q f e. rw e (visit_same x us q f (look-long n limit hs' x u queue from e ∙ long)))

pub table_decides : TableDecides
unfolding TableDecides
table_decides n hs hs' s s' e limit ls start =
    walk_same n limit limit ls ls hs hs' (λ queue from. length from ≡ n) (λ queue from head g l. visit_same n hs hs' same limit (at queue head) (neighbours ls (at queue head)) queue from g)
    (λ queue from queue' from' head g l v. visit-long n limit hs' (at queue head) (neighbours ls (at queue head)) queue from v ∙ g) (length-replicate n NONE)
  where
    may : Searchable n hs
    may = searchable_means n hs s

    table : TableOf n hs (held_table n hs)
    table = record { is = rows_whole may.few refl; within = may.within }

    table' : TableOf n hs' (held_table n hs)
    table' = record { is = rows_whole may.few e; within = (searchable_means n hs' s').within }

    same : (u : ℕ) → u < n → held_by n hs u ≡ held_by n hs' u
    same u l = sym (table-holds table may.few l) ∙ table-holds table' may.few l
