-- What load and load_indexed give, and what order writes.
use Prim.Native.Nat.{ℕ, ◌+◌, ◌*◌, ◌<◌, ◌≤◌}
use mathlib.Core.Path.{◌≡◌, refl, sym, ap, ◌∙◌}
use mathlib.Core.Bool.{◌||◌}
use mathlib.Core.List.{List}
use native.Mathlib.Omega.{arith}
use lib.Dec.{ltb}
use lib.ListN.{length, replicate, length-replicate}
use borrow.Author.Tests.{ltb-false, lt-leb, le-leb}
use Rattle.packing.specs.Plant.{NONE, GATEWAYS, LINKS, ENDS}
use Rattle.packing.specs.Lists.{written}
use Rattle.packing.proofs.Tests.{or_false_l, or_false_r}
use Rattle.packing.proofs.Refusals.{refused, accepted}
use Rattle.plant_file.specs.PlantFile.{file_n, file_m, file_links, file_order, file_limits, file_refusal}
use Rattle.plant_file.specs.Load.{load_refusal, load_links, load_order, load_limits, order_written}
use Rattle.plant_file.specs.Indexed.{Unlinked, Blank, LinksIndexed, Indexed}
use Rattle.plant_file.specs.Pre.{header_refusal, Unindexed, Orderly}
use Rattle.plant_file.proofs.Refusing.{header_sizes, then_none}

-- no refusal of load: the file is accepted, and the lists are long enough
pub load-places : (file : List ℕ) (ls os ts : ℕ) {e : ℕ} → e ≡ load_refusal file ls os ts → e ≡ 0 → (file_refusal file ≡ 0) × (2 * file_m file ≤ ls) × (file_n file ≤ os) × (file_n file ≤ ts)
unfolding load_refusal
load-places file ls os ts f z =
    let a = then_none file (ltb ls (2 * file_m file) || ltb os (file_n file) || ltb ts (file_n file)) (sym f ∙ z) in
    let few = or_false_l (ltb ls (2 * file_m file) || ltb os (file_n file)) _ a.1 in
    let limits = or_false_r (ltb ls (2 * file_m file) || ltb os (file_n file)) _ a.1 in
    (a.0, ltb-false ls _ (or_false_l _ _ few), ltb-false os _ (or_false_r (ltb ls (2 * file_m file)) _ few), ltb-false ts _ limits)

module _ (file links order limits : List ℕ) where
  pub load-refused : {e : ℕ} → e ≡ load_refusal file (length links) (length order) (length limits) → (e ≡ 0 → ⊥)
      → (links ≡ load_links file links order limits) × ((order ≡ load_order file links order limits) × (limits ≡ load_limits file links order limits))
  unfolding load_links load_order load_limits
  load-refused of z = (refused _ _ of z, (refused _ _ of z, refused _ _ of z))

  pub load-accepted : {links' order' limits' : List ℕ} → 0 ≡ load_refusal file (length links) (length order) (length limits)
      → links' ≡ written (2 * file_m file) (file_links file) links → order' ≡ written (file_n file) (file_order file) order → limits' ≡ written (file_n file) (file_limits file) limits
      → (links' ≡ load_links file links order limits) × ((order' ≡ load_order file links order limits) × (limits' ≡ load_limits file links order limits))
  unfolding load_links load_order load_limits
  load-accepted of p q r = (accepted _ _ of refl p, (accepted _ _ of refl q, accepted _ _ of refl r))

-- lists of zeros and an index of no links are lent, with places for so many ends
pub lent-unlinked : (file : List ℕ) (ends : ℕ) {links next : List ℕ} → (file_m file ≤ LINKS → 2 * file_m file ≤ ends) → ends ≤ ENDS → links ≡ replicate ends 0 → next ≡ replicate (ends + GATEWAYS) NONE → Unlinked file links next
lent-unlinked file ends {links} room few e f =
    let long : length links ≡ ends = ap length e ∙ length-replicate {A = ℕ} ends 0 in
    record { ends = λ l. omega (arith, long, room l); few = omega (arith, long, few); empty = rw long f }

-- A file checked once: what each part of the check asks for, and what it leaves.
module _ (file : List ℕ) {links₀ next₀ order₀ limits₀ : List ℕ} (blank : Blank file links₀ next₀ order₀ limits₀) (header : 0 ≡ header_refusal file) where
  pub load_unindexed : Unindexed file links₀ next₀
  load_unindexed = let (few, links-few) = header_sizes file header in record { few = few; links-few = links-few; unlinked = blank.unlinked }

  pub load_orderly : Orderly file order₀
  load_orderly = let few = (header_sizes file header).0 in record { few = few; places = omega (arith, few, blank.gateways) }

  pub load-limited : file_n file ≤ length limits₀
  load-limited = omega (arith, (header_sizes file header).0, blank.limited)

pub load-whole : {file links₀ order₀ limits₀ links next order limits : List ℕ} → LinksIndexed file links₀ links next
    → order ≡ written (file_n file) (file_order file) order₀ → limits ≡ written (file_n file) (file_limits file) limits₀ → Indexed file links₀ order₀ limits₀ links next order limits
load-whole l o t = record { ends = l.ends; index = l.index; ordered = o; limited = t }

-- the order alone: nothing where there are fewer than n places, else its n numbers
module _ (file out : List ℕ) where
  pub order-left : length out < file_n file → out ≡ order_written file out
  unfolding order_written
  order-left l = rw (lt-leb (file_n file) (length out) l)

  pub order-done : {new : List ℕ} → file_n file ≤ length out → new ≡ written (file_n file) (file_order file) out → new ≡ order_written file out
  unfolding order_written
  order-done l h = rw (le-leb (file_n file) (length out) l) h
