-- The links by index: what the code reads there, and that it is what the list of links holds.
use Prim.Native.Nat.{ℕ, ◌+◌, ◌*◌, ◌<◌, ◌≤◌}
use mathlib.Core.Path.{◌≡◌, ap, ◌∙◌}
use mathlib.Core.List.{List}
use native.Mathlib.Omega.{arith}
use lib.ListN.{length}
use Rattle.std.specs.Prelude.{Option, Some, None}
use Rattle.packing.proofs.Tests.{by_bool}
use borrow.Author.Tests.{lt-ltb, ltb-true, ltb-false}
use lib.Dec.{ltb}
use Rattle.packing.specs.Plant.{at}
use Rattle.packing.proofs.Lists.{list_of-length, list_of-at}
use Rattle.plant_file.specs.PlantFile.{number, file_n, file_m, file_links, file_order}
use Rattle.plant_file.specs.Reader.{link_at, next_index}

-- the numbers of the links, and those of the order, as the file has them
abbrev link_number : List ℕ → ℕ → ℕ
link_number file i = number file (10 + 2 * i)

abbrev pub order_number : List ℕ → ℕ → ℕ
order_number file i = number file (10 + 4 * file_m file + 2 * i)

pub links-long : (file : List ℕ) → length (file_links file) ≡ 2 * file_m file
unfolding file_links
links-long file = list_of-length (2 * file_m file) (link_number file)

pub order-long : (file : List ℕ) → length (file_order file) ≡ file_n file
unfolding file_order
order-long file = list_of-length (file_n file) (order_number file)

pub order-at : (file : List ℕ) (i : ℕ) → i < file_n file → at (file_order file) i ≡ order_number file i
unfolding file_order
order-at file = list_of-at (file_n file) (order_number file)

-- equal links have equal ends
module _ {a b x y : ℕ} (e : ◌≡◌ {A = Option (ℕ × ℕ)} (Some (a, b)) (Some (x, y))) where
  ends-same : ◌≡◌ {A = ℕ × ℕ} (a, b) (x, y)
  ends-same = cc

  first-same : a ≡ x
  first-same = ap (λ (l : ℕ × ℕ). l.0) ends-same

  second-same : b ≡ y
  second-same = ap (λ (l : ℕ × ℕ). l.1) ends-same

-- what a reader gives at an index says whether there is a link
module _ (file : List ℕ) (i : ℕ) where
  pub link_some : {x : ℕ × ℕ} → Some x ≡ link_at file i → i < file_m file
  unfolding link_at
  link_some e = by_bool (ltb i (file_m file)) (λ t. ltb-true i (file_m file) t) (λ f. absurd (let g = rw f at e in cc))

  pub link_none : None ≡ link_at file i → file_m file ≤ i
  unfolding link_at
  link_none e = by_bool (ltb i (file_m file)) (λ t. absurd (let g = rw t at e in cc)) (λ f. ltb-false i (file_m file) f)

  -- .. and the index after it
  pub index-here : i < file_m file → next_index file i ≡ i + 1
  unfolding next_index
  index-here l = rw (lt-ltb i (file_m file) l)

  low : 10 + 2 * (2 * i) ≡ 10 + 4 * i
  low = omega arith

  high : 10 + 2 * (2 * i + 1) ≡ 12 + 4 * i
  high = omega arith

  -- link i is the numbers at 2i and 2i + 1 of the list of links
  pub link-first : i < file_m file → at (file_links file) (2 * i) ≡ number file (10 + 4 * i)
  unfolding file_links
  link-first l = list_of-at (2 * file_m file) (link_number file) (2 * i) (omega arith) ∙ rw low

  pub link-second : i < file_m file → at (file_links file) (2 * i + 1) ≡ number file (12 + 4 * i)
  unfolding file_links
  link-second l = list_of-at (2 * file_m file) (link_number file) (2 * i + 1) (omega arith) ∙ rw high

  step_at : i < file_m file → link_at file i ≡ Some (at (file_links file) (2 * i), at (file_links file) (2 * i + 1))
  unfolding link_at
  step_at l = rw (lt-ltb i (file_m file) l, link-first l, link-second l)

  -- .. and what a reader gives there
  pub first-read : {a b : ℕ} → Some (a, b) ≡ link_at file i → a ≡ at (file_links file) (2 * i)
  first-read e = first-same (e ∙ step_at (link_some e))

  pub second-read : {a b : ℕ} → Some (a, b) ≡ link_at file i → b ≡ at (file_links file) (2 * i + 1)
  second-read e = second-same (e ∙ step_at (link_some e))
