-- What the loops write that put a file's links and order into the front of a lent list, and the test of that order.
use Prim.Native.Nat.{ℕ, ◌+◌, ◌*◌, ◌≤◌}
use mathlib.Core.Path.{◌≡◌, refl, sym, ap, ◌∙◌}
use mathlib.Core.Bool.{Bool, true, false, not}
use mathlib.Core.List.{List}
use native.Mathlib.Omega.{arith}
use lib.ListN.{length, take, set}
use Rattle.std.specs.Prelude.{Some}
use lib.Seq.{get_or-take, length-take-le}
use Rattle.packing.specs.Plant.{GATEWAYS, at}
use Rattle.packing.specs.Lists.{list_of, written}
use Rattle.packing.proofs.Lists.{Listed, list_of-length, list-by, written-front, list-turn, list-end}
use Rattle.packing.specs.Orders.{repeats_or_outside}
use Rattle.sound.specs.Sound.{is_order}
use Rattle.sound.proofs.Orders.{order_answer}
use Rattle.plant_file.specs.PlantFile.{number, file_n, file_m, file_links, file_order}
use Rattle.plant_file.specs.Reader.{link_at}
use Rattle.plant_file.specs.Pre.{order_refusal}
use Rattle.plant_file.proofs.LinksByIndex.{order_number, links-long, order-long, link_some, first-read, second-read}

-- the first i links of a file were written over lent
abbrev pub LinksListed : List ℕ → List ℕ → List ℕ → ℕ → Type 0
LinksListed file lent links i = Listed (2 * file_m file) (at (file_links file)) lent links (2 * i)

module _ (file lent : List ℕ) where
  -- link i is written next
  pub links-turn : {links : List ℕ} {i j k a b : ℕ} → 2 * file_m file ≤ length lent → LinksListed file lent links j → Some (a, b) ≡ link_at file j → i ≡ j → k ≡ j + 1 → LinksListed file lent (set (set links (2 * i) a) (2 * i + 1) b) k
  links-turn {j = j} room f e here next =
      let l = link_some file j e in
      rw (here, next, twice) (list-turn _ _ _ room (list-turn _ _ _ room f (omega (arith, l)) (first-read file j e)) (omega (arith, l)) (second-read file j e))
    where
      twice : 2 * (j + 1) ≡ 2 * j + 1 + 1
      twice = omega arith

  -- they stand in front
  pub links-front : (i : ℕ) {links : List ℕ} → i ≤ file_m file → LinksListed file lent links i → take (2 * i) links ≡ take (2 * i) (file_links file)
  links-front i l f =
      rw f.list (written-front (2 * i) (list_of (2 * i) (at (file_links file))) lent (list_of-length (2 * i) (at (file_links file))))
      ∙ sym (list-by (2 * i) (take (2 * i) (file_links file)) (at (file_links file)) (length-take-le (2 * i) (file_links file) (omega (arith, links-long file))) (λ v q. get_or-take (2 * i) (file_links file) v 0 q))

  -- .. all of them
  pub links_end : {links : List ℕ} {i : ℕ} → LinksListed file lent links i → file_m file ≤ i → links ≡ written (2 * file_m file) (file_links file) lent
  links_end f h =
      list-end _ _ _ f (omega arith) ∙ ap (λ (l : List ℕ). written (2 * file_m file) l lent) (sym (list-by (2 * file_m file) (file_links file) (at (file_links file)) (links-long file) (λ v q. refl)))

-- a number of the order as the code reads it
pub order-entry : (file : List ℕ) (i : ℕ) {m x : ℕ} → m ≡ file_m file → x ≡ number file (10 + 4 * m + 2 * i) → x ≡ order_number file i
order-entry file i e f = rw e at f

-- .. and all of them
pub order_numbers : (file lent : List ℕ) {m n : ℕ} {l : List ℕ} → m ≡ file_m file → n ≡ file_n file → l ≡ written n (list_of n (λ i. number file (10 + 4 * m + 2 * i))) lent → l ≡ written (file_n file) (file_order file) lent
unfolding file_order
order_numbers file lent is_m is-n e = rw (is_m, is-n) at e

-- the order once it is written: its n numbers, and the test of them
module _ (file lent : List ℕ) {n : ℕ} {l : List ℕ} (is : n ≡ file_n file) (e : l ≡ written (file_n file) (file_order file) lent) where
  order-front : take n l ≡ file_order file
  order-front = rw (is, e) (written-front (file_n file) (file_order file) lent (order-long file))

  pub order-front-long : n ≡ length (take n l)
  order-front-long = is ∙ sym (order-long file) ∙ sym (ap length order-front)

  -- .. 6, where a number repeats or is not below n
  module _ {b : Bool} (few : file_n file ≤ GATEWAYS) (of : b ≡ is_order n (take n l)) where
    order_tested : not b ≡ repeats_or_outside (file_n file) (file_order file)
    order_tested = sym (order_answer (file_n file) (file_order file) few (omega (arith, order-long file)) (rw (order-front, is) at of))

    pub order-refused : not b ≡ true → 6 ≡ order_refusal file
    order-refused e = rw (← order_tested, e)

    pub order-fine : not b ≡ false → 0 ≡ order_refusal file
    order-fine e = rw (← order_tested, e)
