-- The check of each link against the links before it, one link on.
use Prim.Native.Nat.{ℕ, suc, ◌+◌, ◌*◌, ◌<◌, ◌≤◌}
use mathlib.Core.Path.{◌≡◌, refl, sym, ◌∙◌}
use mathlib.Core.List.{List, [], ◌∷◌, ◌++◌, append_assoc}
use native.Mathlib.Nat.{mul-add}
use native.Mathlib.Numerals.{add-one, add-two}
use native.Mathlib.Omega.{arith}
use lib.ListN.{length, take, drop}
use lib.Seq.{take-suc}
use Rattle.std.specs.Prelude.{Some}
use Rattle.packing.specs.Plant.{at}
use Rattle.packing.proofs.Flat.{pair-at, pair_end}
use Rattle.plant_file.specs.PlantFile.{file_n, file_m, file_links, ends_refusal, links_refusal}
use Rattle.packing.specs.Refusals.{first_of}
use Rattle.packing.proofs.Refusals.{first-refused, first_passed}
use Rattle.plant_file.specs.Reader.{link_at}
use Rattle.plant_file.proofs.LinksByIndex.{links-long, link_some, first-read, second-read}

-- two numbers more of a list
take-pair : (l : List ℕ) (k : ℕ) → k + 1 < length l → take k l ++ (at l k ∷ at l (k + 1) ∷ []) ≡ take (k + 2) l
take-pair l k h =
    sym (append_assoc (take k l) (at l k ∷ []) (at l (k + 1) ∷ []))
    ∙ rw (add-one k, add-two k, take-suc l (suc k) 0 (omega arith), take-suc l k 0 (omega arith))

-- a list of fewer than two numbers has no link
links-none : (n : ℕ) (e l : List ℕ) → length l ≤ 1 → links_refusal n e l ≡ 0
unfolding links_refusal
links-none n e [] h = refl
links-none n e (a ∷ []) h = refl
links-none n e (a ∷ b ∷ l) h = absurd (omega arith)

-- the refusals from link i on
abbrev pub onward : ℕ → List ℕ → ℕ → ℕ
onward n l i = links_refusal n (take (2 * i) l) (drop (2 * i) l)

-- the check of a list of links, one link on
pub onward-at : (n : ℕ) (l : List ℕ) (i : ℕ) → 2 * i + 1 < length l
    → onward n l i ≡ first_of (ends_refusal n (take (2 * i) l) (at l (2 * i)) (at l (2 * i + 1))) (onward n l (i + 1))
unfolding links_refusal
onward-at n l i h = rw (pair-at l (2 * i) h, take-pair l (2 * i) h, mul-add 2 i 1)

-- .. and at its end
pub onward-end : (n : ℕ) (l : List ℕ) (i : ℕ) → length l ≤ 2 * i + 1 → onward n l i ≡ 0
onward-end n l i h = links-none n _ (drop (2 * i) l) (pair_end l (2 * i) h)

-- the first i links
abbrev pub earlier : List ℕ → ℕ → List ℕ
earlier file i = take (2 * i) (file_links file)

-- the links before link i are not refused
pub record Checked (n : ℕ) (file : List ℕ) (i : ℕ) : Type 0 where
  pub upto : i ≤ file_m file
  pub rest : onward n (file_links file) i ≡ links_refusal n [] (file_links file)

module _ (n : ℕ) (file : List ℕ) where
  pub checked_start : Checked n file 0
  checked_start = record { upto = omega arith; rest = refl }

  -- link i, which joins a and b, and its refusal
  module _ (i : ℕ) {a b r : ℕ} (c : Checked n file i) (e : Some (a, b) ≡ link_at file i) (of : r ≡ ends_refusal n (earlier file i) a b) where
    one-on : links_refusal n [] (file_links file) ≡ first_of (ends_refusal n (earlier file i) a b) (onward n (file_links file) (i + 1))
    one-on = sym c.rest ∙ rw (first-read file i e, second-read file i e) (onward-at n (file_links file) i (omega (arith, link_some file i e, links-long file)))

    pub checked_turn : r ≡ 0 → Checked n file (i + 1)
    checked_turn z = let l = link_some file i e in record { upto = omega (arith, l); rest = first_passed of z refl ∙ sym one-on }

    pub checked_refused : n ≡ file_n file → (r ≡ 0 → ⊥) → r ≡ links_refusal (file_n file) [] (file_links file)
    checked_refused is z = first-refused _ of z ∙ sym one-on ∙ rw is

  pub checked_end : n ≡ file_n file → {i : ℕ} → Checked n file i → file_m file ≤ i → 0 ≡ links_refusal (file_n file) [] (file_links file)
  checked_end is {i} c h = sym (onward-end n (file_links file) i (omega (arith, links-long file))) ∙ c.rest ∙ rw is
