-- What no refusal of a file says.
use Prim.Native.Nat.{ℕ, zero, suc, ◌+◌, ◌*◌, ◌<◌, ◌≤◌}
use mathlib.Core.Path.{◌≡◌, refl, sym, ◌∙◌}
use mathlib.Core.Logic.{◌⊎◌}
use mathlib.Core.Bool.{true, false, not, ◌||◌}
use mathlib.Core.List.{List, [], ◌∷◌, ◌++◌}
use native.Mathlib.Numerals.{add-one}
use native.Mathlib.Omega.{arith}
use lib.Dec.{eqb, ltb, leb}
use lib.ListN.{length, take}
use borrow.Author.Tests.{lt-ltb, ltb-false, leb-false, eqb-true, eqb-false, ne_eqb, not-false}
use Rattle.packing.specs.Plant.{GATEWAYS, LINKS, LOWEST, HIGHEST, at, linked}
use Rattle.packing.proofs.Tests.{or_false_l, or_false_r}
use Rattle.packing.proofs.Prefixes.{IsOrder}
use Rattle.packing.specs.Orders.{repeats_or_outside}
use Rattle.packing.proofs.Refusals.{refuse-none, first-none}
use Rattle.sound.specs.Sound.{ends_sound}
use Rattle.sound.proofs.Meaning.{ends_mean}
use Rattle.sound.proofs.Orders.{order_right}
use Rattle.plant_file.specs.PlantFile.{file_version, file_n, file_t, file_m, file_links, file_order, file_length, limits_allowed, begins_plt, ends_refusal, links_refusal, file_refusal}
use Rattle.plant_file.proofs.LinksByIndex.{links-long}
use Rattle.plant_file.proofs.LinkChecks.{onward, onward-at}
use Rattle.plant_file.proofs.Versions.{one-or-two}

pub record FileAllowed (file : List ℕ) : Type 0 where
  pub begins : begins_plt file ≡ true
  pub version : (file_version file ≡ 1) ⊎ (file_version file ≡ 2)
  pub few : file_n file ≤ GATEWAYS
  pub least : LOWEST ≤ file_t file
  pub most : file_t file ≤ HIGHEST
  pub links-few : file_m file ≤ LINKS
  pub long : length file ≡ file_length file
  pub links : links_refusal (file_n file) [] (file_links file) ≡ 0
  pub order : IsOrder (file_n file) (at (file_order file))
  pub limits : limits_allowed file ≡ true

pub file_allowed : (file : List ℕ) → file_refusal file ≡ 0 → FileAllowed file
unfolding file_refusal
file_allowed file z =
    let short = refuse-none (ltb (length file) 10) 9 _ (omega arith) z in
    let begins = refuse-none (not (begins_plt file)) 7 _ (omega arith) short.1 in
    let version = refuse-none (not (eqb (file_version file) 1 || eqb (file_version file) 2)) 8 _ (omega arith) begins.1 in
    let n = refuse-none (ltb GATEWAYS (file_n file)) 1 _ (omega arith) version.1 in
    let t = refuse-none (ltb (file_t file) LOWEST || ltb HIGHEST (file_t file)) 2 _ (omega arith) n.1 in
    let m = refuse-none (ltb LINKS (file_m file)) 12 _ (omega arith) t.1 in
    let long = refuse-none (not (eqb (length file) (file_length file))) 9 _ (omega arith) m.1 in
    let links = first-none (links_refusal (file_n file) [] (file_links file)) _ long.1 in
    let order = refuse-none (repeats_or_outside (file_n file) (file_order file)) 6 _ (omega arith) links.1 in
    let limits = refuse-none (not (limits_allowed file)) 33 0 (omega arith) order.1 in
    record {
      begins = not-false (begins_plt file) begins.0;
      version = one-or-two file version.0;
      few = ltb-false GATEWAYS (file_n file) n.0;
      least = ltb-false (file_t file) LOWEST (or_false_l _ _ t.0);
      most = ltb-false HIGHEST (file_t file) (or_false_r (ltb (file_t file) LOWEST) _ t.0);
      links-few = ltb-false LINKS (file_m file) m.0;
      long = eqb-true (length file) (file_length file) (not-false (eqb (length file) (file_length file)) long.0);
      links = links.0;
      order = order_right (file_n file) (file_order file) order.0;
      limits = not-false (limits_allowed file) limits.0;
    }

-- a link a-b that is not refused after the links before it
pub record LinkAllowed (n : ℕ) (before : List ℕ) (a b : ℕ) : Type 0 where
  pub first : a < n
  pub second : b < n
  pub differ : a ≡ b → ⊥
  pub new : linked before a b ≡ false

pub ends_allowed : (n : ℕ) (before : List ℕ) (a b : ℕ) → ends_refusal n before a b ≡ 0 → LinkAllowed n before a b
unfolding ends_refusal
ends_allowed n before a b z =
    let outside = refuse-none (leb n a || leb n b) 3 _ (omega arith) z in
    let same = refuse-none (eqb a b) 4 _ (omega arith) outside.1 in
    let there = refuse-none (linked before a b) 20 0 (omega arith) same.1 in
    record {
      first = leb-false n a (or_false_l _ _ outside.0);
      second = leb-false n b (or_false_r (leb n a) _ outside.0);
      differ = eqb-false a b same.0;
      new = there.0;
    }

-- where no link is refused, none is from link i on
onward_allowed : (n : ℕ) (l : List ℕ) → links_refusal n [] l ≡ 0 → (i : ℕ) → 2 * i ≤ length l → onward n l i ≡ 0
onward_allowed n l z zero h = z
onward_allowed n l z (suc i) h = rw (← add-one i) (next (omega arith) (onward_allowed n l z i (omega arith)))
  where
    next : 2 * i + 1 < length l → onward n l i ≡ 0 → onward n l (i + 1) ≡ 0
    next k e = (first-none (ends_refusal n (take (2 * i) l) (at l (2 * i)) (at l (2 * i + 1))) (onward n l (i + 1)) (sym (onward-at n l i k) ∙ e)).1

-- link i of a list that is not refused
pub link_allowed : (n : ℕ) (l : List ℕ) → links_refusal n [] l ≡ 0 → (i : ℕ) → 2 * i + 1 < length l → LinkAllowed n (take (2 * i) l) (at l (2 * i)) (at l (2 * i + 1))
link_allowed n l z i h =
    ends_allowed n _ _ _ (first-none (ends_refusal n (take (2 * i) l) (at l (2 * i)) (at l (2 * i + 1))) _ (sym (onward-at n l i h) ∙ onward_allowed n l z i (omega arith))).0

-- every link of an accepted file
pub file_link_allowed : (file : List ℕ) → file_refusal file ≡ 0 → (i : ℕ) → i < file_m file
    → LinkAllowed (file_n file) (take (2 * i) (file_links file)) (at (file_links file) (2 * i)) (at (file_links file) (2 * i + 1))
file_link_allowed file z i h = link_allowed (file_n file) (file_links file) (file_allowed file z).links i (omega (arith, links-long file))

-- the ends of links that are not refused differ and are below n
links_sound : (n : ℕ) (before l : List ℕ) → links_refusal n before l ≡ 0 → ends_sound n l ≡ true
unfolding links_refusal ends_sound
links_sound n before [] z = refl
links_sound n before (a ∷ []) z = refl
links_sound n before (a ∷ b ∷ rest) z =
    let (one, later) = first-none (ends_refusal n before a b) _ z in
    let f = ends_allowed n before a b one in
    rw (ne_eqb a b f.differ, lt-ltb a n f.first, lt-ltb b n f.second) (links_sound n (before ++ (a ∷ b ∷ [])) rest later)

-- .. of an accepted file: they join two gateways that differ
pub file_links_sound : (file : List ℕ) → file_refusal file ≡ 0 → ends_sound (file_n file) (file_links file) ≡ true
file_links_sound file z = links_sound (file_n file) [] (file_links file) (file_allowed file z).links

pub file_ends : (file : List ℕ) → file_refusal file ≡ 0 → (x y : ℕ) → linked (file_links file) x y ≡ true → (x < file_n file) × (y < file_n file) × (x ≡ y → ⊥)
file_ends file z = ends_mean (file_n file) (file_links file) (file_links_sound file z)
