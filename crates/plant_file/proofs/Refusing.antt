-- A file's refusal in its parts, the header's, the links', the order's and the limits'; and with 10 after it.
use Prim.Native.Nat.{ℕ, ◌≤◌}
use mathlib.Core.Path.{◌≡◌, refl, sym, ◌∙◌}
use mathlib.Core.Bool.{Bool, true, false, not, ◌||◌}
use mathlib.Core.List.{List, []}
use native.Mathlib.Omega.{arith}
use lib.Dec.{eqb, ltb}
use lib.ListN.{length}
use borrow.Author.Tests.{ltb-false}
use Rattle.packing.specs.Plant.{GATEWAYS, LINKS, LOWEST, HIGHEST}
use Rattle.packing.proofs.Tests.{by_bool}
use Rattle.packing.specs.Orders.{repeats_or_outside}
use Rattle.packing.specs.Refusals.{refuse, first_of}
use Rattle.packing.proofs.Refusals.{refuse-none, first-refused, first_passed, first-none, first_alone}
use Rattle.plant_file.specs.PlantFile.{file_version, file_n, file_t, file_m, file_links, file_order, file_length, limits_allowed, begins_plt, links_refusal, file_refusal, file_then_short}
use Rattle.plant_file.specs.Pre.{sizes_refusal, header_refusal, order_refusal}

-- the links', then 6, and then 33
abbrev pub body_refusal : List ℕ → ℕ
body_refusal file =
    first_of (links_refusal (file_n file) [] (file_links file)) (refuse (repeats_or_outside (file_n file) (file_order file)) 6 (refuse (not (limits_allowed file)) 33 0))

pub file_parts : (file : List ℕ) → file_refusal file ≡ first_of (header_refusal file) (body_refusal file)
unfolding file_refusal sizes_refusal header_refusal
file_parts file =
    by_bool (ltb (length file) 10) (λ e. rw e)
    (λ e. rw e (by_bool (begins_plt file)
    (λ f. rw f (by_bool (eqb (file_version file) 1 || eqb (file_version file) 2)
    (λ g. rw g (by_bool (ltb GATEWAYS (file_n file)) (λ h. rw h)
    (λ h. rw h (by_bool (ltb (file_t file) LOWEST || ltb HIGHEST (file_t file)) (λ k. rw k)
    (λ k. rw k (by_bool (ltb LINKS (file_m file)) (λ l. rw l)
    (λ l. rw l (by_bool (eqb (length file) (file_length file)) (λ m. rw m) (λ m. rw m))))))))) (λ g. rw g))) (λ f. rw f)))

-- a refusal stays one with later conditions behind it
refuse-more : (b : Bool) (k later : ℕ) {r : ℕ} → r ≡ refuse b k 0 → (r ≡ 0 → ⊥) → r ≡ refuse b k later
refuse-more true k later e z = e
refuse-more false k later e z = absurd (z e)

-- each answer of the whole check
module _ (file : List ℕ) where
  pub file_header : {r : ℕ} → r ≡ header_refusal file → (r ≡ 0 → ⊥) → r ≡ file_refusal file
  file_header of z = first-refused (body_refusal file) of z ∙ sym (file_parts file)

  module _ (header : 0 ≡ header_refusal file) where
    file_body : {r : ℕ} → r ≡ body_refusal file → r ≡ file_refusal file
    file_body of = first_passed header refl of ∙ sym (file_parts file)

    pub file_links_lem : {r : ℕ} → r ≡ links_refusal (file_n file) [] (file_links file) → (r ≡ 0 → ⊥) → r ≡ file_refusal file
    file_links_lem of z = file_body (first-refused _ of z)

    module _ (links : 0 ≡ links_refusal (file_n file) [] (file_links file)) where
      pub file_order_lem : {r : ℕ} → r ≡ order_refusal file → (r ≡ 0 → ⊥) → r ≡ file_refusal file
      file_order_lem of z = file_body (first_passed links refl (refuse-more _ 6 _ of z))

      module _ (order : 0 ≡ order_refusal file) {a : Bool} (limits : a ≡ limits_allowed file) where
        orderly : repeats_or_outside (file_n file) (file_order file) ≡ false
        orderly = (refuse-none (repeats_or_outside (file_n file) (file_order file)) 6 0 (omega arith) (sym order)).0

        pub file_limits_lem : not a ≡ true → 33 ≡ file_refusal file
        file_limits_lem f = file_body (first_passed links refl (rw (orderly, ← limits, f)))

        pub file_fine : not a ≡ false → 0 ≡ file_refusal file
        file_fine f = file_body (first_passed links refl (rw (orderly, ← limits, f)))

-- no refusal of the header: n and m are in range
pub header_sizes : (file : List ℕ) → 0 ≡ header_refusal file → (file_n file ≤ GATEWAYS) × (file_m file ≤ LINKS)
unfolding sizes_refusal header_refusal
header_sizes file e =
    let a = refuse-none (ltb (length file) 10) 9 _ (omega arith) (sym e) in
    let b = refuse-none (not (begins_plt file)) 7 _ (omega arith) a.1 in
    let d = refuse-none (not (eqb (file_version file) 1 || eqb (file_version file) 2)) 8 _ (omega arith) b.1 in
    let n = refuse-none (ltb GATEWAYS (file_n file)) 1 _ (omega arith) d.1 in
    let t = refuse-none (ltb (file_t file) LOWEST || ltb HIGHEST (file_t file)) 2 _ (omega arith) n.1 in
    (ltb-false GATEWAYS (file_n file) n.0, ltb-false LINKS (file_m file) (refuse-none (ltb LINKS (file_m file)) 12 _ (omega arith) t.1).0)

-- the file's number, then 10
module _ (file : List ℕ) (short : Bool) where
  pub then_file : {e : ℕ} → e ≡ file_refusal file → (e ≡ 0 → ⊥) → e ≡ file_then_short file short
  unfolding file_then_short
  then_file of z = first-refused _ of z

  pub then_short : 0 ≡ file_refusal file → short ≡ true → 10 ≡ file_then_short file short
  unfolding file_then_short
  then_short of s = first_passed of refl (rw s)

  pub then_fine : 0 ≡ file_refusal file → short ≡ false → 0 ≡ file_then_short file short
  unfolding file_then_short
  then_fine of s = first_passed of refl (rw s)

  -- no number: the file is accepted, and no list is too short
  pub then_none : file_then_short file short ≡ 0 → (file_refusal file ≡ 0) × (short ≡ false)
  unfolding file_then_short
  then_none z = let a = first-none (file_refusal file) _ z in (a.0, (refuse-none short 10 0 (omega arith) a.1).0)

-- where no list is too short, the file's number stands alone
pub then_alone : (file : List ℕ) → file_then_short file false ≡ file_refusal file
unfolding file_then_short
then_alone file = first_alone (file_refusal file)
