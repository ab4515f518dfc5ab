-- A file that was loaded into lists with a place for every plant, and the answer by it.
use Prim.Native.Nat.{ℕ, zero, suc, ◌*◌, ◌≤◌}
use mathlib.Core.Path.{◌≡◌, refl, sym, ap, ◌∙◌}
use mathlib.Core.Bool.{Bool, ◌||◌}
use mathlib.Core.List.{List}
use native.Mathlib.Omega.{arith}
use lib.Dec.{ltb}
use lib.ListN.{length, take}
use borrow.Author.Tests.{le-ltb}
use Rattle.packing.specs.Lists.{written}
use Rattle.packing.specs.Plant.{GATEWAYS, ENDS, at, linked}
use Rattle.packing.proofs.Tests.{or-none}
use Rattle.packing.proofs.Refusals.{first-refused, first_passed}
use Rattle.packing.proofs.Lists.{written-room, written-front, written_at}
use Rattle.plant_file.specs.PlantFile.{file_n, file_m, file_links, file_limit, file_limits, file_refusal, file_then_short}
use Rattle.plant_file.specs.Load.{load_refusal, load_links, load_limits}
use Rattle.plant_file.proofs.Accepted.{file_allowed, file_links_sound}
use Rattle.plant_file.proofs.LinksByIndex.{links-long}
use Rattle.plant_file.proofs.GatewayLimits.{limits-long, limits-at}
use Rattle.plant_file.proofs.Loading.{load-places}
use Rattle.plant_file.proofs.Refusing.{then_file, then_alone}
use Rattle.checker.specs.Check.{lists_refusal, check_refusal}
use Rattle.checker.specs.Pre.{Checkable}
use Rattle.checker.proofs.Below.{lists_below}

-- 10 is not given: where the file is accepted, there are places
load-own : (file : List ℕ) {a b c e : ℕ} → e ≡ load_refusal file a b c → a ≡ ENDS → b ≡ GATEWAYS → c ≡ GATEWAYS → e ≡ file_refusal file
unfolding load_refusal
load-own file {a} {b} {c} of ends places limits = of ∙ go (file_refusal file) refl
  where
    short : Bool
    short = ltb a (2 * file_m file) || ltb b (file_n file) || ltb c (file_n file)

    go : (r : ℕ) → file_refusal file ≡ r → file_then_short file short ≡ file_refusal file
    go zero z =
        let f = file_allowed file z in
        ap (file_then_short file)
        (or-none _ _ (or-none _ _ (le-ltb a (2 * file_m file) (omega (arith, f.links-few))) (le-ltb b (file_n file) (omega (arith, f.few)))) (le-ltb c (file_n file) (omega (arith, f.few)))) ∙ then_alone file
    go (suc r) z = sym (then_file file short refl (λ q. omega arith))

pub load-refused : (file leaders choke : List ℕ) {a b c e : ℕ} → e ≡ load_refusal file a b c → a ≡ ENDS → b ≡ GATEWAYS → c ≡ GATEWAYS → (e ≡ 0 → ⊥) → e ≡ check_refusal file leaders choke
unfolding check_refusal
load-refused file leaders choke of ends places limits z = first-refused _ (load-own file of ends places limits) z

-- no refusal: the links that were loaded over ls, the limits over ts, and the answer by them
module _
    (file ls os ts : List ℕ) {e : ℕ} (of : e ≡ load_refusal file (length ls) (length os) (length ts)) (z : e ≡ 0) {new : List ℕ} (loads : new ≡ load_links file ls os ts) {m : ℕ} (is : m ≡ file_m file)
  where
    fine : file_refusal file ≡ 0
    fine = (load-places file (length ls) (length os) (length ts) of z).0

    written-links : new ≡ written (2 * file_m file) (file_links file) ls
    unfolding load_links
    written-links = loads ∙ rw (sym of ∙ z)

    pub links-room : 2 * m ≤ length new
    links-room = rw (is, written-links) (written-room (2 * file_m file) (file_links file) ls (links-long file))

    links-front : take (2 * m) new ≡ file_links file
    links-front = rw (is, written-links) (written-front (2 * file_m file) (file_links file) ls (links-long file))

    pub links-count : 2 * m ≡ length (take (2 * m) new)
    links-count = sym (ap length links-front ∙ links-long file ∙ ap (λ (k : ℕ). 2 * k) (sym is))

    module _ {n : ℕ} (gateways : n ≡ file_n file) where
      pub links_checkable : Checkable n (take (2 * m) new)
      links_checkable = record { few = rw gateways (file_allowed file fine).few; ends = rw (gateways, links-front) (file_links_sound file fine) }

      pub loaded_checked : {r : ℕ} {limits : List ℕ} (leaders choke : List ℕ) → limits ≡ load_limits file ls os ts → r ≡ lists_refusal n (at limits) (linked (take (2 * m) new)) leaders choke → r ≡ check_refusal file leaders choke
      unfolding check_refusal load_limits
      loaded_checked {limits = limits} leaders choke f h =
          let each : limits ≡ written (file_n file) (file_limits file) ts = f ∙ rw (sym of ∙ z) in
          first_passed (z ∙ sym fine) z (h ∙ rw (gateways, links-front) (lists_below (file_n file) (at limits) (file_limit file) (linked (file_links file)) leaders choke
          (λ u l. rw each (written_at (file_n file) (file_limits file) ts (limits-long file) u l ∙ limits-at file u l))))
