-- What a call's number says of the conditions that it was found by.
use Prim.Native.Nat.{ℕ, ◌+◌, ◌*◌, ◌<◌, ◌≤◌}
use mathlib.Core.Path.{◌≡◌, sym, ◌∙◌}
use mathlib.Core.Bool.{Bool, true, false, not, ◌||◌}
use mathlib.Core.List.{List}
use native.Mathlib.Omega.{arith}
use lib.Dec.{eqb, ltb, leb}
use lib.ListN.{length}
use borrow.Author.Tests.{ne_eqb, ltb-false, leb-false, eqb-true, eqb-false, not-false}
use Rattle.packing.specs.Orders.{repeats_or_outside}
use Rattle.packing.specs.Plant.{GATEWAYS, LINKS, LOWEST, HIGHEST, linked}
use Rattle.packing.specs.Refusals.{refuse}
use Rattle.packing.proofs.Refusals.{refuse-none}
use Rattle.packing.proofs.Tests.{or_false_l, or_false_r}
use Rattle.sound.specs.Sound.{is_limit}
use Rattle.sound.proofs.Meaning.{limit_means}
use Rattle.planner.specs.Refusals.{open_refusal, link_conditions, order_conditions, limit_conditions, place_conditions, read_conditions}

-- 26 is named first: a sound record gives what the conditions give
pub sound_number : {v b : Bool} {e rest : ℕ} → v ≡ b → v ≡ true → e ≡ rest → e ≡ refuse (not b) 26 rest
sound_number e f g = rw (sym e ∙ f) g

-- what no refusal of open says
pub open_allowed : (n t : ℕ) (os hs ts : List ℕ) {e : ℕ} → e ≡ open_refusal n t os hs ts → e ≡ 0 → (n ≤ GATEWAYS) × (LOWEST ≤ t) × (t ≤ HIGHEST) × (n ≤ length os) × (n ≤ length hs) × (n ≤ length ts)
unfolding open_refusal
open_allowed n t os hs ts g z =
    let a = refuse-none (ltb GATEWAYS n) 1 _ (omega arith) (sym g ∙ z) in
    let b = refuse-none (ltb t LOWEST || ltb HIGHEST t) 2 _ (omega arith) a.1 in
    let c = refuse-none (ltb (length os) n || (ltb (length hs) n || ltb (length ts) n)) 10 0 (omega arith) b.1 in
    let later = or_false_r (ltb (length os) n) (ltb (length hs) n || ltb (length ts) n) c.0 in (
      ltb-false GATEWAYS n a.0,
      ltb-false t LOWEST (or_false_l _ _ b.0),
      ltb-false HIGHEST t (or_false_r (ltb t LOWEST) _ b.0),
      ltb-false _ n (or_false_l _ _ c.0),
      ltb-false _ n (or_false_l _ _ later),
      ltb-false _ n (or_false_r (ltb (length hs) n) _ later),
    )

-- .. of link
pub link_allowed : (n k m : ℕ) (l : List ℕ) (room a b : ℕ) {e : ℕ} → e ≡ link_conditions n k m l room a b → e ≡ 0
    → (k ≡ 0) × (a < n) × (b < n) × (a ≡ b → ⊥) × (linked l a b ≡ false) × (m ≡ LINKS → ⊥) × (2 * m + 2 ≤ room)
unfolding link_conditions
link_allowed n k m l room a b g z =
    let f22 = refuse-none (ltb 0 k) 22 _ (omega arith) (sym g ∙ z) in
    let f3 = refuse-none (leb n a || leb n b) 3 _ (omega arith) f22.1 in
    let f4 = refuse-none (eqb a b) 4 _ (omega arith) f3.1 in
    let f20 = refuse-none (linked l a b) 20 _ (omega arith) f4.1 in
    let f21 = refuse-none (eqb m LINKS || ltb room (2 * m + 2)) 21 0 (omega arith) f20.1 in (
      omega (arith, ltb-false 0 k f22.0),
      leb-false n a (or_false_l _ _ f3.0),
      leb-false n b (or_false_r (leb n a) _ f3.0),
      eqb-false a b f4.0,
      f20.0,
      eqb-false m LINKS (or_false_l _ _ f21.0),
      ltb-false room (2 * m + 2) (or_false_r (eqb m LINKS) _ f21.0),
    )

-- .. of order
pub order_allowed : (n k : ℕ) (numbers : List ℕ) {e : ℕ} → e ≡ order_conditions n k numbers → e ≡ 0 → (k ≡ 0) × (length numbers ≡ n) × (repeats_or_outside n numbers ≡ false)
unfolding order_conditions
order_allowed n k numbers g z =
    let f22 = refuse-none (ltb 0 k) 22 _ (omega arith) (sym g ∙ z) in
    let f5 = refuse-none (not (eqb (length numbers) n)) 5 _ (omega arith) f22.1 in
    let f6 = refuse-none (repeats_or_outside n numbers) 6 0 (omega arith) f5.1 in
    (omega (arith, ltb-false 0 k f22.0), eqb-true (length numbers) n (not-false (eqb (length numbers) n) f5.0), f6.0)

-- .. of the call for one limit
pub limit_allowed_lem : (n k u limit : ℕ) {e : ℕ} → e ≡ limit_conditions n k u limit → e ≡ 0 → (k ≡ 0) × (u < n) × (LOWEST ≤ limit) × (limit ≤ HIGHEST)
unfolding limit_conditions
limit_allowed_lem n k u limit g z =
    let f22 = refuse-none (ltb 0 k) 22 _ (omega arith) (sym g ∙ z) in
    let f30 = refuse-none (leb n u) 30 _ (omega arith) f22.1 in
    let f33 = refuse-none (not (is_limit limit)) 33 0 (omega arith) f30.1 in
    let (low, high) = limit_means limit (not-false (is_limit limit) f33.0) in
    (omega (arith, ltb-false 0 k f22.0), leb-false n u f30.0, low, high)

-- .. of place, and where it is met
pub place_allowed : (n k : ℕ) → place_conditions n k ≡ 0 → k ≡ n → ⊥
unfolding place_conditions
place_allowed n k z = eqb-false k n (refuse-none (eqb k n) 24 0 (omega arith) z).0

pub place-next : (n k : ℕ) → (k ≡ n → ⊥) → 0 ≡ place_conditions n k
unfolding place_conditions
place-next n k h = rw (ne_eqb k n h)

-- .. of read
pub read_allowed : (n leaders choke : ℕ) → read_conditions n leaders choke ≡ 0 → (n ≤ leaders) × (n ≤ choke)
unfolding read_conditions
read_allowed n leaders choke z =
    let f10 = refuse-none (ltb leaders n || ltb choke n) 10 0 (omega arith) z in
    (ltb-false leaders n (or_false_l _ _ f10.0), ltb-false choke n (or_false_r (ltb leaders n) _ f10.0))
