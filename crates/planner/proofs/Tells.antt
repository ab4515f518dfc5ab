-- What the calls tell is the plant of the accepted ones: call by call, from anything told before.
use Prim.Native.Nat.{ℕ, zero, suc, ◌+◌, ◌*◌}
use mathlib.Core.Path.{◌≡◌, refl, sym, ◌∙◌}
use mathlib.Core.List.{List, [], ◌∷◌, ◌++◌, append-nil, append_assoc}
use native.Mathlib.Nat.{zero-add}
use native.Mathlib.Omega.{arith}
use lib.ListN.{length}
use Rattle.packing.specs.Plant.{common}
use Rattle.packing.specs.Refusals.{by_number}
use Rattle.packing.proofs.Refusals.{by_number_lem}
use Rattle.planner.specs.Calls.{Call, link, order, set_limit, place_by, read}
use Rattle.planner.specs.Told.{Told, beginning, refuses, accepted, tell_one, tell, told_numbers}
use Rattle.planner.specs.Tells.{accepted_by, links_in, last_order, last_limit, placings, TellsPlant}

-- what holds after an accepted call, and held before it, holds after a call, ..
pub one-keeps : (p : Told) (c : Call) (P : Told → Type 0) → (refuses p c ≡ 0 → P (accepted p c)) → P p → P (tell_one p c)
unfolding tell_one
one-keeps p c P = by_number_lem (accepted p c) p P (refuses p c)

-- .. and what each accepted call keeps, any calls keep
pub tell-keeps : (P : Told → Type 0) → ((p : Told) (c : Call) → refuses p c ≡ 0 → P p → P (accepted p c)) → (p : Told) (calls : List Call) → P p → P (tell p calls)
unfolding tell
tell-keeps P keeps p [] h = h
tell-keeps P keeps p (c ∷ calls) h = tell-keeps P keeps (tell_one p c) calls (one-keeps p c P (λ z. keeps p c z h) h)

-- what was told before, and the plant of the accepted calls after it
pub record Onward (p : Told) (later : List Call) (q : Told) : Type 0 where
  pub gateways : q.n ≡ p.n
  pub limit : q.t ≡ p.t
  pub limits : (u : ℕ) → q.limit u ≡ last_limit (p.limit u) u later
  pub links : q.links ≡ p.links ++ links_in later
  pub count : 2 * q.m ≡ 2 * p.m + length (links_in later)
  pub order : q.order ≡ last_order p.order later
  pub placed : q.placed ≡ p.placed + placings later

-- one accepted call more in front
onward-one : (p : Told) (c : Call) (later : List Call) (q : Told) → Onward (accepted p c) later q → Onward p (c ∷ later) q
unfolding accepted links_in last_order last_limit placings
onward-one p (link a b) later q o =
    record {
      gateways = o.gateways;
      limit = o.limit;
      limits = o.limits;
      links = o.links ∙ append_assoc p.links (a ∷ b ∷ []) (links_in later);
      count = omega (arith, o.count);
      order = o.order;
      placed = o.placed;
    }
onward-one p (order numbers) later q o = record { gateways = o.gateways; limit = o.limit; limits = o.limits; links = o.links; count = o.count; order = o.order; placed = o.placed }
onward-one p (set_limit u limit) later q o = record { gateways = o.gateways; limit = o.limit; limits = o.limits; links = o.links; count = o.count; order = o.order; placed = o.placed }
onward-one p (place_by w) later q o =
    record { gateways = o.gateways; limit = o.limit; limits = o.limits; links = o.links; count = o.count; order = o.order; placed = omega (arith, o.placed) }
onward-one p (read leaders choke) later q o = record { gateways = o.gateways; limit = o.limit; limits = o.limits; links = o.links; count = o.count; order = o.order; placed = o.placed }

pub onward : (p : Told) (calls : List Call) → Onward p (accepted_by (told_numbers p calls) calls) (tell p calls)
unfolding told_numbers accepted_by tell tell_one links_in last_order last_limit placings
onward p [] = record { gateways = refl; limit = refl; limits = λ u. refl; links = sym (append-nil p.links); count = omega arith; order = refl; placed = omega arith }
onward p (c ∷ calls) = by (refuses p c) (onward (tell_one p c) calls)
  where
    by : (e : ℕ) → Onward (by_number e (accepted p c) p) (accepted_by (told_numbers (by_number e (accepted p c) p) calls) calls) (tell (by_number e (accepted p c) p) calls)
        → Onward p (by_number e (c ∷ accepted_by (told_numbers (by_number e (accepted p c) p) calls) calls) (accepted_by (told_numbers (by_number e (accepted p c) p) calls) calls)) (tell (by_number e (accepted p c) p) calls)
    by zero o = onward-one p c _ _ o
    by (suc e) o = o

pub tells_accepted : TellsPlant
unfolding TellsPlant beginning common
tells_accepted n t room calls =
    let o = onward (beginning n t room) calls in
    record {
      gateways = o.gateways;
      limit = o.limit;
      limits = o.limits;
      links = o.links;
      count = o.count ∙ zero-add _;
      order = o.order;
      placed = o.placed ∙ zero-add _;
    }
