-- The limits that calls tell: those of a list, one call each, and that each is one of 2 to 16.
use Prim.Native.Nat.{ℕ, zero, suc, ◌+◌, ◌<◌, ◌≤◌}
use mathlib.Core.Path.{◌≡◌, refl, ap, ◌∙◌}
use mathlib.Core.Bool.{true}
use mathlib.Core.List.{List, [], ◌∷◌, ◌++◌, append-nil}
use native.Mathlib.Nat.{not-suc-le-zero, le_of_suc-le-suc, zero-add}
use native.Mathlib.Omega.{arith}
use lib.Dec.{eqb}
use lib.ListN.{length}
use borrow.Author.Tests.{eq-eqb, ne_eqb, lt-leb}
use Rattle.packing.specs.Plant.{LOWEST, HIGHEST, at, common}
use Rattle.packing.proofs.Tests.{by_bool}
use Rattle.sound.specs.Sound.{is_limit}
use Rattle.sound.proofs.Meaning.{means_limit}
use Rattle.planner.specs.Refusals.{limit_conditions}
use Rattle.planner.specs.Calls.{Call, link, order, set_limit, place_by, read}
use Rattle.planner.specs.Told.{Told, beginning, with_limit, refuses, accepted, tell_one, tell}
use Rattle.planner.specs.Run.{limit_calls}
use Rattle.planner.specs.Tells.{ToldInRange, AnyLimits}
use Rattle.planner.proofs.Conditions.{limit_allowed_lem}
use Rattle.planner.proofs.Tells.{tell-keeps}

-- the limits once those of a list are set, from the gateway u on
unfoldable pub limits_told : (ℕ → ℕ) → ℕ → List ℕ → ℕ → ℕ
limits_told limit u [] = limit
limits_told limit u (x ∷ l) = limits_told (with_limit limit u x) (suc u) l

-- .. are not other ones for the gateways before u, ..
told_before : (limit : ℕ → ℕ) (u : ℕ) (l : List ℕ) (v : ℕ) → v < u → limits_told limit u l v ≡ limit v
unfolding limits_told
told_before limit u [] v h = refl
told_before limit u (x ∷ l) v h = told_before (with_limit limit u x) (suc u) l v (omega arith) ∙ rw (ne_eqb v u (λ e. omega arith))

-- .. and those of the list for as many from u on
pub told_at : (limit : ℕ → ℕ) (u : ℕ) (l : List ℕ) (i : ℕ) → i < length l → limits_told limit u l (u + i) ≡ at l i
unfolding limits_told
told_at limit u [] i h = absurd (not-suc-le-zero h)
told_at limit u (x ∷ l) zero h = told_before (with_limit limit u x) (suc u) l (u + 0) (omega arith) ∙ rw (eq-eqb (u + 0) u (omega arith))
told_at limit u (x ∷ l) (suc i) h = rw later (told_at (with_limit limit u x) (suc u) l i (le_of_suc-le-suc h))
  where
    later : u + suc i ≡ suc u + i
    later = omega arith

-- an accepted call, and those after it
pub tells_one : (p : Told) (c : Call) (calls : List Call) → refuses p c ≡ 0 → tell p (c ∷ calls) ≡ tell (accepted p c) calls
unfolding tell tell_one
tells_one p c calls z = rw z

-- what was told, with other limits
abbrev pub limited : (ℕ → ℕ) → Told → Told
limited limit p = record { n = p.n; t = p.t; limit = limit; room = p.room; links = p.links; m = p.m; order = p.order; placed = p.placed }

limit-accepted : (p : Told) (u x : ℕ) → p.placed ≡ 0 → u < p.n → is_limit x ≡ true → refuses p (set_limit u x) ≡ 0
unfolding refuses limit_conditions
limit-accepted p u x none l e = rw (none, lt-leb p.n u l, e)

-- before the first placing the calls for a list of limits are accepted, and tell them
pub limits-tell : (p : Told) (u : ℕ) (l : List ℕ) (rest : List Call) → p.placed ≡ 0 → u + length l ≤ p.n → ((i : ℕ) → i < length l → is_limit (at l i) ≡ true)
    → tell p (limit_calls u l ++ rest) ≡ tell (limited (limits_told p.limit u l) p) rest
unfolding limit_calls limits_told accepted
limits-tell p u [] rest none few ok = refl
limits-tell p u (x ∷ l) rest none few ok =
    tells_one p (set_limit u x) (limit_calls (suc u) l ++ rest) (limit-accepted p u x none (omega arith) (ok 0 (omega arith)))
    ∙ limits-tell (limited (with_limit p.limit u x) p) (suc u) l rest none (omega arith) (λ i h. ok (suc i) (omega arith))

pub any-limits : AnyLimits
unfolding AnyLimits beginning tell
any-limits n t room limits long range v l =
    (rw append-nil at (ap limit_at (limits-tell (beginning n t room) 0 limits [] refl (omega arith) (λ i h. means_limit (at limits i) (range i (omega arith)).0 (range i (omega arith)).1))))
    ∙ (rw zero-add at (told_at (common t) 0 limits v (omega arith)))
  where
    limit_at : Told → ℕ
    limit_at p = p.limit v

-- each limit is one of 2 to 16
abbrev EachInRange : Told → Type 0
EachInRange p = (v : ℕ) → (LOWEST ≤ p.limit v) × (p.limit v ≤ HIGHEST)

accepted_range : (p : Told) (c : Call) → refuses p c ≡ 0 → EachInRange p → EachInRange (accepted p c)
unfolding accepted refuses
accepted_range p (link a b) z r = r
accepted_range p (order numbers) z r = r
accepted_range p (set_limit u limit) z r =
    let (_, _, low, high) = limit_allowed_lem p.n p.placed u limit refl z in λ v. by_bool (eqb v u) (λ e. rw e (low, high)) (λ e. rw e (r v))
accepted_range p (place_by w) z r = r
accepted_range p (read leaders choke) z r = r

pub told_in_range : ToldInRange
unfolding ToldInRange beginning common
told_in_range n t room calls low high = tell-keeps EachInRange accepted_range (beginning n t room) calls (λ v. (low, high))
