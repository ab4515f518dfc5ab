-- 01, "Demand 3": what the calls alone tell. No record is looked at: only what open was handed, and the calls.
use Rattle.std.specs.Prelude.{ℕ, ◌+◌, cond, List, [], ◌∷◌, ◌++◌, eqb}
use Rattle.packing.specs.Orders.{up_to}
use Rattle.packing.specs.Plant.{common}
use Rattle.packing.specs.Refusals.{by_number}
use Rattle.planner.specs.Calls.{Call, link, order, set_limit, place_by, read, conditions_of}

-- n and T as open was handed them, a limit for each gateway, the length of the lent link list, the links accepted so far with their number, the order last accepted, the placings so far
pub record Told : Type 0 where
  pub n : ℕ
  pub t : ℕ
  pub limit : ℕ → ℕ
  pub room : ℕ
  pub links : List ℕ
  pub m : ℕ
  pub order : List ℕ
  pub placed : ℕ

-- after an accepted open: T for all, no link, "0, 1, .. if none was", none placed
unfoldable pub beginning : ℕ → ℕ → ℕ → Told
beginning n t room = record { n = n; t = t; limit = common t; room = room; links = []; m = 0; order = up_to n; placed = 0 }

-- limits with another one for the gateway u
abbrev pub with_limit : (ℕ → ℕ) → ℕ → ℕ → ℕ → ℕ
with_limit limits u limit v = cond (eqb v u) limit (limits v)

-- "The calls alone tell which of them were accepted: those for which no refusal's condition holds." The first number whose condition holds; 26 never does.
unfoldable pub refuses : Told → Call → ℕ
refuses p c = conditions_of p.n p.placed p.m p.links p.room c

-- what an accepted call tells
unfoldable pub accepted : Told → Call → Told
accepted p (link a b) =
    record { n = p.n; t = p.t; limit = p.limit; room = p.room; links = p.links ++ (a ∷ b ∷ []); m = p.m + 1; order = p.order; placed = p.placed }
accepted p (order numbers) = record { n = p.n; t = p.t; limit = p.limit; room = p.room; links = p.links; m = p.m; order = numbers; placed = p.placed }
accepted p (set_limit u limit) =
    record { n = p.n; t = p.t; limit = with_limit p.limit u limit; room = p.room; links = p.links; m = p.m; order = p.order; placed = p.placed }
accepted p (place_by w) = record { n = p.n; t = p.t; limit = p.limit; room = p.room; links = p.links; m = p.m; order = p.order; placed = p.placed + 1 }
accepted p (read leaders choke) = p

unfoldable pub tell_one : Told → Call → Told
tell_one p c = by_number (refuses p c) (accepted p c) p

-- .. by a list of calls
unfoldable pub tell : Told → List Call → Told
tell p [] = p
tell p (c ∷ calls) = tell (tell_one p c) calls

-- each call's number, 0 for accepted
unfoldable pub told_numbers : Told → List Call → List ℕ
told_numbers p [] = []
told_numbers p (c ∷ calls) = refuses p c ∷ told_numbers (tell_one p c) calls
