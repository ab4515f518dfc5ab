-- The statements of specs/Moved.antt: what the number moved says of any input, and that it is the least.
use mathlib.Core.Path.{◌≡◌, sym, ap, ◌∙◌}
use mathlib.Core.Logic.{⊎_elim}
use mathlib.Core.Bool.{true, false}
use mathlib.Core.List.{List, [], ◌∷◌}
use Prim.Native.Nat.{ℕ}
use Rattle.packing.specs.Plant.{at, linked}
use Rattle.packing.specs.Holders.{held}
use Rattle.packing.specs.Moved.{Kept, moved}
use Rattle.packing.proofs.Tests.{by_bool, clash}
use Rattle.packing.proofs.Moved.{new-moved, moved_none, fewest}
use Rattle.search.specs.Search.{walk, settled, placeable, placed_holders, holders_after}
use Rattle.search.specs.Moved.{moved_by, NoneMoved, NewCounted, LeastPlaced}
use Rattle.search.specs.Pre.{Placeable}
use Rattle.search.proofs.States.{by_state}
use Rattle.search.proofs.Shifting.{shift-held}
use Rattle.search.proofs.Placing.{walk-found, place_is}
use Rattle.search.proofs.Least.{placed-least}
use Rattle.search.proofs.Tested.{placeable_means, holders-placed}

-- one that has no holder after its placing was left: nobody is moved
left-none : {n : ℕ} (limit : ℕ → ℕ) (ls : List ℕ) {hs : List ℕ} {v : ℕ} → Placeable n hs v → held n (at (placed_holders n limit ls hs v)) v ≡ false → moved n (at hs) (at (placed_holders n limit ls hs v)) ≡ 0
unfolding placed_holders settled
left-none {n} limit ls {hs} {v} p e =
    by_state (walk n limit ls hs (v ∷ []))
    (λ u x from q. let w = walk-found limit ls p q in clash _ (shift-held n ls v from p.inside n w.steps hs u x w.few p.holders w.below w.chain) (rw q at e))
    (λ queue from q. rw q (moved_none n (at hs)))

pub none-moved : NoneMoved
unfolding NoneMoved moved_by holders_after
none-moved n limit ls hs v =
    (refused, λ e. by_bool (placeable n hs v) (λ q. rw q (left-none limit ls (placeable_means n hs v q) (rw q at e))) refused)
  where
    refused : placeable n hs v ≡ false → moved_by n limit ls hs v ≡ 0
    refused q = rw q (moved_none n (at hs))

pub new-counted : NewCounted
unfolding NewCounted moved_by
new-counted n limit ls hs v e h = let p = placeable_means n hs v e in new-moved n (at hs) (at (holders_after n limit ls hs v)) v p.inside p.free h

pub least-placed : LeastPlaced
unfolding LeastPlaced moved_by
least-placed n limit ls hs v e f h =
    let p = placeable_means n hs v e in
    let same = holders-placed limit ls p in
    let after : held n (at (placed_holders n limit ls hs v)) v ≡ true = rw same at h in
    rw same
    (fewest
    (⊎_elim (λ (kept : Kept n limit (linked ls) (at hs) (at (placed_holders n limit ls hs v)) v). kept) (λ left. clash _ (sym (ap (λ (h : ℕ → ℕ). held n h v) left.unchanged) ∙ after) p.free) (place_is limit ls p f))
    (placed-least limit ls p f))
