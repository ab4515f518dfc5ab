-- 02, change 4: holders before and after a gateway v is placed, and at how many gateways they differ. h are the holders before.
use Rattle.std.specs.Prelude.{ℕ, ◌<◌, ◌≤◌, ◌≡◌, Bool, not, ◌&&◌, ◌||◌, eqb}
use Rattle.packing.specs.Count.{count}
use Rattle.packing.specs.Holders.{held, Feasible}

-- h' "holds exactly the kept ones and the new one, along links and within T", with each gateway's own limit for T
pub record Kept (n : ℕ) (limit : ℕ → ℕ) (adj : ℕ → ℕ → Bool) (h h' : ℕ → ℕ) (v : ℕ) : Type 0 where
  pub feasible : Feasible n limit adj h'
  pub holding : (w : ℕ) → w < n → held n h' w ≡ (held n h w || eqb w v)

-- "the number of gateways whose holder changed": the entries of the gateways below n that are not the same before and after
unfoldable pub moved : ℕ → (ℕ → ℕ) → (ℕ → ℕ) → ℕ
moved n h h' = count n (λ w. not (eqb (h w) (h' w)))

-- w has one holder in h and another, or none, in h', or the other way round. Any number from n on means none, so two such numbers are no difference.
unfoldable pub differs : ℕ → (ℕ → ℕ) → (ℕ → ℕ) → ℕ → Bool
differs n h h' w = (held n h w || held n h' w) && not (eqb (h w) (h' w))

-- at how many gateways other holders differ from the old ones
unfoldable pub differing : ℕ → (ℕ → ℕ) → (ℕ → ℕ) → ℕ
differing n h h' = count n (differs n h h')

-- "this number is the least possible: no other set of holders that holds exactly the kept ones and the new one .. differs from the old holders at fewer gateways"
abbrev pub LeastMoved : (n : ℕ) (limit : ℕ → ℕ) (adj : ℕ → ℕ → Bool) (h : ℕ → ℕ) (v moves : ℕ) → Type 0
LeastMoved n limit adj h v moves = (other : ℕ → ℕ) → Kept n limit adj h other v → moves ≤ differing n h other

-- .. and it is possible: the holders h' are such, and differ at so many
pub record Fewest (n : ℕ) (limit : ℕ → ℕ) (adj : ℕ → ℕ → Bool) (h h' : ℕ → ℕ) (v moves : ℕ) : Type 0 where
  pub kept : Kept n limit adj h h' v
  pub attained : differing n h h' ≡ moves
  pub least : LeastMoved n limit adj h v moves
