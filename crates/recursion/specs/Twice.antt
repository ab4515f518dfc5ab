-- 01, "The record": "A link listed twice in a record filled by hand counts where it first stands." Of placing by the short search too.
use Rattle.std.specs.Prelude.{ℕ, ◌*◌, ◌≡◌, true, List, ◌∷◌, ◌++◌, length}
use Rattle.packing.specs.Plant.{linked}
use Rattle.recursion.specs.Recursion.{recursive_after}

-- Let ls be m whole links of which a-b is one, either way round. With a-b again behind them, and any links after that, placing leaves the same holders as without it, whatever else is handed in.
unfoldable pub RecursiveFirst : Type 0
RecursiveFirst =
    (m : ℕ) (ls rest : List ℕ) (a b : ℕ) → length ls ≡ 2 * m → linked ls a b ≡ true
    → (n : ℕ) (limit : ℕ → ℕ) (hs : List ℕ) (v : ℕ) → recursive_after n limit (ls ++ a ∷ b ∷ rest) hs v ≡ recursive_after n limit (ls ++ rest) hs v
