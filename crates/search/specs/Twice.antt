-- 01, "The record": "A link listed twice in a record filled by hand counts where it first stands."
use Rattle.std.specs.Prelude.{ℕ, ◌*◌, ◌≡◌, true, List, ◌∷◌, ◌++◌, length}
use Rattle.packing.specs.Plant.{linked}
use Rattle.search.specs.Search.{holders_after}
use Rattle.search.specs.ChokeSet.{choke_written}

-- Let ls be m whole links of which a-b is one, either way round. With a-b again behind them, and any links after that, the same are linked as without it,
-- and whatever else is handed in, placing leaves the same holders and the choke set's bytes are the same.
unfoldable pub CountsFirst : Type 0
CountsFirst =
    (m : ℕ) (ls rest : List ℕ) (a b : ℕ) → length ls ≡ 2 * m → linked ls a b ≡ true
    → ((x y : ℕ) → linked (ls ++ a ∷ b ∷ rest) x y ≡ linked (ls ++ rest) x y)
    × ((n : ℕ) (limit : ℕ → ℕ) (hs : List ℕ) (v : ℕ) → holders_after n limit (ls ++ a ∷ b ∷ rest) hs v ≡ holders_after n limit (ls ++ rest) hs v)
    × ((n : ℕ) (hs out : List ℕ) → choke_written n (ls ++ a ∷ b ∷ rest) hs out ≡ choke_written n (ls ++ rest) hs out)
