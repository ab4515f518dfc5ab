-- 01, "The record": "A record is sound if ..", clause by clause. n, t, m and k are the small part; ls, os, hs and ts are the lent lists of links, order, holders and limits.
-- 02, change 8: "The record gains a lent byte list of limits, at least n places ..; a sound record has 2 to 16 in each and holds to them."
use Rattle.std.specs.Prelude.{ℕ, ◌*◌, Bool, true, not, ◌&&◌, ◌||◌, List, [], ◌∷◌, eqb, ltb, leb, length}
use Rattle.packing.specs.Count.{count, all}
use Rattle.packing.specs.Plant.{NONE, GATEWAYS, LINKS, LOWEST, HIGHEST, at, first_links, linked}
use Rattle.packing.specs.Holders.{holds}

-- "n, T, m are in range, k ≤ n" (01, "The product": 0 to 1,024 gateways, 0 to 8,192 links, a limit T of 2 to 16)
unfoldable pub numbers_sound : ℕ → ℕ → ℕ → ℕ → Bool
numbers_sound n t m k = leb n GATEWAYS && leb LOWEST t && leb t HIGHEST && leb m LINKS && leb k n

-- "the lists are at least 2m, n and n long"; the limits have "at least n places"
unfoldable pub lists_long : ℕ → ℕ → List ℕ → List ℕ → List ℕ → List ℕ → Bool
lists_long n m ls os hs ts = leb (2 * m) (length ls) && leb n (length os) && leb n (length hs) && leb n (length ts)

-- "2 to 16 in each": one limit, and those of all n gateways
unfoldable pub is_limit : ℕ → Bool
is_limit limit = leb LOWEST limit && leb limit HIGHEST

unfoldable pub limits_sound : ℕ → List ℕ → Bool
limits_sound n ts = all n (λ u. is_limit (at ts u))

-- "link ends differ and are below n"
unfoldable pub ends_sound : ℕ → List ℕ → Bool
ends_sound n [] = true
ends_sound n (a ∷ []) = true
ends_sound n (a ∷ b ∷ rest) = not (eqb a b) && ltb a n && ltb b n && ends_sound n rest

-- "the first n of the order hold 0 to n − 1 once each"
unfoldable pub once_each : ℕ → List ℕ → Bool
once_each n os = all n (λ v. eqb (count n (λ i. eqb (at os i) v)) 1)

-- a list that may be an order: n is in range, there are n numbers, and the first n hold 0 to n − 1 once each
unfoldable pub is_order : ℕ → List ℕ → Bool
is_order n l = leb n GATEWAYS && leb n (length l) && once_each n l

-- "every holder is linked to what it holds"
unfoldable pub holders_linked : ℕ → List ℕ → List ℕ → Bool
holders_linked n ls hs = all n (λ v. eqb (at hs v) NONE || linked ls v (at hs v))

-- "none holds more than T", with each gateway's own limit for T
unfoldable pub holders_within : ℕ → (ℕ → ℕ) → List ℕ → Bool
holders_within n limit hs = all n (λ u. leb (holds n (at hs) u) (limit u))

-- "only the first k in the order are held"
unfoldable pub only_placed_held : ℕ → ℕ → List ℕ → List ℕ → Bool
only_placed_held n k os hs = all n (λ i. ltb i k || eqb (at hs (at os i)) NONE)

-- all of it
unfoldable pub is_sound : ℕ → ℕ → ℕ → ℕ → List ℕ → List ℕ → List ℕ → List ℕ → Bool
is_sound n t m k ls os hs ts =
    numbers_sound n t m k && lists_long n m ls os hs ts && limits_sound n ts && ends_sound n (first_links m ls) && once_each n os && holders_linked n (first_links m ls) hs
    && holders_within n (at ts) hs && only_placed_held n k os hs
