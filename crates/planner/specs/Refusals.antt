-- 01, "Refused for what was handed in" and "Refused for where the record is": each call's conditions in the turn of "First to be named"; and those of 02, change 8.
-- The conditions without 26 speak of the links accepted so far, their number and the placings so far, not of a record.
use Rattle.std.specs.Prelude.{ℕ, ◌+◌, ◌*◌, not, ◌||◌, List, eqb, ltb, leb, length}
use Rattle.packing.specs.Plant.{GATEWAYS, LINKS, LOWEST, HIGHEST, linked}
use Rattle.packing.specs.Refusals.{refuse}
use Rattle.packing.specs.Orders.{repeats_or_outside}
use Rattle.sound.specs.Sound.{is_limit}

-- open: 1, 2, 10; of the limits "fewer is 10 at open" (02, change 8)
unfoldable pub open_refusal : ℕ → ℕ → List ℕ → List ℕ → List ℕ → ℕ
open_refusal n t os hs ts =
    refuse (ltb GATEWAYS n) 1
    (refuse (ltb t LOWEST || ltb HIGHEST t) 2
    (refuse (ltb (length os) n || (ltb (length hs) n || ltb (length ts) n)) 10 0))

-- link, after 26: 22, 3, 4, 20, 21. l are the m links so far; room is the length of the lent link list.
unfoldable pub link_conditions : ℕ → ℕ → ℕ → List ℕ → ℕ → ℕ → ℕ → ℕ
link_conditions n k m l room a b =
    refuse (ltb 0 k) 22
    (refuse (leb n a || leb n b) 3
    (refuse (eqb a b) 4
    (refuse (linked l a b) 20
    (refuse (eqb m LINKS || ltb room (2 * m + 2)) 21 0))))

-- order, after 26: 22, 5, 6
unfoldable pub order_conditions : ℕ → ℕ → List ℕ → ℕ
order_conditions n k numbers =
    refuse (ltb 0 k) 22
    (refuse (not (eqb (length numbers) n)) 5
    (refuse (repeats_or_outside n numbers) 6 0))

-- the call for one limit, after 26: 22, 30 for a gateway out of range, 33 for a limit that is none of 2 to 16 (02, change 8)
unfoldable pub limit_conditions : ℕ → ℕ → ℕ → ℕ → ℕ
limit_conditions n k u limit =
    refuse (ltb 0 k) 22
    (refuse (leb n u) 30
    (refuse (not (is_limit limit)) 33 0))

-- place, after 26: 24
unfoldable pub place_conditions : ℕ → ℕ → ℕ
place_conditions n k = refuse (eqb k n) 24 0

-- read, after 26: 10 (02, change 1: "Read no longer gives 25."). The lengths are those of the lent lists of leaders and of choke bytes.
unfoldable pub read_conditions : ℕ → ℕ → ℕ → ℕ
read_conditions n leadersLength chokeLength = refuse (ltb leadersLength n || ltb chokeLength n) 10 0
