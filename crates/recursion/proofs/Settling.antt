-- Placing v with marks to work in: what the search leaves, the number moved, and the rows.
use Prim.Native.Nat.{ℕ, ◌+◌, ◌-◌, ◌*◌, ◌≤◌}
use mathlib.Core.Path.{◌≡◌, sym, ap, ◌∙◌}
use mathlib.Core.List.{List, ◌++◌}
use native.Mathlib.Omega.{arith}
use Rattle.std.specs.Prelude.{Option, unwrap_or}
use lib.ListN.{take, drop, replicate, length-replicate}
use lib.Seq.{get_or-drop, get_or-append-add}
use Rattle.packing.specs.Lists.{written}
use Rattle.packing.specs.Moved.{moved}
use Rattle.packing.specs.Plant.{NONE, GATEWAYS, at}
use Rattle.packing.proofs.Lists.{zero-at, written-front, written-room}
use Rattle.packing.proofs.Moved.{moved_none}
use Rattle.search.specs.RowPre.{RowsOf}
use Rattle.recursion.specs.Recursion.{search, settled, recursive_holders}
use Rattle.recursion.specs.Pre.{Working, Fits, PlaceableBy}
use Rattle.recursion.proofs.Marks.{untried-start}
use Rattle.recursion.proofs.Placing.{own-tried}
use Rattle.recursion.proofs.Promises.{by_option, FoundBy, FoundRows}

module _
    {n : ℕ} {hs : List ℕ} {v : ℕ} {rows : List (List ℕ)} (p : PlaceableBy n hs v rows)
    {zeros all : List ℕ} (none : zeros ≡ replicate GATEWAYS 0) (filled : all ≡ written n (replicate n NONE) zeros)
  where
    -- the first n of the marks say that nobody was tried, and the others say tried
    fresh : take n all ≡ replicate n NONE
    fresh = rw filled (written-front n (replicate n NONE) zeros (length-replicate n NONE))

    past : (u : ℕ) → n ≤ u → at all u ≡ 0
    unfolding written
    past u l =
        let there : u ≡ n + (u - n) = omega arith in
        rw (filled, none)
        (ap (at (replicate n NONE ++ drop n (replicate GATEWAYS 0))) (there ∙ ap (λ (k : ℕ). k + (u - n)) (sym (length-replicate n NONE)))
        ∙ get_or-append-add (replicate n NONE) (drop n (replicate GATEWAYS 0)) (u - n) 0 ∙ get_or-drop n (replicate GATEWAYS 0) (u - n) 0 ∙ zero-at GATEWAYS (n + (u - n)))

    pub place_works : Working n v (at hs v) rows hs all
    place_works =
        record {
          few = p.free.few;
          holders = p.free.holders;
          table = record { is = p.table; within = p.free.within };
          room = rw filled (written-room n (replicate n NONE) zeros (length-replicate n NONE));
          past = past;
          inside = p.free.inside;
          own = rw fresh (own-tried p.free);
        }

    -- what a call with them leaves
    module _
        (limit : ℕ → ℕ) (ls : List ℕ) {o : Option ℕ} {hs' marks' : List ℕ} {rows' : List (List ℕ)} (d : FoundBy n limit ls v hs (take n all) o hs' marks') (r : FoundRows n limit v hs o hs' rows rows')
      where
        promise : FoundBy n limit ls v hs (replicate n NONE) o hs' marks'
        promise = rw fresh at d

        holders : hs' ≡ recursive_holders n limit ls hs v
        unfolding recursive_holders search
        holders =
            let is = promise.is (2 * n + 2) (omega (arith, untried-start n)) in
            by_option o (λ e. rw e at promise.unchanged ∙ ap (settled hs) (rw e at is)) (λ k e. ap (settled hs) (rw e at is))

        number : unwrap_or o 0 ≡ moved n (at hs) (at hs')
        number = by_option o (λ e. rw (e, rw e at promise.unchanged) (sym (moved_none n (at hs)))) (λ k e. rw e (rw e at promise.counted))

        pub place_leaves : {k : ℕ} → k ≡ unwrap_or o 0 → (hs' ≡ recursive_holders n limit ls hs v)
            × ((k ≡ moved n (at hs) (at (recursive_holders n limit ls hs v))) × (Fits n limit hs v → RowsOf n (recursive_holders n limit ls hs v) rows'))
        place_leaves is = (holders, (rw (← holders) (is ∙ number), λ fit. rw (← holders) (r.kept fit)))
