-- The gateways without holder, as a list and in a queue.
use Prim.Native.Nat.{ℕ, ◌<◌, ◌≤◌}
use mathlib.Core.Path.{◌≡◌, refl, sym}
use mathlib.Core.Bool.{true, false, not}
use mathlib.Core.List.{List}
use native.Mathlib.Omega.{arith}
use lib.Dec.{ltb, leb}
use lib.ListN.{length}
use borrow.Author.Tests.{ltb-true, ltb-false, lt-leb, le-leb, not-true}
use Rattle.packing.specs.Lists.{list_where, member_of, written}
use Rattle.packing.specs.Plant.{GATEWAYS, at}
use Rattle.packing.specs.Holders.{held}
use Rattle.packing.proofs.Tests.{by_bool, not_i}
use Rattle.packing.proofs.Sums.{count_split, count-all}
use Rattle.packing.proofs.Lists.{list_where-length, list_where_in, list_where_out, written-room, written-front, member-at}
use Rattle.search.specs.Pre.{Startable}
use Rattle.search.specs.ChokeSet.{without_holder}
use Rattle.search.specs.ChokePre.{Queued}

-- who is without holder
pub unheld_in : (n : ℕ) (hs : List ℕ) (v : ℕ) → v < n → held n (at hs) v ≡ false → member_of (without_holder n hs) v ≡ true
unfolding without_holder
unheld_in n hs v l e = list_where_in n (λ w. not (held n (at hs) w)) v l (not_i (held n (at hs) v) e)

pub unheld_out : (n : ℕ) (hs : List ℕ) (v : ℕ) → member_of (without_holder n hs) v ≡ true → (v < n) × (held n (at hs) v ≡ false)
unfolding without_holder
unheld_out n hs v m = let r = list_where_out n (λ w. not (held n (at hs) w)) v m in (r.0, not-true (held n (at hs) v) r.1)

-- the gateways without holder may start a search: they and those held are n
pub unheld_startable : (n : ℕ) (hs : List ℕ) → n ≤ GATEWAYS → Startable n hs (without_holder n hs)
unfolding without_holder
unheld_startable n hs few =
    record {
      few = few;
      below = λ i l. (unheld_out n hs (at (without_holder n hs) i) (member-at (without_holder n hs) i l)).0;
      room =
          omega (
            arith,
            list_where-length n (λ v. not (held n (at hs) v)),
            count_split n (λ v. true) (held n (at hs)),
            count-all n (λ v. true) (λ v l. refl),
          );
    }

-- what the loop that lists them leaves in a queue
pub queued_unheld : (n : ℕ) (hs queue₀ : List ℕ) {queue : List ℕ} {end : ℕ}
    → (end ≡ length (list_where n (λ v. not (held n (at hs) v)))) × (queue ≡ written end (list_where n (λ v. not (held n (at hs) v))) queue₀) → Queued n hs queue end
unfolding without_holder
queued_unheld n hs queue₀ {end = end} (long, is) =
    let front = list_where n (λ v. not (held n (at hs) v)) in
    record { state = rw is (written-front end front queue₀ (sym long)); within = rw is (written-room end front queue₀ (sym long)) }

-- the test of one
pub at_least : (h n : ℕ) → leb n h ≡ not (ltb h n)
at_least h n = by_bool (ltb h n) (λ e. rw (e, lt-leb n h (ltb-true h n e))) (λ e. rw (e, le-leb n h (ltb-false h n e)))
