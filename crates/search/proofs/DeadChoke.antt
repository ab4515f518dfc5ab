-- The dead are the choke set: a search that takes nothing, past the dead, from those without holder that are not yet left, marks just the choke set. Where there are none, the dead are the choke set.
use Prim.Native.Nat.{ℕ, ◌<◌, ◌≤◌}
use mathlib.Core.Path.{◌≡◌}
use mathlib.Core.Logic.{◌⊎◌, inl, ⊎_elim}
use mathlib.Core.Bool.{Bool, true, false, ◌&&◌, ◌||◌, false≢true}
use mathlib.Core.List.{List, []}
use native.Mathlib.Omega.{arith}
use Rattle.packing.specs.Lists.{member_of}
use Rattle.packing.specs.Plant.{GATEWAYS, at, common}
use Rattle.packing.specs.Holders.{held}
use Rattle.packing.proofs.Tests.{or_cases, or_l, or_r, iff_test}
use Rattle.packing.proofs.Sums.{count_bound}
use Rattle.search.specs.Search.{Search, more, seen, walk}
use Rattle.search.specs.Pre.{Startable}
use Rattle.search.specs.ChokeSet.{walk_saw, walk_queued, without_holder, in_choke}
use Rattle.search.specs.Dead.{walk_past, dead_hold, Dead}
use Rattle.search.proofs.States.{never_both, turns_out}
use Rattle.search.proofs.Reach.{walk_exhausted, walk_runs_out}
use Rattle.search.proofs.Unheld.{unheld_in, unheld_out, unheld_startable}
use Rattle.search.proofs.ChokeLaws.{walk-closed, walk-least}
use Rattle.search.proofs.Dead.{unheld_outside, dead_passable}
use Rattle.search.proofs.DeadLooks.{Passable, Alike}
use Rattle.search.proofs.DeadWalk.{walks_both}
use Rattle.search.proofs.DeadOut.{out_closed, out_owned, out_least}

-- the search runs out, and has marked the choke set
pub record PastChoke (n : ℕ) (ls hs start dead : List ℕ) : Type 0 where
  pub queue : List ℕ
  pub marks : List ℕ
  pub ends : walk_past n (common 0) ls hs start dead ≡ more queue marks
  pub saw : (u : ℕ) → u < n → seen marks u ≡ in_choke n ls hs u

-- the start has just those without holder that are not left
module _
    {n : ℕ} {limit : ℕ → ℕ} {ls hs : List ℕ} {left : ℕ → Bool} {dead start : List ℕ} (d : Dead n limit ls hs left dead) (s : Startable n hs start)
    (free : (x : ℕ) → member_of start x ≡ true → (held n (at hs) x ≡ false) × (left x ≡ false))
    (whole : (x : ℕ) → x < n → held n (at hs) x ≡ false → (left x ≡ true) ⊎ (member_of start x ≡ true))
  where
    passable : Passable n (common 0) ls hs dead (dead_hold n hs left dead)
    unfolding common
    passable = dead_passable d (common 0) (λ u l e. omega arith)

    -- those marked, where 01's search from the same start ran out
    marks_choke : {queue from past : List ℕ} → walk n (common 0) ls hs start ≡ more queue from → Alike n dead from past → (u : ℕ) → u < n → seen past u ≡ in_choke n ls hs u
    unfolding in_choke
    marks_choke {past = past} e a u l =
        let w = walk_exhausted s e in
        let all = unheld_startable n hs s.few in
        let c = walk-closed ls all in
        let now : ℕ → Bool = dead_hold n hs (λ y. left y || member_of start y) past in
        iff_test (seen past u) (in_choke n ls hs u)
        (out_least d w a (member_of start) (λ x m. m) (λ x m. m) (walk_queued n ls hs (without_holder n hs)) (walk_saw n ls hs (without_holder n hs))
        (λ x k q. c.starts x k (unheld_in n hs x k (⊎_elim (d.unheld x k) (λ m. (free x m).0) (or_cases (left x) (member_of start x) q)))) c.closed c.owned u l)
        ((walk-least ls all now (seen past)
        (record {
          starts =
              λ x k m. or_l (left x || member_of start x) (held n (at hs) x && seen past (at hs x))
              (⊎_elim (or_l (left x) (member_of start x)) (or_r (left x) (member_of start x)) (whole x k (unheld_out n hs x m).1));
          closed = out_closed d w a (member_of start) (λ x m. m) (λ x m. m);
          owned = out_owned d w a (member_of start) (λ x m. m) (λ x m. m);
        })).1 u l)

    pub past_choke : PastChoke n ls hs start dead
    unfolding common
    past_choke =
        let (queue, from, e) = walk_runs_out {limit = common 0} ls s (λ u. omega arith) in
        ⊎_elim (λ r. absurd (never_both r.plain e)) (λ r. record { queue = _; marks = r.past; ends = r.passed; saw = marks_choke r.plain r.alike })
        (walks_both passable start s (λ x m. unheld_outside d x (free x m).0 (free x m).1))

-- where all without holder are left, the dead are the choke set
pub dead_choke : {n : ℕ} {limit : ℕ → ℕ} {ls hs : List ℕ} {left : ℕ → Bool} {dead : List ℕ} → Dead n limit ls hs left dead → n ≤ GATEWAYS → ((x : ℕ) → x < n → held n (at hs) x ≡ false → left x ≡ true)
    → (u : ℕ) → u < n → seen dead u ≡ in_choke n ls hs u
unfolding member_of
dead_choke {n} {ls = ls} {hs} {dead = dead} d few all u l =
    let s : Startable n hs [] = record { few = few; below = λ i k. absurd (omega arith); room = omega (arith, count_bound n (held n (at hs))) } in
    let c = past_choke d s (λ x m. absurd (false≢true m)) (λ x k h. inl (all x k h)) in
    let out : walk_past n (common 0) ls hs [] dead ≡ more [] dead = turns_out n n (common 0) ls hs 0 [] dead (omega arith) in
    let same : c.marks ≡ dead = marks_same c.ends out in
    rw same at (c.saw u l)
  where
    marks_same : {r : Search} {queue queue' marks marks' : List ℕ} → r ≡ more queue marks → r ≡ more queue' marks' → marks ≡ marks'
    marks_same p q = cc
