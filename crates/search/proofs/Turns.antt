-- The loop over the queue: its invariant, its turns, and its end.
use Prim.Native.Nat.{ℕ, suc, ◌+◌, ◌-◌, ◌<◌, ◌≤◌}
use mathlib.Core.Path.{◌≡◌, refl, sym, ap, ◌∙◌}
use mathlib.Core.List.{List}
use native.Mathlib.Nat.{sub-zero}
use native.Mathlib.Numerals.{add-one}
use native.Mathlib.Omega.{arith}
use lib.ListN.{length, take}
use lib.Seq.{length-take-le, get_or-take}
use Rattle.packing.specs.Plant.{at, neighbours}
use Rattle.search.specs.Search.{more, visit, turns}
use Rattle.std.specs.declared.ops.ControlFlow.TheVariants.{Break, Continue}
use Rattle.search.specs.Dead.{walk_past}
use Rattle.search.specs.Pre.{Walked, TableOf, ForSome, ForEach, Is, Going, Ready, Walkable}
use Rattle.search.proofs.States.{visit-going, turns-found, turns_out, turns_step}
use Rattle.search.proofs.Results.{found-state, more-state, found-is, more-is, some_then}

-- with the holders hs, what the turns from head on give is what the walk gives
pub record Walks (n : ℕ) (limit : ℕ → ℕ) (ls hs queue₀ : List ℕ) (tail : ℕ) (from₀ queue from : List ℕ) (end head : ℕ) : Type 0 where
  pub going : Going n hs (take end queue) from
  pub places : n ≤ length queue
  pub rest : turns (n - head) n limit ls hs head (more (take end queue) from) ≡ walk_past n limit ls hs (take tail queue₀) from₀

-- .. and so with all that the table is of
pub record Walking (limit : ℕ → ℕ) (ls : List ℕ) (rows : List (List ℕ)) (queue₀ : List ℕ) (tail : ℕ) (from₀ queue from : List ℕ) (end head : ℕ) : Type 0 where
  pub within : end ≤ length queue
  pub same : (length queue ≡ length queue₀) × (length from ≡ length from₀)
  pub each : ForEach rows (λ n hs. Walkable n hs queue₀ tail from₀) (λ n hs. Walks n limit ls hs queue₀ tail from₀ queue from end head)

module _
    (limit : ℕ → ℕ) (ls : List ℕ) (rows : List (List ℕ)) (queue₀ : List ℕ) (tail : ℕ) (from₀ : List ℕ) (some : ForSome rows (λ n hs. Walkable n hs queue₀ tail from₀))
  where
    pub walk_start : Walking limit ls rows queue₀ tail from₀ queue₀ from₀ tail 0
    walk_start = record { within = some.has.within; same = (refl, refl); each = λ n hs t w. record { going = w.going; places = w.places; rest = rw sub-zero } }

    module _ {queue from : List ℕ} {end head : ℕ} (v : Walking limit ls rows queue₀ tail from₀ queue from end head) (l : head < end) where
      long : length (take end queue) ≡ end
      long = length-take-le end queue v.within

      here : at (take end queue) head ≡ at queue head
      here = get_or-take end queue head 0 l

      -- the gateway at the head looks at its neighbours
      head_ready : {n : ℕ} {hs : List ℕ} → Walks n limit ls hs queue₀ tail from₀ queue from end head → Ready n (at queue head) hs queue end from
      head_ready w = record { going = w.going; gateway = rw here at (w.going.below head (rw long l)); places = w.places; within = v.within }

      pub walk_ready : ForSome rows (λ n hs. Ready n (at queue head) hs queue end from)
      walk_ready = some_then some (λ n hs t w. head_ready (v.each n hs t w))

      module _
          {queue' from' : List ℕ} {end' : ℕ} {w : Walked}
          (d : ForEach rows (λ n hs. Ready n (at queue head) hs queue end from)
          (λ n hs. Is w end' queue' from' (visit n limit hs (at queue head) (neighbours ls (at queue head)) (more (take end queue) from))))
        where
          module _ {n : ℕ} {hs : List ℕ} (t : TableOf n hs rows) (may : Walkable n hs queue₀ tail from₀) where
            before : Walks n limit ls hs queue₀ tail from₀ queue from end head
            before = v.each n hs t may

            visited : Is w end' queue' from' (visit n limit hs (at queue head) (neighbours ls (at queue head)) (more (take end queue) from))
            visited = d n hs t (head_ready before)

            next : turns (n - (head + 1)) n limit ls hs (head + 1) (visit n limit hs (at queue head) (neighbours ls (at queue head)) (more (take end queue) from))
                ≡ walk_past n limit ls hs (take tail queue₀) from₀
            next =
                rw (add-one, ← here) (sym (turns_step (n - suc head) n limit ls hs head (take end queue) from (rw long l)))
                ∙ ap (λ (k : ℕ). turns k n limit ls hs head (more (take end queue) from)) one ∙ before.rest
              where
                -- there are fewer turns than gateways
                one : suc (n - suc head) ≡ n - head
                one = omega (arith, before.going.room, long)

          pub walk_turn : {on : Unit {0}} → w ≡ Continue on → (length queue' ≡ length queue) × (length from' ≡ length from) → Walking limit ls rows queue₀ tail from₀ queue' from' end' (head + 1)
          walk_turn q long' =
              record {
                within = (visited some.table some.has).within;
                same = (long'.0 ∙ v.same.0, long'.1 ∙ v.same.1);
                each = λ n hs t may.
                    let same = more-state (rw q at (visited t may)) in
                    record {
                      going = visit-going limit (at queue head) (neighbours ls (at queue head)) (before t may).going (head_ready (before t may)).gateway same;
                      places = omega (arith, (before t may).places, long'.0);
                      rest = rw same at (next t may);
                    };
              }

          pub walk_ends : {y z : ℕ} → w ≡ Break (y, z) → ForEach rows (λ n hs. Walkable n hs queue₀ tail from₀) (λ n hs. Is (Break (y, z)) end' queue' from' (walk_past n limit ls hs (take tail queue₀) from₀))
          walk_ends {y} {z} q n hs t may =
              let is = rw q at (visited t may) in
              found-is (sym (next t may) ∙ ap (turns (n - (head + 1)) n limit ls hs (head + 1)) (found-state is) ∙ turns-found (n - (head + 1)) n limit ls hs (head + 1)) is.within

    pub walk_out : {queue from : List ℕ} {end head : ℕ} {on : Unit {0}} → Walking limit ls rows queue₀ tail from₀ queue from end head → end ≤ head
        → ForEach rows (λ n hs. Walkable n hs queue₀ tail from₀) (λ n hs. Is (Continue on) end queue from (walk_past n limit ls hs (take tail queue₀) from₀))
    walk_out {queue} {from} {end} {head} {on} v l n hs t may =
        more-is (sym (v.each n hs t may).rest ∙ turns_out (n - head) n limit ls hs head (take end queue) from (rw (length-take-le end queue v.within) l)) v.within
