-- Looks from a gateway: the three ways of one by the table, and the loop over the gateway's links.
use Prim.Native.Nat.{ℕ, ◌*◌, ◌/◌, ◌<◌, ◌≤◌}
use mathlib.Core.Path.{◌≡◌, refl, sym, ap, ◌∙◌}
use mathlib.Core.Bool.{Bool, true, false}
use mathlib.Core.List.{List, ◌∷◌}
use native.Mathlib.Omega.{arith}
use lib.ListN.{length, set, take, drop}
use lib.Seq.{length-take-le}
use borrow.Author.Tests.{eq-eqb, ne_eqb, ltb-true, ltb-false}
use Rattle.packing.specs.Plant.{NONE, GATEWAYS, at, neighbours}
use Rattle.packing.specs.Holders.{holds}
use Rattle.packing.proofs.Tests.{not_i, not_i_false}
use Rattle.chains.specs.Index.{root_of, IndexFor}
use Rattle.chains.proofs.Following.{Standing, chain_first, chain_next, chain-end, chain_there}
use Rattle.search.specs.Search.{found, more, seen, look, visit}
use Rattle.std.specs.declared.ops.ControlFlow.TheVariants.{Break, Continue}
use Rattle.search.specs.Table.{row_at}
use Rattle.search.specs.Pre.{Walked, TableOf, ForSome, ForEach, Is, Ready, row_has_place, Joinable, Joined}
use Rattle.search.specs.Noted.{taken_back, Notable}
use Rattle.search.proofs.Queue.{held_by-length}
use Rattle.search.proofs.Rows.{table-holds, table-place}
use Rattle.search.proofs.States.{gateway-some, unseen-below, look-seen, look-free, look_full, look-going, going-room, visit-found}
use Rattle.search.proofs.Noting.{NotedThen, noted-room, noted_less, noted-mark}
use Rattle.search.proofs.Results.{found-state, more-state, found-is, more-is, some_then}

-- The three ways of a look. The lent list of marks is from' once u is marked, k is u's entry, t is u's limit, and b says whether its row has a place.
module _
    {n : ℕ} (limit : ℕ → ℕ) {x : ℕ} (u : ℕ) {hs : List ℕ} {rows : List (List ℕ)} {queue : List ℕ} {tail : ℕ} {from : List ℕ} (h : TableOf n hs rows)
    (r : Ready n x hs queue tail from)
  where
    pub look-is-seen : {k : ℕ} → k ≡ at from u → (k ≡ NONE → ⊥) → Is (Continue tt) tail queue from (look n limit hs x u (take tail queue) from)
    look-is-seen e some = more-is (look-seen n limit hs x u (take tail queue) from (not_i _ (ne_eqb (at from u) NONE (λ q. some (e ∙ q))))) r.within

    module _ {k : ℕ} (e : k ≡ at from u) (none : k ≡ NONE) where
      unseen : seen from u ≡ false
      unseen = not_i_false _ (eq-eqb (at from u) NONE (sym e ∙ none))

      -- u is a gateway, which has a row, ..
      look-below : u < n
      look-below = unseen-below from u r.going.marks unseen

      pub look_row : u < length rows
      look_row = omega (arith, look-below, h.is.wide)

      -- .. and what stands in its row finds room in the queue
      pub look-joins : Joinable (row_at rows u) queue tail
      unfolding Joinable
      look-joins =
          rw (table-holds h r.going.few look-below)
          (omega (arith, r.places, length-take-le tail queue r.within, held_by-length n hs u, going-room r.going u x r.gateway unseen))

      -- there is room to note it, and it is noted
      pub look-room : {looked : List ℕ} {c : ℕ} → Notable looked c from → c < length looked
      look-room n = noted-room from u x unseen (gateway-some r.going.few r.gateway) n

      pub look-less : {looked : List ℕ} {c : ℕ} → Notable looked c from → Notable looked c (set from u x)
      look-less n = noted_less from u x unseen (gateway-some r.going.few r.gateway) n

      pub look-notable : {looked looked' : List ℕ} {c c' : ℕ} {from' : List ℕ} → Notable looked c from → from' ≡ set from u x → NotedThen u looked c looked' c' → Notable looked' c' from'
      look-notable n mark then = (noted-mark from u x unseen (gateway-some r.going.few r.gateway) n mark then).notable

      pub look-back : {looked looked' : List ℕ} {c c' : ℕ} {from' : List ℕ} → Notable looked c from → from' ≡ set from u x → NotedThen u looked c looked' c' → taken_back c' looked' from' ≡ taken_back c looked from
      look-back n mark then = (noted-mark from u x unseen (gateway-some r.going.few r.gateway) n mark then).back

      pub look-is-free : {t : ℕ} {b : Bool} {from' : List ℕ} → from' ≡ set from u x → t ≡ limit u → b ≡ row_has_place (row_at rows u) t → b ≡ true
          → Is (Break (u, x)) tail queue from' (look n limit hs x u (take tail queue) from)
      look-is-free {t} mark most place free =
          let less : holds n (at hs) u < t = ltb-true _ _ (sym (table-place h r.going.few look-below t) ∙ sym place ∙ free) in
          found-is (look-free n limit hs x u (take tail queue) from unseen (omega arith) ∙ ap (found u x) (sym mark)) r.within

      pub look_is_full : {t tail' : ℕ} {b : Bool} {queue' from' : List ℕ} → from' ≡ set from u x → t ≡ limit u → b ≡ row_has_place (row_at rows u) t → b ≡ false
          → Joined (row_at rows u) queue queue' tail tail' → Is (Continue tt) tail' queue' from' (look n limit hs x u (take tail queue) from)
      look_is_full {t} mark most place taken j =
          let full : t ≤ holds n (at hs) u = ltb-false _ _ (sym (table-place h r.going.few look-below t) ∙ sym place ∙ taken) in
          more-is (look_full n limit hs x u (take tail queue) from unseen (omega arith) ∙ rw (j.state, mark, table-holds h r.going.few look-below)) j.within

-- with the holders hs, what the links from that of the end at place e on give is what all give
pub record Visited (n : ℕ) (limit : ℕ → ℕ) (x : ℕ) (ls hs queue₀ : List ℕ) (tail : ℕ) (from₀ queue from : List ℕ) (end e : ℕ) : Type 0 where
  pub ready : Ready n x hs queue end from
  pub rest : visit n limit hs x (neighbours (drop (2 * (e / 2)) ls) x) (more (take end queue) from) ≡ visit n limit hs x (neighbours ls x) (more (take tail queue₀) from₀)

-- .. and so with all that the table is of
pub record Visiting (limit : ℕ → ℕ) (x : ℕ) (ls : List ℕ) (rows : List (List ℕ)) (queue₀ : List ℕ) (tail : ℕ) (from₀ queue from : List ℕ) (end e : ℕ) : Type 0 where
  pub standing : Standing ls x e
  pub same : (length queue ≡ length queue₀) × (length from ≡ length from₀)
  pub each : ForEach rows (λ n hs. Ready n x hs queue₀ tail from₀) (λ n hs. Visited n limit x ls hs queue₀ tail from₀ queue from end e)

-- x, which may look, has a chain
pub ready_below : {rows : List (List ℕ)} {x : ℕ} {queue : List ℕ} {tail : ℕ} {from : List ℕ} → ForSome rows (λ n hs. Ready n x hs queue tail from) → x < GATEWAYS
ready_below s = omega (arith, s.has.gateway, s.has.going.few)

module _
    (limit : ℕ → ℕ) (x : ℕ) (ls next : List ℕ) (rows : List (List ℕ)) (queue₀ : List ℕ) (tail : ℕ) (from₀ : List ℕ) (d : IndexFor (length from₀) ls next)
    (some : ForSome rows (λ n hs. Ready n x hs queue₀ tail from₀))
  where
    below : x < GATEWAYS
    below = ready_below some

    pub visit-start : {e : ℕ} → e ≡ at next (root_of (length next) x) → Visiting limit x ls rows queue₀ tail from₀ queue₀ from₀ tail e
    visit-start {e} q =
        rw q
        (record {
          standing = (chain_first d.index below).1;
          same = (refl, refl);
          each = λ n hs t r. record { ready = r; rest = ap (λ (us : List ℕ). visit n limit hs x us (more (take tail queue₀) from₀)) (sym (chain_first d.index below).0) };
        })

    module _ {queue from : List ℕ} {end e : ℕ} (v : Visiting limit x ls rows queue₀ tail from₀ queue from end e) where
      -- x may go on looking
      pub visit_ready : ForSome rows (λ n hs. Ready n x hs queue end from)
      visit_ready = some_then some (λ n hs t r. (v.each n hs t r).ready)

      -- the neighbour is a gateway, and has a mark or none
      pub visit_neighbour : (e ≡ NONE → ⊥) → {u : ℕ} → u ≡ at ls e → u < length from
      visit_neighbour l is-u = rw (is-u, v.same.1) (d.below e (chain_there d.index below v.standing l).inside)

    module _
        {queue from queue' from' : List ℕ} {end end' e u : ℕ} {w : Walked} (v : Visiting limit x ls rows queue₀ tail from₀ queue from end e) (l : e ≡ NONE → ⊥)
        (is-u : u ≡ at ls e) (looks : ForEach rows (λ n hs. Ready n x hs queue end from) (λ n hs. Is w end' queue' from' (look n limit hs x u (take end queue) from)))
      where
        after : (neighbours (drop (2 * (e / 2)) ls) x ≡ at ls e ∷ neighbours (drop (2 * (at next e / 2)) ls) x) × Standing ls x (at next e) × (e < at next e)
        after = chain_next d.index below (chain_there d.index below v.standing l)

        module _ {n : ℕ} {hs : List ℕ} (t : TableOf n hs rows) (r : Ready n x hs queue₀ tail from₀) where
          ready : Ready n x hs queue end from
          ready = (v.each n hs t r).ready

          looked : Is w end' queue' from' (look n limit hs x u (take end queue) from)
          looked = looks n hs t ready

          step : visit n limit hs x (neighbours (drop (2 * (at next e / 2)) ls) x) (look n limit hs x u (take end queue) from)
              ≡ visit n limit hs x (neighbours ls x) (more (take tail queue₀) from₀)
          unfolding visit
          step = rw is-u (rw after.0 at (v.each n hs t r).rest)

        pub visit-turn : {e' : ℕ} {on : Unit {0}} → w ≡ Continue on → (length queue' ≡ length queue) × (length from' ≡ length from) → e' ≡ at next e
            → Visiting limit x ls rows queue₀ tail from₀ queue' from' end' e'
        visit-turn {on = on} q long f =
            rw f
            (record {
              standing = after.1;
              same = (long.0 ∙ v.same.0, long.1 ∙ v.same.1);
              each = λ n hs t r.
                  let is : Is (Continue on) end' queue' from' (look n limit hs x u (take end queue) from) = rw q at (looked t r) in
                  let same : look n limit hs x u (take end queue) from ≡ more (take end' queue') from' = more-state is in
                  let before : Ready n x hs queue end from = ready t r in
                  record {
                    ready = record {
                      going = look-going limit before.going u x before.gateway same;
                      gateway = before.gateway;
                      places = omega (arith, before.places, long.0);
                      within = is.within;
                    };
                    rest = rw same at (step t r);
                  };
            })

        pub visit-ends : {y z : ℕ} → w ≡ Break (y, z)
            → ForEach rows (λ n hs. Ready n x hs queue₀ tail from₀) (λ n hs. Is (Break (y, z)) end' queue' from' (visit n limit hs x (neighbours ls x) (more (take tail queue₀) from₀)))
        visit-ends {y} {z} q n hs t r =
            let is : Is (Break (y, z)) end' queue' from' (look n limit hs x u (take end queue) from) = rw q at (looked t r) in
            let rest : List ℕ = neighbours (drop (2 * (at next e / 2)) ls) x in
            found-is (sym (step t r) ∙ ap (visit n limit hs x rest) (found-state is) ∙ visit-found n limit hs x rest) is.within

    pub visit_out : {queue from : List ℕ} {end e : ℕ} {on : Unit {0}} → Visiting limit x ls rows queue₀ tail from₀ queue from end e → e ≡ NONE
        → ForEach rows (λ n hs. Ready n x hs queue₀ tail from₀) (λ n hs. Is (Continue on) end queue from (visit n limit hs x (neighbours ls x) (more (take tail queue₀) from₀)))
    unfolding visit
    visit_out {queue} {from} {end} {e} {on} v l n hs t r =
        let done = v.each n hs t r in more-is (sym (rw (chain-end d.index below l) at done.rest)) done.ready.within
