-- Through the walk: what each look at a full gateway and each turn keep holds when the walk ends. At p queue marks is what is known during the turn of place p.
use Prim.Native.Nat.{ℕ, zero, suc, ◌+◌, ◌<◌, ◌≤◌}
use mathlib.Core.Path.{◌≡◌, refl, sym, ◌∙◌}
use mathlib.Core.Logic.{◌⊎◌, inl, inr, ⊎_elim}
use mathlib.Core.Bool.{true, false, false≢true}
use mathlib.Core.List.{List, [], ◌∷◌, ◌++◌}
use native.Mathlib.Nat.{zero-add}
use native.Mathlib.Omega.{arith}
use lib.Dec.{eqb, ltb}
use lib.ListN.{length, set, replicate, length-append, get_or-append}
use borrow.Author.Tests.{eqb-true, eq-eqb, ltb-true, ltb-false}
use Rattle.packing.specs.Lists.{member_of}
use Rattle.packing.specs.Plant.{NONE, at, linked, neighbours}
use Rattle.packing.specs.Holders.{holds}
use Rattle.packing.proofs.Tests.{by_bool, or_cases, or_l, or_r}
use Rattle.packing.proofs.Links.{neighbours-linked}
use Rattle.search.specs.Search.{Search, found, more, seen, held_by, visit, turns, walk}
use Rattle.search.specs.Pre.{Going}
use Rattle.search.proofs.States.{gateway-some, unseen-below, seen-marked, seen-kept, look_cases, by_state, visit-found, turns-zero, turns-found, turns_out, turns_step}

-- x, at place p of the queue, looks at u, which it is linked to and nobody has seen
pub record LooksAt (ls queue from : List ℕ) (p x u : ℕ) : Type 0 where
  pub inside : p < length queue
  pub seer : at queue p ≡ x
  pub link : linked ls x u ≡ true
  pub unseen : seen from u ≡ false

-- a place free at u, looked at from x: what was known before that look
pub record Stopped (n : ℕ) (limit : ℕ → ℕ) (ls hs : List ℕ) (At : ℕ → List ℕ → List ℕ → Type 0) (u x : ℕ) (from : List ℕ) : Type 0 where
  pub queue : List ℕ
  pub marks : List ℕ
  pub place : ℕ
  pub there : At place queue marks
  pub looks : LooksAt ls queue marks place x u
  pub free : holds n (at hs) u < limit u
  pub marked : from ≡ set marks u x

-- the queue ran out, and all its places are taken
pub record Ended (At : ℕ → List ℕ → List ℕ → Type 0) (queue from : List ℕ) : Type 0 where
  pub place : ℕ
  pub there : At place queue from
  pub taken : length queue ≤ place

module _
    (n : ℕ) (limit : ℕ → ℕ) (ls hs : List ℕ) (At : ℕ → List ℕ → List ℕ → Type 0) (going : (p : ℕ) (queue from : List ℕ) → At p queue from → Going n hs queue from)
    (joined : (p : ℕ) (queue from : List ℕ) → At p queue from → (x u : ℕ) → LooksAt ls queue from p x u → limit u ≤ holds n (at hs) u → At p (queue ++ held_by n hs u) (set from u x))
    (closed : (p : ℕ) (queue from : List ℕ) → At p queue from → p < length queue → ((u : ℕ) → linked ls (at queue p) u ≡ true → seen from u ≡ true) → At (suc p) queue from)
  where
    -- after looks at the neighbours us of x, at place p
    After : ℕ → ℕ → List ℕ → List ℕ → Search → Type 0
    After x p us from (found u y from') = Stopped n limit ls hs At u y from'
    After x p us from (more queue' from') =
        At p queue' from' × (p < length queue') × (at queue' p ≡ x) × ((w : ℕ) → seen from w ≡ true → seen from' w ≡ true) × ((u : ℕ) → member_of us u ≡ true → seen from' u ≡ true)

    after_one : (x p : ℕ) (from from' : List ℕ) (u : ℕ) (us : List ℕ) (s : Search) → ((w : ℕ) → seen from w ≡ true → seen from' w ≡ true) → seen from' u ≡ true → After x p us from' s → After x p (u ∷ us) from s
    unfolding After member_of
    after_one x p from from' u us (found w y f) keeps e a = a
    after_one x p from from' u us (more q f) keeps e a =
        (a.0, a.1, a.2, λ w s. a.3 w (keeps w s), λ w m. ⊎_elim (λ k. a.3 w (rw (← eqb-true u w k) e)) (a.4 w) (or_cases (eqb u w) (member_of us w) m))

    visit-after : {queue from : List ℕ} (x p : ℕ) (us : List ℕ) → At p queue from → p < length queue → at queue p ≡ x → ((u : ℕ) → member_of us u ≡ true → linked ls x u ≡ true)
        → After x p us from (visit n limit hs x us (more queue from))
    unfolding visit After member_of
    visit-after x p [] a inside seer links = (a, inside, seer, λ w e. e, λ u e. absurd (false≢true e))
    visit-after {queue} {from} x p (u ∷ us) a inside seer links =
        look_cases n limit hs x u queue from (λ e s. rw s (after_one x p from from u us (visit n limit hs x us (more queue from)) (λ w q. q) e (visit-after x p us a inside seer later)))
        (λ e less s. rw (s, visit-found n limit hs x us) (record { queue = queue; marks = from; place = p; there = a; looks = looks e; free = less; marked = refl }))
        (λ e most s.
        rw s
        (after_one x p from (set from u x) u us (visit n limit hs x us (more (queue ++ held_by n hs u) (set from u x))) (λ w. seen-kept from u x w e) (marked e)
        (visit-after {queue = queue ++ held_by n hs u} {from = set from u x} x p us (joined p queue from a x u (looks e) most) (omega (arith, length-append queue (held_by n hs u))) (get_or-append queue (held_by n hs u) 0 p inside ∙ seer) later)))
      where
        looks : seen from u ≡ false → LooksAt ls queue from p x u
        looks e = record { inside = inside; seer = seer; link = links u (or_l (eqb u u) (member_of us u) (eq-eqb u u refl)); unseen = e }

        later : (w : ℕ) → member_of us w ≡ true → linked ls x w ≡ true
        later w m = links w (or_r (eqb u w) (member_of us w) m)

        marked : seen from u ≡ false → seen (set from u x) u ≡ true
        marked e =
            let g = going p queue from a in
            seen-marked from u x (rw g.marks (unseen-below from u g.marks e)) (gateway-some g.few (rw seer at (g.below p inside)))

    -- after turns up to a place, or until the queue has run out
    Ran : ℕ → Search → Type 0
    Ran end (found u x from) = Stopped n limit ls hs At u x from
    Ran end (more queue from) = (k : ℕ) × At k queue from × ((length queue ≤ k) ⊎ (end ≤ k))

    turns-after : {queue from : List ℕ} (fuel head : ℕ) → At head queue from → Ran (head + fuel) (turns fuel n limit ls hs head (more queue from))
    unfolding Ran After
    turns-after {queue} {from} zero head a = rw (turns-zero n limit ls hs head (more queue from)) (head, a, inr (omega arith))
    turns-after {queue} {from} (suc fuel) head a =
        by_bool (ltb head (length queue))
        (λ e.
        let l : head < length queue = ltb-true _ _ e in
        let v : After (at queue head) head (neighbours ls (at queue head)) from (visit n limit hs (at queue head) (neighbours ls (at queue head)) (more queue from)) =
        visit-after (at queue head) head (neighbours ls (at queue head)) a l refl (λ u m. sym (neighbours-linked ls (at queue head) u) ∙ m) in
        rw (turns_step fuel n limit ls hs head queue from l)
        (by_state (visit n limit hs (at queue head) (neighbours ls (at queue head)) (more queue from)) (λ u y f s. rw (s, turns-found fuel n limit ls hs (suc head)) (rw s at v))
        (λ q f s.
        let b = rw s at v in
        rw (s, swap head fuel) (turns-after fuel (suc head) (closed head q f b.0 b.1 (λ u link. b.4 u (neighbours-linked ls (at queue head) u ∙ (rw b.2 at link))))))))
        (λ e. rw (turns_out (suc fuel) n limit ls hs head queue from (ltb-false _ _ e)) (head, a, inl (ltb-false _ _ e)))
      where
        swap : (a b : ℕ) → a + suc b ≡ suc a + b
        swap a b = omega arith

    walk_after : (start : List ℕ) → At 0 start (replicate n NONE) → Ran n (walk n limit ls hs start)
    unfolding walk
    walk_after start a = rw zero-add at (turns-after n 0 a)

    pub walk-stops : {start from : List ℕ} {u x : ℕ} → At 0 start (replicate n NONE) → walk n limit ls hs start ≡ found u x from → Stopped n limit ls hs At u x from
    unfolding Ran
    walk-stops {start} a e = rw e at (walk_after start a)

    pub walk_ends : {start queue from : List ℕ} → At 0 start (replicate n NONE) → walk n limit ls hs start ≡ more queue from → Ended At queue from
    unfolding Ran
    walk_ends {start} {queue} {from} a e =
        let (k, there, end) = rw e at (walk_after start a) in
        record { place = k; there = there; taken = ⊎_elim (λ l. l) (λ l. omega (arith, (going k queue from there).room)) end }
