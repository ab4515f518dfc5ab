-- The search past the dead beside 01's search from the same start: it leaves R out of its queue and is otherwise the same.
use Prim.Native.Nat.{ℕ, zero, suc, ◌+◌, ◌<◌, ◌≤◌}
use mathlib.Core.Path.{◌≡◌, refl, sym, ap, ◌∙◌}
use mathlib.Core.Logic.{inr, ⊎_elim}
use mathlib.Core.Bool.{Bool, true, false}
use mathlib.Core.List.{List, [], ◌∷◌, ◌++◌, append-nil, append_assoc}
use native.Mathlib.Omega.{arith}
use lib.ListN.{length, replicate, length-append}
use lib.Seq.{get_or-append_seam}
use Rattle.packing.specs.Lists.{member_of}
use Rattle.packing.specs.Plant.{NONE, at, neighbours}
use Rattle.packing.proofs.Tests.{by_bool}
use Rattle.search.specs.Search.{found, more, seen, visit, turns, walk}
use Rattle.search.specs.Pre.{Going, Startable}
use Rattle.search.specs.Dead.{walk_past}
use Rattle.search.proofs.Without.{without, without_append, without_in, without_out, without_none, without_length}
use Rattle.search.proofs.States.{visit-going, never_both, turns-found, turns_out, turns_step, going_start}
use Rattle.search.proofs.DeadLooks.{Passable, Alike, Both, alike_start, both_by, both_found, only_dead, visit_R, visit_both}

module _ {n : ℕ} {limit : ℕ → ℕ} {ls hs dead : List ℕ} {R : ℕ → Bool} (b : Passable n limit ls hs dead R) where
  -- Both searches from a place on. What is taken of the plain queue stands before its rest.
  record Sides (taken rest queue queue' : List ℕ) (head head' : ℕ) : Type 0 where
    whole : queue ≡ taken ++ rest
    whole' : queue' ≡ without R taken ++ without R rest
    here : head ≡ length taken
    here' : head' ≡ length (without R taken)

  -- one more is taken, and more has joined: one that is not in R, ..
  taken_more : (taken rest joined : List ℕ) (x : ℕ) {queue : List ℕ} → queue ≡ taken ++ (x ∷ rest) → queue ++ joined ≡ (taken ++ (x ∷ [])) ++ (rest ++ joined)
  taken_more taken rest joined x e = ap (λ (l : List ℕ). l ++ joined) e ∙ append_assoc taken (x ∷ rest) joined ∙ sym (append_assoc taken (x ∷ []) (rest ++ joined))

  longer : (taken : List ℕ) (x : ℕ) → suc (length taken) ≡ length (taken ++ (x ∷ []))
  longer taken x = omega (arith, length-append taken (x ∷ []))

  sides_next : (taken rest joined : List ℕ) (x : ℕ) {queue queue' : List ℕ} {head head' : ℕ} → Sides taken (x ∷ rest) queue queue' head head' → R x ≡ false
      → Sides (taken ++ (x ∷ [])) (rest ++ joined) (queue ++ joined) (queue' ++ without R joined) (suc head) (suc head')
  unfolding without
  sides_next taken rest joined x s e =
      let last : without R (taken ++ (x ∷ [])) ≡ without R taken ++ (x ∷ []) = without_append R taken (x ∷ []) ∙ ap (λ (l : List ℕ). without R taken ++ l) (without_out R x [] e) in
      record {
        whole = taken_more taken rest joined x s.whole;
        whole' =
            taken_more (without R taken) (without R rest) (without R joined) x (s.whole' ∙ ap (λ (l : List ℕ). without R taken ++ l) (without_out R x rest e))
            ∙ rw (last, without_append R rest joined);
        here = ap suc s.here ∙ longer taken x;
        here' = ap suc s.here' ∙ rw last (longer (without R taken) x);
      }

  -- .. and one that is
  sides_pass : (taken rest joined : List ℕ) (x : ℕ) {queue queue' : List ℕ} {head head' : ℕ} → Sides taken (x ∷ rest) queue queue' head head' → R x ≡ true → without R joined ≡ []
      → Sides (taken ++ (x ∷ [])) (rest ++ joined) (queue ++ joined) queue' (suc head) head'
  unfolding without
  sides_pass taken rest joined x s e none =
      let last : without R (taken ++ (x ∷ [])) ≡ without R taken = without_append R taken (x ∷ []) ∙ ap (λ (l : List ℕ). without R taken ++ l) (without_in R x [] e) ∙ append-nil (without R taken) in
      record {
        whole = taken_more taken rest joined x s.whole;
        whole' = s.whole' ∙ rw (last, without_append R rest joined, none, append-nil (without R rest), without_in R x rest e);
        here = ap suc s.here ∙ longer taken x;
        here' = s.here' ∙ ap length (sym last);
      }

  -- what stands at the place to be taken
  sides_inside : (taken rest : List ℕ) (x : ℕ) {queue queue' : List ℕ} {head head' : ℕ} → Sides taken (x ∷ rest) queue queue' head head' → head < length queue
  sides_inside taken rest x s = omega (arith, s.here, ap length s.whole, length-append taken (x ∷ rest))

  sides_at : (taken rest : List ℕ) (x : ℕ) {queue queue' : List ℕ} {head head' : ℕ} → Sides taken (x ∷ rest) queue queue' head head' → at queue head ≡ x
  sides_at taken rest x s = rw (s.whole, s.here) (get_or-append_seam taken x rest 0)

  sides_inside' : (taken rest : List ℕ) (x : ℕ) {queue queue' : List ℕ} {head head' : ℕ} → Sides taken (x ∷ rest) queue queue' head head' → R x ≡ false → head' < length queue'
  sides_inside' taken rest x s e =
      omega (arith, s.here', ap length s.whole', length-append (without R taken) (without R (x ∷ rest)), ap length (without_out R x rest e))

  sides_at' : (taken rest : List ℕ) (x : ℕ) {queue queue' : List ℕ} {head head' : ℕ} → Sides taken (x ∷ rest) queue queue' head head' → R x ≡ false → at queue' head' ≡ x
  sides_at' taken rest x s e = rw (s.whole', s.here', without_out R x rest e) (get_or-append_seam (without R taken) x (without R rest) 0)

  -- the other queue is no longer
  sides_fewer : (taken rest : List ℕ) {queue queue' : List ℕ} {head head' : ℕ} → Sides taken rest queue queue' head head' → length queue' ≤ length queue
  sides_fewer taken rest s =
      omega (arith, ap length s.whole, ap length s.whole', length-append taken rest, length-append (without R taken) (without R rest), without_length R taken, without_length R rest)

  -- the turn of a gateway that stands at a place
  turn_of_lem : (fuel head x : ℕ) (queue from : List ℕ) → head < length queue → at queue head ≡ x
      → turns (suc fuel) n limit ls hs head (more queue from) ≡ turns fuel n limit ls hs (suc head) (visit n limit hs x (neighbours ls x) (more queue from))
  turn_of_lem fuel head x queue from l e = turns_step fuel n limit ls hs head queue from l ∙ rw e

  -- both searches with so many turns left in the plain one
  abbrev Onward : ℕ → Type 0
  Onward fuel =
      (fuel' head head' : ℕ) (taken rest queue queue' from past : List ℕ) → Sides taken rest queue queue' head head' → Going n hs queue from → Alike n dead from past
      → fuel + head ≡ n → fuel' + head' ≡ n → Both n R dead [] [] (turns fuel n limit ls hs head (more queue from)) (turns fuel' n limit ls hs head' (more queue' past))

  -- both have run out
  onward_out : (fuel fuel' head head' : ℕ) (taken queue queue' from past : List ℕ) → Sides taken [] queue queue' head head' → Alike n dead from past
      → Both n R dead [] [] (turns fuel n limit ls hs head (more queue from)) (turns fuel' n limit ls hs head' (more queue' past))
  unfolding without
  onward_out fuel fuel' head head' taken queue queue' from past s a =
      both_by [] [] (turns_out fuel n limit ls hs head queue from (omega (arith, s.here, ap length (s.whole ∙ append-nil taken))))
      (turns_out fuel' n limit ls hs head' queue' past (omega (arith, s.here', ap length (s.whole' ∙ append-nil (without R taken)))))
      (inr (record { joined = queue; from = from; past = past; plain = refl; passed = ap (λ (l : List ℕ). more l past) (s.whole' ∙ sym (ap (without R) s.whole ∙ without_append R taken [])); alike = a }))

  -- one in R is taken, and the search past the dead stays where it is
  onward_pass : (fuel : ℕ) → Onward fuel → (fuel' head head' x : ℕ) (taken rest queue queue' from past : List ℕ) → Sides taken (x ∷ rest) queue queue' head head' → Going n hs queue from
      → Alike n dead from past → suc fuel + head ≡ n → fuel' + head' ≡ n → R x ≡ true → Both n R dead [] [] (turns (suc fuel) n limit ls hs head (more queue from)) (turns fuel' n limit ls hs head' (more queue' past))
  onward_pass fuel on fuel' head head' x taken rest queue queue' from past s g a l l' e =
      let inside = sides_inside taken rest x s in
      let here = sides_at taken rest x s in
      let below : x < n = rw here at (g.below head inside) in
      let r = visit_R b x (neighbours ls x) queue from past a (only_dead b x below e) in
      both_by [] [] (turn_of_lem fuel head x queue from inside here ∙ ap (turns fuel n limit ls hs (suc head)) r.plain) refl
      (on fuel' (suc head) head' (taken ++ (x ∷ [])) (rest ++ r.joined) (queue ++ r.joined) queue' r.from past (sides_pass taken rest r.joined x s e r.none)
      (visit-going limit x (neighbours ls x) g below r.plain) r.alike (omega arith) l')

  -- one that is not is taken by both
  onward_both : (fuel : ℕ) → Onward fuel → (fuel' head head' x : ℕ) (taken rest queue queue' from past : List ℕ) → Sides taken (x ∷ rest) queue queue' head head' → Going n hs queue from
      → Alike n dead from past → suc fuel + head ≡ n → fuel' + head' ≡ n → R x ≡ false → Both n R dead [] [] (turns (suc fuel) n limit ls hs head (more queue from)) (turns fuel' n limit ls hs head' (more queue' past))
  onward_both fuel on zero head head' x taken rest queue queue' from past s g a l l' e =
      absurd (omega (arith, sides_inside' taken rest x s e, sides_fewer taken (x ∷ rest) s, g.room))
  onward_both fuel on (suc fuel') head head' x taken rest queue queue' from past s g a l l' e =
      let inside = sides_inside taken rest x s in
      let here = sides_at taken rest x s in
      let below : x < n = rw here at (g.below head inside) in
      both_by [] [] (turn_of_lem fuel head x queue from inside here) (turn_of_lem fuel' head' x queue' past (sides_inside' taken rest x s e) (sides_at' taken rest x s e))
      (⊎_elim
      (λ r.
      both_found [] [] r (λ u y f q. ap (turns fuel n limit ls hs (suc head)) q ∙ turns-found fuel n limit ls hs (suc head))
      (λ u y f q. ap (turns fuel' n limit ls hs (suc head')) q ∙ turns-found fuel' n limit ls hs (suc head')))
      (λ r.
      both_by [] [] (ap (turns fuel n limit ls hs (suc head)) r.plain) (ap (turns fuel' n limit ls hs (suc head')) r.passed)
      (on fuel' (suc head) (suc head') (taken ++ (x ∷ [])) (rest ++ r.joined) (queue ++ r.joined) (queue' ++ without R r.joined) r.from r.past (sides_next taken rest r.joined x s e)
      (visit-going limit x (neighbours ls x) g below r.plain) r.alike (omega arith) (omega arith)))
      (visit_both b x (neighbours ls x) queue queue' from past a))

  onward-turn : (fuel : ℕ) → Onward fuel → Onward (suc fuel)
  onward-turn fuel on fuel' head head' taken [] queue queue' from past s g a l l' = onward_out (suc fuel) fuel' head head' taken queue queue' from past s a
  onward-turn fuel on fuel' head head' taken (x ∷ rest) queue queue' from past s g a l l' =
      by_bool (R x) (onward_pass fuel on fuel' head head' x taken rest queue queue' from past s g a l l') (onward_both fuel on fuel' head head' x taken rest queue queue' from past s g a l l')

  onward-none : Onward zero
  onward-none fuel' head head' taken [] queue queue' from past s g a l l' = onward_out zero fuel' head head' taken queue queue' from past s a
  onward-none fuel' head head' taken (x ∷ rest) queue queue' from past s g a l l' = absurd (omega (arith, sides_inside taken rest x s, g.room))

  onward : (fuel : ℕ) → Onward fuel
  onward zero = onward-none
  onward (suc fuel) = onward-turn fuel (onward fuel)

  -- from gateways that are not in R
  pub walks_both : (start : List ℕ) → Startable n hs start → ((x : ℕ) → member_of start x ≡ true → R x ≡ false) → Both n R dead [] [] (walk n limit ls hs start) (walk_past n limit ls hs start dead)
  unfolding walk without
  walks_both start s out =
      onward n n 0 0 [] start start start (replicate n NONE) dead (record { whole = refl; whole' = sym (without_none R start out); here = refl; here' = refl }) (going_start s)
      (alike_start b.marks) (omega arith) (omega arith)

  -- where the search past the dead found a place free, and where it ran out
  pub passed_found : {start : List ℕ} {u x : ℕ} {past : List ℕ} → Startable n hs start → ((y : ℕ) → member_of start y ≡ true → R y ≡ false) → walk_past n limit ls hs start dead ≡ found u x past
      → (from : List ℕ) × (walk n limit ls hs start ≡ found u x from) × Alike n dead from past × (seen dead u ≡ false)
  passed_found {start} {u} {x} {past} s out e =
      ⊎_elim
      (λ r.
      let same : r.u ≡ u = cc in
      let same' : r.x ≡ x = cc in
      let marks : r.past ≡ past = cc in
      (r.from, (rw (same, same') at r.plain), (rw marks at r.alike), (rw same at r.live)))
      (λ r. absurd (never_both e r.passed))
      (walks_both start s out)

  pub passed_more : {start queue past : List ℕ} → Startable n hs start → ((y : ℕ) → member_of start y ≡ true → R y ≡ false) → walk_past n limit ls hs start dead ≡ more queue past
      → (whole : List ℕ) × (from : List ℕ) × (walk n limit ls hs start ≡ more whole from) × Alike n dead from past
  passed_more {start} {queue} {past} s out e =
      ⊎_elim (λ r. absurd (never_both r.passed e))
      (λ r.
      let marks : r.past ≡ past = cc in
      (r.joined, r.from, r.plain, (rw marks at r.alike)))
      (walks_both start s out)
