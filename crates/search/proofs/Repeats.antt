-- "A link listed twice in a record filled by hand counts where it first stands": a neighbour that was looked at is seen, and looking at it again changes nothing.
use Prim.Native.Nat.{ℕ, ◌*◌}
use mathlib.Core.Path.{◌≡◌, refl, sym, ap, ◌∙◌}
use mathlib.Core.Logic.{◌⊎◌, inl, inr, ⊎_elim}
use mathlib.Core.Bool.{true, false≢true}
use mathlib.Core.List.{List, [], ◌∷◌, ◌++◌}
use lib.Dec.{eqb}
use lib.ListN.{length, set}
use borrow.Author.Tests.{eqb-true}
use Rattle.packing.specs.Plant.{NONE, linked, neighbours}
use Rattle.packing.proofs.Tests.{or_cases}
use Rattle.packing.proofs.Links.{neighbours_again}
use Rattle.packing.specs.Lists.{member_of}
use Rattle.search.specs.Search.{Search, found, more, seen, look, visit, walk, settled, placed_holders}
use Rattle.search.specs.Pre.{Startable, Placeable}
use Rattle.search.proofs.States.{gateway-some, unseen-below, seen-marked, seen-kept, look-seen, look_cases, by_state, never_both, visit-found, walk_alike, placeable_startable}

module _ (n : ℕ) (limit : ℕ → ℕ) (hs : List ℕ) (x : ℕ) (some : x ≡ NONE → ⊥) where
  -- a neighbour that was looked at is seen, and so is whoever was seen before
  pub look_sees : (u w : ℕ) (queue from : List ℕ) {queue' from' : List ℕ} → look n limit hs x u queue from ≡ more queue' from' → (u ≡ w) ⊎ (seen from w ≡ true) → seen from' w ≡ true
  look_sees u w queue from {queue'} {from'} r e =
      look_cases n limit hs x u queue from (λ k s. let q : from' ≡ from = cc in rw q (⊎_elim (λ h. rw h at k) (λ h. h) e)) (λ k l s. absurd (never_both s r))
      (λ k l s.
      let q : from' ≡ set from u x = cc in
      rw q (⊎_elim (λ h. rw (← h) (seen-marked from u x (unseen-below from u refl k) some)) (seen-kept from u x w k) e))

  -- .. also after looks at others
  pub visit_sees : (us : List ℕ) (w : ℕ) (queue from : List ℕ) {queue' from' : List ℕ} → visit n limit hs x us (more queue from) ≡ more queue' from' → (member_of us w ≡ true) ⊎ (seen from w ≡ true) → seen from' w ≡ true
  unfolding visit member_of
  visit_sees [] w queue from {queue'} {from'} r e = let q : from' ≡ from = cc in rw q (⊎_elim (λ h. absurd (false≢true h)) (λ h. h) e)
  visit_sees (u ∷ us) w queue from r e =
      by_state (look n limit hs x u queue from) (λ y z f v. absurd (never_both (visit-found n limit hs x us) (rw v at r)))
      (λ q f v.
      visit_sees us w q f (rw v at r)
      (⊎_elim (λ h. ⊎_elim (λ k. inr (look_sees u w queue from v (inl (eqb-true u w k)))) (λ k. inl k) (or_cases (eqb u w) (member_of us w) h)) (λ h. inr (look_sees u w queue from v (inr h))) e))

  visit-append : (us ws : List ℕ) (s : Search) → visit n limit hs x (us ++ ws) s ≡ visit n limit hs x ws (visit n limit hs x us s)
  unfolding visit
  visit-append [] ws s = refl
  visit-append (u ∷ us) ws (found w y from) = sym (visit-found n limit hs x ws)
  visit-append (u ∷ us) ws (more queue from) = visit-append us ws (look n limit hs x u queue from)

  -- a neighbour that stands among the first counts there
  pub visit_repeat : (us ws : List ℕ) (u : ℕ) (queue from : List ℕ) → member_of us u ≡ true
      → visit n limit hs x (us ++ u ∷ ws) (more queue from) ≡ visit n limit hs x (us ++ ws) (more queue from)
  unfolding visit
  visit_repeat us ws u queue from m =
      visit-append us (u ∷ ws) (more queue from)
      ∙ by_state (visit n limit hs x us (more queue from)) (λ w y f v. rw v (sym (visit-found n limit hs x ws)))
      (λ q f v. rw v (ap (visit n limit hs x ws) (look-seen n limit hs x u q f (visit_sees us u queue from v (inl m)))))
      ∙ sym (visit-append us ws (more queue from))

-- The link a-b again, after a list of whole links that has it.
module _ (n : ℕ) (limit : ℕ → ℕ) (hs : List ℕ) (m : ℕ) (ls rest : List ℕ) (a b : ℕ) (whole : length ls ≡ 2 * m) (there : linked ls a b ≡ true) where
  link_repeat : (x : ℕ) → (x ≡ NONE → ⊥) → (queue from : List ℕ)
      → visit n limit hs x (neighbours (ls ++ a ∷ b ∷ rest) x) (more queue from) ≡ visit n limit hs x (neighbours (ls ++ rest) x) (more queue from)
  link_repeat x some queue from = neighbours_again m ls rest a b x whole there (λ us. visit n limit hs x us (more queue from)) (λ us ws u. visit_repeat n limit hs x some us ws u queue from)

  -- the walk is the one without it
  pub walk_repeat : {start : List ℕ} → Startable n hs start → walk n limit (ls ++ a ∷ b ∷ rest) hs start ≡ walk n limit (ls ++ rest) hs start
  walk_repeat = walk_alike n limit limit (ls ++ a ∷ b ∷ rest) (ls ++ rest) hs (λ x queue from g l. link_repeat x (gateway-some g.few l) queue from)

  -- and so are the holders after placing
  pub place_repeat : {v : ℕ} → Placeable n hs v → placed_holders n limit (ls ++ a ∷ b ∷ rest) hs v ≡ placed_holders n limit (ls ++ rest) hs v
  unfolding placed_holders
  place_repeat {v} p = ap (settled n v hs) (walk_repeat (placeable_startable p))
