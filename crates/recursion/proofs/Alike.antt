-- Searches that are the same: by limits that are equal for every gateway, with a link listed once more.
use Prim.Native.Nat.{ℕ, zero, suc, ◌+◌, ◌*◌, ◌<◌}
use mathlib.Core.Path.{◌≡◌, refl, sym, ap, ◌∙◌}
use mathlib.Core.Bool.{true, false, cond}
use mathlib.Core.List.{List, [], ◌∷◌, ◌++◌}
use lib.Dec.{ltb}
use lib.ListN.{length, length-set, replicate, length-replicate}
use Rattle.packing.specs.Lists.{member_of}
use Rattle.packing.specs.Plant.{NONE, at, neighbours}
use Rattle.packing.specs.Holders.{holds}
use Rattle.packing.proofs.Tests.{by_bool}
use Rattle.packing.proofs.Links.{neighbours_again}
use Rattle.search.specs.Search.{placeable}
use Rattle.search.specs.Pre.{Placeable}
use Rattle.search.proofs.Tested.{placeable-holds}
use Rattle.recursion.specs.Recursion.{Try, freed, tried, mark, or_else, try_each, takes, unless_tried, find_holder, free_place, search, settled, recursive_holders, recursive_after}
use Rattle.recursion.specs.Enough.{EachGone}
use Rattle.recursion.specs.Twice.{RecursiveFirst}
use Rattle.recursion.proofs.Marks.{untried-below, Grown}
use Rattle.recursion.proofs.Tries.{by_try, Ended, ended_takes}
use Rattle.recursion.proofs.Grows.{Growing, each-tried, unless_grows, find_grows, free_grows}

-- What holds with marks that have Inv, which a failed attempt keeps, holds of each that is gone through.
pub each_gone : (attempt : ℕ → List ℕ → Try) (Has : ℕ → List ℕ → Type 0) (Inv : List ℕ → Type 0) → ((x : ℕ) (marks : List ℕ) → Inv marks → Ended Inv (λ hs. Unit {0}) (attempt x marks))
    → ((x : ℕ) (marks : List ℕ) → Inv marks → Has x marks) → (xs marks : List ℕ) → Inv marks → EachGone attempt Has xs marks
unfolding EachGone
each_gone attempt Has Inv keeps has [] marks i = tt
each_gone attempt Has Inv keeps has (x ∷ xs) marks i = (has x marks i, λ now e. each_gone attempt Has Inv keeps has xs now ((keeps x marks i).when_failed now e))

-- Two attempts that are the same of each that is gone through are the same one after the other, ..
pub each_same : (f g : ℕ → List ℕ → Try) (Has : ℕ → List ℕ → Type 0) → ((x : ℕ) (marks : List ℕ) → Has x marks → g x marks ≡ f x marks) → (xs marks : List ℕ) → EachGone f Has xs marks → try_each g xs marks ≡ try_each f xs marks
unfolding EachGone try_each
each_same f g Has same [] marks gone = refl
each_same f g Has same (x ∷ xs) marks gone =
    by_try (f x marks) (λ hs e. rw (same x marks gone.0, e)) (λ now e. rw (same x marks gone.0, e) (each_same f g Has same xs now (gone.1 now e)))

-- .. so where they are the same with marks that have Inv
module _ (f g : ℕ → List ℕ → Try) (Inv : List ℕ → Type 0) (same : (x : ℕ) (marks : List ℕ) → Inv marks → f x marks ≡ g x marks) (keeps : (x : ℕ) (marks : List ℕ) → Inv marks → Ended Inv (λ hs. Unit {0}) (f x marks)) where
  each_alike : (xs marks : List ℕ) → Inv marks → try_each f xs marks ≡ try_each g xs marks
  each_alike xs marks i = sym (each_same f g (λ x now. Inv now) (λ x now j. sym (same x now j)) xs marks (each_gone f (λ x now. Inv now) Inv keeps (λ x now j. j) xs marks i))

-- .. where each is passed by or marked first
module _
    (f g : ℕ → List ℕ → Try) (Inv : List ℕ → Type 0) (grows : Growing f)
    (same : (u : ℕ) (marks : List ℕ) → Inv marks → tried marks u ≡ false → f u (mark marks u) ≡ g u (mark marks u)) (later : (a b : List ℕ) → Grown a b → Inv a → Inv b)
  where
    unless_alike : (us marks : List ℕ) → Inv marks → try_each (unless_tried f) us marks ≡ try_each (unless_tried g) us marks
    unless_alike =
        each_alike (unless_tried f) (unless_tried g) Inv (λ u marks i. by_bool (tried marks u) (λ e. rw e) (λ e. rw e (same u marks i e)))
        (λ u marks i. record { when_failed = λ end e. later marks end ((unless_grows f grows u marks).when_failed end e).0 i; when_freed = λ hs e. tt })

pub takes_grows : (v : ℕ) (f : ℕ → List ℕ → Try) → Growing f → Growing (λ u marks. takes v u (f u marks))
takes_grows v f grows u marks = ended_takes v u (f u marks) (grows u marks) (λ end g. g) (λ hs t. t)

-- Other limits and links: u's limit is looked at for gateways only, and what is gone through may be other neighbours that give the same.
module _
    (n : ℕ) (limit limit' : ℕ → ℕ) (ls ls' hs : List ℕ) (limits : (u : ℕ) → u < n → limit u ≡ limit' u)
    (links : (attempt : ℕ → List ℕ → Try) → Growing attempt → (v : ℕ) (marks : List ℕ) → try_each (unless_tried attempt) (neighbours ls v) marks ≡ try_each (unless_tried attempt) (neighbours ls' v) marks)
  where
    alike : (calls : ℕ)
        → ((v : ℕ) (marks : List ℕ) → length marks ≡ n → find_holder calls n limit ls hs v marks ≡ find_holder calls n limit' ls' hs v marks)
        × ((u : ℕ) (marks : List ℕ) → length marks ≡ n → u < n → free_place calls n limit ls hs u marks ≡ free_place calls n limit' ls' hs u marks)
    unfolding find_holder free_place
    alike zero = ((λ v marks long. refl), λ u marks long l. refl)
    alike (suc calls) =
        let (find, free) = alike calls in (
          (λ v marks long.
              unless_alike (λ u now. takes v u (free_place calls n limit ls hs u now)) (λ u now. takes v u (free_place calls n limit' ls' hs u now)) (λ now. length now ≡ n)
              (takes_grows v (λ u now. free_place calls n limit ls hs u now) (free_grows n limit ls hs calls))
              (λ u now i e. ap (takes v u) (free u (mark now u) (length-set now u 0 ∙ i) (rw (← i) (untried-below now u e)))) (λ a b g i. g.long ∙ i) (neighbours ls v) marks long
              ∙ links (λ u now. takes v u (free_place calls n limit' ls' hs u now)) (takes_grows v (λ u now. free_place calls n limit' ls' hs u now) (free_grows n limit' ls' hs calls)) v marks),
          λ u marks long l.
              rw (limits u l)
              (ap (cond (ltb (holds n (at hs) u) (limit' u)) (freed hs))
              (each_alike (λ x now. find_holder calls n limit ls hs x now) (λ x now. find_holder calls n limit' ls' hs x now) (λ now. length now ≡ n)
              (λ x now i. find x now i) (λ x now i. record { when_failed = λ end e. ((find_grows n limit ls hs calls x now).when_failed end e).long ∙ i; when_freed = λ hs e. tt }) _ marks long)),
        )

    pub holders_alike : (v : ℕ) → recursive_holders n limit ls hs v ≡ recursive_holders n limit' ls' hs v
    unfolding recursive_holders search
    holders_alike v = ap (settled hs) ((alike (2 * n + 2)).0 v (replicate n NONE) (length-replicate n NONE))

-- limits that are equal for every gateway
pub recursive_limits : {n : ℕ} {limit limit' : ℕ → ℕ} → ((u : ℕ) → u < n → limit u ≡ limit' u) → (ls hs : List ℕ) (v : ℕ) → recursive_holders n limit ls hs v ≡ recursive_holders n limit' ls hs v
recursive_limits {n} {limit} {limit'} same ls hs v = holders_alike n limit limit' ls ls hs same (λ attempt grows x marks. refl) v

-- what a call leaves where the next may be placed
pub recursive_placed : {n : ℕ} (limit : ℕ → ℕ) (ls : List ℕ) {hs : List ℕ} {v : ℕ} → Placeable n hs v → recursive_after n limit ls hs v ≡ recursive_holders n limit ls hs v
unfolding recursive_after
recursive_placed limit ls p = rw (placeable-holds p)

-- "A link listed twice .. counts where it first stands": a neighbour that was gone through is tried, and trying it again changes nothing.
each_append : (f : ℕ → List ℕ → Try) (xs ys marks : List ℕ) → try_each f (xs ++ ys) marks ≡ or_else (try_each f xs marks) (try_each f ys)
unfolding try_each
each_append f [] ys marks = refl
each_append f (x ∷ xs) ys marks = by_try (f x marks) (λ hs e. rw e) (λ next e. rw e (each_append f xs ys next))

each_again : (f : ℕ → List ℕ → Try) → Growing f → (us ws : List ℕ) (u : ℕ) (marks : List ℕ) → member_of us u ≡ true
    → try_each (unless_tried f) (us ++ u ∷ ws) marks ≡ try_each (unless_tried f) (us ++ ws) marks
unfolding try_each
each_again f grows us ws u marks m =
    each_append (unless_tried f) us (u ∷ ws) marks
    ∙ by_try (try_each (unless_tried f) us marks) (λ hs e. rw e) (λ end e. rw (e, ((each-tried f grows us marks).when_failed end e).1 u m))
    ∙ sym (each_append (unless_tried f) us ws marks)

pub recursive_first : RecursiveFirst
unfolding RecursiveFirst recursive_after
recursive_first m ls rest a b whole there n limit hs v =
    ap (λ (new : List ℕ). cond (placeable n hs v) new hs)
    (holders_alike n limit limit (ls ++ a ∷ b ∷ rest) (ls ++ rest) hs (λ u l. refl)
    (λ attempt grows x marks. neighbours_again m ls rest a b x whole there (λ us. try_each (unless_tried attempt) us marks) (λ us ws u. each_again attempt grows us ws u marks)) v)
