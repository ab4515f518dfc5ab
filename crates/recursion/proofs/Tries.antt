-- What a call of either function leaves: marks that are closed where it failed, and other holders where a place is freed.
use Prim.Native.Nat.{ℕ}
use mathlib.Core.Path.{◌≡◌, refl, sym, ap, subst}
use mathlib.Core.Logic.{⊎_elim}
use mathlib.Core.Bool.{Bool, true, false, false≢true, true≢false}
use mathlib.Core.List.{List, [], ◌∷◌}
use lib.Dec.{eqb}
use lib.ListN.{set}
use borrow.Author.Tests.{eqb-true, eq-eqb}
use Rattle.packing.specs.Lists.{member_of}
use Rattle.packing.proofs.Tests.{or_l, or_r, or_cases}
use Rattle.recursion.specs.Recursion.{Try, freed, failed, or_else, try_each, takes}

-- the two ways a call ends
pub freed-is : {a b : List ℕ} → freed a ≡ freed b → a ≡ b
freed-is {a} e = ap holders e
  where
    holders : Try → List ℕ
    holders (freed hs) = hs
    holders (failed marks) = a

pub failed-is : {a b : List ℕ} → failed a ≡ failed b → a ≡ b
failed-is {a} e = ap marks e
  where
    marks : Try → List ℕ
    marks (freed hs) = a
    marks (failed m) = m

pub not_both : {a b : List ℕ} → freed a ≡ failed b → ⊥
not_both e = true≢false (ap is_freed e)
  where
    is_freed : Try → Bool
    is_freed (freed hs) = true
    is_freed (failed m) = false

pub by_try : {A : Type 0} (t : Try) → ((hs : List ℕ) → t ≡ freed hs → A) → ((marks : List ℕ) → t ≡ failed marks → A) → A
by_try (freed hs) f g = f hs refl
by_try (failed marks) f g = g marks refl

-- what is known of a call by how it ended
pub record Ended (fails frees : List ℕ → Type 0) (t : Try) : Type 0 where
  pub when_failed : (marks : List ℕ) → t ≡ failed marks → fails marks
  pub when_freed : (hs : List ℕ) → t ≡ freed hs → frees hs

module _ {fails frees : List ℕ → Type 0} where
  pub ended_freed : (hs : List ℕ) → frees hs → Ended fails frees (freed hs)
  ended_freed hs p = record { when_failed = λ marks e. absurd (not_both e); when_freed = λ hs' e. subst frees (freed-is e) p }

  pub ended_failed : (marks : List ℕ) → fails marks → Ended fails frees (failed marks)
  ended_failed marks p = record { when_failed = λ marks' e. subst fails (failed-is e) p; when_freed = λ hs e. absurd (not_both (sym e)) }

  pub ended_as : {fails' frees' : List ℕ → Type 0} {t : Try} → Ended fails frees t → ((marks : List ℕ) → fails marks → fails' marks) → ((hs : List ℕ) → frees hs → frees' hs) → Ended fails' frees' t
  ended_as e f g = record { when_failed = λ marks q. f marks (e.when_failed marks q); when_freed = λ hs q. g hs (e.when_freed hs q) }

  pub ended_then : {fails' : List ℕ → Type 0} (t : Try) (next : List ℕ → Try) → Ended fails frees t → ((marks : List ℕ) → fails marks → Ended fails' frees (next marks)) → Ended fails' frees (or_else t next)
  ended_then (freed hs) next e f = record { when_failed = λ marks q. absurd (not_both q); when_freed = e.when_freed }
  ended_then (failed marks) next e f = f marks (e.when_failed marks refl)

-- .. and once v gets u as its holder
pub ended_takes : {fails fails' frees frees' : List ℕ → Type 0} (v u : ℕ) (t : Try) → Ended fails frees t → ((marks : List ℕ) → fails marks → fails' marks) → ((hs : List ℕ) → frees hs → frees' (set hs v u))
    → Ended fails' frees' (takes v u t)
ended_takes v u (freed hs) e f g = ended_freed (set hs v u) (g hs (e.when_freed hs refl))
ended_takes v u (failed marks) e f g = ended_failed marks (f marks (e.when_failed marks refl))

-- One call after the other. Closed now end says what the marks gained from now to end, After x what is known of x once its call has failed.
module _
    (attempt : ℕ → List ℕ → Try) (Closed : List ℕ → List ℕ → Type 0) (After : ℕ → List ℕ → Type 0) (frees : List ℕ → Type 0)
    (same : (a : List ℕ) → Closed a a) (then : (a b c : List ℕ) → Closed a b → Closed b c → Closed a c) (later : (x : ℕ) (a b : List ℕ) → Closed a b → After x a → After x b)
    (marks : List ℕ)
  where
    pub each_ended : (xs now : List ℕ) → Closed marks now
        → ((x : ℕ) (now : List ℕ) → member_of xs x ≡ true → Closed marks now → Ended (λ end. Closed now end × After x end) frees (attempt x now))
        → Ended (λ end. Closed now end × ((x : ℕ) → member_of xs x ≡ true → After x end)) frees (try_each attempt xs now)
    unfolding try_each member_of
    each_ended [] now g one = ended_failed now (same now, λ x m. absurd (false≢true m))
    each_ended (y ∷ xs) now g one =
        ended_then (attempt y now) (try_each attempt xs) (one y now (or_l (eqb y y) (member_of xs y) (eq-eqb y y refl)) g)
        (λ next q.
        ended_as (each_ended xs next (then marks now next g q.0) (λ x m e. one x m (or_r (eqb y x) (member_of xs x) e)))
        (λ end r. (then now next end q.0 r.0, λ x m. ⊎_elim (λ e. rw (← eqb-true y x e) (later y next end r.0 q.1)) (λ e. r.1 x e) (or_cases (eqb y x) (member_of xs x) m)))
        (λ hs r. r))
