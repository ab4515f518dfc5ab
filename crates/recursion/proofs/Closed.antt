-- Marks where no place is freed: whoever was marked is full, and all neighbours of what it holds are marked too.
use Prim.Native.Nat.{ℕ, ◌<◌, ◌≤◌}
use mathlib.Core.Path.{◌≡◌}
use mathlib.Core.Bool.{true, false}
use mathlib.Core.List.{List}
use Rattle.packing.specs.Plant.{at, linked}
use Rattle.packing.specs.Holders.{holds}
use Rattle.packing.proofs.Tests.{by_bool, clash}
use Rattle.search.proofs.States.{seen_cases}
use Rattle.recursion.specs.Recursion.{tried, mark}
use Rattle.recursion.proofs.Marks.{Grown, grown_same, grown_then, grown_mark}

module _ (n : ℕ) (limit : ℕ → ℕ) (ls hs : List ℕ) where
  -- all neighbours of x are tried
  abbrev pub Around : ℕ → List ℕ → Type 0
  Around x marks = (w : ℕ) → linked ls x w ≡ true → tried marks w ≡ true

  -- u is full, and all neighbours of what it holds are tried
  pub record Spent (marks : List ℕ) (u : ℕ) : Type 0 where
    pub full : limit u ≤ holds n (at hs) u
    pub around : (x : ℕ) → x < n → at hs x ≡ u → Around x marks

  -- from marks to marks' only such were added
  pub record Closed (marks marks' : List ℕ) : Type 0 where
    pub grown : Grown marks marks'
    pub spent : (u : ℕ) → tried marks u ≡ false → tried marks' u ≡ true → Spent marks' u

  pub spent_later : {a b : List ℕ} {u : ℕ} → Grown a b → Spent a u → Spent b u
  spent_later g s = record { full = s.full; around = λ x l e w link. g.stay w (s.around x l e w link) }

  pub closed_same : (marks : List ℕ) → Closed marks marks
  closed_same marks = record { grown = grown_same marks; spent = λ u a b. clash (tried marks u) b a }

  pub closed_then : (a b c : List ℕ) → Closed a b → Closed b c → Closed a c
  closed_then a b c p q =
      record {
        grown = grown_then p.grown q.grown;
        spent = λ u before after. by_bool (tried b u) (λ e. spent_later q.grown (p.spent u before e)) (λ e. q.spent u e after);
      }

  -- one more mark, whose gateway turned out to be such
  pub closed-mark : (marks marks' : List ℕ) (u : ℕ) → tried marks u ≡ false → Closed (mark marks u) marks' → Spent marks' u → Closed marks marks'
  closed-mark marks marks' u e p s =
      record {
        grown = grown_then (grown_mark marks u e) p.grown;
        spent = λ w before after. by_bool (tried (mark marks u) w) (λ q. seen_cases marks u 0 w q (λ r. rw r s) (λ r. clash (tried marks w) r before)) (λ q. p.spent w q after);
      }
