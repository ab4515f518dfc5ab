-- Whom a search marks, noted: what a look notes, notes one after the other, room for all, and the loop that takes the marks back.
use Prim.Native.Nat.{ℕ, zero, suc, ◌+◌, ◌<◌, ◌≤◌}
use mathlib.Core.Path.{◌≡◌, refl, sym, ap, fun_ext, ◌∙◌}
use mathlib.Core.Bool.{Bool, true, false, not, and-true}
use mathlib.Core.List.{List, [], ◌∷◌, ◌++◌}
use native.Mathlib.Numerals.{add-one}
use native.Mathlib.Omega.{arith}
use lib.Dec.{eqb}
use lib.ListN.{length, set, take, replicate, length-set, length-replicate}
use Rattle.std.proofs.lemmas.List.{get_or_push, get_or_append_left, length_push}
use lib.Seq.{length-take-le, get_or-take, ext_get_or, get_or-set_same, get_or-set_other, set-set}
use borrow.Author.Tests.{eqb-true, eqb-false, not-false}
use Rattle.packing.specs.Count.{count}
use Rattle.packing.specs.Plant.{NONE, GATEWAYS, at}
use Rattle.packing.proofs.Tests.{by_bool}
use Rattle.packing.proofs.Sums.{count_bound}
use Rattle.search.specs.Search.{seen}
use Rattle.search.specs.Noted.{taken_back, AllMarked, unseen_count, Notable, Noted}
use Rattle.search.proofs.States.{unseen-below, unseen_falls}

-- one more noted behind the first c
abbrev pub NotedThen : ℕ → List ℕ → ℕ → List ℕ → ℕ → Type 0
NotedThen u looked c looked' c' = (looked' ≡ set looked c u) × (c' ≡ c + 1)

-- notes after notes
pub noted_then : {l₀ l₁ l₂ : List ℕ} {c₀ c₁ c₂ : ℕ} {f₀ f₁ f₂ : List ℕ} → Noted l₀ c₀ f₀ l₁ c₁ f₁ → Noted l₁ c₁ f₁ l₂ c₂ f₂ → Noted l₀ c₀ f₀ l₂ c₂ f₂
noted_then a b = record { notable = b.notable; back = b.back ∙ a.back }

-- what stands behind the first c is not looked at
back-front : (c : ℕ) (looked : List ℕ) (i u : ℕ) (from : List ℕ) → c ≤ i → taken_back c (set looked i u) from ≡ taken_back c looked from
unfolding taken_back
back-front zero looked i u from l = refl
back-front (suc c) looked i u from l = rw (get_or-set_other looked i c u 0 (λ q. absurd (omega arith))) (back-front c looked i u (set from (at looked c) NONE) (omega arith))

module _ (from : List ℕ) (u x : ℕ) (e : seen from u ≡ false) (some : x ≡ NONE → ⊥) where
  below : u < length from
  below = unseen-below from u refl e

  -- a mark taken back
  unset : set (set from u x) u NONE ≡ from
  unset =
      set-set from u x NONE
      ∙ ext_get_or 0 (set from u NONE) from (length-set from u NONE)
      (λ i l. by_bool (eqb i u) (λ q. rw (eqb-true i u q) (get_or-set_same from u NONE 0 below ∙ sym (eqb-true (at from u) NONE (not-false _ e)))) (λ q. get_or-set_other from u i NONE 0 (eqb-false i u q)))

  -- one more that is marked is one fewer to note
  fewer : unseen_count from ≡ unseen_count (set from u x) + 1
  unfolding unseen_count
  fewer =
      rw (length-set from u x)
      (ap (count (length from)) (fun_ext (λ w. sym (and-true (not (seen from w)))))
      ∙ unseen_falls (λ w. true) from u x e some refl
      ∙ ap (λ (p : ℕ → Bool). count (length from) p + 1) (fun_ext (λ w. and-true (not (seen (set from u x) w)))))

  -- .. and the first that is taken back
  back-first : (looked : List ℕ) (c : ℕ) → c < length looked → taken_back (suc c) (set looked c u) (set from u x) ≡ taken_back c looked from
  unfolding taken_back
  back-first looked c l = rw (get_or-set_same looked c u 0 l, unset) (back-front c looked c u from (omega arith))

  -- there is room for u, ..
  pub noted-room : {looked : List ℕ} {c : ℕ} → Notable looked c from → c < length looked
  noted-room n = omega (arith, n.room, fewer)

  -- .. also once it is marked, ..
  pub noted_less : {looked : List ℕ} {c : ℕ} → Notable looked c from → Notable looked c (set from u x)
  noted_less n = record { inside = λ i l. rw length-set (n.inside i l); room = omega (arith, n.room, fewer) }

  -- .. and a look that marks it notes it
  module _ {looked looked' : List ℕ} {c c' : ℕ} {from' : List ℕ} (n : Notable looked c from) (mark : from' ≡ set from u x) (then : NotedThen u looked c looked' c') where
    pub noted-notable : Notable looked' c' from'
    noted-notable =
        rw (mark, then.0, then.1)
        (record {
          inside = λ i l.
              by_bool (eqb i c) (λ q. rw (length-set, eqb-true i c q, get_or-set_same looked c u 0 (noted-room n)) below)
              (λ q. let other = eqb-false i c q in rw (length-set, get_or-set_other looked c i u 0 other) (n.inside i (omega arith)));
          room = rw length-set (omega (arith, n.room, fewer));
        })

    pub noted-back : taken_back c' looked' from' ≡ taken_back c looked from
    noted-back = rw (mark, then.0, then.1, add-one) (back-first looked c (noted-room n))

    pub noted-mark : Noted looked c from looked' c' from'
    noted-mark = record { notable = noted-notable; back = noted-back }

-- nobody noted yet, and room for all
pub notable-start : (looked from : List ℕ) → length from ≤ length looked → Notable looked 0 from
unfolding unseen_count
notable-start looked from l = record { inside = λ i q. absurd (omega arith); room = omega (arith, count_bound (length from) (λ u. not (seen from u))) }

-- .. in a list made for any plant
pub notable-made : {n x : ℕ} {looked : List ℕ} (from : List ℕ) → length from ≡ n → n ≤ GATEWAYS → looked ≡ replicate GATEWAYS x → Notable looked 0 from
notable-made {x = x} {looked} from e few made = notable-start looked from (omega (arith, e, few, ap length made ∙ length-replicate GATEWAYS x))

-- of a list only the first c count
back-same : (c : ℕ) (looked looked' from : List ℕ) → ((i : ℕ) → i < c → at looked i ≡ at looked' i) → taken_back c looked from ≡ taken_back c looked' from
unfolding taken_back
back-same zero looked looked' from same = refl
back-same (suc c) looked looked' from same = rw (same c (omega arith)) (back-same c looked looked' (set from (at looked' c) NONE) (λ i l. same i (omega (arith, l))))

-- the loop that takes back: those left to take back give what all give
pub record TakingBack (noted from₀ left from : List ℕ) : Type 0 where
  pub marked : AllMarked left from
  pub rest : taken_back (length left) left from ≡ taken_back (length noted) noted from₀

pub back_start : {noted from : List ℕ} → AllMarked noted from → TakingBack noted from noted from
back_start m = record { marked = m; rest = refl }

module _ {noted from₀ left from : List ℕ} (less : List ℕ) (u : ℕ) (t : TakingBack noted from₀ left from) (one : left ≡ less ++ u ∷ []) where
  -- the last of those left
  last : at (less ++ u ∷ []) (length less) ≡ u
  last = get_or_push less u 0 (length less) refl

  others : (i : ℕ) → i < length less → at (less ++ u ∷ []) i ≡ at less i
  others i l = get_or_append_left less (u ∷ []) 0 i l

  each : AllMarked (less ++ u ∷ []) from
  each = rw one at t.marked

  -- .. has a place among the marks, ..
  pub back-place : u < length from
  back-place = rw last at (each (length less) (omega (arith, length_push less u)))

  -- .. and is not left once its mark is taken back
  pub back-turn : {from' : List ℕ} → from' ≡ set from u NONE → TakingBack noted from₀ less from'
  unfolding taken_back
  back-turn now =
      let whole : taken_back (suc (length less)) (less ++ u ∷ []) from ≡ taken_back (length noted) noted from₀ = rw (one, length_push less u, add-one) at t.rest in
      let all : taken_back (length less) (less ++ u ∷ []) (set from (at (less ++ u ∷ []) (length less)) NONE) ≡ taken_back (length noted) noted from₀ = whole in
      record {
        marked = λ i l. rw (now, length-set) (rw (others i l) at (each i (omega (arith, l, length_push less u))));
        rest = rw now (back-same (length less) less (less ++ u ∷ []) (set from u NONE) (λ i l. sym (others i l)) ∙ (rw last at all));
      }

pub back_end : {noted from₀ left from : List ℕ} → TakingBack noted from₀ left from → length left ≡ 0 → from ≡ taken_back (length noted) noted from₀
unfolding taken_back
back_end t none = rw none at t.rest

module _ {looked : List ℕ} {c : ℕ} {from : List ℕ} (n : Notable looked c from) where
  noted-length : length (take c looked) ≡ c
  noted-length = length-take-le c looked (omega (arith, n.room))

  pub back-noted : {from' : List ℕ} → from' ≡ taken_back (length (take c looked)) (take c looked) from → from' ≡ taken_back c looked from
  back-noted e = (rw noted-length at e) ∙ back-same c (take c looked) looked from (λ i l. get_or-take c looked i 0 l)
