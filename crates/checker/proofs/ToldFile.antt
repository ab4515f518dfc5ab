-- Every plant that calls tell has an accepted file that describes it, of version 2: its links, in order of arrival, with the order 0, 1, .., and each limit as it was told.
use Prim.Native.Nat.{ℕ, ◌+◌, ◌*◌, ◌<◌, ◌≤◌}
use mathlib.Core.Path.{◌≡◌, refl, sym, ap, ◌∙◌}
use mathlib.Core.Bool.{false}
use mathlib.Core.List.{List, [], ◌∷◌, ◌++◌}
use native.Mathlib.Nat.{not-suc-le-zero}
use native.Mathlib.Numerals.{add-one}
use native.Mathlib.Omega.{arith}
use lib.ListN.{length, length-append, get_or-append}
use lib.Seq.{get_or-append-add}
use Rattle.packing.specs.Lists.{list_of}
use Rattle.packing.specs.Orders.{up_to}
use Rattle.packing.specs.Plant.{LINKS, at, linked}
use Rattle.packing.specs.Turns.{SameLink, first_end, second_end}
use Rattle.packing.proofs.Tests.{below_suc}
use Rattle.packing.proofs.Lists.{list_of-length, list_of-at}
use Rattle.packing.proofs.Turns.{says-linked}
use Rattle.planner.specs.Tells.{ToldInRange}
use Rattle.planner.specs.Calls.{Call, link, order, set_limit, place_by, read}
use Rattle.planner.specs.Told.{Told, beginning, refuses, accepted}
use Rattle.planner.specs.Claims.{told_by}
use Rattle.planner.proofs.Conditions.{open_allowed, link_allowed}
use Rattle.planner.proofs.Tells.{tell-keeps, onward}
use Rattle.planner.proofs.LimitsTold.{told_in_range}
use Rattle.plant_file.specs.Encode.{encode_two, pairs_of}
use Rattle.plant_file.specs.EveryPlant.{EveryLimits}
use Rattle.plant_file.proofs.EveryLimits.{every_limits}
use Rattle.checker.specs.Claim.{ToldHasFile}

-- m links of a file's ranges: each joins two gateways, and is there once
record LinksFit (n m : ℕ) (l : List ℕ) : Type 0 where
  few : m ≤ LINKS
  two-each : length l ≡ 2 * m
  first_below : (i : ℕ) → i < m → first_end l i < n
  second_below : (i : ℕ) → i < m → second_end l i < n
  differ : (i : ℕ) → i < m → first_end l i ≡ second_end l i → ⊥
  once : (i j : ℕ) → i < j → j < m → SameLink (first_end l i) (second_end l i) (first_end l j) (second_end l j) → ⊥

no_links : (n : ℕ) → LinksFit n 0 []
no_links n =
    record {
      few = omega arith;
      two-each = refl;
      first_below = λ i p. absurd (not-suc-le-zero p);
      second_below = λ i p. absurd (not-suc-le-zero p);
      differ = λ i p. absurd (not-suc-le-zero p);
      once = λ i j p q. absurd (not-suc-le-zero q);
    }

-- one link more
module _ {n m : ℕ} {l : List ℕ} (f : LinksFit n m l) (a b : ℕ) where
  first-old : (i : ℕ) → i < m → first_end (l ++ (a ∷ b ∷ [])) i ≡ first_end l i
  first-old i p = get_or-append l (a ∷ b ∷ []) 0 (2 * i) (omega (arith, f.two-each))

  second-old : (i : ℕ) → i < m → second_end (l ++ (a ∷ b ∷ [])) i ≡ second_end l i
  second-old i p = get_or-append l (a ∷ b ∷ []) 0 (2 * i + 1) (omega (arith, f.two-each))

  first-new : first_end (l ++ (a ∷ b ∷ [])) m ≡ a
  first-new = ap (λ (i : ℕ). at (l ++ (a ∷ b ∷ [])) i) end ∙ get_or-append-add l (a ∷ b ∷ []) 0 0
    where
      end : 2 * m ≡ length l + 0
      end = omega (arith, f.two-each)

  second-new : second_end (l ++ (a ∷ b ∷ [])) m ≡ b
  second-new = ap (λ (i : ℕ). at (l ++ (a ∷ b ∷ [])) i) end ∙ get_or-append-add l (a ∷ b ∷ []) 1 0
    where
      end : 2 * m + 1 ≡ length l + 1
      end = omega (arith, f.two-each)

  -- the last of the links, and those before it
  module _ (A : ℕ → ℕ → Type 0) (new : A a b) (old : (i : ℕ) → i < m → A (first_end l i) (second_end l i)) where
    each : (i : ℕ) → i < m + 1 → A (first_end (l ++ (a ∷ b ∷ [])) i) (second_end (l ++ (a ∷ b ∷ [])) i)
    each i p = below_suc i m (rw add-one at p) (λ q. rw (q, first-new, second-new) new) (λ q. rw (first-old i q, second-old i q) (old i q))

  one-link-more : a < n → b < n → (a ≡ b → ⊥) → linked l a b ≡ false → (m ≡ LINKS → ⊥) → LinksFit n (m + 1) (l ++ (a ∷ b ∷ []))
  one-link-more p q apart new room =
      record {
        few = omega (arith, f.few);
        two-each = omega (arith, f.two-each, length-append l (a ∷ b ∷ []));
        first_below = each (λ x y. x < n) p f.first_below;
        second_below = each (λ x y. y < n) q f.second_below;
        differ = each (λ x y. x ≡ y → ⊥) apart f.differ;
        once = λ i j r s same. below_suc j m (rw add-one at s)
            (λ e. (says-linked m l a b f.two-each).fails new (i, omega arith, rw (first-old i (omega arith), second-old i (omega arith), e, first-new, second-new) at same))
            (λ e. f.once i j r e (rw (first-old i (omega arith), second-old i (omega arith), first-old j e, second-old j e) at same));
      }

-- the links told
abbrev Fits : Told → Type 0
Fits p = LinksFit p.n p.m p.links

-- each accepted call keeps it
accepted-fits : (p : Told) (c : Call) → refuses p c ≡ 0 → Fits p → Fits (accepted p c)
unfolding accepted refuses
accepted-fits p (link a b) z f =
    let (_, below_a, below_b, apart, new, room, _) = link_allowed p.n p.placed p.m p.links p.room a b refl z in one-link-more f a b below_a below_b apart new room
accepted-fits p (order numbers) z f = f
accepted-fits p (set_limit u limit) z f = f
accepted-fits p (place_by w) z f = f
accepted-fits p (read leaders choke) z f = f

pub told_has_file : ToldHasFile
unfolding ToldHasFile EveryLimits ToldInRange beginning up_to
told_has_file n t ls os hs ts ok calls =
    let told = told_by n t ls calls in
    let on = onward (beginning n t (length ls)) calls in
    let open-fits = open_allowed n t os hs ts refl ok in
    let fits = tell-keeps Fits accepted-fits (beginning n t (length ls)) calls (no_links n) in
    let limits = told_in_range n t (length ls) calls open-fits.1 open-fits.2 in
    let each = list_of-at told.n told.limit in
    let (file, _) = every_limits told.n told.t told.m told.links (up_to told.n) (list_of told.n told.limit)
    (record {
      gateways = rw on.gateways open-fits.0;
      least = rw on.limit open-fits.1;
      most = rw on.limit open-fits.2;
      few = fits.few;
      two-each = fits.two-each;
      first_below = fits.first_below;
      second_below = fits.second_below;
      differ = fits.differ;
      once = fits.once;
      one_each = list_of-length told.n (λ i. i);
      order_below = λ i l. rw (list_of-at told.n (λ j. j) i l) l;
      order-once = λ i j p q e. let same : i ≡ j = sym (list_of-at told.n (λ k. k) i (omega arith)) ∙ e ∙ list_of-at told.n (λ k. k) j q in omega arith;
    }) (list_of-length told.n told.limit) (λ u l. rw (each u l) (limits u)) in (
      encode_two told.n told.t told.m told.links (up_to told.n) (pairs_of (list_of told.n told.limit)),
      file.accepted,
      file.says-t ∙ on.limit,
      record { gateways = file.says-n; limits = λ u l. let below = rw file.says-n at l in file.says-limits u below ∙ each u below; links = λ x y. rw file.says-links },
    )
