-- The loop that writes those that a test holds of: packing's laws of a loop that gathers, for the set that has room; any two sets that the test decides agree.
use Rattle.std.proofs.Common.{ℕ, ◌+◌, ◌<◌, ◌≤◌, ◌≡◌, ◌∙◌, Bool, true, false, List, length, set, refl, sym, arith, length-set}
use lib.Dec.{eqb}
use borrow.Author.Tests.{eqb-true, eqb-false}
use Rattle.packing.proofs.Tests.{by_bool}
use Rattle.packing.proofs.Sums.{count_bound}
use Rattle.packing.proofs.Lists.{list_where-length, list_where_ext, Gathered, gather_start, gather_place, gather_more, gather_same, gather_end}
use Rattle.lists.specs.Listed.{Decides, Room, ListsThem}

pub record Listing (says : ℕ → Bool → Type 0) (n : ℕ) (old new : List ℕ) (k w : ℕ) : Type 0 where
  pub few : k ≤ w
  pub same : length new ≡ length old
  pub each : (r : Room says n (length old)) → Gathered n r.listed old new k w
  pub agree : (p q : ℕ → Bool) → Decides says n p → Decides says n q → (u : ℕ) → u < w → p u ≡ q u

module _ (says : ℕ → Bool → Type 0) (n : ℕ) (old : List ℕ) where
  pub listing_start : Listing says n old old 0 0
  listing_start = record { few = omega arith; same = refl; each = λ r. gather_start n r.listed old; agree = λ p q d e u l. absurd (omega (arith, l)) }

  module _ {new : List ℕ} {k w : ℕ} {b : Bool} (l : Listing says n old new k w) (h : w < n) (e : says w b) where
    agree-more : (p q : ℕ → Bool) → Decides says n p → Decides says n q → (u : ℕ) → u < w + 1 → p u ≡ q u
    agree-more p q d d' u less =
        by_bool (eqb u w) (λ t. rw (eqb-true u w t) (sym (d w b h e) ∙ d' w b h e))
        (λ t. let other = eqb-false u w t in l.agree p q d d' u (omega (arith, less, other)))

    pub listing_place : Room says n (length old) → b ≡ true → k < length new
    listing_place r f = rw l.same (gather_place n r.listed old (l.each r) h (r.decides w b h e) r.enough f)

    pub listing_more : b ≡ true → Listing says n old (set new k w) (k + 1) (w + 1)
    listing_more f =
        record {
          few = omega (arith, l.few);
          same = length-set new k w ∙ l.same;
          each = λ r. gather_more n r.listed old (l.each r) h (r.decides w b h e) r.enough f;
          agree = agree-more;
        }

    pub listing_same : b ≡ false → Listing says n old new k (w + 1)
    listing_same f = record { few = omega (arith, l.few); same = l.same; each = λ r. gather_same n r.listed old (l.each r) h (r.decides w b h e) f; agree = agree-more }

  pub listing_end : Room says n (length old) → {new : List ℕ} {k w : ℕ} → Listing says n old new k w → n ≤ w → ListsThem says n old new k
  listing_end r l h p d = rw (list_where_ext n r.listed p (λ v less. l.agree r.listed p r.decides d v (omega (arith, less, h)))) at (gather_end n r.listed old (l.each r) h)

-- a list with a place for each number below n has room for any of them
pub room_for : {says : ℕ → Bool → Type 0} {n room : ℕ} (p : ℕ → Bool) → Decides says n p → n ≤ room → Room says n room
room_for {n = n} p d long = record { listed = p; decides = d; enough = omega (arith, list_where-length n p, count_bound n p, long) }
