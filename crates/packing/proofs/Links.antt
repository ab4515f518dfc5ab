-- Laws of links and neighbours.
use Prim.Native.Nat.{ℕ, ◌*◌, ◌-◌}
use mathlib.Core.Path.{◌≡◌, refl, sym, ap, ◌∙◌}
use mathlib.Core.Bool.{Bool, true, false, cond, ◌&&◌, ◌||◌, and_comm, or_comm, or_assoc}
use mathlib.Core.List.{List, [], ◌∷◌, ◌++◌}
use native.Mathlib.Omega.{arith}
use lib.Dec.{eqb}
use lib.ListN.{length}
use borrow.Author.Tests.{eqb-true, eqb-false}
use Rattle.packing.specs.Lists.{member_of}
use Rattle.packing.specs.Plant.{joins, linked, other_end, neighbours}
use Rattle.packing.proofs.Tests.{by_bool, and_l, and_r, not_test}

-- a link is one either way round
pub linked_sym : (l : List ℕ) (x y : ℕ) → linked l x y ≡ linked l y x
unfolding linked
linked_sym [] x y = refl
linked_sym (a ∷ []) x y = refl
linked_sym (a ∷ b ∷ rest) x y = rw (linked_sym rest x y, or_comm (eqb a x && eqb b y) (eqb a y && eqb b x))

-- x's neighbours are the gateways that x is linked to. It holds of any list: a link x-x gives x as its own neighbour.
pub neighbours-linked : (l : List ℕ) (x y : ℕ) → member_of (neighbours l x) y ≡ linked l x y
unfolding neighbours linked member_of
neighbours-linked [] x y = refl
neighbours-linked (a ∷ []) x y = refl
neighbours-linked (a ∷ b ∷ rest) x y = end (neighbours rest x) ∙ ap (λ (t : Bool). joins a b x y || t) (neighbours-linked rest x y)
  where
    end : (later : List ℕ) → member_of (other_end a b x later) y ≡ (joins a b x y || member_of later y)
    end later =
        by_bool (eqb a x)
        (λ e. by_bool (eqb b y) (λ f. rw (e, f)) (λ f. rw (not_test (eqb a y && eqb b x) (λ q. eqb-false b y f (eqb-true b x (and_r (eqb a y) (eqb b x) q) ∙ sym (eqb-true a x e) ∙ eqb-true a y (and_l (eqb a y) (eqb b x) q))), e, f)))
        (λ e. by_bool (eqb b x) (λ f. rw (and_comm (eqb a y) (eqb b x), e, f)) (λ f. rw (and_comm (eqb a y) (eqb b x), e, f)))

-- links behind a list of whole links
pub linked_parts : (m : ℕ) (l k : List ℕ) (x y : ℕ) → length l ≡ 2 * m → linked (l ++ k) x y ≡ (linked l x y || linked k x y)
unfolding linked
linked_parts m [] k x y e = refl
linked_parts m (p ∷ []) k x y e = absurd (omega arith)
linked_parts m (p ∷ q ∷ rest) k x y e = rw (linked_parts (m - 1) rest k x y (omega arith)) (sym (or_assoc (joins p q x y) (linked rest x y) (linked k x y)))

-- .. one link more
pub linked-append : (m : ℕ) (l : List ℕ) (a b x y : ℕ) → length l ≡ 2 * m → linked (l ++ (a ∷ b ∷ [])) x y ≡ (linked l x y || joins a b x y)
unfolding linked
linked-append m l a b x y e = linked_parts m l (a ∷ b ∷ []) x y e ∙ ap (λ (t : Bool). linked l x y || t) (or_comm (joins a b x y) false)

-- the neighbours by the first m links, and then by the rest
neighbours-append : (m : ℕ) (l k : List ℕ) (x : ℕ) → length l ≡ 2 * m → neighbours (l ++ k) x ≡ neighbours l x ++ neighbours k x
unfolding neighbours
neighbours-append m [] k x e = refl
neighbours-append m (a ∷ []) k x e = absurd (omega arith)
neighbours-append m (a ∷ b ∷ l) k x e = rw (neighbours-append (m - 1) l k x (omega arith)) (end (eqb a x) (eqb b x))
  where
    end : (p q : Bool) → cond p (b ∷ (neighbours l x ++ neighbours k x)) (cond q (a ∷ (neighbours l x ++ neighbours k x)) (neighbours l x ++ neighbours k x))
        ≡ cond p (b ∷ neighbours l x) (cond q (a ∷ neighbours l x) (neighbours l x)) ++ neighbours k x
    end true q = refl
    end false true = refl
    end false false = refl

-- The link a-b again, after a list of whole links that has it: what does not depend on a number that is in a list already goes by the neighbours without it.
module _ (m : ℕ) (ls rest : List ℕ) (a b x : ℕ) (whole : length ls ≡ 2 * m) (there : linked ls a b ≡ true) where
  pub neighbours_again : {B : Type 0} (f : List ℕ → B) → ((us ws : List ℕ) (u : ℕ) → member_of us u ≡ true → f (us ++ u ∷ ws) ≡ f (us ++ ws))
      → f (neighbours (ls ++ a ∷ b ∷ rest) x) ≡ f (neighbours (ls ++ rest) x)
  unfolding neighbours
  neighbours_again f again =
      rw (neighbours-append m ls (a ∷ b ∷ rest) x whole, neighbours-append m ls rest x whole)
      (by_bool (eqb a x) (λ e. rw e (again (neighbours ls x) (neighbours rest x) b (neighbours-linked ls x b ∙ (rw (eqb-true a x e) at there))))
      (λ e.
      by_bool (eqb b x) (λ g. rw (e, g) (again (neighbours ls x) (neighbours rest x) a (neighbours-linked ls x a ∙ linked_sym ls x a ∙ (rw (eqb-true b x g) at there))))
      (λ g. rw (e, g))))
