-- The library's words for tests over a range of numbers are those of specs/Count.
use Prim.Native.Nat.{ℕ, zero, suc, ◌≤◌}
use mathlib.Core.Path.{◌≡◌, refl, sym, ap, ◌∙◌}
use mathlib.Core.Bool.{Bool, true, false}
use mathlib.Core.List.{List}
use native.Mathlib.Nat.{zero-add}
use native.Mathlib.Numerals.{add-one}
use native.Mathlib.Omega.{arith}
use lib.ListN.{take}
use lib.Seq.{take_all}
use Rattle.std.specs.List.{list_all, list_any, range_with_len}
use Rattle.std.proofs.lemmas.List.FromFn.{length-range_with_len, get_or-range_with_len}
use Rattle.std.proofs.lemmas.List.Folds.{list_all_more, list_any_more}
use denote.Param.Members.{Mut}
use Rattle.std.specs.Fn.{Called}
use Rattle.std.specs.Iterator.{YieldsThen}
use Rattle.std.specs.List.{FoldsTo}
use Rattle.std.specs.Option.{MatchOption}
use Rattle.std.specs.declared.option.Option.{Option}
use Rattle.std.specs.declared.ops.Range.{Range}
use Rattle.std.proofs.iter.Yields.{nat_range_steps}
use Rattle.std.proofs.lemmas.Iterator.{YieldsList-from_range}
use Rattle.std.proofs.lemmas.Iterator.Search.{all_from_yields_List}
use Rattle.packing.specs.Count.{all, any}

module _ (p : ℕ → Bool) where
  all_upto : (n i : ℕ) → i ≤ n → list_all p (take i (range_with_len 0 n)) ≡ all i p
  unfolding all
  all_upto n zero h = refl
  all_upto n (suc i) h =
      rw (← add-one i) (list_all_more p (range_with_len 0 n) i 0 (omega (arith, length-range_with_len 0 n)) ∙ rw (all_upto n i (omega arith), get_or-range_with_len 0 n i 0 (omega arith), zero-add))

  -- every number of the range 0 .. n passes
  pub all_range : (n : ℕ) → list_all p (range_with_len 0 n) ≡ all n p
  all_range n = ap (list_all p) (sym (take_all n (range_with_len 0 n) (omega (arith, length-range_with_len 0 n)))) ∙ all_upto n n (omega arith)

  any_upto : (n i : ℕ) → i ≤ n → list_any p (take i (range_with_len 0 n)) ≡ any i p
  unfolding any
  any_upto n zero h = refl
  any_upto n (suc i) h =
      rw (← add-one i) (list_any_more p (range_with_len 0 n) i 0 (omega (arith, length-range_with_len 0 n)) ∙ rw (any_upto n i (omega arith), get_or-range_with_len 0 n i 0 (omega arith), zero-add))

  -- a number of the range passes
  pub any_range : (n : ℕ) → list_any p (range_with_len 0 n) ≡ any n p
  any_range n = ap (list_any p) (sym (take_all n (range_with_len 0 n) (omega (arith, length-range_with_len 0 n)))) ∙ any_upto n n (omega arith)

-- what `(0..n).all(..)` answers, by its clause `ran`, where the closure computes the test p: every number of the range passes
pub range_all : {F : Type 0} {g : Mut F (ℕ × Unit {0}) Bool} {s u : Range ℕ} {f : F} {r : Bool} (n : ℕ) (p : ℕ → Bool) → s ≡ record { start = 0; end = n }
    → (xs : List ℕ) × (o : Option ℕ) × (j : F) × YieldsThen nat_range_steps s xs o u × FoldsTo (λ q x q'. Called g q (x, tt) true q') f xs j × MatchOption o (r ≡ true) (λ x. (r ≡ false) × ((h : F) × Called g j (x, tt) false h))
    → ((x : ℕ) (b : Bool) (q : F) → Called g f (x, tt) b q → (q ≡ f) × (b ≡ p x)) → r ≡ all n p
range_all {u = u} {f = f} {r = r} n p e ran test = all_from_yields_List p u f r ran (YieldsList-from_range 0 n n e (omega arith)) test ∙ all_range p n
