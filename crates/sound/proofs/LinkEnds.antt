-- The test of the links' ends, over the library's chunks of two.
use Prim.Native.Nat.{ℕ, zero, suc, ◌/◌}
use mathlib.Core.Path.{◌≡◌, refl, sym, ap, ◌∙◌}
use mathlib.Core.Bool.{Bool, not, cond, ◌&&◌}
use mathlib.Core.List.{List, [], ◌∷◌}
use native.Mathlib.Omega.{arith}
use lib.Dec.{eqb, ltb}
use lib.ListN.{length, set}
use Rattle.std.specs.List.{list_all}
use Rattle.std.specs.Simd.{first_chunks}
use Rattle.packing.specs.Plant.{at}
use Rattle.sound.specs.Sound.{ends_sound}
use Rattle.sound.specs.Marks.{noted, entry_is}

ends-chunks : (k n : ℕ) (ls : List ℕ) → k ≡ length ls / 2 → ends_sound n ls ≡ list_all (λ pair. not (eqb (at pair 0) (at pair 1)) && ltb (at pair 0) n && ltb (at pair 1) n) (first_chunks 2 k ls)
unfolding ends_sound
ends-chunks zero n [] e = refl
ends-chunks zero n (a ∷ []) e = refl
ends-chunks zero n (a ∷ b ∷ rest) e = absurd (omega (arith, e))
ends-chunks (suc k) n [] e = absurd (omega (arith, e))
ends-chunks (suc k) n (a ∷ []) e = absurd (omega (arith, e))
ends-chunks (suc k) n (a ∷ b ∷ rest) e = ap (λ (r : Bool). not (eqb a b) && ltb a n && ltb b n && r) (ends-chunks k n rest (omega (arith, e)))

pub ends_of_chunks : {r : Bool} (n : ℕ) (ls : List ℕ) → r ≡ list_all (λ pair. not (eqb (at pair 0) (at pair 1)) && ltb (at pair 0) n && ltb (at pair 1) n) (first_chunks 2 (length ls / 2) ls) → r ≡ ends_sound n ls
ends_of_chunks n ls e = e ∙ sym (ends-chunks (length ls / 2) n ls refl)

-- e is v's entry among the holders
pub note_means : (hs marks : List ℕ) (v u : ℕ) {new : List ℕ} {e : ℕ} → e ≡ at hs v → new ≡ cond (eqb e u) (set marks v 1) marks → new ≡ noted (entry_is hs) marks v u
unfolding noted entry_is
note_means hs marks v u here h = h ∙ rw here
