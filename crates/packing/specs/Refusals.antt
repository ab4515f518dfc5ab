-- Refusals (01, "Refused for ..", "First to be named"): numbers in a turn, and what a number gives.
use Rattle.std.specs.Prelude.{ℕ, zero, suc, Bool, true, false}

-- the number e if its condition holds, else what the later conditions give; 0 stands for accepted
abbrev pub refuse : Bool → ℕ → ℕ → ℕ
refuse true e later = e
refuse false e later = later

-- the first number that is not 0
abbrev pub first_of : ℕ → ℕ → ℕ
first_of zero later = later
first_of (suc e) later = suc e

-- by a refusal number: what an accepted call gives, or what it leaves when refused
module _ {A : Type 0} where
  abbrev pub by_number : ℕ → A → A → A
  by_number zero changed kept = changed
  by_number (suc e) changed kept = kept
