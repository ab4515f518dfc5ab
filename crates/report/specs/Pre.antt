-- What the writers of a text ask and give. Each writes its text into a lent list from a place on, and moves the place on.
use Rattle.std.specs.Prelude.{ℕ, ◌+◌, ◌<◌, ◌≤◌, ◌≡◌, Bool, List, length}
use Rattle.std.proofs.lemmas.List.Edits.{sets}
use Rattle.report.specs.declared.put.Text.{Text}

-- No listing is longer: at most 18 bytes for each of 65,535 gateways, and 55 (proofs/Lengths: listing-near).
abbrev pub FAR : ℕ
FAR = 1179685

-- the text from the old place on ends by FAR, so the code can count its places
pub record Near (old : Text) (text : List ℕ) : Type 0 where
  pub by : old.place + length text ≤ FAR

-- the text stands in the list from the old place on, as far as the list goes, and the new place is the one after it
pub record Put (text : List ℕ) (old new : Text) : Type 0 where
  pub end : new.place ≡ old.place + length text
  pub list : new.out.now ≡ sets old.out.now old.place text
  -- still the same list that was lent
  pub lent : new.out.ghost_name ≡ old.out.ghost_name

-- what a test may answer of each gateway below n is p
abbrev pub Tells : ℕ → (ℕ → Bool → Type 0) → (ℕ → Bool) → Type 0
Tells n answers p = (v : ℕ) (b : Bool) → v < n → answers v b → b ≡ p v
