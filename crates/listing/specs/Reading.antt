-- What the program reads of plant.plt.
use Rattle.std.specs.Prelude.{ℕ, ◌+◌, ◌≡◌, List, OnErr, Result, take}
use Rattle.plant_file.specs.PlantFile.{LONGEST}
use Rattle.listing.specs.Listed.{file_text}

-- No byte past one more than the longest file changes the text, so the program reads no more. proofs/Cut.antt proves it.
unfoldable pub SameWhenCut : Type 0
SameWhenCut = (file : List ℕ) → file_text (take (LONGEST + 1) file) ≡ file_text file

-- "a file that can't be opened counts as one of 0 bytes": where opening it gave an error, no byte is counted
abbrev pub NoneIfNotOpened : {A E : Type 0} → Result A E → ℕ → Type 0
NoneIfNotOpened opened count = OnErr opened (count ≡ 0)
