-- The links of a file by index (01: "a reader that keeps the file together with the index of its next link").
use Rattle.std.specs.Prelude.{ℕ, ◌+◌, ◌-◌, ◌*◌, ◌≡◌, cond, Option, Some, None, List, ltb}
use Rattle.std.specs.Iterator.{Count, at_most}
use Rattle.plant_file.specs.declared.reader.Reader.{Reader}
use Rattle.plant_file.specs.PlantFile.{number, file_m}

-- the two ends of link i, which stand from place 10 + 4i on; nothing behind the last link
unfoldable pub link_at : List ℕ → ℕ → Option (ℕ × ℕ)
link_at file i = cond (ltb i (file_m file)) (Some (number file (10 + 4 * i), number file (12 + 4 * i))) None

-- the index of the link after link i; it stays where there is no link i
unfoldable pub next_index : List ℕ → ℕ → ℕ
next_index file i = cond (ltb i (file_m file)) (i + 1) i

-- a reader that gives its next link moves past it
pub record Reads (old : Reader) (link : Option (ℕ × ℕ)) (new : Reader) : Type 0 where
  pub gives : link ≡ link_at old.src.now old.at
  pub moves : new.at ≡ next_index old.src.now old.at
  pub keeps : new.src ≡ old.src

-- no more links come than stand from its index on
abbrev pub links_left : Reader → Count
links_left r = at_most (file_m r.src.now - r.at)
