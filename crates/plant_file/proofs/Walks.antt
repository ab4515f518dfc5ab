-- A reader on its way through a file's links.
use Prim.Native.Nat.{ℕ, ◌+◌, ◌≤◌}
use mathlib.Core.Path.{◌≡◌, sym, ap, ◌∙◌}
use mathlib.Core.List.{List}
use native.Mathlib.Omega.{arith}
use denote.Ref.{Bor}
use Rattle.std.specs.Prelude.{Option, Some, None}
use Rattle.std.specs.Iterator.{MakesProgress}
use Rattle.plant_file.specs.declared.reader.Reader.{Reader}
use Rattle.plant_file.specs.PlantFile.{file_m}
use Rattle.plant_file.specs.Reader.{link_at, Reads, links_left}
use Rattle.plant_file.proofs.LinksByIndex.{link_some, link_none, index-here}

-- a reader that gave a link has fewer left
pub reads-on : {can : Reader → Type 0} → ((r : Reader) → can r) → (old : Reader) {link : Option (ℕ × ℕ)} (new : Reader) → Reads old link new → MakesProgress can links_left old link new
reads-on all old {link = None} new reads = record { on = λ _. tt; keeps = tt; rests = λ _. tt }
reads-on all old {link = Some x} new reads =
    let here = link_some old.src.now old.at reads.gives in
    record {
      on = λ _. (all new, tt, omega (arith, here, reads.moves ∙ index-here old.src.now old.at here, ap (λ (s : Bor (List ℕ)). file_m s.now) reads.keeps));
      keeps = all new;
      rests = λ _. tt;
    }

-- its next link is link i of the file
pub record Walks (file : List ℕ) (reader : Reader) (i : ℕ) : Type 0 where
  pub same : reader.src.now ≡ file
  pub index : reader.at ≡ i

pub walk-start : {src : Bor (List ℕ)} {made reader : Reader} {i : ℕ} → (made.src ≡ src) × (made.at ≡ 0) → reader ≡ made → i ≡ 0 → Walks src.now reader i
walk-start made e zero =
    record { same = ap (λ (r : Reader). r.src.now) e ∙ ap (λ (s : Bor (List ℕ)). s.now) made.0; index = ap (λ (r : Reader). r.at) e ∙ made.1 ∙ sym zero }

module _ (file : List ℕ) {old new : Reader} {i : ℕ} (w : Walks file old i) where
  -- .. which it gives
  pub walk-read : {link : Option (ℕ × ℕ)} → Reads old link new → link ≡ link_at file i
  walk-read reads = reads.gives ∙ rw (w.same, w.index)

  -- .. and then it is at the link after it
  pub walk-on : {x : ℕ × ℕ} {k : ℕ} → Reads old (Some x) new → k ≡ i + 1 → Walks file new k
  walk-on reads e =
      record {
        same = ap (λ (s : Bor (List ℕ)). s.now) reads.keeps ∙ w.same;
        index = reads.moves ∙ rw (w.same, w.index) (index-here file i (link_some file i (walk-read reads))) ∙ sym e;
      }

  -- .. or nothing, at the end
  pub walk-end : Reads old None new → file_m file ≤ i
  walk-end reads = link_none file i (walk-read reads)
