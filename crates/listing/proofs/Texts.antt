-- The text for a file: each way to it, and how long it can be.
use Prim.Native.Nat.{ℕ, zero, suc, ◌≤◌}
use mathlib.Core.Path.{◌≡◌, refl, sym, ap, ◌∙◌}
use mathlib.Core.List.{List}
use native.Mathlib.Omega.{arith}
use lib.ListN.{length, take, replicate, length-replicate}
use lib.Seq.{sets, length-sets, length-take-le}
use Rattle.packing.specs.Plant.{GATEWAYS}
use Rattle.plant_file.specs.PlantFile.{file_n, file_t}
use Rattle.plant_file.proofs.Accepted.{file_allowed}
use Rattle.plan.specs.Plan.{plan_refusal, plan_leaders, plan_choke}
use Rattle.plan.proofs.FilePlan.{plan_accepts}
use Rattle.report.specs.Text as text
use Rattle.report.proofs.Lengths.{listing_short, refused-length}
use Rattle.listing.specs.Listed.{text_by, file_text}

pub text_refused : (e : ℕ) (listing : List ℕ) → (e ≡ 0 → ⊥) → text_by e listing ≡ text.refused_line e
text_refused zero listing h = absurd (h refl)
text_refused (suc e) listing h = refl

-- the two ways to the text
module _ (file out : List ℕ) {a b : List ℕ} (ea : a ≡ replicate GATEWAYS 0) (eb : b ≡ replicate GATEWAYS 0) {e : ℕ} (of : e ≡ plan_refusal file (length a) (length b)) where
  number_is : plan_refusal file GATEWAYS GATEWAYS ≡ e
  number_is = sym (of ∙ rw (ea, eb, length-replicate))

  pub write_refused : {r : ℕ} {out' : List ℕ} → (e ≡ 0 → ⊥) → r ≡ length (text.refused_line e) → out' ≡ sets out 0 (text.refused_line e) → (r ≡ length (file_text file)) × (out' ≡ sets out 0 (file_text file))
  unfolding file_text
  write_refused h p q = rw (number_is, text_refused e _ h) (p, q)

  listing-is : {n t : ℕ} {ls cs : List ℕ} → e ≡ 0 → n ≡ file_n file → t ≡ file_t file → ls ≡ plan_leaders file a b → cs ≡ plan_choke file a b → text.listing n t ls cs ≡ file_text file
  unfolding file_text
  listing-is z en et el ec = rw (en, et, el, ec, ea, eb, number_is, z)

  pub write_listing : {n t r : ℕ} {ls cs out' : List ℕ} → e ≡ 0 → n ≡ file_n file → t ≡ file_t file → ls ≡ plan_leaders file a b → cs ≡ plan_choke file a b
      → r ≡ length (text.listing n t ls cs) → out' ≡ sets out 0 (text.listing n t ls cs) → (r ≡ length (file_text file)) × (out' ≡ sets out 0 (file_text file))
  write_listing z en et el ec p q = let same = listing-is z en et el ec in (p ∙ ap length same, q ∙ ap (λ (l : List ℕ). sets out 0 l) same)

-- it has room in a list of 16,437 entries
text_short : (file : List ℕ) → length (file_text file) ≤ 16437
unfolding file_text
text_short file = by (plan_refusal file GATEWAYS GATEWAYS) refl
  where
    by : (e : ℕ) → plan_refusal file GATEWAYS GATEWAYS ≡ e
        → length (text_by e (text.listing (file_n file) (file_t file) (plan_leaders file (replicate GATEWAYS 0) (replicate GATEWAYS 0)) (plan_choke file (replicate GATEWAYS 0) (replicate GATEWAYS 0)))) ≤ 16437
    by zero g = listing_short _ _ _ _ (file_allowed file (plan_accepts file GATEWAYS GATEWAYS g).0).few
    by (suc e) g = omega (arith, refused-length (suc e))

module _ (file out : List ℕ) {r : ℕ} {new : List ℕ} (e : out ≡ replicate 16437 0) (f : r ≡ length (file_text file)) (g : new ≡ sets out 0 (file_text file)) where
  pub text_room : r ≤ length new
  text_room = rw (g, length-sets, e, length-replicate, f) (text_short file)

  pub text_long : r ≡ length (take r new)
  text_long = sym (length-take-le r new text_room)
