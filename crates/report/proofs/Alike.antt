-- The listing goes by the entries of the first n gateways: lists that are alike there have one text.
use Prim.Native.Nat.{ℕ, zero, suc, ◌<◌, ◌≤◌}
use mathlib.Core.Path.{◌≡◌, refl, ap}
use mathlib.Core.Bool.{not, ◌&&◌}
use mathlib.Core.List.{List}
use native.Mathlib.Omega.{arith}
use lib.Dec.{eqb}
use Rattle.packing.specs.Plant.{NONE, at}
use Rattle.packing.specs.Grouping.{follows, members_of, is_alone, covered}
use Rattle.packing.proofs.Lists.{list_where_ext}
use Rattle.packing.proofs.Sums.{count_ext}
use Rattle.report.specs.Text.{covered_count, line_one, lead_line, lead_lines, alone_line, choke_line, listing}

module _ (n : ℕ) (l l' : List ℕ) (same : (v : ℕ) → v < n → at l v ≡ at l' v) where
  members_alike : (u : ℕ) → members_of n (at l) u ≡ members_of n (at l') u
  unfolding members_of
  members_alike u = list_where_ext n (follows (at l) u) (follows (at l') u) (λ w k. ap (λ (x : ℕ). eqb x u && not (eqb w u)) (same w k))

  lead_alike : (u : ℕ) → u < n → lead_line n l u ≡ lead_line n l' u
  unfolding lead_line
  lead_alike u k = rw (same u k, members_alike u)

  leads_alike : (i : ℕ) → i ≤ n → lead_lines i n l ≡ lead_lines i n l'
  unfolding lead_lines
  leads_alike zero k = refl
  leads_alike (suc i) k = rw (leads_alike i (omega arith), lead_alike i k)

  one_alike : (t : ℕ) → line_one n t l ≡ line_one n t l'
  unfolding line_one covered_count
  one_alike t = rw (count_ext n (covered (at l)) (covered (at l')) (λ v k. ap (λ (x : ℕ). not (eqb x NONE)) (same v k)))

  alone_alike : alone_line n l ≡ alone_line n l'
  unfolding alone_line
  alone_alike = rw (list_where_ext n (is_alone (at l)) (is_alone (at l')) (λ v k. ap (λ (x : ℕ). eqb x NONE) (same v k)))

  pub listing_alike : (t : ℕ) (c c' : List ℕ) → ((v : ℕ) → v < n → at c v ≡ at c' v) → listing n t l c ≡ listing n t l' c'
  unfolding listing choke_line
  listing_alike t c c' alike =
      rw (one_alike t, leads_alike n (omega arith), alone_alike, list_where_ext n (λ v. eqb (at c v) 1) (λ v. eqb (at c' v) 1) (λ v k. ap (λ (x : ℕ). eqb x 1) (alike v k)))
