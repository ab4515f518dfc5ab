-- One pass over an order, from its last place to its first, finds every gateway's place.
use Prim.Native.Nat.{ℕ, ◌-◌, ◌<◌, ◌≤◌}
use mathlib.Core.Path.{◌≡◌, sym, ap, ◌∙◌}
use mathlib.Core.Bool.{true, false}
use mathlib.Core.List.{List}
use native.Mathlib.Omega.{arith}
use lib.Dec.{eqb}
use lib.ListN.{length, set, length-set}
use lib.Seq.{get_or-set_same, get_or-set_other}
use borrow.Author.Tests.{eqb-true, eqb-false}
use Rattle.packing.specs.Plant.{GATEWAYS, at}
use Rattle.packing.proofs.Tests.{by_bool}
use Rattle.stars.specs.Stars.{place_of}
use Rattle.stars.specs.Pre.{Table}
use Rattle.stars.proofs.Tables.{Refilled}
use Rattle.stars.proofs.OrderPlaces.{FirstFrom, place_is}

-- passed down to place i: for each gateway its first place from i on is written
pub record Passed (n : ℕ) (os l : List ℕ) (i : ℕ) : Type 0 where
  pub upto : i ≤ n
  pub long : GATEWAYS ≡ length l
  pub place : (v : ℕ) → v < n → FirstFrom i n (at os) v (at l v)

module _ (n : ℕ) (os : List ℕ) (few : n ≤ GATEWAYS) where
  pub pass_start : {l : List ℕ} → Refilled n n l → Passed n os l n
  pass_start r =
      record {
        upto = omega arith;
        long = r.long;
        place = λ v h. rw (r.each v h) record { most = omega arith; here = λ k. absurd (omega arith); before = λ j a k q. omega arith };
      }

  pub pass_turn : {l l' : List ℕ} {i x : ℕ} → Passed n os l i → 0 < i → x ≡ at os (i - 1) → l' ≡ set l x (i - 1) → Passed n os l' (i - 1)
  pass_turn {l} {l'} {i} {x} p some e f =
      record { upto = omega (arith, p.upto); long = rw f (p.long ∙ sym (length-set l x (i - 1))); place = λ v h. by_bool (eqb v x) (here v h) (elsewhere v h) }
    where
      here : (v : ℕ) → v < n → eqb v x ≡ true → FirstFrom (i - 1) n (at os) v (at l' v)
      here v h t =
          let is = eqb-true v x t in
          rw (f, is, get_or-set_same l x (i - 1) 0 (omega (arith, p.long)))
          record { most = omega (arith, p.upto); here = λ k. sym e; before = λ j a k q. omega arith }

      elsewhere : (v : ℕ) → v < n → eqb v x ≡ false → FirstFrom (i - 1) n (at os) v (at l' v)
      elsewhere v h t =
          let old = p.place v h in
          rw (f, get_or-set_other l x v (i - 1) 0 (eqb-false v x t))
          record {
            most = old.most;
            here = old.here;
            before = λ j a k q. by_bool (eqb j (i - 1)) (λ s. eqb-false v x t (sym q ∙ ap (at os) (eqb-true j (i - 1) s) ∙ sym e))
                (λ s. old.before j (omega (arith, eqb-false j (i - 1) s)) k q);
          }

  pub pass_end : {l : List ℕ} {i : ℕ} → Passed n os l i → i ≤ 0 → Table n (place_of n (at os)) l
  pass_end {l} {i} p h =
      let all : i ≡ 0 = omega arith in
      record { long = p.long; entry = λ v k. place_is n (at os) v (at l v) (rw all at (p.place v k)) }
