-- The arrays, put together, are the leaders by rules 1 to 4 and the leader list.
use Prim.Native.Nat.{ℕ, ◌<◌, ◌≤◌}
use mathlib.Core.Path.{◌≡◌, sym, ◌∙◌}
use mathlib.Core.Bool.{Bool, true, false, cond}
use mathlib.Core.List.{List}
use native.Mathlib.Omega.{arith}
use lib.Dec.{ltb}
use Rattle.packing.specs.Plant.{NONE, at}
use Rattle.packing.specs.Lists.{list_of}
use Rattle.stars.specs.Stars.{next_on_cycle, cut, leads, leader_of, rule_five, leader_list_by, place_of, not_later, leader_list}
use Rattle.stars.specs.Pre.{Table, Read, goes_with, marked}
use Rattle.packing.proofs.Tests.{by_bool}
use Rattle.stars.proofs.Cycles.{next-held}
use Rattle.stars.proofs.RuleFive.{five_ext, five_ways}
use Rattle.stars.proofs.Groups.{entry-leads, entry-cut, entry_kept, cut_starts}
use Rattle.packing.proofs.Lists.{list_of_ext, list_of-at}

-- each case of the leader by rules 1 to 4, by the arrays
module _ {n : ℕ} {hs ls xs : List ℕ} (r : Read n hs ls xs) (v : ℕ) (h : v < n) where
  leading : {b : Bool} → b ≡ marked ls v → b ≡ leads n hs v
  leading e = e ∙ r.leading v h

  pub leader_self : {b : Bool} → b ≡ marked ls v → b ≡ true → v ≡ leader_of n hs v
  leader_self e f = sym (entry-leads n hs v (sym (leading e) ∙ f))

  quiet : {b : Bool} → b ≡ marked ls v → b ≡ false → leads n hs v ≡ false
  quiet e f = sym (leading e) ∙ f

  pub leader-next : {b : Bool} {u : ℕ} → b ≡ marked ls v → b ≡ false → u ≡ at xs v → (u ≡ NONE → ⊥) → u ≡ leader_of n hs v
  leader-next {b} {u} e f g q =
      let still = quiet e f in
      let with : u ≡ goes_with n hs v = g ∙ r.next v h still in
      by_bool (cut n hs v) (λ c. rw c at with ∙ sym (entry-cut n hs v still c)) (λ c. absurd (q (rw c at with)))

  pub leader-holder : {b : Bool} {u w x : ℕ} → b ≡ marked ls v → b ≡ false → u ≡ at xs v → u ≡ NONE → w ≡ at hs v → x ≡ cond (ltb w n) w NONE → x ≡ leader_of n hs v
  leader-holder {b} {u} e f g q s t =
      let still = quiet e f in
      let with : NONE ≡ goes_with n hs v = sym q ∙ g ∙ r.next v h still in
      let few : n ≤ NONE = omega (arith, r.few) in
      by_bool (cut n hs v) (λ c. let next : NONE ≡ next_on_cycle n hs v = rw c at with in absurd (omega (arith, next, (next-held n hs few v h (cut_starts n hs few v h still c).on).0)))
      (λ c. rw s at t ∙ sym (entry_kept n hs v still c))

-- the list by rule 5 over an array of places is the one by the order, ..
pub list-placed : (n : ℕ) (order g : ℕ → ℕ) {ps new : List ℕ} → Table n (place_of n order) ps → new ≡ list_of n (rule_five (not_later (at ps)) n g) → new ≡ list_of n (rule_five (not_later (place_of n order)) n g)
list-placed n order g {ps} p e =
    e ∙ list_of_ext n (rule_five (not_later (at ps)) n g) (rule_five (not_later (place_of n order)) n g)
    (λ v l. five_ways n g (not_later (at ps)) (not_later (place_of n order)) (λ a b k m. rw (p.entry a k, p.entry b m)) v)

-- .. and over the list of leaders it is the leader list
pub list-joined : (n : ℕ) (os hs : List ℕ) {gs new : List ℕ} → gs ≡ list_of n (leader_of n hs) → new ≡ list_of n (rule_five (not_later (place_of n (at os))) n (at gs)) → new ≡ list_of n (leader_list n os hs)
unfolding leader_list leader_list_by
list-joined n os hs {gs} t e =
    e ∙ list_of_ext n (rule_five (not_later (place_of n (at os))) n (at gs)) (rule_five (not_later (place_of n (at os))) n (leader_of n hs))
    (five_ext n (at gs) (leader_of n hs) (λ v l. rw t (list_of-at n (leader_of n hs) v l)) (not_later (place_of n (at os))))
