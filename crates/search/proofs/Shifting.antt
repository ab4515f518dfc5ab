-- The shift: the loop that makes it, and what it leaves.
use Prim.Native.Nat.{ℕ, zero, suc, ◌+◌, ◌-◌, ◌<◌, ◌≤◌}
use mathlib.Core.Path.{◌≡◌, refl, sym, ap, ◌∙◌}
use mathlib.Core.Bool.{Bool, true, false, ◌||◌, or-false}
use mathlib.Core.List.{List}
use native.Mathlib.Nat.{sub-zero, zero-add, not-suc-le-zero}
use native.Mathlib.Omega.{arith}
use lib.Dec.{eqb}
use lib.ListN.{length, set, length-set}
use lib.Seq.{get_or-set_other}
use borrow.Author.Tests.{eqb-true, eq-eqb, ne_eqb, lt-ltb, ltb-true}
use Rattle.packing.specs.Plant.{at, linked}
use Rattle.packing.specs.Holders.{held, holds, Feasible}
use Rattle.packing.specs.Moved.{Kept, moved}
use Rattle.packing.proofs.Tests.{by_bool, clash}
use Rattle.packing.proofs.Moved.{moved_none, moved-one}
use Rattle.search.specs.Search.{shift}
use Rattle.search.specs.Pre.{takings}
use Rattle.search.proofs.Taken.{taken_here, taken_other, taken-held, taken-feasible, taken_frees}

-- the shift that is left after k rounds gives what the whole shift gives, and takes as many more
pub record Rounds (n v u x : ℕ) (from hs₀ hs : List ℕ) (taker taken k : ℕ) : Type 0 where
  pub upto : k ≤ n
  pub same : length hs ≡ length hs₀
  pub rest : shift (n - k) v from taker taken hs ≡ shift n v from u x hs₀
  pub count : k + takings (n - k) v from taker taken hs ≡ takings n v from u x hs₀

module _ (n v u x : ℕ) (from hs₀ : List ℕ) where
  pub rounds_start : Rounds n v u x from hs₀ hs₀ u x 0
  rounds_start = record { upto = omega arith; same = refl; rest = rw sub-zero; count = rw (sub-zero, zero-add) }

  -- the rounds that are left are one and those after it
  left : (k : ℕ) → k < n → n - k ≡ suc (n - (k + 1))
  left k l = omega arith

  round : (hs : List ℕ) (taker taken k : ℕ) → k < n → shift (n - k) v from taker taken hs ≡ shift (suc (n - (k + 1))) v from taker taken hs
  round hs taker taken k l = ap (λ (j : ℕ). shift j v from taker taken hs) (left k l)

  round-count : (hs : List ℕ) (taker taken k : ℕ) → k < n → takings (n - k) v from taker taken hs ≡ takings (suc (n - (k + 1))) v from taker taken hs
  round-count hs taker taken k l = ap (λ (j : ℕ). takings j v from taker taken hs) (left k l)

  pub rounds_turn : {hs hs' : List ℕ} {taker taken taker' taken' k : ℕ} → Rounds n v u x from hs₀ hs taker taken k → k < n → taker' ≡ at hs taken → hs' ≡ set hs taken taker
      → (taken ≡ v → ⊥) → taken' ≡ at from taker' → Rounds n v u x from hs₀ hs' taker' taken' (k + 1)
  unfolding shift takings
  rounds_turn {hs} {hs'} {taker} {taken} {taker'} {taken'} {k} r l old now go next =
      record {
        upto = omega arith;
        same = rw (now, length-set) r.same;
        rest = rw (next, old, now) (rw (ne_eqb taken v go) at (sym (round hs taker taken k l) ∙ r.rest));
        count = rw (next, old, now) (more (rw (ne_eqb taken v go) at (round-count hs taker taken k l)) r.count);
      }
    where
      more : {a b c : ℕ} → a ≡ suc b → k + a ≡ c → k + 1 + b ≡ c
      more e f = omega arith

  pub rounds_done : {hs hs' : List ℕ} {taker taken k : ℕ} → Rounds n v u x from hs₀ hs taker taken k → k < n → hs' ≡ set hs taken taker → taken ≡ v
      → (hs' ≡ shift n v from u x hs₀) × (k + 1 ≡ takings n v from u x hs₀)
  unfolding shift takings
  rounds_done {hs} {hs'} {taker} {taken} {k} r l now done =
      (now ∙ (rw (eq-eqb taken v done) at (sym (round hs taker taken k l) ∙ r.rest)), last (rw (eq-eqb taken v done) at (round-count hs taker taken k l)) r.count)
    where
      last : {a c : ℕ} → a ≡ 1 → k + a ≡ c → k + 1 ≡ c
      last e f = omega arith

  pub rounds_end : {hs : List ℕ} {taker taken k : ℕ} → Rounds n v u x from hs₀ hs taker taken k → n ≤ k → (hs ≡ shift n v from u x hs₀) × (k ≡ takings n v from u x hs₀)
  unfolding shift takings
  rounds_end {hs} {taker} {taken} {k} r l =
      (ap (λ (j : ℕ). shift j v from taker taken hs) (none l) ∙ r.rest, same (ap (λ (j : ℕ). takings j v from taker taken hs) (none l)) r.count)
    where
      none : n ≤ k → 0 ≡ n - k
      none a = omega arith

      same : {a c : ℕ} → 0 ≡ a → k + a ≡ c → k ≡ c
      same e f = omega arith

module _ (n : ℕ) (ls : List ℕ) (v : ℕ) (from : List ℕ) (inside : v < n) where
  -- From x, going to the gateway that the holder was seen from, v is reached in k steps and not before. So each gateway has one such k, and none comes twice.
  unfoldable pub Chain : List ℕ → ℕ → ℕ → Type 0
  Chain hs zero x = x ≡ v
  Chain hs (suc k) x = (x ≡ v → ⊥) × (x < n) × (held n (at hs) x ≡ true) × (linked ls (at from (at hs x)) (at hs x) ≡ true) × Chain hs k (at from (at hs x))

  pub chain_unique : (hs : List ℕ) (j k x : ℕ) → Chain hs j x → Chain hs k x → j ≡ k
  unfolding Chain
  chain_unique hs zero zero x c d = refl
  chain_unique hs zero (suc k) x c d = absurd (d.0 c)
  chain_unique hs (suc j) zero x c d = absurd (c.0 d)
  chain_unique hs (suc j) (suc k) x c d = ap suc (chain_unique hs j k (at from (at hs x)) c.4 d.4)

  -- a gateway that is further from v is another one
  chain-apart : (hs : List ℕ) (j k x y : ℕ) → Chain hs j x → Chain hs k y → k < j → y ≡ x → ⊥
  chain-apart hs j k x y c d l q = let same : j ≡ k = chain_unique hs j k x c (rw q at d) in omega arith

  -- a shorter chain does not pass x, so it stays when x changes its holder
  chain-kept : (hs : List ℕ) (x u j : ℕ) → Chain hs j x → (k y : ℕ) → k < j → Chain hs k y → Chain (set hs x u) k y
  unfolding Chain
  chain-kept hs x u j c zero y l d = d
  chain-kept hs x u j c (suc k) y l d =
      let same : at (set hs x u) y ≡ at hs y = get_or-set_other hs x y u 0 (chain-apart hs j (suc k) x y c (unfold Chain in d) l) in
      (d.0, d.1, rw same d.2, rw same d.3, rw same (chain-kept hs x u j c k (at from (at hs y)) (omega arith) d.4))

  -- .. as the chain from the next one does
  pub chain_next : (hs : List ℕ) (x u k : ℕ) → Chain hs (suc k) x → Chain (set hs x u) k (at from (at hs x))
  unfolding Chain
  chain_next hs x u k c = chain-kept hs x u (suc k) (unfold Chain in c) k (at from (at hs x)) (omega arith) c.4

  -- the k steps from x do not pass y
  Off : List ℕ → ℕ → ℕ → ℕ → Type 0
  Off hs zero x y = x ≡ y → ⊥
  Off hs (suc k) x y = (x ≡ y → ⊥) × Off hs k (at from (at hs x)) y

  -- .. where y is further from v than x
  off_shorter : (hs : List ℕ) (j y : ℕ) → Chain hs j y → (k x : ℕ) → k < j → Chain hs k x → Off hs k x y
  unfolding Off Chain
  off_shorter hs j y d zero x l c = chain-apart hs j zero y x d (unfold Chain in c) l
  off_shorter hs j y d (suc k) x l c = (chain-apart hs j (suc k) y x d (unfold Chain in c) l, off_shorter hs j y d k (at from (at hs x)) (omega arith) c.4)

  -- .. and so it stays when one further from v changes its holder
  off_kept : (hs : List ℕ) (z u j : ℕ) → Chain hs j z → (y k x : ℕ) → k < j → Chain hs k x → Off hs k x y → Off (set hs z u) k x y
  unfolding Off Chain
  off_kept hs z u j d y zero x l c o = o
  off_kept hs z u j d y (suc k) x l c o =
      let same : at (set hs z u) x ≡ at hs x = get_or-set_other hs z x u 0 (chain-apart hs j (suc k) z x d (unfold Chain in c) l) in
      (o.0, rw same (off_kept hs z u j d y k (at from (at hs x)) (omega arith) c.4 o.1))

  -- who is not passed keeps its holder
  shift_off : (fuel k : ℕ) (hs : List ℕ) (u x y : ℕ) → Chain hs k x → Off hs k x y → at (shift fuel v from u x hs) y ≡ at hs y
  unfolding shift Off Chain
  shift_off zero k hs u x y c o = refl
  shift_off (suc fuel) zero hs u x y c o = rw (eq-eqb x v c) (get_or-set_other hs x y u 0 (λ q. o (sym q)))
  shift_off (suc fuel) (suc k) hs u x y c o =
      rw (ne_eqb x v c.0)
      (shift_off fuel k (set hs x u) (at hs x) (at from (at hs x)) y (chain_next hs x u k c)
      (off_kept hs x u (suc k) c y k (at from (at hs x)) (omega arith) c.4 o.1) ∙ get_or-set_other hs x y u 0 (λ q. o.0 (sym q)))

  -- a gateway that was seen from x does not hold x: else the chain from x came back to x
  pub not_its_holder : (hs : List ℕ) (k u x : ℕ) → u < n → held n (at hs) v ≡ false → at from u ≡ x → Chain hs k x → at hs x ≡ u → ⊥
  unfolding Chain
  not_its_holder hs zero u x below free seer c q = clash (held n (at hs) v) (lt-ltb (at hs v) n (rw (← c, q) below)) free
  not_its_holder hs (suc k) u x below free seer c q = let same : suc k ≡ k = chain_unique hs (suc k) k x (unfold Chain in c) (rw (q, seer) at c.4) in omega arith

  -- "the number of gateways whose holder changed": a shift of k steps changes one holder in each, and v's
  pub shift-moved : (fuel k : ℕ) (hs : List ℕ) (u x : ℕ) → k < fuel → n ≤ length hs → u < n → held n (at hs) v ≡ false → at from u ≡ x → Chain hs k x
      → moved n (at hs) (at (shift fuel v from u x hs)) ≡ suc k
  unfolding shift Chain
  shift-moved zero k hs u x l long below free seer c = absurd (not-suc-le-zero l)
  shift-moved (suc fuel) zero hs u x l long below free seer c =
      let inside' : x < n = rw c inside in
      rw (eq-eqb x v c)
      (moved-one n (at hs) (at (set hs x u)) (at (set hs x u)) x inside' (λ w other. taken_other n hs x u long inside' w other) refl
      (λ q. not_its_holder hs zero u x below free seer (unfold Chain in c) (q ∙ taken_here n hs x u long inside')) ∙ ap suc (moved_none n (at (set hs x u))))
  shift-moved (suc fuel) (suc k) hs u x l long below free seer c =
      let next : Chain (set hs x u) k (at from (at hs x)) = chain_next hs x u k c in
      let stays : at (shift fuel v from (at hs x) (at from (at hs x)) (set hs x u)) x ≡ at (set hs x u) x =
      shift_off fuel k (set hs x u) (at hs x) (at from (at hs x)) x next (off_kept hs x u (suc k) c x k (at from (at hs x)) (omega arith) c.4 (off_shorter hs (suc k) x c k (at from (at hs x)) (omega arith) c.4)) in
      rw (ne_eqb x v c.0)
      (moved-one n (at hs) (at (set hs x u)) (at (shift fuel v from (at hs x) (at from (at hs x)) (set hs x u))) x c.1 (λ w other. taken_other n hs x u long c.1 w other) stays
      (λ q. not_its_holder hs (suc k) u x below free seer (unfold Chain in c) (q ∙ stays ∙ taken_here n hs x u long c.1))
      ∙ ap suc
      (shift-moved fuel k (set hs x u) (at hs x) (at from (at hs x)) (omega arith) (rw length-set long) (ltb-true _ _ c.2)
      (rw (taken_other n hs x u long c.1 v (λ q. c.0 (sym q))) free) refl next))

  -- what any step keeps the shift keeps
  pub shift-any : (P : List ℕ → Type 0) → ((hs : List ℕ) (x u : ℕ) → x < n → u < n → P hs → P (set hs x u))
      → (fuel k : ℕ) (hs : List ℕ) (u x : ℕ) → u < n → Chain hs k x → P hs → P (shift fuel v from u x hs)
  unfolding shift Chain
  shift-any P step zero k hs u x below c p = p
  shift-any P step (suc fuel) zero hs u x below c p = rw (eq-eqb x v c) (step hs x u (rw c inside) below p)
  shift-any P step (suc fuel) (suc k) hs u x below c p =
      rw (ne_eqb x v c.0)
      (shift-any P step fuel k (set hs x u) (at hs x) (at from (at hs x)) (ltb-true _ _ c.2) (chain_next hs x u k c) (step hs x u c.1 below p))

  -- v has a holder then
  pub shift-held : (fuel k : ℕ) (hs : List ℕ) (u x : ℕ) → k < fuel → n ≤ length hs → u < n → Chain hs k x → held n (at (shift fuel v from u x hs)) v ≡ true
  unfolding shift Chain
  shift-held zero k hs u x l long below c = absurd (not-suc-le-zero l)
  shift-held (suc fuel) zero hs u x l long below c = rw (eq-eqb x v c, c, taken_here n hs v u long inside) (lt-ltb u n below)
  shift-held (suc fuel) (suc k) hs u x l long below c =
      rw (ne_eqb x v c.0)
      (shift-held fuel k (set hs x u) (at hs x) (at from (at hs x)) (omega arith) (rw length-set long) (ltb-true _ _ c.2) (chain_next hs x u k c))

  -- .. and so many are taken
  pub shift-takings : (fuel k : ℕ) (hs : List ℕ) (u x : ℕ) → k < fuel → Chain hs k x → takings fuel v from u x hs ≡ suc k
  unfolding takings Chain
  shift-takings zero k hs u x l c = absurd (not-suc-le-zero l)
  shift-takings (suc fuel) zero hs u x l c = rw (eq-eqb x v c)
  shift-takings (suc fuel) (suc k) hs u x l c =
      rw (ne_eqb x v c.0) (ap suc (shift-takings fuel k (set hs x u) (at hs x) (at from (at hs x)) (omega arith) (chain_next hs x u k c)))

  -- The shift: the holders so far are feasible, and u has a place free.
  pub shift_kept : {limit : ℕ → ℕ} (fuel k : ℕ) (hs : List ℕ) (u x : ℕ) → k < fuel → n ≤ length hs → u < n → Chain hs k x → linked ls x u ≡ true
      → Feasible n limit (linked ls) (at hs) → holds n (at hs) u < limit u → Kept n limit (linked ls) (at hs) (at (shift fuel v from u x hs)) v
  unfolding shift Chain
  shift_kept zero k hs u x l long below c link f free = absurd (not-suc-le-zero l)
  shift_kept {limit} (suc fuel) zero hs u x l long below c link f free =
      rw (eq-eqb x v c)
      (record {
        feasible = taken-feasible n hs x u long (rw c inside) f free link;
        holding = λ w k. taken-held n hs x u long (rw c inside) below w ∙ ap (λ (y : ℕ). held n (at hs) w || eqb w y) c;
      })
  shift_kept {limit} (suc fuel) (suc k) hs u x l long below c link f free =
      let old : at hs x < n = ltb-true _ _ c.2 in
      let r : Kept n limit (linked ls) (at (set hs x u)) (at (shift fuel v from (at hs x) (at from (at hs x)) (set hs x u))) v =
      shift_kept fuel k (set hs x u) (at hs x) (at from (at hs x)) (omega arith) (rw length-set long) old (chain_next hs x u k c) c.3
      (taken-feasible n hs x u long c.1 f free link) (taken_frees n hs x u long c.1 f free old) in
      rw (ne_eqb x v c.0)
      (record {
        feasible = r.feasible;
        holding = λ w q. r.holding w q ∙ ap (λ (b : Bool). b || eqb w v) (taken-held n hs x u long c.1 below w ∙ stays w c.2);
      })
    where
      -- x was held before
      stays : (w : ℕ) → held n (at hs) x ≡ true → (held n (at hs) w || eqb w x) ≡ held n (at hs) w
      stays w e = by_bool (eqb w x) (λ q. rw (q, eqb-true w x q, e)) (λ q. rw q (or-false (held n (at hs) w)))

-- The shift writes entries and no more.
pub shift-length : (fuel v : ℕ) (from : List ℕ) (u x : ℕ) (hs : List ℕ) → length (shift fuel v from u x hs) ≡ length hs
unfolding shift
shift-length zero v from u x hs = refl
shift-length (suc fuel) v from u x hs =
    by_bool (eqb x v) (λ e. rw e (length-set hs x u)) (λ e. rw e (shift-length fuel v from (at hs x) (at from (at hs x)) (set hs x u) ∙ length-set hs x u))
