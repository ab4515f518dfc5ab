-- Rule 1 from the deepest upwards: what holds while gateways are taken, each once all that it holds are, and that it holds once one more is.
use Prim.Native.Nat.{ℕ, ◌-◌, ◌<◌, ◌≤◌}
use mathlib.Core.Path.{◌≡◌, refl, sym, ap, ◌∙◌}
use mathlib.Core.Bool.{Bool, true, false, not, ◌&&◌}
use mathlib.Core.List.{List}
use native.Mathlib.Omega.{arith}
use lib.Dec.{eqb, ltb}
use lib.ListN.{length, length-set}
use lib.Seq.{get_or-set_same, get_or-set_other}
use borrow.Author.Tests.{eqb-true, eqb-false, eq-eqb, ne_eqb, lt-ltb}
use Rattle.packing.specs.Count.{count}
use Rattle.packing.specs.Plant.{GATEWAYS, at}
use Rattle.packing.proofs.Tests.{by_bool, clash, and_i, not_i, not_test}
use Rattle.packing.proofs.Sums.{count_ext, count-some}
use Rattle.stars.specs.Stars.{on_cycle, next_on_cycle}
use Rattle.stars.specs.Pre.{Taken, marked}
use Rattle.stars.specs.declared.trees.Trees.{Trees}
use Rattle.stars.proofs.Tables.{mark-here, mark_other, mark-keeps, written-long}
use Rattle.stars.proofs.Without.{unmarked_less}
use Rattle.stars.proofs.Cycles.{next-held}

-- a child of x that is not taken
abbrev pub awaited : List ℕ → List ℕ → ℕ → ℕ → Bool
awaited hs ts x w = eqb (at hs w) x && not (marked ts w)

-- While gateways are taken: each waits for those that it holds and are not taken; those taken wait for none, and stand on no cycle; who leads, leads one that is taken.
pub record Peeled (n : ℕ) (hs ws ts ls : List ℕ) : Type 0 where
  pub few : n ≤ GATEWAYS
  pub waits-long : GATEWAYS ≡ length ws
  pub taken-long : n ≡ length ts
  pub leading-long : GATEWAYS ≡ length ls
  pub waits : (x : ℕ) → x < n → at ws x ≡ count n (awaited hs ts x)
  pub ready : (x : ℕ) → x < n → marked ts x ≡ true → at ws x ≡ 0
  pub off : (x : ℕ) → x < n → marked ts x ≡ true → on_cycle n hs x ≡ false
  pub leads : (x : ℕ) → x < n → marked ls x ≡ true → (w : ℕ) × (w < n) × (at hs w ≡ x) × (marked ts w ≡ true) × (marked ls w ≡ false)
  pub led : (w x : ℕ) → w < n → x < n → at hs w ≡ x → marked ts w ≡ true → marked ls w ≡ false → marked ls x ≡ true

-- all children of one that waits for none are taken
pub children_taken : {n : ℕ} {hs ws ts ls : List ℕ} → Peeled n hs ws ts ls → (x w : ℕ) → x < n → w < n → at hs w ≡ x → at ws x ≡ 0 → marked ts w ≡ true
children_taken {n} {hs} {ts = ts} p x w l k e z =
    by_bool (marked ts w) (λ t. t)
    (λ t. absurd (omega (arith, p.waits x l, count-some n (awaited hs ts x) w k (and_i _ _ (eq-eqb (at hs w) x e) (not_i (marked ts w) t)))))

-- One more is taken.
module _
    {u : ℕ} {a b : Trees} {r : ℕ} (p : Peeled a.n a.holders.now a.waits.now a.taken.now a.leading.now) (t : Taken u a b r) (l : u < a.n) (z : at a.waits.now u ≡ 0)
    (f : marked a.taken.now u ≡ false)
  where
    abbrev n : ℕ
    n = a.n

    abbrev hs : List ℕ
    hs = a.holders.now

    abbrev ws : List ℕ
    ws = a.waits.now

    abbrev ts : List ℕ
    ts = a.taken.now

    abbrev ls : List ℕ
    ls = a.leading.now

    abbrev ws' : List ℕ
    ws' = b.waits.now

    abbrev ts' : List ℕ
    ts' = b.taken.now

    abbrev ls' : List ℕ
    ls' = b.leading.now

    pub taken_here : marked ts' u ≡ true
    taken_here = rw t.taken (mark-here ts u (omega (arith, p.few, p.taken-long)))

    pub taken_other : (x : ℕ) → (x ≡ u → ⊥) → marked ts' x ≡ marked ts x
    taken_other x h = rw t.taken (mark_other ts u x h)

    taken_cases : {A : Type 0} (x : ℕ) → marked ts' x ≡ true → (x ≡ u → A) → ((x ≡ u → ⊥) → marked ts x ≡ true → A) → A
    taken_cases x e here other = by_bool (eqb x u) (λ q. here (eqb-true x u q)) (λ q. let apart = eqb-false x u q in other apart (sym (taken_other x apart) ∙ e))

    -- u's holder is not taken, and is not u
    holder-free : at hs u < n → marked ts (at hs u) ≡ false
    holder-free k = not_test (marked ts (at hs u)) (λ e. clash _ (children_taken p (at hs u) u k l refl (p.ready (at hs u) k e)) f)

    holder_other : at hs u ≡ u → ⊥
    holder_other e = clash _ (children_taken p u u l l e z) f

    -- so none that is taken is u's holder
    not-holder : (x : ℕ) → x < n → marked ts' x ≡ true → x ≡ at hs u → ⊥
    not-holder x k e q = taken_cases x e (λ s. holder_other (sym q ∙ s)) (λ _ s. clash _ s (rw q (holder-free (rw q at k))))

    waits-here : at hs u < n → at ws' (at hs u) ≡ at ws (at hs u) - 1
    waits-here k = rw (t.waits, lt-ltb (at hs u) n k) (get_or-set_same ws (at hs u) (at ws (at hs u) - 1) 0 (omega (arith, p.few, p.waits-long)))

    pub waits_other : (x : ℕ) → (x ≡ at hs u → ⊥) → at ws' x ≡ at ws x
    waits_other x h = by_bool (ltb (at hs u) n) (λ q. rw (t.waits, q) (get_or-set_other ws (at hs u) x (at ws (at hs u) - 1) 0 h)) (λ q. rw (t.waits, q))

    leading-here : at hs u < n → marked ls u ≡ false → marked ls' (at hs u) ≡ true
    leading-here k e = rw (t.leading, lt-ltb (at hs u) n k, e) (mark-here ls (at hs u) (omega (arith, p.few, p.leading-long)))

    leading_other : (x : ℕ) → (x ≡ at hs u → ⊥) → marked ls' x ≡ marked ls x
    leading_other x h = by_bool (ltb (at hs u) n && not (marked ls u)) (λ q. rw (t.leading, q) (mark_other ls (at hs u) x h)) (λ q. rw (t.leading, q))

    leading_same : (x : ℕ) → marked ls u ≡ true → marked ls' x ≡ marked ls x
    leading_same x e = by_bool (ltb (at hs u) n) (λ q. rw (t.leading, q, e)) (λ q. rw (t.leading, q))

    leading-keeps : (x : ℕ) → x < n → marked ls x ≡ true → marked ls' x ≡ true
    leading-keeps x k e =
        by_bool (eqb x (at hs u))
        (λ q. let here = eqb-true x (at hs u) q in by_bool (marked ls u) (λ s. leading_same x s ∙ e) (λ s. rw here (leading-here (rw here at k) s)))
        (λ q. leading_other x (eqb-false x (at hs u) q) ∙ e)

    -- u is awaited no more by its holder
    waits_less : (x : ℕ) → x < n → at ws' x ≡ count n (awaited hs ts' x)
    waits_less x k = by_bool (eqb x (at hs u)) here other
      where
        here : eqb x (at hs u) ≡ true → at ws' x ≡ count n (awaited hs ts' x)
        here q =
            let same = eqb-true x (at hs u) q in
            let below : at hs u < n = rw same at k in
            omega (
              arith,
              ap (at ws') same ∙ waits-here below,
              p.waits (at hs u) below,
              unmarked_less n (λ w. eqb (at hs w) (at hs u)) ts u l (omega (arith, p.few, p.taken-long)) (eq-eqb (at hs u) (at hs u) refl) f t.taken,
              ap (λ (y : ℕ). count n (awaited hs ts' y)) same,
            )

        other : eqb x (at hs u) ≡ false → at ws' x ≡ count n (awaited hs ts' x)
        other q =
            let apart = eqb-false x (at hs u) q in
            waits_other x apart ∙ p.waits x k ∙ count_ext n (awaited hs ts x) (awaited hs ts' x)
            (λ w m. by_bool (eqb w u) (λ s. rw (eqb-true w u s, ne_eqb (at hs u) x (λ e. apart (sym e)))) (λ s. rw (taken_other w (eqb-false w u s))))

    -- u stands on no cycle: it would hold the next on it, which is taken
    off_cycle : on_cycle n hs u ≡ false
    off_cycle = not_test (on_cycle n hs u) (λ on. let (k, o, e) = next-held n hs (omega (arith, p.few)) u l on in clash _ o (p.off (next_on_cycle n hs u) k (children_taken p u (next_on_cycle n hs u) l k e z)))

    pub peel_more : Peeled n hs ws' ts' ls'
    peel_more =
        record {
          few = p.few;
          waits-long = written-long ws (at hs u) (at ws (at hs u) - 1) (ltb (at hs u) n) p.waits-long t.waits;
          taken-long = rw t.taken (p.taken-long ∙ sym (length-set ts u 1));
          leading-long = written-long ls (at hs u) 1 (ltb (at hs u) n && not (marked ls u)) p.leading-long t.leading;
          waits = waits_less;
          ready = λ x k e. waits_other x (not-holder x k e) ∙ taken_cases x e (λ s. rw s z) (λ _ s. p.ready x k s);
          off = λ x k e. taken_cases x e (λ s. rw s off_cycle) (λ _ s. p.off x k s);
          leads = leads_one;
          led = led-one;
        }
      where
        leads_one : (x : ℕ) → x < n → marked ls' x ≡ true → (w : ℕ) × (w < n) × (at hs w ≡ x) × (marked ts' w ≡ true) × (marked ls' w ≡ false)
        leads_one x k e = by_bool (marked ls x) old (λ s. (u, l, here s, taken_here, leading_other u (λ d. holder_other (sym d)) ∙ quiet s))
          where
            old : marked ls x ≡ true → (w : ℕ) × (w < n) × (at hs w ≡ x) × (marked ts' w ≡ true) × (marked ls' w ≡ false)
            old s =
                let (w, m, a, b, c) = p.leads x k s in
                let still : marked ts' w ≡ true = rw t.taken (mark-keeps ts u (omega (arith, p.few, p.taken-long)) w b) in
                (w, m, a, still, leading_other w (not-holder w m still) ∙ c)

            -- who did not lead before is u's holder
            here : marked ls x ≡ false → at hs u ≡ x
            here s = by_bool (eqb x (at hs u)) (λ q. sym (eqb-true x (at hs u) q)) (λ q. clash _ (sym (leading_other x (eqb-false x (at hs u) q)) ∙ e) s)

            quiet : marked ls x ≡ false → marked ls u ≡ false
            quiet s = not_test (marked ls u) (λ q. clash _ (sym (leading_same x q) ∙ e) s)

        led-one : (w x : ℕ) → w < n → x < n → at hs w ≡ x → marked ts' w ≡ true → marked ls' w ≡ false → marked ls' x ≡ true
        led-one w x k m e s q =
            taken_cases w s
            (λ same. let here : at hs u ≡ x = rw same at e in rw (← here) (leading-here (rw here m) (sym (leading_other u (λ d. holder_other (sym d))) ∙ rw same at q)))
            (λ _ old. leading-keeps x m (p.led w x k m e old (sym (leading_other w (not-holder w k s)) ∙ q)))

    -- fewer are left
    pub peel_less : count n (λ x. not (marked ts' x)) < count n (λ x. not (marked ts x))
    peel_less = omega (arith, unmarked_less n (λ x. true) ts u l (omega (arith, p.few, p.taken-long)) refl f t.taken)
