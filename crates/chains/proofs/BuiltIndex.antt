-- What is built is the index of the links so far.
use Rattle.std.proofs.Common.{◌≡◌, ℕ, zero, suc, ◌+◌, ◌-◌, ◌*◌, ◌/◌, ◌<◌, ◌≤◌, List, length, take, drop, sym, refl, ◌∙◌, inl, inr, ⊎_elim, add-zero, arith, length-take-le, get_or-take, ne_eqb}
use Rattle.packing.specs.Plant.{GATEWAYS, ENDS, at, neighbours}
use Rattle.packing.proofs.Flat.{pair-at}
use Rattle.chains.specs.Index.{root_of, mate, FarEnd, NextEnd, Index}
use Rattle.chains.specs.Build.{JoinsTwo, Absent, FirstOrNone, Hung, Built}
use Rattle.chains.proofs.Following.{past, mates, mate-first, mate-second}

-- only the mates of the first e ends count
pub hung_same : (ls ls' : List ℕ) {slots e : ℕ} {next last : List ℕ} → ((i : ℕ) → i < e → at ls (mate i) ≡ at ls' (mate i)) → Hung slots ls e next last → Hung slots ls' e next last
hung_same ls ls' {e = e} same d =
    record {
      chain = λ x s k h st. follows (d.chain x s k h (⊎_elim inl (λ a. inr (a.0, same s a.0 ∙ a.1, a.2)) st));
      tail = λ x h. let (k, st, none) = d.tail x h in (k, ⊎_elim inl (λ a. inr (a.0, sym (same _ a.0) ∙ a.1, a.2)) st, absent (λ i l. l) none);
      unused = d.unused;
    }
  where
    absent : {x k i : ℕ} → ((j : ℕ) → j < i → j < e) → Absent ls x k i → Absent ls' x k i
    absent low a j l h q = a j l h (same j (low j h) ∙ q)

    follows : {x k j : ℕ} → FirstOrNone ls e x k j → FirstOrNone ls' e x k j
    follows =
        ⊎_elim (λ a. inl (a.0, absent (λ i l. l) a.1))
        (λ f. inr (record { from = f.from; below = f.below; near = sym (same _ f.below) ∙ f.near; before = absent (λ i l. omega (arith, l, f.below)) f.before }))

module _ (ls : List ℕ) (x : ℕ) where
  -- d links from link i on that are not x's
  skip : (d i : ℕ) → 2 * (i + d) ≤ length ls → Absent ls x (2 * i) (2 * (i + d)) → neighbours (drop (2 * i) ls) x ≡ neighbours (drop (2 * (i + d)) ls) x
  unfolding neighbours
  skip zero i h a = rw (add-zero i)
  skip (suc d) i h a =
      rw (pair-at ls (2 * i) (omega arith), ne_eqb (at ls (2 * i)) x (rw (mate-second i) at (a (2 * i + 1) (omega arith) (omega arith))), ne_eqb (at ls (2 * i + 1)) x (rw (mate-first i) at (a (2 * i) (omega arith) (omega arith))), two, on)
      (skip d (i + 1) (rw (← on) h) (λ j l k. a j (omega (arith, l)) (omega (arith, k))))
    where
      two : 2 * i + 2 ≡ 2 * (i + 1)
      two = omega arith

      on : i + suc d ≡ i + 1 + d
      on = omega arith

  skip_to : (i k : ℕ) → i ≤ k → 2 * k ≤ length ls → Absent ls x (2 * i) (2 * k) → neighbours (drop (2 * i) ls) x ≡ neighbours (drop (2 * k) ls) x
  skip_to i k l h a = let on : i + (k - i) ≡ k = omega arith in rw on at (skip (k - i) i (rw on h) (rw on a))

  -- x's first far end from link i on is that of x's first link from link i on
  next-is : (m i e : ℕ) → 2 * m ≤ length ls → length ls ≤ 2 * m + 1 → length ls ≤ ENDS → i ≤ m → FirstOrNone ls (2 * m) x (2 * i) e → NextEnd ls x i e
  next-is m i e p q few l =
      ⊎_elim (λ a. record { rest = skip_to i m l p a.1 ∙ past ls (2 * m) x q ∙ sym (past ls (2 * (e / 2)) x (omega (arith, a.0, few))); end = λ there. absurd (there a.0) })
      (λ f.
      let on : i ≤ e / 2 = omega (arith, f.from) in
      let inside : 2 * (e / 2) + 1 < length ls = omega (arith, f.below) in
      record { rest = skip_to i (e / 2) on (omega (arith, inside)) (λ k a b. f.before k a (omega (arith, b))); end = λ _. (f.from, record { inside = inside; near = f.near }) })

  -- a link has x as its second end only, so that its second place is no far end of x
  past-mate : (e i : ℕ) {j : ℕ} → (at ls (2 * i) ≡ x → ⊥) → FirstOrNone ls e x (2 * i + 1) j → FirstOrNone ls e x (2 * (i + 1)) j
  past-mate e i {j} n =
      ⊎_elim (λ a. inl (a.0, λ k l. a.1 k (omega (arith, l))))
      (λ f.
      let on : 2 * i + 1 ≡ j → ⊥ = λ r. n (rw (← r, mate-second i) at f.near) in
      inr (record { from = omega (arith, f.from, on); below = f.below; near = f.near; before = λ k l. f.before k (omega (arith, l)) }))

-- the index of a list whose links are all in it
pub built-whole : (ls : List ℕ) (m : ℕ) {next last : List ℕ} → Built ls m next last → length ls ≤ 2 * m + 1 → Index ls next
built-whole ls m {next} b q =
    record {
      room = b.room;
      few = b.few;
      first = λ x h. next-is ls x m 0 _ b.within q long (omega arith) (b.hung.chain x (root_of (length next) x) 0 h (inl (refl, refl)));
      later = later;
    }
  where
    long : length ls ≤ ENDS
    long = omega (arith, b.room, b.few)

    later : (x e : ℕ) → x < GATEWAYS → FarEnd ls x e → NextEnd ls x (e / 2 + 1) (at next e)
    later x e h c =
        let less : e / 2 < m = omega (arith, c.inside) in
        next-is ls x m (e / 2 + 1) _ b.within q long (omega (arith, less))
        (⊎_elim
        (λ k.
        let near : at ls (2 * (e / 2) + 1) ≡ x = rw k.1 at c.near in
        past-mate ls x (2 * m) (e / 2) (λ r. (b.joining (e / 2) less).differ (r ∙ sym near)) (b.hung.chain x e (2 * (e / 2) + 1) h (inr (omega (arith, less, k.0), c.near, omega (arith, k.0)))))
        (λ k. b.hung.chain x e (2 * (e / 2 + 1)) h (inr (omega (arith, less, k.0), c.near, omega (arith, k.0)))) (mates e))

two_same : (ls ls' : List ℕ) (i : ℕ) → at ls (2 * i) ≡ at ls' (2 * i) → at ls (2 * i + 1) ≡ at ls' (2 * i + 1) → JoinsTwo ls i → JoinsTwo ls' i
two_same ls ls' i e f j = record { first = rw e at j.first; second = rw f at j.second; differ = rw (e, f) at j.differ }

-- the mates of the ends of the first m links
mate-within : (m i : ℕ) → i < 2 * m → mate i < 2 * m
mate-within m i l = ⊎_elim (λ k. omega (arith, k.0, k.1, l)) (λ k. omega (arith, k.0, k.1, l)) (mates i)

-- what is built of a list says nothing of its later links
pub built_same : (ls ls' : List ℕ) (m : ℕ) {next last : List ℕ} → 2 * m ≤ length ls' → length ls' + GATEWAYS ≤ length next → ((i : ℕ) → i < 2 * m → at ls i ≡ at ls' i) → Built ls m next last → Built ls' m next last
built_same ls ls' m within room same b =
    record {
      within = within;
      room = room;
      few = b.few;
      gateways = b.gateways;
      joining = λ i l. two_same ls ls' i (same (2 * i) (omega (arith, l))) (same (2 * i + 1) (omega (arith, l))) (b.joining i l);
      hung = hung_same ls ls' (λ i l. same (mate i) (mate-within m i l)) b.hung;
    }

-- the index of the first m links of a list
pub built-front : (ls : List ℕ) (m : ℕ) {next last : List ℕ} → Built ls m next last → Index (take (2 * m) ls) next
built-front ls m b =
    let long : length (take (2 * m) ls) ≡ 2 * m = length-take-le (2 * m) ls b.within in
    built-whole (take (2 * m) ls) m
    (built_same ls (take (2 * m) ls) m (omega (arith, long)) (omega (arith, long, b.within, b.room)) (λ i l. sym (get_or-take (2 * m) ls i 0 l)) b) (omega (arith, long))
