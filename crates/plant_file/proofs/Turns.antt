-- A file's number, and what comes after it, is the first that is named.
use Prim.Native.Nat.{ℕ, zero, suc, ◌+◌, ◌*◌, ◌<◌, ◌≤◌}
use mathlib.Core.Path.{◌≡◌, refl, sym, ◌∙◌}
use mathlib.Core.Logic.{◌⊎◌, inl, inr, ⊎_elim}
use mathlib.Core.Bool.{Bool, true, false, not, ◌||◌, false≢true}
use mathlib.Core.List.{List}
use native.Mathlib.Numerals.{add-one}
use native.Mathlib.Omega.{arith}
use lib.Dec.{eqb, leb}
use lib.ListN.{length, take}
use lib.Seq.{get_or-take, length-take-le}
use borrow.Author.Tests.{eqb-true, eqb-false, leb-true, leb-false}
use Rattle.packing.specs.Plant.{GATEWAYS, LINKS, LOWEST, HIGHEST, at, linked}
use Rattle.packing.specs.Orders.{repeats_or_outside}
use Rattle.packing.specs.Refusals.{refuse, first_of}
use Rattle.packing.specs.Turns.{Turn, done, named, FirstNamed, LinkThere, first_end, second_end, RepeatsOrOutside}
use Rattle.packing.proofs.Tests.{by_bool}
use Rattle.packing.proofs.Refusals.{first_alone}
use Rattle.packing.proofs.Turns.{Says, turn-done, turn-named, says_less, says-most, says_same, says_either, says_both, says-not, says_all, says_as, says-linked, says-order}
use Rattle.plant_file.specs.PlantFile.{number, file_version, file_n, file_t, file_m, file_links, file_order, limit_byte, file_length, limit_allowed, limits_allowed, begins_plt, ends_refusal, file_refusal, file_then_short}
use Rattle.plant_file.specs.Load.{load_refusal}
use Rattle.plant_file.specs.Turns.{each_link, LengthGiven, LimitRefused, file_turn, FileExactly, LoadExactly}
use Rattle.plant_file.proofs.LinksByIndex.{order_number, links-long, order-at, link-first, link-second}
use Rattle.plant_file.proofs.LinkChecks.{onward, onward-at, onward-end}
use Rattle.plant_file.proofs.Versions.{one-or-two, length_two, length_other, allowed_two, allowed_other, is_one, is-two}
use Rattle.plant_file.proofs.Refusing.{body_refusal}

-- a test, the rest of a call's tests, and what comes after them all
then_named : (b : Bool) (e x rest : ℕ) {Condition : Type 0} (later : Turn) → Says b Condition → (b ≡ false → FirstNamed later (first_of x rest))
    → FirstNamed (named (suc e) Condition later) (first_of (refuse b (suc e) x) rest)
then_named true e x rest later s f = turn-named true (suc e) (first_of x rest) later s f
then_named false e x rest later s f = turn-named false (suc e) (first_of x rest) later s f

first_assoc : (a b c : ℕ) → first_of (first_of a b) c ≡ first_of a (first_of b c)
first_assoc zero b c = refl
first_assoc (suc a) b c = refl

-- conditions that look at numbers below a bound only
there_as : (m : ℕ) (f s g t : ℕ → ℕ) {a b x y : ℕ} → ((i : ℕ) → i < m → (f i ≡ g i) × (s i ≡ t i)) → a ≡ x → b ≡ y → LinkThere m f s a b → LinkThere m g t x y
there_as m f s g t same p q (i, l, j) = (i, l, rw (← (same i l).0, ← (same i l).1, ← p, ← q) j)

repeats_as : (n : ℕ) (f g : ℕ → ℕ) → ((i : ℕ) → i < n → f i ≡ g i) → RepeatsOrOutside n f → RepeatsOrOutside n g
repeats_as n f g same =
    ⊎_elim (λ r. let (i, j, l, k, e) = r in inl (i, j, l, k, sym (same i (omega arith)) ∙ e ∙ same j k)) (λ r. let (i, l, k) = r in inr (i, l, rw (← same i l) k))

-- "each link 3, 4, 20": the links from link i on, with the ends as the condition has them
module _ (n m : ℕ) (l : List ℕ) (long : length l ≡ 2 * m) (first second : ℕ → ℕ) (ends : (i : ℕ) → i < m → (at l (2 * i) ≡ first i) × (at l (2 * i + 1) ≡ second i)) where
  says_outside : (i : ℕ) → i < m → Says (leb n (at l (2 * i)) || leb n (at l (2 * i + 1))) ((n ≤ first i) ⊎ (n ≤ second i))
  says_outside i h = rw (← (ends i h).0, ← (ends i h).1) (says_either _ _ (says-most n (at l (2 * i))) (says-most n (at l (2 * i + 1))))

  says_equal : (i : ℕ) → i < m → Says (eqb (at l (2 * i)) (at l (2 * i + 1))) (first i ≡ second i)
  says_equal i h = rw (← (ends i h).0, ← (ends i h).1) (says_same (at l (2 * i)) (at l (2 * i + 1)))

  says_there : (i : ℕ) → i < m → Says (linked (take (2 * i) l) (at l (2 * i)) (at l (2 * i + 1))) (LinkThere i first second (first i) (second i))
  says_there i h =
      says_as (there_as i (first_end before) (second_end before) first second early (ends i h).0 (ends i h).1)
      (there_as i first second (first_end before) (second_end before) (λ j k. (sym (early j k).0, sym (early j k).1)) (sym (ends i h).0) (sym (ends i h).1))
      (says-linked i before _ _ (length-take-le (2 * i) l (omega arith)))
    where
      before : List ℕ
      before = take (2 * i) l

      early : (j : ℕ) → j < i → (first_end before j ≡ first j) × (second_end before j ≡ second j)
      early j k =
          (get_or-take (2 * i) l (2 * j) 0 (omega arith) ∙ (ends j (omega arith)).0, get_or-take (2 * i) l (2 * j + 1) 0 (omega arith) ∙ (ends j (omega arith)).1)

  link-turn : (i : ℕ) (later : Turn) (rest : ℕ) → i < m → FirstNamed later rest
      → FirstNamed (named 3 ((n ≤ first i) ⊎ (n ≤ second i)) (named 4 (first i ≡ second i) (named 20 (LinkThere i first second (first i) (second i)) later)))
      (first_of (ends_refusal n (take (2 * i) l) (at l (2 * i)) (at l (2 * i + 1))) rest)
  unfolding ends_refusal
  link-turn i later rest h f =
      then_named _ _ _ _ _ (says_outside i h) (λ _. then_named _ _ _ _ _ (says_equal i h) (λ _. then_named _ _ 0 rest _ (says_there i h) (λ _. f)))

  links-turn : (i count : ℕ) (later : Turn) (rest : ℕ) → i + count ≡ m → FirstNamed later rest → FirstNamed (each_link n first second i count later) (first_of (onward n l i) rest)
  unfolding each_link
  links-turn i zero later rest e f = rw (onward-end n l i (omega arith)) f
  links-turn i (suc count) later rest e f =
      rw (onward-at n l i (omega arith), add-one i, first_assoc) (link-turn i _ _ (omega arith) (links-turn (suc i) count later rest (omega arith) f))

-- a limit byte of 1 or above 16
says_limit_byte : (limit : ℕ) → Says (not (limit_allowed limit)) ((limit ≡ 1) ⊎ (HIGHEST < limit))
unfolding limit_allowed
says_limit_byte limit = says_as to from (says-not _ (says_both _ _ (says-not _ (says_same limit 1)) (says-most limit HIGHEST)))
  where
    to : ((limit ≡ 1 → ⊥) × (limit ≤ HIGHEST) → ⊥) → (limit ≡ 1) ⊎ (HIGHEST < limit)
    to f = by_bool (eqb limit 1) (λ e. inl (eqb-true limit 1 e)) (λ e. by_bool (leb limit HIGHEST) (λ l. absurd (f (eqb-false limit 1 e, leb-true limit HIGHEST l))) (λ l. inr (leb-false limit HIGHEST l)))

    from : (limit ≡ 1) ⊎ (HIGHEST < limit) → ((limit ≡ 1 → ⊥) × (limit ≤ HIGHEST) → ⊥)
    from = ⊎_elim (λ e p. p.0 e) (λ h p. omega (arith, p.1))

-- the file's number, and then what comes later
module _ (file : List ℕ) where
  says-begins : Says (begins_plt file) ((at file 0 ≡ 80) × (at file 1 ≡ 76) × (at file 2 ≡ 84))
  unfolding begins_plt
  says-begins =
      says_as (λ p. (p.0.0, p.0.1, p.1)) (λ p. ((p.0, p.1), p.2))
      (says_both _ _ (says_both _ _ (says_same (at file 0) 80) (says_same (at file 1) 76)) (says_same (at file 2) 84))

  says_disorder : Says (repeats_or_outside (file_n file) (file_order file)) (RepeatsOrOutside (file_n file) (order_number file))
  says_disorder =
      says_as (repeats_as (file_n file) (at (file_order file)) (order_number file) (order-at file))
      (repeats_as (file_n file) (order_number file) (at (file_order file)) (λ i l. sym (order-at file i l))) (says-order (file_n file) (file_order file))

  -- the length that the header gives, where the version is 1 or 2
  says-length : (file_version file ≡ 1) ⊎ (file_version file ≡ 2) → Says (eqb (length file) (file_length file)) (LengthGiven file)
  unfolding file_version
  says-length =
      ⊎_elim
      (λ v. let given = length_other file (is_one file v) in says_as (λ e. inl (v, e ∙ given)) (⊎_elim (λ p. p.1 ∙ sym given) (λ p. absurd (omega (arith, v, p.0)))) (says_same (length file) (file_length file)))
      (λ v. let given = length_two file (is-two file v) in says_as (λ e. inr (v, e ∙ given)) (⊎_elim (λ p. absurd (omega (arith, v, p.0))) (λ p. p.1 ∙ sym given)) (says_same (length file) (file_length file)))

  says-limits : Says (not (limits_allowed file)) (LimitRefused file)
  unfolding limit_byte file_version
  says-limits =
      by_bool (eqb (file_version file) 2)
      (λ e. rw (allowed_two file e) (says_as (λ r. (eqb-true (file_version file) 2 e, r)) (λ p. p.1) (says_all (file_n file) (λ v. limit_allowed (limit_byte file v)) (λ v. says_limit_byte (limit_byte file v)))))
      (λ e. rw (allowed_other file e) (record { holds = λ t. absurd (false≢true t); fails = λ _ p. eqb-false (file_version file) 2 e p.0 }))

  body_then : (later : Turn) (rest : ℕ) → FirstNamed later rest
      → FirstNamed (each_link (file_n file) (λ i. number file (10 + 4 * i)) (λ i. number file (12 + 4 * i)) 0 (file_m file) (named 6 (RepeatsOrOutside (file_n file) (order_number file)) (named 33 (LimitRefused file) later)))
      (first_of (body_refusal file) rest)
  body_then later rest f =
      rw first_assoc
      (links-turn (file_n file) (file_m file) (file_links file) (links-long file) _ _ (λ i l. (link-first file i l, link-second file i l)) 0 (file_m file) _ _ (omega arith)
      (then_named _ _ _ _ _ says_disorder (λ _. then_named _ _ 0 rest later says-limits (λ _. f))))

  pub file_then : (later : Turn) (rest : ℕ) → FirstNamed later rest → FirstNamed (file_turn file later) (first_of (file_refusal file) rest)
  unfolding file_turn file_refusal file_version
  file_then later rest f =
      then_named _ _ _ _ _ (says_less (length file) 10)
      (λ _. then_named _ _ _ _ _ (says-not _ says-begins)
      (λ _. then_named _ _ _ _ _ (says-not _ (says_either _ _ (says_same (file_version file) 1) (says_same (file_version file) 2)))
      (λ known. then_named _ _ _ _ _ (says_less GATEWAYS (file_n file))
      (λ _. then_named _ _ _ _ _ (says_either _ _ (says_less (file_t file) LOWEST) (says_less HIGHEST (file_t file)))
      (λ _. then_named _ _ _ _ _ (says_less LINKS (file_m file))
      (λ _. then_named _ _ _ _ _ (says-not _ (says-length (one-or-two file known)))
      (λ _. body_then later rest f)))))))

-- the file's number alone
pub file_exactly : FileExactly
unfolding FileExactly
file_exactly file = rw first_alone at (file_then file done 0 turn-done)

-- .. and "then 10", by a test that says when a lent list is too short
pub file_then_short_lem : (file : List ℕ) (short : Bool) (Short : Type 0) → Says short Short → FirstNamed (file_turn file (named 10 Short done)) (file_then_short file short)
unfolding file_then_short
file_then_short_lem file short Short s = file_then file (named 10 Short done) (refuse short 10 0) (turn-named short 10 0 done s (λ _. turn-done))

pub load_exactly : LoadExactly
unfolding LoadExactly load_refusal
load_exactly file linksLen orderLen limitsLen =
    file_then_short_lem file _ _
    (says_as (⊎_elim (⊎_elim inl (λ p. inr (inl p))) (λ p. inr (inr p))) (⊎_elim (λ p. inl (inl p)) (⊎_elim (λ p. inl (inr p)) inr))
    (says_either _ _ (says_either _ _ (says_less linksLen (2 * file_m file)) (says_less orderLen (file_n file))) (says_less limitsLen (file_n file))))
