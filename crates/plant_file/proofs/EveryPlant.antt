-- The file of a plant is accepted, in either version: no condition of its turn holds.
use Prim.Native.Nat.{ℕ, zero, suc, ◌+◌, ◌*◌, ◌/◌, ◌%◌, ◌<◌}
use mathlib.Core.Path.{◌≡◌, refl, sym, ap, ◌∙◌}
use mathlib.Core.Logic.{◌⊎◌, inl, inr, ⊎_elim}
use mathlib.Core.List.{List, []}
use native.Mathlib.Omega.{arith}
use lib.ListN.{length}
use lib.Dec.{eqb}
use borrow.Author.Tests.{eqb-true, eqb-false}
use Rattle.packing.specs.Plant.{at}
use Rattle.packing.specs.Turns.{Turn, done, FirstNamed, LinkThere, first_end, second_end, RepeatsOrOutside}
use Rattle.packing.proofs.Tests.{by_bool}
use Rattle.packing.proofs.Turns.{turn-done, turn_passed, named-once}
use Rattle.plant_file.specs.PlantFile.{number, file_version, file_n, file_t, file_m, file_links, file_order, limit_byte, effective_limit, file_limit}
use Rattle.plant_file.specs.Turns.{each_link, LengthGiven, LimitRefused, file_turn, FileExactly}
use Rattle.plant_file.specs.Encode.{Bytes, low_first, encode_as, encode, encode_two}
use Rattle.plant_file.specs.EveryPlant.{InRange, FileOf, EveryPlant, PairsInRange, EveryPlantTwo}
use Rattle.plant_file.proofs.LinksByIndex.{order_number, order-at, link-first, link-second}
use Rattle.plant_file.proofs.Encode.{encode-long, encode-version, encode-n, encode-t, encode-m, encode-links, encode-order, encode-kind, encode-limit, encode-bytes}
use Rattle.plant_file.proofs.Turns.{file_exactly}
use Rattle.plant_file.proofs.Versions.{limit-two, is-two}
use Rattle.plant_file.proofs.GatewayLimits.{limit_said}

-- link j is not refused
record LinkFine (n : ℕ) (first second : ℕ → ℕ) (j : ℕ) : Type 0 where
  first_below : first j < n
  second_below : second j < n
  differ : first j ≡ second j → ⊥
  new : LinkThere j first second (first j) (second j) → ⊥

links_passed : (n : ℕ) (first second : ℕ → ℕ) (i count : ℕ) (later : Turn) (e : ℕ)
    → ((j : ℕ) → j < i + count → LinkFine n first second j)
    → FirstNamed later e → FirstNamed (each_link n first second i count later) e
unfolding each_link
links_passed n first second i zero later e fine f = f
links_passed n first second i (suc count) later e fine f =
    let this = fine i (omega arith) in
    turn_passed 3 _ e (⊎_elim (λ h. omega (arith, this.first_below)) (λ h. omega (arith, this.second_below)))
    (turn_passed 4 _ e this.differ (turn_passed 20 _ e this.new (links_passed n first second (suc i) count later e (λ j h. fine j (omega arith)) f)))

module _ (n t m : ℕ) (links order : List ℕ) (plant : InRange n t m links order) where
  -- a file that says the plant, with the header and length of one, is accepted
  module _ (file : List ℕ) (begins : (at file 0 ≡ 80) × (at file 1 ≡ 76) × (at file 2 ≡ 84)) (given : LengthGiven file) (fine : LimitRefused file → ⊥)
      (is-n : file_n file ≡ n) (is-t : file_t file ≡ t) (is_m : file_m file ≡ m) (is-links : file_links file ≡ links) (is-order : file_order file ≡ order) where
    known : (number file 3 ≡ 1) ⊎ (number file 3 ≡ 2)
    known = ⊎_elim (λ p. inl p.0) (λ p. inr p.0) given

    long : length file < 10 → ⊥
    long h = ⊎_elim (λ p. omega (arith, p.1)) (λ p. omega (arith, p.1)) given

    first-is : (i : ℕ) → i < m → number file (10 + 4 * i) ≡ first_end links i
    first-is i h = sym (rw is-links at (link-first file i (omega arith)))

    second_is : (i : ℕ) → i < m → number file (12 + 4 * i) ≡ second_end links i
    second_is i h = sym (rw is-links at (link-second file i (omega arith)))

    place_is : (i : ℕ) → i < n → order_number file i ≡ at order i
    place_is i h = sym (rw is-order at (order-at file i (omega arith)))

    link_fine : (j : ℕ) → j < m → LinkFine n (λ i. number file (10 + 4 * i)) (λ i. number file (12 + 4 * i)) j
    link_fine j h =
        record {
          first_below = omega (arith, first-is j h, plant.first_below j h);
          second_below = omega (arith, second_is j h, plant.second_below j h);
          differ = λ e. plant.differ j h (sym (first-is j h) ∙ e ∙ second_is j h);
          new = λ there. let (i, k, s) = there in plant.once i j k h (rw (first-is i (omega arith), second_is i (omega arith), first-is j h, second_is j h) at s);
        }

    order_fine : RepeatsOrOutside n (order_number file) → ⊥
    order_fine =
        ⊎_elim (λ r. let (i, j, l, k, e) = r in plant.order-once i j l k (sym (place_is i (omega arith)) ∙ e ∙ place_is j k))
        (λ r. let (i, l, k) = r in omega (arith, place_is i l, plant.order_below i l))

    passed : FirstNamed (file_turn file done) 0
    unfolding file_turn
    passed =
        turn_passed 9 _ 0 long
        (turn_passed 7 _ 0 (λ h. h begins)
        (turn_passed 8 _ 0 (λ h. h known)
        (turn_passed 1 _ 0 (λ h. omega (arith, plant.gateways))
        (turn_passed 2 _ 0 (⊎_elim (λ h. omega (arith, plant.least)) (λ h. omega (arith, plant.most)))
        (turn_passed 12 _ 0 (λ h. omega (arith, plant.few))
        (turn_passed 9 _ 0 (λ h. h given)
        (links_passed _ _ _ 0 _ _ 0 (λ j h. rw is-n (link_fine j (omega arith)))
        (turn_passed 6 _ 0 (rw is-n order_fine) (turn_passed 33 _ 0 fine turn-done)))))))))

  -- every number of the links is an end of link i / 2
  end_below : (i : ℕ) → i < 2 * m → at links i < n
  end_below i h =
      by_bool (eqb (i % 2) 0)
      (λ e. let even : i ≡ 2 * (i / 2) = omega (arith, eqb-true (i % 2) 0 e) in rw (ap (at links) even) (plant.first_below (i / 2) (omega arith)))
      (λ e. let odd : i ≡ 2 * (i / 2) + 1 = omega (arith, eqb-false (i % 2) 0 e) in rw (ap (at links) odd) (plant.second_below (i / 2) (omega arith)))

  -- the file of a version with some pairs, and a limit for each gateway
  module _ (version : ℕ) (pairs : List ℕ) (limit : ℕ → ℕ) where
    abbrev file : List ℕ
    file = encode_as version n t m links order pairs

    file_of : version < 65536 → Bytes pairs → LengthGiven file → (LimitRefused file → ⊥) → ((v : ℕ) → v < n → file_limit file v ≡ limit v)
        → FileOf n t m links order limit file
    unfolding FileExactly encode_as low_first
    file_of small bytes given fine says =
        let is-n = encode-n version n t m links order pairs in
        let is-t = encode-t version n t m links order pairs in
        let is_m = encode-m version n t m links order pairs in
        let is-links = encode-links version n t m links order pairs plant.two-each plant.one_each in
        let is-order = encode-order version n t m links order pairs plant.two-each plant.one_each in
        record {
          bytes =
              encode-bytes version n t m links order pairs small (omega (arith, plant.gateways)) (omega (arith, plant.most)) (omega (arith, plant.few))
              (λ i h. omega (arith, end_below i (omega (arith, plant.two-each)), plant.gateways)) (λ i h. omega (arith, plant.order_below i (omega (arith, plant.one_each)), plant.gateways)) bytes;
          accepted = named-once _ _ _ (file_exactly file) (passed file (refl, refl, refl) given fine is-n is-t is_m is-links is-order);
          says-n = is-n;
          says-t = is-t;
          says-m = is_m;
          says-links = is-links;
          says-order = is-order;
          says-limits = says;
        }

  -- in version 1
  abbrev first : List ℕ
  first = encode n t m links order

  one-is : number first 3 ≡ 1
  unfolding file_version
  one-is = encode-version 1 n t m links order []

  one-long : length first ≡ 10 + 4 * m + 2 * n
  one-long = omega (arith, encode-long 1 n t m links order [] plant.two-each plant.one_each)

  one-limit : (v : ℕ) → file_limit first v ≡ t
  one-limit v = (limit_said first v).one (encode-version 1 n t m links order []) ∙ encode-t 1 n t m links order []

  file_of_one : FileOf n t m links order (λ v. t) first
  file_of_one =
      file_of 1 [] (λ v. t) (omega arith) (record { below = λ i. omega arith })
      (inl (one-is, omega (arith, one-long, encode-n 1 n t m links order [], encode-m 1 n t m links order []))) (λ r. omega (arith, r.0, one-is)) (λ v h. one-limit v)

  -- in version 2
  module _ (pairs : List ℕ) (good : PairsInRange n pairs) where
    abbrev second : List ℕ
    second = encode_two n t m links order pairs

    two_is : number second 3 ≡ 2
    unfolding file_version
    two_is = encode-version 2 n t m links order pairs

    two-long : length second ≡ 10 + 4 * m + 4 * n
    two-long = omega (arith, encode-long 2 n t m links order pairs plant.two-each plant.one_each, good.two-each)

    two_byte : (v : ℕ) → limit_byte second v ≡ at pairs (2 * v + 1)
    two_byte = encode-limit 2 n t m links order pairs plant.two-each plant.one_each

    two_fine : LimitRefused second → ⊥
    unfolding limit_byte
    two_fine (two, (v, l, off)) =
        ⊎_elim (λ z. ⊎_elim (λ e. omega (arith, two_byte v)) (λ h. omega (arith, two_byte v)) off) (λ p. ⊎_elim (λ e. omega (arith, p, two_byte v)) (λ h. omega (arith, p, two_byte v)) off)
        (good.limits v (omega (arith, encode-n 2 n t m links order pairs)))

    two-limit : (v : ℕ) → file_limit second v ≡ effective_limit t (at pairs (2 * v)) (at pairs (2 * v + 1))
    two-limit v =
        limit-two second (is-two second (encode-version 2 n t m links order pairs)) v
        ∙ rw (encode-t 2 n t m links order pairs, encode-kind 2 n t m links order pairs plant.two-each plant.one_each v, two_byte v)

    -- with any limits that the pairs say
    pub file_of_two : (limit : ℕ → ℕ) → ((v : ℕ) → v < n → effective_limit t (at pairs (2 * v)) (at pairs (2 * v + 1)) ≡ limit v)
        → FileOf n t m links order limit second × (length second ≡ 10 + 4 * m + 4 * n)
    file_of_two limit says = (
      file_of 2 pairs limit (omega arith) good.bytes
          (inr (two_is, omega (arith, two-long, encode-n 2 n t m links order pairs, encode-m 2 n t m links order pairs))) two_fine (λ v h. two-limit v ∙ says v h),
      two-long,
    )

pub every_plant : EveryPlant
unfolding EveryPlant
every_plant n t m links order plant = (file_of_one n t m links order plant, one-long n t m links order plant)

pub every_plant_two : EveryPlantTwo
unfolding EveryPlantTwo
every_plant_two n t m links order pairs plant good = file_of_two n t m links order plant pairs good _ (λ v h. refl)
