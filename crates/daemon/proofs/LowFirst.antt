-- The loops that write a plan's bytes.
use Prim.Native.Nat.{ℕ, suc, ◌+◌, ◌-◌, ◌*◌, ◌/◌, ◌%◌, ◌<◌, ◌≤◌}
use mathlib.Core.Path.{◌≡◌, refl, sym, ap, ◌∙◌}
use mathlib.Core.List.{List, [], ◌∷◌, ◌++◌, append_assoc}
use native.Mathlib.Numerals.{add-one}
use native.Mathlib.Omega.{arith}
use lib.ListN.{length, get_or, take, drop, length-append, drop_of_length-le}
use lib.Seq.{sets, sets-eq, drop-drop, drop-cons, length-take-le}
use borrow.Rule.Slice.PartMut.{post_of}
use Rattle.packing.specs.Lists.{written}
use Rattle.packing.proofs.Lists.{sets_append}
use Rattle.plant_file.specs.Encode.{low_first}
use Rattle.plant_file.proofs.Encode.{low_long, low_append}
use Rattle.daemon.specs.Groups.{four_bytes, bytes_for}
use Rattle.daemon.specs.Why.{set_bytes}
use Rattle.daemon.specs.Pre.{Plannable, Settable}

-- a part that is copied over is set so
pub copied : (bytes : List ℕ) (start : ℕ) (out : List ℕ) {new : List ℕ} → start + length bytes ≤ length out → new ≡ bytes
    → take start out ++ (new ++ post_of start (start + length bytes - start) out) ≡ sets out start bytes
copied bytes start out room e = rw (e, behind, drop-drop (length bytes) start out) (sym (sets-eq bytes out start room ∙ append_assoc (take start out) bytes (drop (start + length bytes) out)))
  where
    behind : start + length bytes - start ≡ length bytes
    behind = omega arith

-- the first i numbers are written from a place on: what the rest makes of the list
pub record Twos (numbers : List ℕ) (start : ℕ) (first now : List ℕ) (i : ℕ) : Type 0 where
  pub rest : sets now (start + 2 * i) (low_first (drop i numbers)) ≡ sets first start (low_first numbers)

module _ (numbers : List ℕ) (start : ℕ) (first : List ℕ) where
  pub twos_turn : {now new two : List ℕ} {i : ℕ} → Twos numbers start first now i → i < length numbers → get_or numbers i 0 < 65536
      → two ≡ get_or numbers i 0 % 256 ∷ get_or numbers i 0 / 256 % 256 ∷ [] → new ≡ sets now (start + 2 * i) two → Twos numbers start first new (i + 1)
  unfolding low_first
  twos_turn {now} {new} {two} {i} k l small e f = record { rest = rw (f, e, high, twice, add-one) (rw (drop-cons numbers i 0 l) at k.rest) }
    where
      high : get_or numbers i 0 / 256 % 256 ≡ get_or numbers i 0 / 256
      high = omega arith

      twice : start + 2 * (i + 1) ≡ suc (suc (start + 2 * i))
      twice = omega arith

  pub twos_end : {now : List ℕ} {i : ℕ} → Twos numbers start first now i → length numbers ≤ i → now ≡ sets first start (low_first numbers)
  unfolding low_first
  twos_end {now} {i} k l = rw (drop_of_length-le numbers l) at k.rest

-- a list of which some first entries are set is written so
sets_written : (k : ℕ) (front lent : List ℕ) → length front ≡ k → k ≤ length lent → sets lent 0 front ≡ written k front lent
unfolding written
sets_written k front lent e room = sets-eq front lent 0 (omega arith) ∙ ap (λ (i : ℕ). front ++ drop i lent) whole
  where
    whole : 0 + length front ≡ k
    whole = omega arith

-- three parts, set one behind the other, are written
parts_written : (a b c lent : List ℕ) (i j k : ℕ) → length a ≡ i → length (a ++ b) ≡ j → length (a ++ b ++ c) ≡ k → k ≤ length lent
    → {x y new : List ℕ} → x ≡ sets lent 0 a → y ≡ sets x i b → new ≡ sets y j c → new ≡ written k (a ++ b ++ c) lent
parts_written a b c lent i j k ea eb ec room {x} {y} {new} first second third =
    third ∙ ap (λ (l : List ℕ). sets l j c) both ∙ ap (λ (m : ℕ). sets (sets lent 0 (a ++ b)) m c) (from_zero (a ++ b) eb) ∙ sets_append lent 0 (a ++ b) c ∙ sets_written k (a ++ b ++ c) lent ec room
  where
    from_zero : (l : List ℕ) {m : ℕ} → length l ≡ m → m ≡ 0 + length l
    from_zero l e = omega arith

    both : y ≡ sets lent 0 (a ++ b)
    both = second ∙ ap (λ (l : List ℕ). sets l i b) first ∙ ap (λ (m : ℕ). sets (sets lent 0 a) m b) (from_zero a ea) ∙ sets_append lent 0 a b

pub four-long : (x : ℕ) → length (four_bytes x) ≡ 4
unfolding four_bytes
four-long x = refl

-- the first n of both lists, and the places for them and for the four bytes
module _ (n : ℕ) (leaders choke out : List ℕ) (p : Plannable n leaders choke out) where
  both_long : length (low_first (take n leaders) ++ take n choke) ≡ 3 * n
  both_long = omega (arith, length-append (low_first (take n leaders)) (take n choke), low_long (take n leaders), length-take-le n leaders p.led, length-take-le n choke p.choked)

  pub plan-written : (x : ℕ) {a b new four : List ℕ} → four ≡ x % 256 ∷ x / 256 % 256 ∷ x / 65536 % 256 ∷ x / 16777216 % 256 ∷ [] → a ≡ sets out 0 (low_first (take n leaders)) → b ≡ sets a (2 * n) (take n choke) → new ≡ sets b (3 * n) four
      → new ≡ written (bytes_for n) (low_first (take n leaders) ++ take n choke ++ four_bytes x) out
  unfolding four_bytes
  plan-written x e f g h =
      parts_written (low_first (take n leaders)) (take n choke) (four_bytes x) out (2 * n) (3 * n) (bytes_for n) (omega (arith, low_long (take n leaders), length-take-le n leaders p.led)) both_long
      (omega (arith, length-append (low_first (take n leaders) ++ take n choke) (four_bytes x), both_long, four-long x)) p.places f g (rw e at h)

-- two sets: their counts, the first, the second
module _ (first second : List ℕ) where
  abbrev pub counts : List ℕ
  counts = length first ∷ length second ∷ []

  bytes_are : low_first counts ++ low_first first ++ low_first second ≡ set_bytes first second
  unfolding set_bytes low_first
  bytes_are = ap (λ (l : List ℕ). length first % 256 ∷ length first / 256 ∷ length second % 256 ∷ length second / 256 ∷ l) (sym (low_append first second))

  front_long : length (low_first counts ++ low_first first) ≡ 4 + 2 * length first
  front_long = omega (arith, length-append (low_first counts) (low_first first), low_long counts, low_long first)

  pub bytes-long : length (set_bytes first second) ≡ 4 + 2 * length first + 2 * length second
  bytes-long = ap length (sym bytes_are) ∙ omega (arith, length-append (low_first counts ++ low_first first) (low_first second), front_long, low_long second)

  pub sets_are_written : (out : List ℕ) → Settable first second out → {a b new : List ℕ} → a ≡ sets out 0 (low_first counts) → b ≡ sets a 4 (low_first first) → new ≡ sets b (4 + 2 * length first) (low_first second)
      → new ≡ written (length (set_bytes first second)) (set_bytes first second) out
  sets_are_written out p e f g =
      rw bytes_are at (parts_written (low_first counts) (low_first first) (low_first second) out 4 (4 + 2 * length first) (length (set_bytes first second)) (low_long counts) front_long
      (ap length bytes_are) (omega (arith, bytes-long, p.places)) e f g)
