-- What the file of a plant says is that plant.
use Prim.Native.Nat.{ℕ, zero, suc, ◌+◌, ◌*◌, ◌/◌, ◌%◌, ◌<◌, ◌≤◌}
use mathlib.Core.Path.{◌≡◌, refl, sym, ap, ◌∙◌}
use mathlib.Core.List.{List, [], ◌∷◌, ◌++◌, append_assoc}
use native.Mathlib.Omega.{arith}
use lib.ListN.{length, length-append, get_or-append}
use lib.Seq.{get_or-append-add}
use Rattle.packing.specs.Plant.{at}
use Rattle.packing.proofs.Lists.{list_of_ext, list-is}
use Rattle.plant_file.specs.PlantFile.{number, file_version, file_n, file_t, file_m, file_links, file_order, kind_byte, limit_byte}
use Rattle.plant_file.specs.Encode.{Bytes, low_first, encode_as}

pub low_long : (l : List ℕ) → length (low_first l) ≡ 2 * length l
unfolding low_first
low_long [] = refl
low_long (x ∷ xs) = omega (arith, low_long xs)

-- two bytes are the number
low_high : (x : ℕ) → x % 256 + 256 * (x / 256) ≡ x
low_high x = omega arith

pub low_append : (a b : List ℕ) → low_first (a ++ b) ≡ low_first a ++ low_first b
unfolding low_first
low_append [] b = refl
low_append (x ∷ a) b = rw (low_append a b)

-- a number after other bytes
number-later : (before l : List ℕ) (i : ℕ) → number (before ++ l) (length before + i) ≡ number l i
unfolding number
number-later before l i = rw (one, get_or-append-add before l i 0, get_or-append-add before l (i + 1) 0)
  where
    one : length before + i + 1 ≡ length before + (i + 1)
    one = omega arith

-- number i of a list of numbers as bytes
pub number_low : (l : List ℕ) (i : ℕ) → number (low_first l) (2 * i) ≡ at l i
unfolding low_first number
number_low [] i = refl
number_low (x ∷ l) zero = low_high x
number_low (x ∷ l) (suc i) = rw twice (number-later (x % 256 ∷ x / 256 ∷ []) (low_first l) (2 * i) ∙ number_low l i)
  where
    twice : 2 * suc i ≡ 2 + 2 * i
    twice = omega arith

-- .. and before other bytes
number-within : (l after : List ℕ) (i : ℕ) → i + 1 < length l → number (l ++ after) i ≡ number l i
unfolding number
number-within l after i h = rw (get_or-append l after 0 i (omega arith), get_or-append l after 0 (i + 1) h)

-- the eight bytes before m
head : ℕ → ℕ → ℕ → List ℕ
head version n t = 80 ∷ 76 ∷ 84 ∷ version % 256 ∷ version / 256 ∷ n % 256 ∷ n / 256 ∷ t ∷ []

module _ (version n t m : ℕ) (links order : List ℕ) where
  -- all that stands before the pairs
  front : List ℕ
  front = head version n t ++ low_first (m ∷ (links ++ order))

  front_long : length links ≡ 2 * m → length order ≡ n → length front ≡ 10 + 4 * m + 2 * n
  unfolding head front
  front_long e f = omega (arith, length-append (head version n t) (low_first (m ∷ (links ++ order))), low_long (m ∷ (links ++ order)), length-append links order)

  -- its numbers from m on
  front-number : (i : ℕ) → number front (8 + 2 * i) ≡ at (m ∷ (links ++ order)) i
  unfolding head front
  front-number i = number-later (head version n t) (low_first (m ∷ (links ++ order))) (2 * i) ∙ number_low (m ∷ (links ++ order)) i

  module _ (pairs : List ℕ) where
    abbrev file : List ℕ
    file = encode_as version n t m links order pairs

    encode-is : file ≡ front ++ pairs
    unfolding encode_as low_first head front
    encode-is = rw (low_append links order, append_assoc (low_first links) (low_first order) pairs)

    pub encode-long : length links ≡ 2 * m → length order ≡ n → length file ≡ 10 + 4 * m + 2 * n + length pairs
    encode-long e f = ap length encode-is ∙ omega (arith, length-append front pairs, front_long e f)

    pub encode-version : file_version file ≡ version
    unfolding file_version number encode_as low_first
    encode-version = low_high version

    pub encode-n : file_n file ≡ n
    unfolding file_n number encode_as low_first
    encode-n = low_high n

    pub encode-t : file_t file ≡ t
    unfolding file_t encode_as low_first
    encode-t = refl

    pub encode-m : file_m file ≡ m
    unfolding file_m number encode_as low_first
    encode-m = low_high m

    module _ (two-each : length links ≡ 2 * m) (one_each : length order ≡ n) where
      -- the numbers from m on
      encode-number : (i : ℕ) → i ≤ 2 * m + n → number file (8 + 2 * i) ≡ at (m ∷ (links ++ order)) i
      encode-number i h = rw encode-is (number-within front pairs (8 + 2 * i) (omega (arith, front_long two-each one_each)) ∙ front-number i)

      encode-link : (i : ℕ) → i < length links → number file (10 + 2 * i) ≡ at links i
      encode-link i h = rw more (encode-number (suc i) (omega arith) ∙ get_or-append links order 0 i h)
        where
          more : 10 + 2 * i ≡ 8 + 2 * suc i
          more = omega arith

      pub encode-links : file_links file ≡ links
      unfolding file_links
      encode-links = rw (encode-m, ← two-each) (list_of_ext (length links) (λ i. number file (10 + 2 * i)) (at links) encode-link ∙ sym (list-is links))

      encode-place : (i : ℕ) → i < n → number file (10 + 4 * m + 2 * i) ≡ at order i
      encode-place i h = rw (more two-each) (encode-number (suc (length links + i)) (omega arith) ∙ get_or-append-add links order i 0)
        where
          more : length links ≡ 2 * m → 10 + 4 * m + 2 * i ≡ 8 + 2 * suc (length links + i)
          more k = omega arith

      pub encode-order : file_order file ≡ order
      unfolding file_order
      encode-order = rw (encode-n, encode-m) (list_of_ext n (λ i. number file (10 + 4 * m + 2 * i)) (at order) encode-place ∙ sym (rw one_each at (list-is order)))

      -- the bytes of the pairs
      encode_byte : (i j : ℕ) → i ≡ 10 + 4 * m + 2 * n + j → at file i ≡ at pairs j
      encode_byte i j e = rw (encode-is, e, ← front_long two-each one_each) (get_or-append-add front pairs j 0)

      pub encode-kind : (v : ℕ) → kind_byte file v ≡ at pairs (2 * v)
      unfolding kind_byte
      encode-kind v = rw (encode-n, encode-m) (encode_byte _ (2 * v) (omega arith))

      pub encode-limit : (v : ℕ) → limit_byte file v ≡ at pairs (2 * v + 1)
      unfolding limit_byte
      encode-limit v = rw (encode-n, encode-m) (encode_byte _ (2 * v + 1) (omega arith))

bytes_cons : {x : ℕ} {l : List ℕ} → x < 256 → Bytes l → Bytes (x ∷ l)
bytes_cons {x} {l} h k = record { below = each }
  where
    each : (i : ℕ) → at (x ∷ l) i < 256
    each zero = h
    each (suc i) = k.below i

-- entries below a bound
abbrev pub Below : ℕ → List ℕ → Type 0
Below bound l = (i : ℕ) → i < length l → at l i < bound

below-append : (bound : ℕ) (a b : List ℕ) → Below bound a → Below bound b → Below bound (a ++ b)
below-append bound [] b h k i l = k i l
below-append bound (x ∷ a) b h k zero l = h 0 (omega arith)
below-append bound (x ∷ a) b h k (suc i) l = below-append bound a b (λ j q. h (suc j) (omega arith)) k i (omega arith)

low_bytes : (l : List ℕ) → Below 65536 l → Bytes (low_first l)
unfolding low_first
low_bytes [] h = record { below = λ i. omega arith }
low_bytes (x ∷ l) h = bytes_cons (omega arith) (bytes_cons (omega (arith, h 0 (omega arith))) (low_bytes l (λ i k. h (suc i) (omega arith))))

bytes-append : (a b : List ℕ) → Bytes a → Bytes b → Bytes (a ++ b)
bytes-append [] b h k = k
bytes-append (x ∷ a) b h k = bytes_cons (h.below 0) (bytes-append a b (record { below = λ i. h.below (suc i) }) k)

-- the file of a plant whose numbers have 16 bits, and its limit 8, is a list of bytes where its pairs are
pub encode-bytes : (version n t m : ℕ) (links order pairs : List ℕ) → version < 65536 → n < 65536 → t < 256 → m < 65536 → Below 65536 links → Below 65536 order → Bytes pairs
    → Bytes (encode_as version n t m links order pairs)
unfolding head front
encode-bytes version n t m links order pairs hv hn ht hm hl ho hp = rw (encode-is version n t m links order pairs) (bytes-append (front version n t m links order) pairs first hp)
  where
    numbers : Below 65536 (m ∷ (links ++ order))
    numbers zero h = hm
    numbers (suc i) h = below-append 65536 links order hl ho i (omega arith)

    first : Bytes (front version n t m links order)
    first =
        bytes_cons (omega arith) (bytes_cons (omega arith) (bytes_cons (omega arith) (bytes_cons (omega arith) (bytes_cons (omega arith)
        (bytes_cons (omega arith) (bytes_cons (omega arith) (bytes_cons ht (low_bytes (m ∷ (links ++ order)) numbers))))))))
