-- What the bytes of why_alone say is what the sets of the file's plan say, and their number is the first that is named.
use Prim.Native.Nat.{ℕ, zero, suc, ◌+◌, ◌*◌, ◌<◌}
use mathlib.Core.Path.{◌≡◌, refl, sym, ap, ◌∙◌}
use mathlib.Core.Bool.{Bool, true, false, not, ◌||◌}
use mathlib.Core.List.{List, ◌∷◌, ◌++◌}
use native.Mathlib.Omega.{arith}
use lib.Dec.{eqb, ltb, leb}
use lib.ListN.{length, drop, replicate, length-append, length-replicate, get_or-append}
use lib.Seq.{get_or-append-add}
use borrow.Author.Tests.{le-ltb, leb-false}
use Rattle.packing.specs.Lists.{written}
use Rattle.packing.specs.Plant.{NONE, at}
use Rattle.packing.specs.Refusals.{refuse, first_of}
use Rattle.packing.proofs.Tests.{by_bool}
use Rattle.packing.proofs.Lists.{list-is, list_of_ext, written-past}
use Rattle.packing.proofs.Refusals.{first-none, refused}
use Rattle.packing.proofs.Turns.{turn-done, turn-named, says_less, says-most, says_same, says_either, says-not}
use Rattle.plant_file.specs.PlantFile.{number, file_n, file_refusal}
use Rattle.plant_file.specs.Encode.{low_first}
use Rattle.plant_file.proofs.Encode.{low_long, number_low}
use Rattle.plant_file.proofs.Refusing.{then_alone}
use Rattle.plant_file.proofs.Turns.{file_then}
use Rattle.plan.specs.Plan.{file_leaders}
use Rattle.plan.specs.Why.{file_why_refusal, file_first, file_second}
use Rattle.plan.specs.Claim.{FileWhy}
use Rattle.plan.proofs.FileWhy.{file_why_lem, why_below, not_alone, why_number}
use Rattle.daemon.specs.Groups.{bytes_for, groups_refusal, groups_out}
use Rattle.daemon.specs.Why.{set_bytes, set_bytes_for, alone_refusal, alone_out}
use Rattle.daemon.specs.Claim.{leader_at, first_count_at, second_count_at, first_at, second_at, sets_end, BytesWhy, BytesWhyRefused}
use Rattle.daemon.specs.Turns.{AloneExactly}
use Rattle.daemon.proofs.LowFirst.{bytes-long}
use Rattle.daemon.proofs.Claim.{leader-is}

-- a number of a list whose bytes stand at the front
number-front : (l rest : List ℕ) (i : ℕ) → i < length l → number (low_first l ++ rest) (2 * i) ≡ at l i
unfolding number
number-front l rest i h =
    rw (get_or-append (low_first l) rest 0 (2 * i) (omega (arith, low_long l)), get_or-append (low_first l) rest 0 (2 * i + 1) (omega (arith, low_long l))) (number_low l i)

-- the bytes of two sets, and what stands behind them
module _ (first second rest : List ℕ) where
  numbers : List ℕ
  numbers = length first ∷ length second ∷ (first ++ second)

  bytes : List ℕ
  bytes = set_bytes first second ++ rest

  at-number : (i : ℕ) → i < 2 + length (first ++ second) → number bytes (2 * i) ≡ at numbers i
  unfolding bytes numbers set_bytes
  at-number i l = number-front (length first ∷ length second ∷ (first ++ second)) rest i (omega arith)

  first_count_lem : first_count_at bytes ≡ length first
  unfolding numbers
  first_count_lem = at-number 0 (omega arith)

  second-count : second_count_at bytes ≡ length second
  unfolding numbers
  second-count = at-number 1 (omega arith)

  first-set : first_at bytes ≡ first
  unfolding numbers
  first-set = rw first_count_lem (list_of_ext (length first) (λ i. number bytes (4 + 2 * i)) (at first) entry ∙ sym (list-is first))
    where
      entry : (i : ℕ) → i < length first → number bytes (4 + 2 * i) ≡ at first i
      entry i l = ap (number bytes) two ∙ at-number (suc (suc i)) (omega (arith, length-append first second)) ∙ get_or-append first second 0 i l
        where
          two : 4 + 2 * i ≡ 2 * suc (suc i)
          two = omega arith

  second-set : second_at bytes ≡ second
  unfolding numbers
  second-set = rw (second-count, first_count_lem) (list_of_ext (length second) (λ i. number bytes (4 + 2 * length first + 2 * i)) (at second) entry ∙ sym (list-is second))
    where
      entry : (i : ℕ) → i < length second → number bytes (4 + 2 * length first + 2 * i) ≡ at second i
      entry i l = ap (number bytes) two ∙ at-number (suc (suc (length first + i))) (omega (arith, length-append first second)) ∙ get_or-append-add first second i 0
        where
          two : 4 + 2 * length first + 2 * i ≡ 2 * suc (suc (length first + i))
          two = omega arith

-- an accepted call
module _ (file : List ℕ) (v : ℕ) (out : List ℕ) (z : alone_refusal file v (length out) ≡ 0) where
  rest : List ℕ
  rest = drop (length (set_bytes (file_first file v) (file_second file v))) out

  out_is : alone_out file v out ≡ bytes (file_first file v) (file_second file v) rest
  unfolding alone_out written bytes rest
  out_is = rw z

  past : drop (length (set_bytes (file_first file v) (file_second file v))) (alone_out file v out) ≡ drop (length (set_bytes (file_first file v) (file_second file v))) out
  unfolding alone_out
  past = rw z (written-past (length (set_bytes (file_first file v) (file_second file v))) (set_bytes (file_first file v) (file_second file v)) out refl)

  -- the counts that the bytes say
  pub counts_are : (first_count_at (alone_out file v out) ≡ length (file_first file v)) × (second_count_at (alone_out file v out) ≡ length (file_second file v))
  counts_are = rw out_is (first_count_lem (file_first file v) (file_second file v) rest, second-count (file_first file v) (file_second file v) rest)

  pub answered : file_why_refusal file v (file_n file) (file_n file) ≡ 0
  unfolding alone_refusal
  answered = (first-none (file_why_refusal file v (file_n file) (file_n file)) _ z).0

pub bytes_why : BytesWhy
unfolding BytesWhy FileWhy
bytes_why file v out z = (
  λ plan p. rw (out_is file v out z, first-set (file_first file v) (file_second file v) (rest file v out z), second-set (file_first file v) (file_second file v) (rest file v out z))
      (why_below file (at (file_leaders file)) (leader_at (groups_out file plan)) v (file_first file v) (file_second file v) (leader-is file plan p) (file_why_lem file v (file_n file) (file_n file) (answered file v out z))),
  rw long at (past file v out z),
)
  where
    long : length (set_bytes (file_first file v) (file_second file v)) ≡ sets_end (alone_out file v out)
    long = bytes-long (file_first file v) (file_second file v) ∙ sym (rw (out_is file v out z, first_count_lem (file_first file v) (file_second file v) (rest file v out z), second-count (file_first file v) (file_second file v) (rest file v out z)) refl)

pub bytes_why_refused : BytesWhyRefused
unfolding BytesWhyRefused alone_out
bytes_why_refused file v out h = sym (refused _ out refl h)

-- The number by tests, with who is alone by plan_groups' bytes: what is named in two turns is named in one.
in_turn : (e : ℕ) (alone short : Bool) → first_of (first_of e (refuse alone 30 0)) (refuse short 10 0) ≡ first_of e (refuse alone 30 (refuse short 10 0))
in_turn zero true short = refl
in_turn zero false short = refl
in_turn (suc e) alone short = refl

module _ (file : List ℕ) (v : ℕ) where
  planned : List ℕ
  planned = groups_out file (replicate (3 * file_n file + 4) 0)

  not_alone_in : Bool
  not_alone_in = leb (file_n file) v || not (eqb (leader_at planned v) NONE)

  module _ (z : file_refusal file ≡ 0) where
    plans : groups_refusal file (length {A = ℕ} (replicate (3 * file_n file + 4) 0)) ≡ 0
    unfolding groups_refusal
    plans = rw (length-replicate {A = ℕ} (3 * file_n file + 4) 0, le-ltb (bytes_for (file_n file)) (bytes_for (file_n file)) (omega arith)) (then_alone file ∙ z)

    same_alone : not_alone file v ≡ not_alone_in
    unfolding not_alone not_alone_in planned
    same_alone =
        by_bool (leb (file_n file) v) (λ e. rw e) (λ e. ap (λ (x : ℕ). leb (file_n file) v || not (eqb x NONE)) (leader-is file (replicate (3 * file_n file + 4) 0) plans v (leb-false (file_n file) v e)))

  alone-number : (outLen : ℕ) → alone_refusal file v outLen ≡ first_of (file_refusal file) (refuse not_alone_in 30 (refuse (ltb outLen (set_bytes_for (file_n file))) 10 0))
  unfolding alone_refusal
  alone-number outLen =
      rw (why_number file v (file_n file) (file_n file), le-ltb (file_n file) (file_n file) (omega arith))
      (in_turn (file_refusal file) (not_alone file v) (ltb outLen (set_bytes_for (file_n file))) ∙ by_bytes (file_refusal file) refl)
    where
      short : ℕ
      short = refuse (ltb outLen (set_bytes_for (file_n file))) 10 0

      by_bytes : (e : ℕ) → file_refusal file ≡ e → first_of (file_refusal file) (refuse (not_alone file v) 30 short) ≡ first_of (file_refusal file) (refuse not_alone_in 30 short)
      by_bytes zero z = ap (λ (b : Bool). first_of (file_refusal file) (refuse b 30 short)) (same_alone z)
      by_bytes (suc e) z = rw z

pub alone_exactly : AloneExactly
unfolding AloneExactly planned not_alone_in
alone_exactly file v outLen =
    rw (alone-number file v outLen)
    (file_then file _ _
    (turn-named (not_alone_in file v) 30 _ _ (says_either _ _ (says-most (file_n file) v) (says-not _ (says_same (leader_at (planned file v) v) NONE)))
    (λ _. turn-named (ltb outLen (set_bytes_for (file_n file))) 10 0 _ (says_less outLen (set_bytes_for (file_n file))) (λ _. turn-done))))
