-- Texts put one after the other, and loops that put one text a turn.
use Prim.Native.Nat.{ℕ, zero, suc, ◌+◌, ◌-◌, ◌<◌, ◌≤◌}
use mathlib.Core.Path.{◌≡◌, refl, sym, ap, ◌∙◌}
use mathlib.Core.List.{List, [], ◌∷◌, ◌++◌}
use native.Mathlib.Numerals.{add-one}
use native.Mathlib.Omega.{arith}
use lib.ListN.{length, get_or, take, length-append}
use lib.Seq.{sets, take-suc}
use Rattle.packing.proofs.Lists.{sets_append}
use Rattle.report.specs.declared.put.Text.{Text}
use Rattle.report.specs.Pre.{Near, Put}

pub put_none : (t : Text) → Put [] t t
put_none t = record { end = omega arith; list = refl; lent = refl }

pub put_then : {a b : List ℕ} {t u v : Text} → Put a t u → Put b u v → Put (a ++ b) t v
put_then {a = a} {b = b} {t = t} f g =
    record {
      end = omega (arith, length-append a b);
      list = g.list ∙ rw (f.list, f.end) (sets_append t.out.now t.place a b);
      lent = g.lent ∙ f.lent;
    }

pub put_is : {a b : List ℕ} {t u : Text} → a ≡ b → Put a t u → Put b t u
put_is e f = rw (sym e) f

-- a whole text, put from place 0
pub put_long : {a : List ℕ} {t u : Text} → t.place ≡ 0 → Put a t u → u.place ≡ length a
put_long e f = omega arith

pub put_whole : {a new : List ℕ} {t u : Text} → t.place ≡ 0 → Put a t u → new ≡ u.out.now → new ≡ sets t.out.now 0 a
put_whole e f g = g ∙ (rw e at f.list)

pub near-is : {a b : List ℕ} {t : Text} → a ≡ b → Near t b → Near t a
near-is e h = rw e h

-- of two texts that end by FAR, the first does, and then the second
pub near_first : (a b : List ℕ) {t : Text} → Near t (a ++ b) → Near t a
near_first a b h = record { by = omega (arith, length-append a b) }

pub near_next : {a : List ℕ} (b : List ℕ) {t u : Text} → Put a t u → Near t (a ++ b) → Near u b
near_next {a} b f h = record { by = omega (arith, length-append a b) }

-- a text of n parts, which grows by one part at each i
pub record Growing (n : ℕ) (text part : ℕ → List ℕ) : Type 0 where
  pub start : text 0 ≡ []
  pub more : (i : ℕ) → i < n → text (i + 1) ≡ text i ++ part i

module _ {n : ℕ} {text part : ℕ → List ℕ} (g : Growing n text part) where
  pub grown_start : (t : Text) → Put (text 0) t t
  grown_start t = put_is (sym g.start) (put_none t)

  pub grown_turn : {t u v : Text} {i : ℕ} → Put (text i) t u → i < n → Put (part i) u v → Put (text (i + 1)) t v
  grown_turn {i = i} f h k = put_is (sym (g.more i h)) (put_then f k)

  longer : (i : ℕ) → i < n → length (text (i + 1)) ≡ length (text i) + length (part i)
  longer i h = ap length (g.more i h) ∙ length-append (text i) (part i)

  no_longer : (d i : ℕ) → i + d ≡ n → length (text i) ≤ length (text n)
  no_longer zero i e = omega (arith, ap (λ (j : ℕ). length (text j)) (whole e))
    where
      whole : i + 0 ≡ n → i ≡ n
      whole h = omega arith
  no_longer (suc d) i e = omega (arith, longer i (omega arith), no_longer d (i + 1) (omega arith))

  -- where the whole text ends by FAR, the next part does
  pub grown_near : {t u : Text} {i : ℕ} → Put (text i) t u → i < n → Near t (text n) → Near u (part i)
  grown_near {i = i} f h whole = record { by = omega (arith, f.end, longer i h, no_longer (n - (i + 1)) (i + 1) (omega arith)) }

pub bytes_grow : (text : List ℕ) → Growing (length text) (λ i. take i text) (λ i. get_or text i 0 ∷ [])
bytes_grow text = record { start = refl; more = λ i h. rw add-one (take-suc text i 0 h) }
