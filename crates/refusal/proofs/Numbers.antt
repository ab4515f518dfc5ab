-- A refusal has a number of 1 to 33, no two have the same, and one handed on keeps it.
use Rattle.std.proofs.Common.{ℕ, ◌≡◌, ◌≤◌, refl, sym, ap, ◌∙◌, eqb, arith}
use Rattle.std.specs.Prelude.{cond, Result, Ok, Err, IsErr, IsErrAnd}
use Rattle.refusal.specs.declared.Refusal.{Refusal}
use Rattle.refusal.specs.declared.Refusal.TheVariants.{TooManyGateways, LimitOutOfRange, EndOutOfRange, EndsEqual, WrongOrderLength, NotAnOrder, NotAPlantFile, UnknownVersion, WrongFileLength, ListTooShort, NotALeader, TooManyLinks, AlreadyLinked, NoPlaceForLink, AfterFirstPlacing, AllPlaced, NotSound, OutOfRangeUnplacedOrKept, NotAGrouping, NotTheDifference, LimitNotAllowed}
use Rattle.refusal.specs.Refusals.{number, code}

pub number-ne-0 : (e : Refusal) → number e ≡ 0 → ⊥
number-ne-0 TooManyGateways z = omega (arith, z)
number-ne-0 LimitOutOfRange z = omega (arith, z)
number-ne-0 EndOutOfRange z = omega (arith, z)
number-ne-0 EndsEqual z = omega (arith, z)
number-ne-0 WrongOrderLength z = omega (arith, z)
number-ne-0 NotAnOrder z = omega (arith, z)
number-ne-0 NotAPlantFile z = omega (arith, z)
number-ne-0 UnknownVersion z = omega (arith, z)
number-ne-0 WrongFileLength z = omega (arith, z)
number-ne-0 ListTooShort z = omega (arith, z)
number-ne-0 NotALeader z = omega (arith, z)
number-ne-0 TooManyLinks z = omega (arith, z)
number-ne-0 AlreadyLinked z = omega (arith, z)
number-ne-0 NoPlaceForLink z = omega (arith, z)
number-ne-0 AfterFirstPlacing z = omega (arith, z)
number-ne-0 AllPlaced z = omega (arith, z)
number-ne-0 NotSound z = omega (arith, z)
number-ne-0 OutOfRangeUnplacedOrKept z = omega (arith, z)
number-ne-0 NotAGrouping z = omega (arith, z)
number-ne-0 NotTheDifference z = omega (arith, z)
number-ne-0 LimitNotAllowed z = omega (arith, z)

pub number-small : (e : Refusal) → number e ≤ 33
number-small TooManyGateways = omega arith
number-small LimitOutOfRange = omega arith
number-small EndOutOfRange = omega arith
number-small EndsEqual = omega arith
number-small WrongOrderLength = omega arith
number-small NotAnOrder = omega arith
number-small NotAPlantFile = omega arith
number-small UnknownVersion = omega arith
number-small WrongFileLength = omega arith
number-small ListTooShort = omega arith
number-small NotALeader = omega arith
number-small TooManyLinks = omega arith
number-small AlreadyLinked = omega arith
number-small NoPlaceForLink = omega arith
number-small AfterFirstPlacing = omega arith
number-small AllPlaced = omega arith
number-small NotSound = omega arith
number-small OutOfRangeUnplacedOrKept = omega arith
number-small NotAGrouping = omega arith
number-small NotTheDifference = omega arith
number-small LimitNotAllowed = omega arith

-- no two have the same
refusal_of : ℕ → Refusal
refusal_of k = cond (eqb k 1) TooManyGateways (cond (eqb k 2) LimitOutOfRange (cond (eqb k 3) EndOutOfRange (cond (eqb k 4) EndsEqual (cond (eqb k 5) WrongOrderLength (cond (eqb k 6) NotAnOrder (cond (eqb k 7) NotAPlantFile (cond (eqb k 8) UnknownVersion (cond (eqb k 9) WrongFileLength (cond (eqb k 10) ListTooShort (cond (eqb k 11) NotALeader (cond (eqb k 12) TooManyLinks (cond (eqb k 20) AlreadyLinked (cond (eqb k 21) NoPlaceForLink (cond (eqb k 22) AfterFirstPlacing (cond (eqb k 24) AllPlaced (cond (eqb k 26) NotSound (cond (eqb k 30) OutOfRangeUnplacedOrKept (cond (eqb k 31) NotAGrouping (cond (eqb k 32) NotTheDifference LimitNotAllowed)))))))))))))))))))

refusal_of_number : (e : Refusal) → refusal_of (number e) ≡ e
unfolding refusal_of
refusal_of_number TooManyGateways = refl
refusal_of_number LimitOutOfRange = refl
refusal_of_number EndOutOfRange = refl
refusal_of_number EndsEqual = refl
refusal_of_number WrongOrderLength = refl
refusal_of_number NotAnOrder = refl
refusal_of_number NotAPlantFile = refl
refusal_of_number UnknownVersion = refl
refusal_of_number WrongFileLength = refl
refusal_of_number ListTooShort = refl
refusal_of_number NotALeader = refl
refusal_of_number TooManyLinks = refl
refusal_of_number AlreadyLinked = refl
refusal_of_number NoPlaceForLink = refl
refusal_of_number AfterFirstPlacing = refl
refusal_of_number AllPlaced = refl
refusal_of_number NotSound = refl
refusal_of_number OutOfRangeUnplacedOrKept = refl
refusal_of_number NotAGrouping = refl
refusal_of_number NotTheDifference = refl
refusal_of_number LimitNotAllowed = refl

pub number_one : (e f : Refusal) → number e ≡ number f → e ≡ f
number_one e f same = sym (refusal_of_number e) ∙ ap refusal_of same ∙ refusal_of_number f

-- what `?` hands on
pub handed_on : {A : Type 0} (r : Result A Refusal) (e : Refusal) → IsErr r × IsErrAnd r (λ x. x ≡ e) → code r ≡ number e
handed_on (Ok _) e p = absurd p.1
handed_on (Err x) e p = ap number p.1
