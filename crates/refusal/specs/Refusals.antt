-- The papers' number of each refusal (01, "Refused for what was handed in" and "Refused for where the record is"; 02, change 5: 30; change 6: 31, 32; change 8: 33).
use Rattle.std.specs.Prelude.{ℕ, Result, Ok, Err}
use Rattle.refusal.specs.declared.Refusal.{Refusal}
use Rattle.refusal.specs.declared.Refusal.TheVariants.{TooManyGateways, LimitOutOfRange, EndOutOfRange, EndsEqual, WrongOrderLength, NotAnOrder, NotAPlantFile, UnknownVersion, WrongFileLength, ListTooShort, NotALeader, TooManyLinks, AlreadyLinked, NoPlaceForLink, AfterFirstPlacing, AllPlaced, NotSound, OutOfRangeUnplacedOrKept, NotAGrouping, NotTheDifference, LimitNotAllowed}

abbrev pub number : Refusal → ℕ
number TooManyGateways = 1
number LimitOutOfRange = 2
number EndOutOfRange = 3
number EndsEqual = 4
number WrongOrderLength = 5
number NotAnOrder = 6
number NotAPlantFile = 7
number UnknownVersion = 8
number WrongFileLength = 9
number ListTooShort = 10
number NotALeader = 11
number TooManyLinks = 12
number AlreadyLinked = 20
number NoPlaceForLink = 21
number AfterFirstPlacing = 22
number AllPlaced = 24
number NotSound = 26
number OutOfRangeUnplacedOrKept = 30
number NotAGrouping = 31
number NotTheDifference = 32
number LimitNotAllowed = 33

-- what a call answers, as a number: 0 stands for accepted
abbrev pub code : {A : Type 0} → Result A Refusal → ℕ
code (Ok _) = 0
code (Err e) = number e
