-- What a call answers by what its steps gave. "A refused call returns its number and the small part as it came" (01, "The record"); an accepted one 0 and the changed small part.
use Rattle.std.specs.Prelude.{ℕ, Result, Ok, Err}
use Rattle.refusal.specs.declared.Refusal.{Refusal}
use Rattle.refusal.specs.Refusals.{number}
use Rattle.planner.specs.declared.Small.{Small}
use Rattle.planner.specs.declared.Answer.{Answer}
use Rattle.planner.specs.declared.PlaceAnswer.{PlaceAnswer}

abbrev pub answered : Small → Result Small Refusal → Answer
answered before (Ok after) = record { refusal = 0; small = after }
answered before (Err e) = record { refusal = number e; small = before }

-- .. of a placing, with "the number of gateways whose holder changed" (02, change 4): none on refusal
abbrev pub place_answered : Small → Result (Small × ℕ) Refusal → PlaceAnswer
place_answered before (Ok (after, moved)) = record { refusal = 0; small = after; moved = moved }
place_answered before (Err e) = record { refusal = number e; small = before; moved = 0 }
