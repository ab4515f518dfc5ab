use borrow.Author.Rules.{rules}
use mathlib.Core.Path.{refl, ◌∙◌}
use Rattle.refusal.proofs.Numbers.{number-ne-0, handed_on}
use Rattle.plant_file.proofs.Walks.{walk-start, walk-read, walk-on, walk-end}
use Rattle.plant_file.proofs.LinksTaken.{turn_roots, turn-start, turn-refused, turn_on, turn_end}
use Rattle.plant_file.proofs.indexed.take_links.Goals as goal

pub with_roots-requires : goal.with_roots-requires
with_roots-requires c = turn_roots _ _ _ c.requires refl

pub loop-a-init : goal.loop-a-init
loop-a-init c =
    record {
      walks = walk-start c.new-a-items.ensures c.into_iter-a-iterator.ensures.into_iter_gives refl;
      turn = turn-start _ _ _ c.requires _ c.gateways.ensures refl refl refl c.with_roots.ensures;
      same_links = refl;
      same_next = refl;
    }

pub loop-a-preserved : goal.loop-a-preserved
loop-a-preserved c =
    let steps = c.in-Some.ensures.steps in
    let here = c.loop-a.invariant in
    let took = c.in_ok-take.ensures in
    record {
      walks = walk-on _ here.walks steps took.taken.count;
      turn = turn_on _ _ _ c.requires _ here.turn (walk-read _ here.walks steps) took.answer _ refl took.taken;
      same_links = took.same_lists.0 ∙ here.same_links;
      same_next = took.same_lists.1 ∙ here.same_next;
    }

pub returns-in_err-take-clause-answer : goal.returns-in_err-take-clause-answer
returns-in_err-take-clause-answer c =
    let here = c.loop-a.invariant in
    handed_on _ _ c.from_residual.ensures ∙ turn-refused _ _ _ c.requires _ here.turn (walk-read _ here.walks c.in-Some.ensures.steps) c.in_err-take.ensures.answer (number-ne-0 _)

pub returns-clause-answer : goal.returns-clause-answer
returns-clause-answer c = (turn_end _ _ _ c.requires _ c.loop-a.invariant.turn (walk-end _ c.loop-a.invariant.walks c.in-None.ensures.steps)).0

pub returns-clause-lists : goal.returns-clause-lists
returns-clause-lists c = let done = (turn_end _ _ _ c.requires _ c.loop-a.invariant.turn (walk-end _ c.loop-a.invariant.walks c.in-None.ensures.steps)).1 in search rules
