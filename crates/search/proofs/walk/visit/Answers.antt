use mathlib.Core.Path.{◌∙◌, refl}
use Rattle.chains.proofs.Along.{along_on, along_neighbour, along_next}
use Rattle.chains.proofs.LinkMore.{index_told}
use Rattle.search.proofs.SameWork.{same_lists, same_then, back_then}
use Rattle.search.proofs.Looks.{visit-start, visit_ready, visit_neighbour, visit-turn, visit-ends, visit_out}
use Rattle.search.proofs.walk.visit.Goals as goal

pub loop-u-init : goal.loop-u-init
loop-u-init c = rw c.into_iter-u-iterator.ensures.into_iter_gives (record { along = record { links = refl; index = refl }; state = visit-start _ _ _ _ _ _ _ _ (index_told c.requires.0 c.args.plant.now.links.index) c.requires.1 c.first_end-end.ensures; noted = refl; same = same_lists })

pub look-requires : goal.look-requires
look-requires c =
    let index = index_told c.requires.0 c.args.plant.now.links.index in (
      visit_neighbour _ _ _ _ _ _ _ _ index c.requires.1 c.loop-u.invariant.state c.in-Some.ensures.steps.gives.0 (along_neighbour c.loop-u.invariant.along c.in-Some.ensures.steps),
      c.loop-u.invariant.state.same.1 ∙ c.requires.0,
      visit_ready _ _ _ _ _ _ _ _ index c.requires.1 c.loop-u.invariant.state,
    )

pub returns-in_err-look : goal.returns-in_err-look
returns-in_err-look c = record {
  state = rw c.from_residual.ensures (visit-ends _ _ _ _ _ _ _ _ (index_told c.requires.0 c.args.plant.now.links.index) c.requires.1 c.loop-u.invariant.state c.in-Some.ensures.steps.gives.0 (along_neighbour c.loop-u.invariant.along c.in-Some.ensures.steps) c.look.ensures.state c.in_err-look.was);
  marks = back_then c.args.work.now c.loop-u.work c.look.new.work c.loop-u.invariant.noted c.look.ensures.marks;
  same = same_then c.loop-u.invariant.same c.look.ensures.same;
}

pub loop-u-preserved : goal.loop-u-preserved
loop-u-preserved c = record {
  along = along_on c.loop-u.invariant.along c.in-Some.ensures.steps;
  state = visit-turn _ _ _ _ _ _ _ _ (index_told c.requires.0 c.args.plant.now.links.index) c.requires.1 c.loop-u.invariant.state c.in-Some.ensures.steps.gives.0 (along_neighbour c.loop-u.invariant.along c.in-Some.ensures.steps) c.look.ensures.state c.in_ok-look.was
      (c.look.ensures.same.places, c.look.ensures.same.marks) (along_next c.loop-u.invariant.along c.in-Some.ensures.steps);
  noted = back_then c.args.work.now c.loop-u.work c.look.new.work c.loop-u.invariant.noted c.look.ensures.marks;
  same = same_then c.loop-u.invariant.same c.look.ensures.same;
}

pub returns : goal.returns
returns c = record { state = visit_out _ _ _ _ _ _ _ _ (index_told c.requires.0 c.args.plant.now.links.index) c.requires.1 c.loop-u.invariant.state c.in-None.ensures.steps.gives; marks = c.loop-u.invariant.noted; same = c.loop-u.invariant.same }
