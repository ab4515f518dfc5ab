use mathlib.Core.Path.{refl, ◌∙◌}
use Rattle.refusal.proofs.Numbers.{number-ne-0, handed_on}
use Rattle.daemon.proofs.Asking.{alone-refused, alone_short, front, front', alone_settable, alone-written}
use Rattle.daemon.proofs.why_alone.Goals as goal

pub returns-in_err-why : goal.returns-in_err-why
returns-in_err-why c =
    let all = alone-refused _ _ refl refl c.in_err-why.ensures.answer _ (number-ne-0 _) in
    record { answer = handed_on _ _ c.from_residual.ensures ∙ all.0; out = all.1 }

pub returns-then-out-gateways : goal.returns-then-out-gateways
returns-then-out-gateways c =
    let all = alone_short _ _ refl refl c.in_ok-why.ensures.answer refl c.gateways.ensures _ c.if-out-gateways.true in
    record { answer = all.0; out = all.1 }

pub slice_bounds-first-end : goal.slice_bounds-first-end
slice_bounds-first-end c = (front _ _ refl refl c.in_ok-why.ensures.answer refl c.in_ok-why.ensures.counts c.in_ok-why.ensures.first).room

pub slice_bounds-with_sets-end : goal.slice_bounds-with_sets-end
slice_bounds-with_sets-end c = (front _ _ refl refl c.in_ok-why.ensures.answer refl c.in_ok-why.ensures.counts c.in_ok-why.ensures.first).long

pub slice_bounds-second-end : goal.slice_bounds-second-end
slice_bounds-second-end c = (front' _ _ refl refl c.in_ok-why.ensures.answer refl c.in_ok-why.ensures.counts c.in_ok-why.ensures.second).room

pub slice_bounds-with_sets-end-2 : goal.slice_bounds-with_sets-end-2
slice_bounds-with_sets-end-2 c = (front' _ _ refl refl c.in_ok-why.ensures.answer refl c.in_ok-why.ensures.counts c.in_ok-why.ensures.second).long

pub with_sets-requires : goal.with_sets-requires
with_sets-requires c = alone_settable _ _ refl refl c.in_ok-why.ensures.answer refl c.in_ok-why.ensures.counts c.gateways.ensures _ c.if-out-gateways.false c.in_ok-why.ensures.first c.in_ok-why.ensures.second

pub returns : goal.returns
returns c =
    let all = alone-written _ _ refl refl c.in_ok-why.ensures.answer refl c.in_ok-why.ensures.counts c.gateways.ensures _ c.if-out-gateways.false c.in_ok-why.ensures.first c.in_ok-why.ensures.second c.with_sets.ensures in
    record { answer = all.0; out = all.1 }
