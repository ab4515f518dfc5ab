use Rattle.std.proofs.Common.{rules, tests, ◌∙◌, refl, arith, ℕ}
use Rattle.std.proofs.lemmas.Iterator.{YieldsList-from_range}
use Rattle.std.proofs.lemmas.Iterator.Search.{any_from_yields_List}
use lib.Dec.{eqb}
use Rattle.packing.specs.Plant.{at}
use Rattle.violator.specs.WhyAlone.{is_placed}
use Rattle.packing.proofs.Ranges.{any_range}
use Rattle.violator.proofs.is_placed.Goals as goal

pub returns : goal.returns
unfolding is_placed
returns c =
    let a = any_from_yields_List (λ (i : ℕ). eqb (at c.args.order.now i) c.args.v) _ _ c.any.result c.any.ensures.ran (YieldsList-from_range 0 c.args.k c.args.k refl (omega arith)) (λ x b q k. search (rules, tests)) in
    a ∙ any_range _ _
