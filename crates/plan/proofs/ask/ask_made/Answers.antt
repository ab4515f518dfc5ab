use Rattle.plan.proofs.ReadingLists.{asking_searchable, asking_answered}
use Rattle.plan.proofs.ask.ask_made.Goals as goal

pub why_placed-requires : goal.why_placed-requires
why_placed-requires c = asking_searchable _ c.args.loaded.now.lists c.args.loaded.now.gateways c.make.ensures.holders

pub returns : goal.returns
returns c =
    let all = asking_answered _ c.args.loaded.now.lists c.args.loaded.now.gateways c.make.ensures.holders _ _ _ _ c.why_placed.ensures.refusal c.why_placed.ensures.counts (c.why_placed.ensures.first, c.why_placed.ensures.second) in
    record { answer = all.0; counts = all.1.0; first = all.1.1.0; second = all.1.1.1 }
