use mathlib.Core.Path.{refl}
use Rattle.search.proofs.Settling.{unmarked-outcome, workspace, place_settles}
use Rattle.search.proofs.States.{none-marked}
use Rattle.search.proofs.Noting.{notable-made}
use borrow.Author.Rules.{rules}
use Rattle.search.proofs.SameWork.{ends-as}
use Rattle.search.proofs.place_unheld.Goals as goal

pub invariant_of-work : goal.invariant_of-work
invariant_of-work c = record { notable = notable-made _ (none-marked (workspace refl refl c.requires.few).unseen) c.requires.few refl }

pub settle-requires : goal.settle-requires
settle-requires c = place_settles {n = c.args.plant.now.links.n} refl refl c.gather.ensures c.requires

pub returns : goal.returns
returns c = let all = unmarked-outcome _ _ _ _ _ _ _ c.requires (workspace refl refl c.requires.few).unseen c.settle.ensures.outcome in record { holders = ends-as all.0 (search rules); moved = all.1 }
