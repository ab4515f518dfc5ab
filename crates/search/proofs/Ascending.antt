-- What joins the queue ascends: both lists are of those below n with a property.
use mathlib.Core.Bool.{not}
use lib.Dec.{eqb}
use borrow.Author.Tests.{eqb-true, eq-eqb, not-true}
use Rattle.packing.specs.Plant.{at}
use Rattle.packing.specs.Holders.{held}
use Rattle.packing.proofs.Lists.{lists_where}
use Rattle.packing.proofs.Tests.{not_i}
use Rattle.search.specs.Search.{held_by}
use Rattle.search.specs.ChokeSet.{without_holder}
use Rattle.search.specs.Ascending.{HeldAscend, UnheldAscend}

pub held_ascend : HeldAscend
unfolding HeldAscend held_by
held_ascend n hs u = lists_where n (λ v. eqb (at hs v) u) (λ v. eqb-true (at hs v) u) (λ v. eq-eqb (at hs v) u)

pub unheld_ascend : UnheldAscend
unfolding UnheldAscend without_holder
unheld_ascend n hs = lists_where n (λ v. not (held n (at hs) v)) (λ v. not-true (held n (at hs) v)) (λ v. not_i (held n (at hs) v))
