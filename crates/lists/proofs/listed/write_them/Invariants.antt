use Rattle.lists.proofs.Listing.{Listing}
use Rattle.lists.proofs.listed.write_them.Given as goal

abbrev pub invariant-loop-u : goal.invariant-loop-u
invariant-loop-u g l = Listing (goal.F-post g l.test) l.n l.initial.out l.out l.count l.u
