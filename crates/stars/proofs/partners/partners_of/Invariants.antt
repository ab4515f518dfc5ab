-- Of each leader it is known which of the first w are its members.
use Rattle.packing.specs.Plant.{at}
use Rattle.stars.proofs.PartnerPass.{Pairing}
use Rattle.stars.proofs.partners.partners_of.Given as goal

abbrev pub invariant-loop-w : goal.invariant-loop-w
invariant-loop-w l = Pairing l.n (at l.groups) l.partners l.w
