use Rattle.chains.proofs.Along.{follows-on}
use Rattle.chains.proofs.chain.ChainIterator.next.Goals as goal

pub returns-clause-goes : goal.returns-clause-goes
returns-clause-goes c = follows-on _ c.requires c.if-self.false c.next_end-self.ensures c.next_end-self.type_inv
