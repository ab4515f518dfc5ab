-- Each return is one case of turned.
use Rattle.stars.proofs.PartnerPass.{turned_none, turned_more, turned_two}
use Rattle.stars.proofs.groups_of_two.Pairs.rule_five.Goals as goal

pub returns-then-self-u : goal.returns-then-self-u
returns-then-self-u c = turned_none c.args.self.now c.if-self-u.true

pub returns-then-self-w : goal.returns-then-self-w
returns-then-self-w c = turned_more c.args.self.now c.if-self-u.false c.entry-w.ensures c.if-self-w.true

pub returns : goal.returns
returns c = turned_two c.args.self.now c.if-self-u.false c.entry-w.ensures c.if-self-w.false c.pair_leader.ensures
