use Rattle.report.specs.Text.{line}
use Rattle.report.proofs.Puts.{put_then, near_first, near_next}
use Rattle.report.proofs.put.Text.line.Goals as goal

pub bytes-requires : goal.bytes-requires
unfolding line
bytes-requires g c = near_first _ _ (near_first _ _ c.requires.near.2)

pub numbers-requires-clause-near : goal.numbers-requires-clause-near
unfolding line
numbers-requires-clause-near g c = (c.requires.near.0, c.requires.near.1, near_next _ c.bytes.ensures (near_first _ _ c.requires.near.2))

pub byte-requires : goal.byte-requires
unfolding line
byte-requires g c = near_next _ (put_then c.bytes.ensures (c.numbers.ensures _ c.requires.near.1)) c.requires.near.2

pub returns : goal.returns
unfolding line
returns g c = λ p tells. put_then (put_then c.bytes.ensures (c.numbers.ensures p tells)) c.byte.ensures
