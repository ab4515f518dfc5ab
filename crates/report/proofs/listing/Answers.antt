-- The four lines put one after the other; listing-near bounds the whole.
use mathlib.Core.Path.{refl}
use lib.Dec.{eqb}
use borrow.Author.Rules.{rules}
use Rattle.packing.specs.Plant.{at}
use Rattle.packing.specs.Grouping.{is_alone}
use Rattle.report.specs.Text.{listing, alone_line, choke_line}
use Rattle.report.proofs.Puts.{put_then, put_long, put_whole, near_first, near_next}
use Rattle.report.proofs.Lengths.{listing-near}
use Rattle.report.proofs.listing.Goals as goal

pub one-requires : goal.one-requires
unfolding listing
one-requires c = near_first _ _ (near_first _ _ (near_first _ _ (listing-near _ _ _ c.args.choke.now refl c.ranges.n.fits)))

pub leads-requires : goal.leads-requires
unfolding listing
leads-requires c = near_next _ c.one.ensures (near_first _ _ (near_first _ _ (listing-near _ _ _ c.args.choke.now refl c.ranges.n.fits)))

pub line-requires-clause-near : goal.line-requires-clause-near
unfolding listing alone_line
line-requires-clause-near c =
    (is_alone (at c.args.leaders.now), λ v b k e. search rules, near_next _ (put_then c.one.ensures c.leads.ensures) (near_first _ _ (listing-near _ _ _ c.args.choke.now refl c.ranges.n.fits)))

pub line-requires-2-clause-near : goal.line-requires-2-clause-near
unfolding listing alone_line choke_line
line-requires-2-clause-near c =
    (λ v. eqb (at c.args.choke.now v) 1, λ v b k e. search rules, near_next _ (put_then (put_then c.one.ensures c.leads.ensures) (c.line.ensures (is_alone (at c.args.leaders.now)) (λ v b k e. search rules))) (listing-near _ _ _ c.args.choke.now refl c.ranges.n.fits))

pub returns : goal.returns
unfolding listing alone_line choke_line
returns c =
    let f = put_then (put_then (put_then c.one.ensures c.leads.ensures) (c.line.ensures (is_alone (at c.args.leaders.now)) (λ v b k e. search rules))) (c.line-2.ensures (λ v. eqb (at c.args.choke.now v) 1) (λ v b k e. search rules)) in
    let s = f.lent in record { count = put_long refl f; out = put_whole refl f (search rules) }
