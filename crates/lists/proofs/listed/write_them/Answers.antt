use Rattle.lists.proofs.Listing.{listing_start, listing_place, listing_more, listing_same, listing_end}
use Rattle.lists.proofs.listed.write_them.Goals as goal
use Rattle.lists.proofs.listed.write_them.Goals.{then-test, else-test}

pub loop-u-init : goal.loop-u-init
loop-u-init g c = listing_start _ _ _

pub bounds-out-count : goal.bounds-out-count
bounds-out-count g c = listing_place _ _ _ c.loop-u.invariant c.loop-u-test.true c.test.ensures c.requires.room c.if-test.true

pub loop-u-preserved : goal.loop-u-preserved
loop-u-preserved g c =
    elim c.if-test.branch [
      | then-test k ↦ rw (k.out-is, k.count-is) (listing_more _ _ _ c.loop-u.invariant c.loop-u-test.true c.test.ensures k.if-test.true)
      | else-test k ↦ rw (k.out-is, k.count-is) (listing_same _ _ _ c.loop-u.invariant c.loop-u-test.true c.test.ensures k.if-test.false)
    ]

pub returns : goal.returns
returns g c = listing_end _ _ _ c.requires.room c.loop-u.invariant c.loop-u-test.false
