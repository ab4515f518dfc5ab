use mathlib.Core.Path.{refl, sym}
use lib.Seq.{length-take-le}
use Rattle.packing.specs.Plant.{first_links}
use Rattle.sound.proofs.Searchable.{searchable-holds, sound_searchable}
use Rattle.planner.proofs.Next.{checked, sound_joining, sound_index}
use Rattle.violator.proofs.WhyPlaced.{why_unsound, why_looked}
use Rattle.violator.proofs.try_alone.Goals as goal

pub returns-in_err-check : goal.returns-in_err-check
returns-in_err-check c = let all = why_unsound _ _ _ _ _ _ c.from_residual.ensures c.in_err-check.ensures in record { answer = all.0; first = all.1.0; second = all.1.1 }

pub slice_bounds-ends-end : goal.slice_bounds-ends-end
slice_bounds-ends-end c = sym (length-take-le _ _ (checked _ c.in_ok-check.ensures).links-long)

pub index_of-next-requires : goal.index_of-next-requires
unfolding first_links
index_of-next-requires c = sound_joining _ (checked _ c.in_ok-check.ensures) refl

pub invariant_of-links : goal.invariant_of-links
unfolding first_links
invariant_of-links c = record { index = sound_index _ (checked _ c.in_ok-check.ensures) refl c.index_of-next.ensures }

pub why_placed-requires : goal.why_placed-requires
why_placed-requires c = searchable-holds (sound_searchable (checked _ c.in_ok-check.ensures))

pub returns : goal.returns
unfolding first_links
returns c =
    let all = why_looked _ _ _ _ _ c.in_ok-check.ensures c.why_placed.ensures.refusal c.why_placed.ensures.counts (c.why_placed.ensures.first, c.why_placed.ensures.second) in
    record { answer = all.0; first = all.1.0; second = all.1.1 }
