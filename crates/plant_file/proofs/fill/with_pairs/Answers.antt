use mathlib.Core.Path.{refl, ap, ◌∙◌}
use Prim.Native.Nat.{ℕ}
use mathlib.Core.List.{List, ◌++◌}
use native.Mathlib.Omega.{arith}
use lib.ListN.{drop}
use Rattle.std.proofs.lemmas.List.{length-take-le}
use Rattle.packing.proofs.Lists.{list-start, list-turn, list-end, list_of-length, written-whole}
use Rattle.packing.specs.Lists.{written}
use Rattle.plant_file.specs.Pre.{pair_limits}
use Rattle.packing.specs.Count.{all}
use Rattle.packing.proofs.Tests.{all_more, all_end}
use Rattle.plant_file.proofs.FilledLimits.{byte_allowed, pair-entry, byte-entry}
use Rattle.plant_file.proofs.fill.with_pairs.Goals as goal

pub loop-v-init : goal.loop-v-init
unfolding all
loop-v-init c = record { listed = list-start _ _ _; tested = refl }

pub loop-v-preserved : goal.loop-v-preserved
loop-v-preserved c =
    let n = c.gateways-n.ensures in
    let long = length-take-le c.gateways-n.result c.args.limits.now (omega (arith, n, c.requires)) in
    let m = c.link_count.ensures in
    let byte = c.byte-written.ensures in
    record {
      listed = list-turn _ _ _ (omega (arith, n, long)) c.loop-v.invariant.listed (omega (arith, n, long, c.loop-v-test.true)) (pair-entry _ _ c.limit-t.ensures m n c.byte-kind.ensures byte c.effective.ensures);
      tested = all_more _ (byte_allowed c.args.file.now) _ _ _ c.loop-v.invariant.tested (byte-entry _ _ m n byte c.is_allowed-ok.ensures) refl;
    }

pub returns : goal.returns
unfolding pair_limits written
returns c =
    let n = c.gateways-n.ensures in
    let long = length-take-le c.gateways-n.result c.args.limits.now (omega (arith, n, c.requires)) in
    let read = c.loop-v.invariant in
    let front = list-end _ _ _ read.listed (omega (arith, n, long, c.loop-v-test.false)) ∙ written-whole _ _ _ (list_of-length _ _) (omega (arith, n, long)) in
    record {
      answer = all_end _ (byte_allowed c.args.file.now) _ _ read.listed.upto (omega (arith, n, long, c.loop-v-test.false)) read.tested;
      limits = ap (λ (l : List ℕ). l ++ drop c.gateways-n.result c.args.limits.now) front ∙ rw n refl;
    }
