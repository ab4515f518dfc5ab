use mathlib.Core.Path.{refl, sym, ◌∙◌}
use native.Mathlib.Omega.{arith}
use Rattle.packing.specs.Plant.{ENDS}
use Rattle.plant_file.proofs.Loading.{lent-unlinked}
use Rattle.std.proofs.lemmas.Result.{IfOk-from_err}
use Rattle.refusal.proofs.Numbers.{number-ne-0, handed_on}
use Rattle.plan.proofs.Asking.{asked_file, asked_beyond, asked_refused, asked_answered}
use Rattle.plan.proofs.ReadingLists.{loaded-ends, loaded_lists}
use borrow.Author.Rules.{rules}
use Rattle.plan.proofs.why.why_lists.Goals as goal

pub load_indexed-requires : goal.load_indexed-requires
load_indexed-requires c = record { unlinked = lent-unlinked _ ENDS (λ l. omega (arith, l)) (omega arith) refl refl; gateways = search rules; limited = search rules }

pub returns-in_err-load_indexed : goal.returns-in_err-load_indexed
returns-in_err-load_indexed c =
    let number = asked_file _ _ _ _ c.in_err-load_indexed.ensures.answer (number-ne-0 _) in
    let lists = asked_refused _ _ _ _ number (number-ne-0 _) in
    record { answer = handed_on _ _ c.from_residual.ensures ∙ number; counts = IfOk-from_err _ _ c.from_residual.ensures.0; first = lists.0; second = lists.1 }

pub returns-then-gateways-gateway-clause-answer : goal.returns-then-gateways-gateway-clause-answer
returns-then-gateways-gateway-clause-answer c = asked_beyond _ _ _ _ c.in_ok-load_indexed.ensures.answer refl c.gateways.ensures c.if-gateways-gateway.true

pub returns-then-gateways-gateway-clause-first : goal.returns-then-gateways-gateway-clause-first
returns-then-gateways-gateway-clause-first c = (asked_refused _ _ _ _ (returns-then-gateways-gateway-clause-answer c) (λ z. omega (arith, z))).0

pub returns-then-gateways-gateway-clause-second : goal.returns-then-gateways-gateway-clause-second
returns-then-gateways-gateway-clause-second c = (asked_refused _ _ _ _ (returns-then-gateways-gateway-clause-answer c) (λ z. omega (arith, z))).1

pub new-loaded-requires : goal.new-loaded-requires
new-loaded-requires c = (loaded-ends _ (sym c.in_ok-load_indexed.ensures.answer) c.in_ok-load_indexed.ensures.lists, loaded_lists _ (sym c.in_ok-load_indexed.ensures.answer) c.in_ok-load_indexed.ensures.lists)

pub returns : goal.returns
returns c =
    let all = asked_answered _ _ _ _ (sym c.in_ok-load_indexed.ensures.answer) _ (rw c.new-loaded.ensures at c.ask_whole.ensures.answer) (rw c.new-loaded.ensures at c.ask_whole.ensures.counts) (rw c.new-loaded.ensures at c.ask_whole.ensures.first, rw c.new-loaded.ensures at c.ask_whole.ensures.second) in
    record { answer = all.0; counts = all.1.0; first = all.1.1.0; second = all.1.1.1 }
