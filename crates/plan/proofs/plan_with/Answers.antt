use mathlib.Core.Path.{refl, sym, ◌∙◌}
use borrow.Author.Rules.{rules}
use Rattle.std.proofs.lemmas.Result.{IfOk-from_err}
use Rattle.refusal.proofs.Numbers.{number-ne-0, handed_on}
use Rattle.plan.proofs.Refusing.{plan_file, plan_called, plan-refused, plan-accepted}
use Rattle.plan.proofs.ReadingLists.{loaded-ends, loaded_lists, called_readable}
use Rattle.plan.proofs.plan_with.Goals as goal

pub load_indexed-requires : goal.load_indexed-requires
load_indexed-requires c = record { unlinked = c.requires; gateways = search rules; limited = search rules }

pub returns-in_err-load_indexed : goal.returns-in_err-load_indexed
returns-in_err-load_indexed c =
    let number = plan_file _ _ _ _ c.in_err-load_indexed.ensures.answer (number-ne-0 _) in
    let lists = plan-refused _ _ _ _ _ number (number-ne-0 _) in
    record { answer = handed_on _ _ c.from_residual.ensures ∙ number; moved = IfOk-from_err _ _ c.from_residual.ensures.0; leaders = lists.0; choke = lists.1 }

pub returns-in_err-check_call : goal.returns-in_err-check_call
returns-in_err-check_call c =
    let number = plan_called _ _ _ _ c.in_ok-load_indexed.ensures.answer refl c.gateways-n.ensures c.is_short.ensures c.in_err-check_call.ensures in
    let lists = plan-refused _ _ _ _ _ number (number-ne-0 _) in
    record { answer = handed_on _ _ c.from_residual-in_err-check_call.ensures ∙ number; moved = IfOk-from_err _ _ c.from_residual-in_err-check_call.ensures.0; leaders = lists.0; choke = lists.1 }

pub new-loaded-requires : goal.new-loaded-requires
new-loaded-requires c = (loaded-ends _ (sym c.in_ok-load_indexed.ensures.answer) c.in_ok-load_indexed.ensures.lists, loaded_lists _ (sym c.in_ok-load_indexed.ensures.answer) c.in_ok-load_indexed.ensures.lists)

pub read_lists-requires : goal.read_lists-requires
read_lists-requires c = rw c.new-loaded.ensures (called_readable _ _ (plan_called _ _ _ _ c.in_ok-load_indexed.ensures.answer refl c.gateways-n.ensures c.is_short.ensures c.in_ok-check_call.ensures) refl)

pub returns : goal.returns
returns c =
    let number = plan_called _ _ _ _ c.in_ok-load_indexed.ensures.answer refl c.gateways-n.ensures c.is_short.ensures c.in_ok-check_call.ensures in
    let all = plan-accepted _ _ _ _ _ number refl (rw c.new-loaded.ensures at c.read_lists.ensures.leaders) (rw c.new-loaded.ensures at c.read_lists.ensures.choke) (rw c.new-loaded.ensures at c.read_lists.ensures.moved) in
    record { answer = number; moved = all.0; leaders = all.1.0; choke = all.1.1 }
