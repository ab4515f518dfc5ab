use mathlib.Core.Path.{ap, ◌∙◌}
use mathlib.Core.Bool.{not}
use Rattle.refusal.proofs.Numbers.{number-ne-0, handed_on}
use Rattle.plant_file.proofs.Refusing.{file_header, file_links_lem, file_order_lem, file_limits_lem, file_fine}
use Rattle.plant_file.proofs.Loading.{load_unindexed, load_orderly, load-limited, load-whole}
use Rattle.plant_file.proofs.load_indexed.Goals as goal

pub returns-in_err-of_header-clause-answer : goal.returns-in_err-of_header-clause-answer
returns-in_err-of_header-clause-answer c = handed_on _ _ c.from_residual.ensures ∙ file_header _ c.in_err-of_header.ensures (number-ne-0 _)

pub take_links-requires : goal.take_links-requires
take_links-requires c = load_unindexed _ c.requires c.in_ok-of_header.ensures

pub returns-in_err-take_links-clause-answer : goal.returns-in_err-take_links-clause-answer
returns-in_err-take_links-clause-answer c = handed_on _ _ c.from_residual-in_err-take_links.ensures ∙ file_links_lem _ c.in_ok-of_header.ensures c.in_err-take_links.ensures.answer (number-ne-0 _)

pub take_order-requires : goal.take_order-requires
take_order-requires c = load_orderly _ c.requires c.in_ok-of_header.ensures

pub returns-in_err-take_order-clause-answer : goal.returns-in_err-take_order-clause-answer
returns-in_err-take_order-clause-answer c =
    handed_on _ _ c.from_residual-in_err-take_order.ensures ∙ file_order_lem _ c.in_ok-of_header.ensures c.in_ok-take_links.ensures.answer c.in_err-take_order.ensures.answer (number-ne-0 _)

pub with_limits-requires : goal.with_limits-requires
with_limits-requires c = load-limited _ c.requires c.in_ok-of_header.ensures

pub returns-then-not-with_limits-clause-answer : goal.returns-then-not-with_limits-clause-answer
returns-then-not-with_limits-clause-answer c =
    file_limits_lem _ c.in_ok-of_header.ensures c.in_ok-take_links.ensures.answer c.in_ok-take_order.ensures.answer c.with_limits.ensures.answer (ap not c.if-not-with_limits.true)

pub returns : goal.returns
returns c =
    record {
      answer = file_fine _ c.in_ok-of_header.ensures c.in_ok-take_links.ensures.answer c.in_ok-take_order.ensures.answer c.with_limits.ensures.answer (ap not c.if-not-with_limits.false);
      lists = load-whole c.in_ok-take_links.ensures.lists c.take_order.ensures.order c.with_limits.ensures.limits;
    }
