use mathlib.Core.Path.{refl}
use Rattle.refusal.proofs.Numbers.{number-ne-0}
use Rattle.listing.proofs.Texts.{write_refused, write_listing}
use Rattle.listing.proofs.text.write.Goals as goal

pub returns-in-Ok : goal.returns-in-Ok
returns-in-Ok c =
    let all = write_listing _ _ refl refl c.in-Ok.ensures.answer refl c.gateways.ensures c.limit.ensures c.in-Ok.ensures.leaders c.in-Ok.ensures.choke c.listing.ensures.count c.listing.ensures.out in
    record { count = all.0; out = all.1 }

pub returns-in-Err : goal.returns-in-Err
returns-in-Err c =
    let all = write_refused _ _ refl refl c.in-Err.ensures.answer (number-ne-0 _) (rw c.number.ensures at c.refused.ensures.count) (rw c.number.ensures at c.refused.ensures.out) in
    record { count = all.0; out = all.1 }
