-- With a file of version 1 each gateway has T.
use Rattle.plant_file.proofs.VersionOne.{limits-common}
use Rattle.checker.specs.Check.{check_refusal}
use Rattle.checker.specs.VersionOne.{OneChecked}

pub one_checked : OneChecked
unfolding OneChecked check_refusal
one_checked file leaders choke one = rw (limits-common file one)
