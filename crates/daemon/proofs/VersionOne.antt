-- The bytes for a file of version 1: the claims about them, by T.
use Rattle.plant_file.specs.PlantFile.{file_n}
use Rattle.plan.specs.VersionOne.{OneWhy}
use Rattle.plan.proofs.VersionOne.{plan-one, one_why}
use Rattle.daemon.specs.Claim.{BytesPlan, BytesRecursive}
use Rattle.daemon.specs.VersionOne.{BytesOnePlan, BytesOneWhy}
use Rattle.daemon.proofs.Claim.{bytes-plan, bytes_recursive}
use Rattle.daemon.proofs.WhyClaim.{counts_are, answered}

pub bytes-one-plan : BytesOnePlan
unfolding BytesOnePlan BytesPlan BytesRecursive
bytes-one-plan file out one z = (plan-one file one _ _ (bytes-plan file out z).0, plan-one file one _ _ ((bytes_recursive file out).0 z).plan)

pub bytes_one_why : BytesOneWhy
unfolding BytesOneWhy OneWhy
bytes_one_why file v out one z = rw ((counts_are file v out z).0, (counts_are file v out z).1) (one_why file v (file_n file) (file_n file) one (answered file v out z))
