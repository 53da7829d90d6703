-- The part of a sharing that a job works on.
use Rattle.myi_share_tests.specs.Parts.{Part}
use Rattle.myi_share_tests.specs.declared.job.Job.{Job}
use Rattle.myi_share_tests.specs.declared.job.Job.TheVariants as job

abbrev pub part_of : Job → Part
part_of (job.Put p) = p
part_of (job.Read r) = r
