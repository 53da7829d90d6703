-- Which tail a job works on.
use Rattle.myi_tail.specs.Seats.{TailId}
use Rattle.myi_tail_tests.specs.declared.job.Job.{Job}
use Rattle.myi_tail_tests.specs.declared.job.Job.TheVariants as job

abbrev pub tail_of : Job → TailId
tail_of (job.Append a) = a.appender.tail
tail_of (job.Read r) = r.reader.tail
