use Rattle.std.proofs.Common.{◌+◌, ◌-◌}
use Rattle.cases_tables.proofs.scans.scan.Given as goal

abbrev pub decreases-loop-out : goal.decreases-loop-out
decreases-loop-out l = l.scanned.scan.end - l.scanned.scan.place + l.scanned.faults
