-- What an object in memory keeps of its failures.
use Rattle.myi_memfiles.specs.declared.failures.Failures.{Failures}
use Rattle.myi_memfiles.specs.Failures.{Failing, failing}

-- the calls that are to fail, how many were made and how many failed
abbrev pub failing_of : Failures → Failing
failing_of s = failing s.fail.items s.calls s.faults
