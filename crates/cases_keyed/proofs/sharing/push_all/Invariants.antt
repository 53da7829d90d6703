use Rattle.myi_readers.specs.Reader.{IsReader}
use Rattle.cases_keyed.proofs.sharing.push_all.Given as goal

abbrev pub invariant-loop-call : goal.invariant-loop-call
invariant-loop-call l = IsReader l.shared.reader
