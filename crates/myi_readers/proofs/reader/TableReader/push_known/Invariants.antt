use Rattle.std.proofs.Common.{List, ℕ}
use Rattle.myi_pack.specs.Packed.{Values}
use Rattle.myi_readers.specs.Reader.{rows_known}
use Rattle.myi_readers.proofs.SeenLemmas.{Came}
use Rattle.myi_readers.proofs.reader.TableReader.push_known.Given as goal

abbrev pub invariant-loop-i : goal.invariant-loop-i
invariant-loop-i l = Came {A = ℕ × Values} (λ (rows : List (ℕ × Values)). rows) l.self.defs l.self.rows.rows.file.counts.length l.below l.i l.at (rows_known l.self) l.fn.rows.items l.rows.items
