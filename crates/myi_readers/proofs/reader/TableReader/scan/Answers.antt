use Rattle.std.proofs.Common.{subst}
use Rattle.myi_defs.specs.declared.types.Defs.{Defs}
use Rattle.myi_state.specs.Sound.{IsState}
use Rattle.myi_readers.specs.declared.reader.TableReader.{TableReader}
use Rattle.myi_readers.specs.Reader.{rows_known}
use Rattle.myi_readers.proofs.ScanLemmas.{file_ends}
use Rattle.myi_readers.proofs.SeenLemmas.{all_seen}
use Rattle.myi_readers.proofs.reader.TableReader.scan.Goals as goal

pub returns-clause-rows : goal.returns-clause-rows
returns-clause-rows g c = λ m held own base h known are.
    let r : TableReader = c.args.self.now in
    let state : IsState r.defs base = subst (λ (d : Defs). IsState d base) c.requires.ready.defs h.table.state in
    all_seen r.defs base known (rows_known r) r.rows.rows.file.counts.length c.args.snap.now c.in_ok-rows.rows.items c.push_known.new.rows.items c.requires.ready.sound state are.packed are.fit (file_ends r.rows own base m h)
    (c.in_ok-rows.ensures.rows m held own base h) c.in_ok-push_known.ensures
