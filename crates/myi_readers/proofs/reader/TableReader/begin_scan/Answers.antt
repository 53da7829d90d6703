use Rattle.std.proofs.Common.{ℕ, List, false, ap, ◌∙◌}
use Rattle.myi_chain.specs.ScanModel.{fresh_scan}
use Rattle.myi_state.specs.declared.counts.Counts.{Counts}
use Rattle.myi_readers.specs.declared.reader.TableReader.{TableReader}
use Rattle.myi_readers.proofs.ScanLemmas.{begins}
use Rattle.myi_readers.proofs.reader.TableReader.begin_scan.Goals as goal

pub returns-clause-all : goal.returns-clause-all
returns-clause-all c = λ m own s h.
    let r : TableReader = c.args.self.now in
    begins r.rows r.defs c.in_ok-scan.scan own s m c.standing_files_are_read.ensures.rows c.requires.ready.sound c.requires.ready.defs
    (c.in_ok-scan.ensures ∙ ap (λ (n : List ℕ). fresh_scan n r.defs false c.counts.result.length) (c.as_str.ensures.value ∙ c.requires.ready.named) ∙ ap (λ (k : Counts). fresh_scan r.rows.rows.file.name r.defs false k.length) c.counts.ensures) h
