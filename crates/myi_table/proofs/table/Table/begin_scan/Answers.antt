use Rattle.std.proofs.Common.{◌≡◌, ℕ, List, false, sym, ap, subst, ◌∙◌}
use Rattle.myi_defs.specs.Sound.{IsSound}
use Rattle.myi_chain.specs.ScanModel.{fresh_scan}
use Rattle.myi_state.specs.declared.counts.Counts.{Counts}
use Rattle.myi_opening.specs.Names.{rows_file}
use Rattle.myi_table.specs.Table.{OpenTable, defs_in}
use Rattle.myi_table.proofs.ScanLemmas.{begins}
use Rattle.myi_table.proofs.table.Table.begin_scan.Goals as goal

pub returns-clause-all : goal.returns-clause-all
returns-clause-all c = λ m s h.
    let u : OpenTable = c.args.self.now in
    let sound : IsSound (defs_in u) = subst (λ (v : OpenTable). IsSound (defs_in v)) c.self.view_is c.self.invariant.fit.sound in
    let named : u.rows.rows.file.name ≡ rows_file u.name = subst (λ (v : OpenTable). v.rows.rows.file.name ≡ rows_file v.name) c.self.view_is c.self.invariant.rows_named in
    let end : c.counts-end.result.length ≡ u.rows.rows.file.counts.length = ap (λ (n : Counts). n.length) c.counts-end.ensures ∙ ap (λ (v : OpenTable). v.rows.rows.file.counts.length) c.self.view_is in
    begins u c.in_ok-scan.scan s m c.standing_files_are_read.ensures.rows sound
    (c.in_ok-scan.ensures ∙ ap (λ (e : ℕ). fresh_scan (rows_file u.name) (defs_in u) false e) end ∙ ap (λ (n : List ℕ). fresh_scan n (defs_in u) false u.rows.rows.file.counts.length) (sym named)) h
