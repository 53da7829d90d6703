use Rattle.std.proofs.Common.{◌≡◌, List, sym, ap, subst, ◌∙◌}
use Rattle.std.proofs.lemmas.Result.{err_from_is_err_and}
use Rattle.myi_pack.specs.Packed.{Values}
use Rattle.myi_search.specs.Counting.{CountsOn}
use Rattle.myi_table.specs.Faults.{CutsOff}
use Rattle.myi_table.specs.Table.{OpenTable, defs_in, HoldsThen, IfHolds, IsSame, ChangesItsOwn}
use Rattle.myi_snapshots.specs.Appended.{with_rows}
use Rattle.myi_inserter.specs.Inserter.{IsInserter}
use Rattle.myi_share.specs.Sharing.{ArePartsBeside}
use Rattle.myi_share.specs.Taking.{with_counts}
use Rattle.myi_share.proofs.CloseLemmas.{refused_by, same_cause, Repeats}
use Rattle.myi_share.proofs.sharing.Shared.close.Goals as goal

pub take_back-requires-clause-parts : goal.take_back-requires-clause-parts
take_back-requires-clause-parts g c κs lives =
    let p = c.requires.parts in
    let s = c.args.self in
    (p.0, subst (λ (t : OpenTable). ArePartsBeside g.R.FileReader.holds t (g.F.Files.holds c.args.files.now) s.inserter s.readers.items p.0) (sym c.rest.view_is) (record { whole = p.1.whole; kept = p.1.kept; inserter = p.1.inserter; readers = p.1.readers }))

-- ---- it is refused

pub returns-in_err-take_back-clause-cut : goal.returns-in_err-take_back-clause-cut
returns-in_err-take_back-clause-cut g c =
    let told = g.F.Files.holds c.args.files.now in
    let r = c.from_residual.result in
    let e = err_from_is_err_and r c.from_residual.ensures.1 in
    refused_by r e.0 c.in_err-take_back.field-0.0 (λ x. IfHolds told c.args.self.rest (λ m s. CutsOff x)) e.1 e.2
    (subst (λ (t : OpenTable). IfHolds told t (λ m s. CutsOff c.in_err-take_back.field-0.0)) c.rest.view_is c.in_err-take_back.ensures.cut)

pub returns-in_err-take_back-clause-causes : goal.returns-in_err-take_back-clause-causes
returns-in_err-take_back-clause-causes g c =
    let r = c.from_residual.result in
    let e = err_from_is_err_and r c.from_residual.ensures.1 in
    refused_by r e.0 c.in_err-take_back.field-0.0 (λ x. (rows : List Values) → IsInserter c.args.self.inserter.table rows → Repeats (defs_in c.args.self.rest) rows x) e.1 e.2
    (subst (λ (t : OpenTable). (rows : List Values) → IsInserter c.args.self.inserter.table rows → Repeats (defs_in t) rows c.in_err-take_back.field-0.0) c.rest.view_is c.in_err-take_back.ensures.causes)

pub returns-in_err-take_back-clause-others : goal.returns-in_err-take_back-clause-others
returns-in_err-take_back-clause-others g c = subst (ChangesItsOwn (g.F.Files.holds c.args.files.now) (g.F.Files.holds c.take_back.new.files)) c.rest.view_is c.take_back.ensures.others

pub returns-in_err-take_back-clause-cause : goal.returns-in_err-take_back-clause-cause
returns-in_err-take_back-clause-cause g c =
    let r = c.from_residual.result in
    let e = err_from_is_err_and r c.from_residual.ensures.1 in
    same_cause r e.0 c.in_err-take_back.field-0.0 _ _ e.1 e.2 c.in_err-take_back.ensures.cause

-- ---- it is taken back

pub returns-clause-folded : goal.returns-clause-folded
returns-clause-folded g c =
    let told = g.F.Files.holds c.args.files.now in
    let next = g.F.Files.holds c.take_back.new.files in
    subst (λ (t : OpenTable). IfHolds told t (λ m s. (rows : List Values) → IsInserter c.args.self.inserter.table rows → HoldsThen next c.take_back.new.table (with_rows (defs_in t) s rows))) c.rest.view_is c.in_ok-take_back.ensures.folded

pub returns-clause-same : goal.returns-clause-same
returns-clause-same g c = subst (λ (t : OpenTable). IsSame (with_counts t c.args.self.inserter.table c.args.self.readers.items) c.take_back.new.table) c.rest.view_is c.in_ok-take_back.ensures.counted

pub returns-clause-none : goal.returns-clause-none
returns-clause-none g c put = subst (λ (t : OpenTable). c.take_back.new.table ≡ with_counts t c.args.self.inserter.table c.args.self.readers.items) c.rest.view_is (c.in_ok-take_back.ensures.none put)

pub returns-clause-marked : goal.returns-clause-marked
returns-clause-marked g c was = c.in_ok-take_back.ensures.marked (ap (λ (t : OpenTable). t.changed) c.rest.view_is ∙ was)

pub returns-clause-counted : goal.returns-clause-counted
returns-clause-counted g c = subst (λ (t : OpenTable). CountsOn t.rows.trees.cache c.take_back.new.table.rows.trees.cache) c.rest.view_is c.in_ok-take_back.ensures.cache

pub returns-clause-others : goal.returns-clause-others
returns-clause-others g c = subst (ChangesItsOwn (g.F.Files.holds c.args.files.now) (g.F.Files.holds c.take_back.new.files)) c.rest.view_is c.take_back.ensures.others

pub returns-clause-cause : goal.returns-clause-cause
returns-clause-cause g c = record { later = c.in_ok-take_back.ensures.cause.later; cause = λ e. absurd cc }
