use Rattle.std.proofs.Common.{ℕ, List, sym, subst, ◌∙◌}
use Rattle.std.specs.Prelude.{IfErr}
use Rattle.std.proofs.lemmas.Result.{err_from_is_err_and}
use Rattle.myi_pack.specs.Packed.{Values}
use Rattle.myi_keyedrows.specs.declared.keyed_rows.KeyedRows.{KeyedRows}
use Rattle.myi_keyedrows.specs.KeyedRows.{HoldTable, IfHold}
use Rattle.myi_inserter.specs.declared.inserter.TableInserter.{TableInserter}
use Rattle.myi_inserter.specs.declared.fault.InsertFault.{InsertFault}
use Rattle.myi_inserter.specs.Inserter.{IsInserter, IsPut, IsReplyOf, step_behind}
use Rattle.myi_inserter.proofs.InsertLemmas.{put_more, lacks_reply}
use Rattle.myi_inserter.proofs.inserter.TableInserter.insert.Goals as goal

pub returns-in_err-at-clause-refused : goal.returns-in_err-at-clause-refused
returns-in_err-at-clause-refused g c =
    let e = err_from_is_err_and c.from_residual-in_err-at.result c.from_residual-in_err-at.ensures.1 in
    let told = g.F.Files.holds c.args.files.now in
    let i : TableInserter = c.args.self.now in
    subst (λ r. IfErr r (λ f. IfHold told i.rows (λ m own base. (rows : List Values) → IsInserter i rows → IsReplyOf i.end (step_behind i.defs base rows c.args.row.now).reply f))) (sym e.1)
    (subst (λ (f : InsertFault). IfHold told i.rows (λ m own base. (rows : List Values) → IsInserter i rows → IsReplyOf i.end (step_behind i.defs base rows c.args.row.now).reply f)) (sym e.2)
    (λ m held own base h rows is.
    lacks_reply c.check_row.new.self.appender c.in_ok-ready.ready.packed.items i.end (step_behind i.defs base rows c.args.row.now).reply c.in_err-at.field-0.0 c.in_err-at.ensures.lacks (c.in_ok-ready.ensures.accepted m held own base h rows is).reply))

pub returns-in_err-at-clause-still : goal.returns-in_err-at-clause-still
returns-in_err-at-clause-still g c = λ m held own base h. subst (λ (k : KeyedRows). HoldTable k own base m) (sym c.in_err-at.ensures.base.rows) (c.in_ok-ready.ensures.still m held own base h)

pub returns-clause-made : goal.returns-clause-made
returns-clause-made g c = λ m held own base h rows is.
    subst (λ (p : ℕ). IsPut c.args.self.now.defs base rows c.args.row.now p) (sym (c.in_ok-at.ensures.place ∙ c.in_ok-ready.ensures.searched.end)) (c.in_ok-ready.ensures.accepted m held own base h rows is)

pub returns-clause-more : goal.returns-clause-more
returns-clause-more g c = λ rows is.
    let r = c.in_ok-ready.ensures in
    let p = c.in_ok-at.ensures in
    put_more c.args.self.now c.check_row.new.self c.put_ready.new.self rows c.args.row.now c.in_ok-ready.ready.keys.items c.in_ok-ready.ready.packed.items r.searched p.base is c.requires.fits r.bytes r.packed p.words (p.end ∙ r.end) r.keys r.absent p.found

pub returns-clause-still : goal.returns-clause-still
returns-clause-still g c = λ m held own base h. subst (λ (k : KeyedRows). HoldTable k own base m) (sym c.in_ok-at.ensures.base.rows) (c.in_ok-ready.ensures.still m held own base h)
