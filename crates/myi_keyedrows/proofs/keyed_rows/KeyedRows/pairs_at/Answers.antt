use Rattle.std.proofs.Common.{◌≡◌, sym, subst}
use Rattle.std.proofs.lemmas.Result.{err_from_is_err_and}
use Rattle.myi_slots.specs.SlotFile.{Never}
use Rattle.myi_rows.specs.Refusals.{FindsNone, ReadsBad}
use Rattle.myi_keyedrows.specs.declared.fault.KeyedFault.{KeyedFault}
use Rattle.myi_keyedrows.specs.Refusals.{ByCause, FindsNoneAt}
use Rattle.myi_keyedrows.proofs.CauseLemmas.{data_cause}
use Rattle.myi_keyedrows.proofs.FaultLemmas.{if_err}
use Rattle.myi_keyedrows.proofs.HoldLemmas.{kept_long}
use Rattle.myi_keyedrows.proofs.RowLemmas.{pairs_long}
use Rattle.myi_keyedrows.proofs.keyed_rows.KeyedRows.pairs_at.Goals as goal

pub read_at-requires-clause-long : goal.read_at-requires-clause-long
read_at-requires-clause-long g c κs live = kept_long c.args.self.now (g.F.Files.holds c.args.files.now) c.requires.kept

pub returns-clause-each : goal.returns-clause-each
returns-clause-each g c = pairs_long c.args.defs.now c.in_ok-row.row c.pointer_of-pointer.result c.in_ok-pairs.pairs.items c.in_ok-pairs.ensures

pub returns-in_err-row-clause-causes : goal.returns-in_err-row-clause-causes
returns-in_err-row-clause-causes g c =
    let told = g.F.Files.holds c.args.files.now in
    let file = c.args.self.now.rows.file in
    let places = c.read_at.new.self.places in
    let e = err_from_is_err_and c.from_residual.result c.from_residual.ensures.1 in
    if_err c.from_residual.result e.0 (λ f. ByCause (FindsNoneAt file places c.args.at told) Never ⊥ f) e.1
    (subst (λ (f : KeyedFault). ByCause (FindsNoneAt file places c.args.at told) Never ⊥ f) (sym e.2)
    (data_cause (λ p. (p ≡ c.args.at) × FindsNone file places c.args.at told) (FindsNoneAt file places c.args.at told) Never ⊥ ⊥ (λ p. ReadsBad file places c.args.at told) c.in_err-row.field-0.0 (λ p none. none) (λ full. full) c.in_err-row.ensures.causes))
