use Rattle.std.proofs.Common.{◌≡◌, ◌^◌, ◌<◌, ℕ, true, List, length, sym, ap, subst, ◌∙◌}
use Rattle.std.specs.Prelude.{IfErr}
use Rattle.std.proofs.lemmas.Result.{err_from_is_err_and}
use Rattle.myi_defs.specs.declared.types.Defs.{Defs}
use Rattle.myi_defs.specs.Addressable.{is_addressable}
use Rattle.myi_pack.specs.Packed.{Values}
use Rattle.myi_keyedrows.specs.KeyedRows.{IfHold}
use Rattle.myi_inserter.specs.declared.inserter.TableInserter.{TableInserter}
use Rattle.myi_inserter.specs.declared.unique_key.UniqueKey.{UniqueKey}
use Rattle.myi_inserter.specs.declared.fault.InsertFault.{InsertFault}
use Rattle.myi_inserter.specs.UniqueKeys.{FindsNone}
use Rattle.myi_inserter.specs.Inserter.{IsInserter, IsReplyOf, IsCaused, step_behind}
use Rattle.myi_inserter.proofs.InsertLemmas.{ends_there, is_put, is_full, held_reply, end_same, reach_same, searching_cause}
use Rattle.myi_inserter.proofs.inserter.TableInserter.check_row.Goals as goal

pub make_ready-requires-clause-sound : goal.make_ready-requires-clause-sound
make_ready-requires-clause-sound g c = c.requires.ready.1.sound

pub refuse_duplicate-requires-clause-keys : goal.refuse_duplicate-requires-clause-keys
refuse_duplicate-requires-clause-keys g c κs within = (c.args.row.now, c.as_slice-keys.ensures.value ∙ c.in_ok-ready.ensures.keys)

pub end_with-requires : goal.end_with-requires
end_with-requires g c = record {
  few = λ dynamic.
      subst (λ (b : List ℕ). length b < 2 ^ 32) (sym (c.as_slice-packed.ensures.value ∙ c.in_ok-ready.ensures.packed))
      (c.spellings_are_shortest.ensures.counted c.args.self.now.defs c.args.row.now (ap (λ (d : Defs). d.format) (sym c.in_ok-refuse_duplicate.ensures.searched.same.defs) ∙ dynamic) c.requires.fits);
}

pub returns-in_err-refuse_duplicate-clause-refused : goal.returns-in_err-refuse_duplicate-clause-refused
returns-in_err-refuse_duplicate-clause-refused g c =
    let e = err_from_is_err_and c.from_residual-in_err-refuse_duplicate.result c.from_residual-in_err-refuse_duplicate.ensures.1 in
    let told = g.F.Files.holds c.args.files.now in
    let i : TableInserter = c.args.self.now in
    subst (λ r. IfErr r (λ f. IfHold told i.rows (λ m own base. (rows : List Values) → IsInserter i rows → IsReplyOf i.end (step_behind i.defs base rows c.args.row.now).reply f))) (sym e.1)
    (subst (λ (f : InsertFault). IfHold told i.rows (λ m own base. (rows : List Values) → IsInserter i rows → IsReplyOf i.end (step_behind i.defs base rows c.args.row.now).reply f)) (sym e.2)
    (λ m held own base h rows is.
    held_reply c.keyed_refusals_come_in_order.ensures.key i.defs base rows c.args.row.now i.end c.in_err-refuse_duplicate.field-0.0 (c.in_err-refuse_duplicate.ensures.held m held own base h rows is c.args.row.now (c.as_slice-keys.ensures.value ∙ c.in_ok-ready.ensures.keys))))

pub returns-in_err-refuse_duplicate-clause-causes : goal.returns-in_err-refuse_duplicate-clause-causes
returns-in_err-refuse_duplicate-clause-causes g c =
    let e = err_from_is_err_and c.from_residual-in_err-refuse_duplicate.result c.from_residual-in_err-refuse_duplicate.ensures.1 in
    let i : TableInserter = c.args.self.now in
    subst (λ r. IfErr r (IsCaused i c.args.row.now)) (sym e.1) (subst (IsCaused i c.args.row.now) (sym e.2) (searching_cause i c.args.row.now c.in_err-refuse_duplicate.field-0.0 c.in_err-refuse_duplicate.ensures.search))

pub returns-in_err-end-clause-refused : goal.returns-in_err-end-clause-refused
returns-in_err-end-clause-refused g c =
    let e = err_from_is_err_and c.from_residual-in_err-end.result c.from_residual-in_err-end.ensures.1 in
    let told = g.F.Files.holds c.args.files.now in
    let i : TableInserter = c.args.self.now in
    let spelled = c.as_slice-packed.ensures.value ∙ c.in_ok-ready.ensures.packed in
    subst (λ r. IfErr r (λ f. IfHold told i.rows (λ m own base. (rows : List Values) → IsInserter i rows → IsReplyOf i.end (step_behind i.defs base rows c.args.row.now).reply f))) (sym e.1)
    (subst (λ (f : InsertFault). IfHold told i.rows (λ m own base. (rows : List Values) → IsInserter i rows → IsReplyOf i.end (step_behind i.defs base rows c.args.row.now).reply f)) (sym (e.2 ∙ c.in_err-end.ensures.full))
    (λ m held own base h rows is.
    is_full c.keyed_refusals_come_in_order.ensures.room i base rows c.args.row.now is (ends_there i own base m h) (c.in_ok-refuse_duplicate.ensures.none m held own base h rows is c.args.row.now (c.as_slice-keys.ensures.value ∙ c.in_ok-ready.ensures.keys))
    (reach_same i c.refuse_duplicate.new.self c.args.row.now c.as_slice-packed.result.now _ c.in_ok-refuse_duplicate.ensures.searched spelled c.in_err-end.ensures.long)))

pub returns-in_err-end-clause-causes : goal.returns-in_err-end-clause-causes
returns-in_err-end-clause-causes g c =
    let e = err_from_is_err_and c.from_residual-in_err-end.result c.from_residual-in_err-end.ensures.1 in
    let i : TableInserter = c.args.self.now in
    let spelled = c.as_slice-packed.ensures.value ∙ c.in_ok-ready.ensures.packed in
    subst (λ r. IfErr r (IsCaused i c.args.row.now)) (sym e.1) (subst (IsCaused i c.args.row.now) (sym (e.2 ∙ c.in_err-end.ensures.full))
    (reach_same i c.refuse_duplicate.new.self c.args.row.now c.as_slice-packed.result.now _ c.in_ok-refuse_duplicate.ensures.searched spelled c.in_err-end.ensures.long))

pub returns-clause-end : goal.returns-clause-end
returns-clause-end g c = c.in_ok-end.ensures.end ∙ end_same c.args.self.now c.refuse_duplicate.new.self c.args.row.now c.as_slice-packed.result.now c.in_ok-refuse_duplicate.ensures.searched (c.as_slice-packed.ensures.value ∙ c.in_ok-ready.ensures.packed)

pub returns-clause-reached : goal.returns-clause-reached
returns-clause-reached g c = ap (λ (d : Defs). is_addressable d c.in_ok-end.end) (sym c.in_ok-refuse_duplicate.ensures.searched.same.defs) ∙ c.in_ok-end.ensures.reached

pub returns-clause-absent : goal.returns-clause-absent
returns-clause-absent g c = subst (λ (keys : List UniqueKey). FindsNone c.args.self.now.put keys) c.as_slice-keys.ensures.value c.in_ok-refuse_duplicate.ensures.absent

pub returns-clause-accepted : goal.returns-clause-accepted
returns-clause-accepted g c = λ m held own base h rows is.
    let i : TableInserter = c.args.self.now in
    let law = c.keyed_refusals_come_in_order.ensures in
    let spelled = c.as_slice-packed.ensures.value ∙ c.in_ok-ready.ensures.packed in
    let same = c.in_ok-end.ensures.end in
    let reached : is_addressable c.refuse_duplicate.new.self.defs c.in_ok-end.end ≡ true = c.in_ok-end.ensures.reached in
    is_put law.accepted law.free i base rows c.args.row.now is (ends_there i own base m h) (c.in_ok-refuse_duplicate.ensures.none m held own base h rows is c.args.row.now (c.as_slice-keys.ensures.value ∙ c.in_ok-ready.ensures.keys))
    (reach_same i c.refuse_duplicate.new.self c.args.row.now c.as_slice-packed.result.now true c.in_ok-refuse_duplicate.ensures.searched spelled (ap (λ (n : ℕ). is_addressable c.refuse_duplicate.new.self.defs n) (sym same) ∙ reached))
