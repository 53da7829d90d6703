use Rattle.std.proofs.Common.{◌∙◌, Result, Ok, Err, length, ap}
use Rattle.std.specs.Prelude.{is_some, OnOk}
use Rattle.myi_defs.proofs.CallerLemmas.{sound}
use Rattle.myi_pack.specs.Unpacking.{row_of}
use Rattle.myi_pack.specs.Spelling.{fits}
use Rattle.myi_pack.proofs.CallerLemmas.{row-reads}
use Rattle.myi_rowkeys.specs.TableKeys.{row_keys}
use Rattle.myi_rowkeys.specs.RowLists.{with_pairs}
use Rattle.myi_repair.proofs.KeepLaws.{read_back}
use Rattle.myi_repair.proofs.gathering.take_row.Goals as goal

on_ok : {T E : Type 0} (r : Result T E) (P : Type 0) → P → OnOk r P
on_ok (Ok x) P p = p
on_ok (Err e) P p = tt

pub view_packed-row-requires-clause-sound : goal.view_packed-row-requires-clause-sound
view_packed-row-requires-clause-sound g c = sound c.args.defs.now c.requires.defs

pub view_packed-row-requires-clause-packed : goal.view_packed-row-requires-clause-packed
view_packed-row-requires-clause-packed g c =
    let d = c.args.defs.now in
    let given = c.requires.row in
    ap (λ b. is_some (row_of d b)) (c.deref.ensures.value ∙ given.1.bytes) ∙ ap is_some (row-reads d given.0.values (sound d c.requires.defs) given.1.fit)

pub push-requires-clause-sound : goal.push-requires-clause-sound
push-requires-clause-sound g c = sound c.args.defs.now c.requires.defs

pub push-requires-clause-row : goal.push-requires-clause-row
push-requires-clause-row g c =
    let given = c.requires.row in
    let d = c.args.defs.now in
    ap (fits d) (read_back d given.0 c.args.next.now c.deref.result.now c.view_packed-row.result c.requires.defs given.1 c.deref.ensures.value c.view_packed-row.ensures.found) ∙ given.1.fit

pub returns-clause-keys : goal.returns-clause-keys
returns-clause-keys g c = on_ok c.put.result _ (λ row prepared.
    let d = c.args.defs.now in
    c.in_ok-push.ensures
    ∙ ap (λ n. with_pairs n (row_keys d c.view_packed-row.result) c.args.keys.now) c.len.ensures
    ∙ ap (λ v. with_pairs (length c.args.rows.now.pointers) (row_keys d v) c.args.keys.now) (read_back d row c.args.next.now c.deref.result.now c.view_packed-row.result c.requires.defs prepared c.deref.ensures.value c.view_packed-row.ensures.found))
