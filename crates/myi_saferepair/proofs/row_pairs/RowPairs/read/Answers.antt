use Rattle.std.proofs.Common.{ap, ◌∙◌}
use Rattle.std.specs.Prelude.{is_some}
use Rattle.myi_defs.proofs.CallerLemmas.{sound}
use Rattle.myi_pack.specs.Unpacking.{row_of}
use Rattle.myi_pack.specs.Spelling.{fits}
use Rattle.myi_pack.proofs.CallerLemmas.{row-reads}
use Rattle.myi_rowtrees.specs.RowLists.{row_pairs}
use Rattle.myi_repair.proofs.CallerLemmas.{read_back}
use Rattle.myi_saferepair.proofs.PairLaws.{ok_more}
use Rattle.myi_saferepair.proofs.row_pairs.RowPairs.read.Goals as goal

pub view_packed-view-requires-clause-sound : goal.view_packed-view-requires-clause-sound
view_packed-view-requires-clause-sound c = sound c.args.defs.now c.requires.defs

pub view_packed-view-requires-clause-packed : goal.view_packed-view-requires-clause-packed
view_packed-view-requires-clause-packed c =
    let d = c.args.defs.now in
    let given = c.requires.row in
    ap (λ b. is_some (row_of d b)) (c.deref.ensures.value ∙ given.1.bytes) ∙ ap is_some (row-reads d given.0.values (sound d c.requires.defs) given.1.fit)

pub put-requires-clause-sound : goal.put-requires-clause-sound
put-requires-clause-sound c = sound c.args.defs.now c.requires.defs

pub put-requires-clause-row : goal.put-requires-clause-row
put-requires-clause-row c =
    let d = c.args.defs.now in
    let given = c.requires.row in
    ap (fits d) (read_back d given.0 c.args.next.now c.deref.result.now c.view_packed-view.result c.requires.defs given.1 c.deref.ensures.value c.view_packed-view.ensures.found) ∙ given.1.fit

pub returns : goal.returns
returns c =
    let d = c.args.defs.now in
    ok_more c.put.result _ _ (λ made row prepared. made ∙ ap (λ v. row_pairs d v c.args.pointer) (read_back d row c.args.next.now c.deref.result.now c.view_packed-view.result c.requires.defs prepared c.deref.ensures.value c.view_packed-view.ensures.found)) c.put.ensures
