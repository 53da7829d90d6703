use Rattle.std.proofs.Common.{◌≡◌}
use Rattle.myi_shell.specs.declared.target.Target.TheVariants.{Many}
use Rattle.myi_shell.specs.Changing.{IsInsertedBy}
use Rattle.myi_shell.proofs.ListLemmas.{fits_first}
use Rattle.myi_shell.proofs.ListInserts.{list_changed, list_never, told_changed, told_never}
use Rattle.myi_shell.proofs.ListTouches.{list_touched, told_list_touched, insert_carried, list_whole, told_whole, list_cause}
use Rattle.myi_shell.proofs.IdleLemmas.{insert_leaves}
use Rattle.myi_shell.proofs.target.insert_in.Goals as goal

pub insert-requires-clause-fits : goal.insert-requires-clause-fits
insert-requires-clause-fits g c κs within = fits_first c.args.merge.now c.args.row.now c.defs.ensures.list c.requires.fits

pub returns-clause-changed : goal.returns-clause-changed
returns-clause-changed g c =
    let told = g.F.Files.holds c.args.files.now in
    let next = g.F.Files.holds c.insert.new.files in
    told_changed told c.args.merge.now (λ x m s. IsInsertedBy (Many c.args.merge.now) s c.args.row.now next (Many c.insert.new.self) x) c.list_replied.result _ c.list_replied.ensures
    (list_changed c.args.merge.now c.insert.new.self told next c.args.row.now c.insert.result c.keyed_refusals_come_in_order.ensures.left c.insert.ensures.alone.many c.insert.ensures.made c.insert.ensures.refused c.insert.ensures.nowhere)

pub returns-clause-touched : goal.returns-clause-touched
returns-clause-touched g c =
    let told = g.F.Files.holds c.args.files.now in
    let next = g.F.Files.holds c.insert.new.files in
    told_list_touched told next c.args.merge.now c.insert.new.self c.list_replied.result _ c.list_replied.ensures
    (list_touched told next c.args.merge.now c.insert.new.self c.args.row.now c.insert.result c.defs.ensures.list c.insert.ensures.made c.insert.ensures.refused (λ e. let w = c.insert.ensures.nowhere e in (w.1, w.2)) c.insert.ensures.alone c.insert.ensures.same c.insert.ensures.changed c.insert.ensures.unmarked c.insert.ensures.rows)

pub returns-clause-carried : goal.returns-clause-carried
returns-clause-carried g c = insert_carried (g.F.Files.holds c.args.files.now) (g.F.Files.holds c.insert.new.files) c.args.merge.now c.insert.new.self c.insert.ensures.kept c.insert.ensures.alone c.insert.ensures.same c.insert.ensures.counted c.insert.ensures.others

pub returns-clause-refused : goal.returns-clause-refused
returns-clause-refused g c =
    let told = g.F.Files.holds c.args.files.now in
    told_never told c.list_replied.result _ c.list_replied.ensures (list_never c.args.merge.now c.insert.new.self told (g.F.Files.holds c.insert.new.files) c.args.row.now c.insert.result c.requires.kept c.requires.whole c.insert.ensures.refused)

pub returns-clause-whole : goal.returns-clause-whole
returns-clause-whole g c =
    told_whole c.insert.new.self c.list_replied.result _ c.list_replied.ensures (list_whole c.args.merge.now c.insert.new.self c.insert.result (g.F.Files.faults c.insert.new.files) c.requires.whole c.insert.ensures.alone c.insert.ensures.broken)

pub returns-clause-cause : goal.returns-clause-cause
returns-clause-cause g c = list_cause _ _ c.list_replied.result c.insert.result c.list_replied.ensures c.insert.ensures.cause

pub returns-clause-idle : goal.returns-clause-idle
returns-clause-idle g c = insert_leaves (g.F.Files.holds c.args.files.now) (g.F.Files.holds c.insert.new.files) c.args.merge.now c.insert.new.self c.args.row.now c.insert.result c.defs.ensures.list c.insert.ensures.made c.insert.ensures.refused (λ e. (c.insert.ensures.nowhere e).2)
