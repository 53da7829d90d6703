use Rattle.std.proofs.Common.{◌∙◌, ap, subst}
use Rattle.myi_defs.proofs.CallerLemmas.{sound}
use Rattle.myi_keytrees.specs.Trees.{kinds}
use Rattle.myi_pair.specs.KeyList.{pointer}
use Rattle.myi_rowtrees.specs.RowLists.{row_pairs}
use Rattle.myi_keytrees.specs.Standing.{IfStand}
use Rattle.myi_saferepair.specs.declared.new_files.NewFiles.{NewFiles}
use Rattle.myi_saferepair.specs.Held.{AreHeld}
use Rattle.myi_saferepair.proofs.TakeLaws.{pairs_long, pointers_fit, left_out, put_both, stays_in}
use Rattle.myi_saferepair.proofs.new_files.NewFiles.take.Goals as goal

pub pointer_of-pointer-requires : goal.pointer_of-pointer-requires
pointer_of-pointer-requires g c = record { sound = sound c.args.defs.now c.requires.defs }

pub repeats_any-requires-clause-each : goal.repeats_any-requires-clause-each
repeats_any-requires-clause-each g c κs within =
    let given = c.requires.row in
    let d = c.args.defs.now in
    pairs_long d given.0.values (pointer d c.args.self.now.rows.end) c.as_slice-pairs.result.now (c.as_slice-pairs.ensures ∙ c.in_ok-read.ensures given.0 given.1 ∙ ap (row_pairs d given.0.values) c.pointer_of-pointer.ensures)

pub put_row-requires-clause-rows : goal.put_row-requires-clause-rows
put_row-requires-clause-rows g c κs within =
    let given = c.requires.row in
    let d = c.args.defs.now in
    pointers_fit d given.0.values c.args.self.now.rows.end c.as_slice-pairs.result.now c.repeats_any.new.trees.places (sound d c.requires.defs) c.requires.fit.reached (ap kinds c.in_ok-repeats_any.ensures.places ∙ c.requires.fit.kinds)
    (c.as_slice-pairs.ensures ∙ c.in_ok-read.ensures given.0 given.1 ∙ ap (row_pairs d given.0.values) c.pointer_of-pointer.ensures)

pub returns-then-branch-clause-takes : goal.returns-then-branch-clause-takes
returns-then-branch-clause-takes g c =
    let d = c.args.defs.now in
    let old = c.args.self.now in
    let pairs = c.as_slice-pairs.result.now in
    let told = g.F.Files.holds c.args.files.now in
    let next = g.F.Files.holds c.repeats_any.new.files in
    let new : NewFiles = record { rows = old.rows; trees = c.repeats_any.new.trees } in
    left_out d c.args.file.now c.args.next.now pairs old.rows.end old new told next c.requires.apart
    (λ row prepared. c.as_slice-pairs.ensures ∙ c.in_ok-read.ensures row prepared ∙ ap (row_pairs d row.values) c.pointer_of-pointer.ensures)
    (subst (λ there. IfStand told old.trees (λ m own lists. AreHeld d pairs lists there)) c.if-branch.true c.in_ok-repeats_any.ensures.held) c.in_ok-repeats_any.ensures.stand c.in_ok-repeats_any.ensures.others

pub returns-clause-takes : goal.returns-clause-takes
returns-clause-takes g c =
    let d = c.args.defs.now in
    let old = c.args.self.now in
    let pairs = c.as_slice-pairs.result.now in
    let told = g.F.Files.holds c.args.files.now in
    let then = g.F.Files.holds c.repeats_any.new.files in
    let after = g.F.Files.holds c.put.new.files in
    let next = g.F.Files.holds c.put_row.new.files in
    let mid : NewFiles = record { rows = old.rows; trees = c.repeats_any.new.trees } in
    let new : NewFiles = record { rows = c.put.new.self; trees = c.put_row.new.trees } in
    put_both d (sound d c.requires.defs) c.args.file.now c.args.next.now pairs old mid new told then after next c.requires.apart c.in_ok-repeats_any.ensures.name
    (λ row prepared. c.as_slice-pairs.ensures ∙ c.in_ok-read.ensures row prepared ∙ ap (row_pairs d row.values) c.pointer_of-pointer.ensures)
    (subst (λ there. IfStand told old.trees (λ m own lists. AreHeld d pairs lists there)) c.if-branch.false c.in_ok-repeats_any.ensures.held) c.in_ok-repeats_any.ensures.stand c.in_ok-repeats_any.ensures.others c.in_ok-put.ensures.written
    c.in_ok-put.ensures.ends.others c.in_ok-put_row.ensures.put c.in_ok-put_row.ensures.others

pub returns-clause-written : goal.returns-clause-written
returns-clause-written g c =
    let new : NewFiles = record { rows = c.put.new.self; trees = c.put_row.new.trees } in
    stays_in c.args.defs.now c.args.next.now c.args.self.now new c.in_ok-put.ensures.added

pub returns-then-branch-clause-each : goal.returns-then-branch-clause-each
returns-then-branch-clause-each g c =
    let given = c.requires.row in
    pairs_long c.args.defs.now given.0.values (pointer c.args.defs.now c.args.self.now.rows.end) c.read.new.self (c.in_ok-read.ensures given.0 given.1 ∙ ap (row_pairs c.args.defs.now given.0.values) c.pointer_of-pointer.ensures)

pub returns-clause-each : goal.returns-clause-each
returns-clause-each g c =
    let given = c.requires.row in
    pairs_long c.args.defs.now given.0.values (pointer c.args.defs.now c.args.self.now.rows.end) c.read.new.self (c.in_ok-read.ensures given.0 given.1 ∙ ap (row_pairs c.args.defs.now given.0.values) c.pointer_of-pointer.ensures)
