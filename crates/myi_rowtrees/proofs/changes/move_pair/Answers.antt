use Rattle.std.proofs.Common.{sym, ◌∙◌}
use Rattle.std.proofs.lemmas.Result.{err_from_is_err_and}
use Rattle.myi_rowtrees.proofs.MoveLemmas.{moved_both, moved_never, same_room_at}
use Rattle.myi_rowtrees.proofs.ToldLemmas.{if_err}
use Rattle.myi_rowtrees.proofs.changes.move_pair.Goals as goal

pub insert-requires-clause-row : goal.insert-requires-clause-row
insert-requires-clause-row g c κs within = λ d. same_room_at c.args.trees.now.places c.remove.new.self.places c.args.key c.args.new.now.row d c.in_ok-remove.ensures.kinds (c.requires.row d)

pub returns-in_err-insert-clause-never : goal.returns-in_err-insert-clause-never
returns-in_err-insert-clause-never g c =
    let e = err_from_is_err_and c.from_residual-in_err-insert.result c.from_residual-in_err-insert.ensures.1 in
    if_err c.from_residual-in_err-insert.result e.0 _ e.1
    (λ p d. moved_never (g.F.Files.holds c.args.files.now) (g.F.Files.holds c.remove.new.files) c.args.trees.now c.remove.new.self c.args.key c.args.old.now c.in_ok-remove.ensures.removed (c.in_err-insert.ensures.never p (sym e.2 ∙ d)))

pub returns-clause-moved : goal.returns-clause-moved
returns-clause-moved g c =
    moved_both (g.F.Files.holds c.args.files.now) (g.F.Files.holds c.remove.new.files) (g.F.Files.holds c.insert.new.files) c.args.trees.now c.remove.new.self c.insert.new.self c.args.key c.args.old.now c.args.new.now
    (sym c.eq.ensures ∙ c.if-eq.false) c.requires.key c.in_ok-remove.ensures.removed c.in_ok-insert.ensures.inserted
