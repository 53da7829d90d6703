use Rattle.std.proofs.Common.{subst, sym}
use Rattle.myi_keycache.specs.Kept.{AllWritten}
use Rattle.myi_keycache.specs.Caching.{pages_of}
use Rattle.myi_keytrees.specs.Trees.{Trees}
use Rattle.myi_keytrees.specs.Standing.{StillStand}
use Rattle.myi_keytrees.proofs.StandLaws.{object}
use Rattle.myi_keytrees.proofs.FlushLaws.{flush_stands}
use Rattle.myi_keytrees.proofs.ToldLaws.{told_more}
use Rattle.myi_keytrees.proofs.key_trees.KeyTrees.flush.Goals as goal

pub returns-in_err-flush-clause-stand : goal.returns-in_err-flush-clause-stand
returns-in_err-flush-clause-stand g c =
    let t : Trees = object c.self.inside.places.items c.self.inside.room c.self.inside.cache in
    let new : Trees = object c.self.inside.places.items c.self.inside.room c.flush.new.self in
    subst (λ (u : Trees). StillStand (g.F.Files.holds c.args.files.now) (g.F.Files.holds c.flush.new.files) u new) c.self.view_is
    (flush_stands t (g.F.Files.holds c.args.files.now) (g.F.Files.holds c.flush.new.files) c.flush.new.self c.flush.ensures.kept
    (told_more (g.F.Files.holds c.args.files.now) (g.F.Files.holds c.flush.new.files) _ _ (λ m n then current. let k = then current in (k.current, k.lent)) c.in_err-flush.ensures.err))

pub returns-in_err-flush-clause-quiet : goal.returns-in_err-flush-clause-quiet
returns-in_err-flush-clause-quiet g c = λ written. c.flush.ensures.quiet (subst (λ (u : Trees). AllWritten (pages_of u.cache)) (sym c.self.view_is) written)

pub returns-clause-stand : goal.returns-clause-stand
returns-clause-stand g c =
    let t : Trees = object c.self.inside.places.items c.self.inside.room c.self.inside.cache in
    let new : Trees = object c.self.inside.places.items c.self.inside.room c.flush.new.self in
    subst (λ (u : Trees). StillStand (g.F.Files.holds c.args.files.now) (g.F.Files.holds c.flush.new.files) u new) c.self.view_is
    (flush_stands t (g.F.Files.holds c.args.files.now) (g.F.Files.holds c.flush.new.files) c.flush.new.self c.flush.ensures.kept
    (told_more (g.F.Files.holds c.args.files.now) (g.F.Files.holds c.flush.new.files) _ _ (λ m n then current. let k = then current in (k.current, k.lent)) c.in_ok-flush.ensures.ok))

pub returns-clause-quiet : goal.returns-clause-quiet
returns-clause-quiet g c = λ written. c.flush.ensures.quiet (subst (λ (u : Trees). AllWritten (pages_of u.cache)) (sym c.self.view_is) written)
