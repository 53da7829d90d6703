use Rattle.std.proofs.Common.{◌≡◌, ◌++◌, ◌∙◌, take, drop, length, arith}
use Rattle.std.proofs.lemmas.Grind.{common_steps}
use Rattle.myi_memfiles.proofs.StoredLaws.{grown_over}
use Rattle.myi_memfiles.proofs.memory.overwrite.Goals as goal

pub returns-clause-ok : goal.returns-clause-ok
returns-clause-ok c =
    let kept : take c.grow.new.bytes.len (c.put.new.into ++ drop (length c.put.new.into) c.grow.new.bytes.items) ≡ c.put.new.into = grind (arith, common_steps) in
    kept ∙ grind (arith, common_steps, grown_over c.args.at c.args.more.now c.args.bytes.now.items)
