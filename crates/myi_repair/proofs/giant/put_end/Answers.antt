use Rattle.std.proofs.Common.{◌+◌, ◌∙◌, length, sym, ap, subst, arith}
use Rattle.std.specs.Prelude.{OnOk, OnErr}
use Rattle.std.proofs.lemmas.Result.{IfOk-weaker}
use Rattle.myi_base.specs.Holding.{Told, Writes, WritesPart}
use Rattle.myi_frames.specs.Writing.{IsWritable, block_bytes, end_spec}
use Rattle.myi_data.proofs.CallerLemmas.{end_writable}
use Rattle.myi_repair.proofs.GiantLaws.{end_unused}
use Rattle.myi_repair.proofs.giant.put_end.Goals as goal

pub put_block-requires-clause-block : goal.put_block-requires-clause-block
put_block-requires-clause-block g c κs lives =
    let n = length c.args.rest.now in
    subst (λ size. IsWritable end_spec n size) (sym c.end_size-size.ensures) (end_writable n c.args.size c.requires.multiple c.requires.least c.requires.end)

pub put_block-requires-clause-unused : goal.put_block-requires-clause-unused
put_block-requires-clause-unused g c κs lives =
    let n = length c.args.rest.now in
    end_unused n c.end_size-size.result (subst (λ size. IsWritable end_spec n size) (sym c.end_size-size.ensures) (end_writable n c.args.size c.requires.multiple c.requires.least c.requires.end))

pub returns-clause-ok : goal.returns-clause-ok
returns-clause-ok g c = subst (λ n. OnOk c.put_block.result (Told (g.F.Files.holds c.args.files.now) (g.F.Files.holds c.put_block.new.files) (Writes c.args.file.now c.args.at (block_bytes end_spec c.args.rest.now n)))) c.end_size-size.ensures c.put_block.ensures.ok

pub returns-clause-err : goal.returns-clause-err
returns-clause-err g c = subst (λ n. OnErr c.put_block.result (Told (g.F.Files.holds c.args.files.now) (g.F.Files.holds c.put_block.new.files) (WritesPart c.args.file.now c.args.at (block_bytes end_spec c.args.rest.now n)))) c.end_size-size.ensures c.put_block.ensures.err

pub returns-clause-behind : goal.returns-clause-behind
returns-clause-behind g c = IfOk-weaker c.put_block.result _ _ (λ r is. is ∙ ap (λ n. c.args.at + n) c.end_size-size.ensures) c.put_block.ensures.behind

pub returns-clause-less : goal.returns-clause-less
returns-clause-less g c =
    let least = (end_writable (length c.args.rest.now) c.args.size c.requires.multiple c.requires.least c.requires.end).least in
    IfOk-weaker c.put_block.result _ _ (λ r is. omega (arith, is, c.end_size-size.ensures, least)) c.put_block.ensures.behind
