use Rattle.myi_dellist.proofs.BeyondLemmas.{put-alone}
use Rattle.myi_dellist.proofs.rows.put_row.Goals as goal

pub returns-clause-ok : goal.returns-clause-ok
returns-clause-ok g c = put-alone c.put_beyond.result (g.F.Files.holds c.args.files.now) (g.F.Files.holds c.put_beyond.new.files) c.args.name.now c.args.packed.now c.args.list c.clear.new.self.items c.clear.ensures.items c.put_beyond.ensures.ok
