use Rattle.std.proofs.Common.{◌∙◌, ◌-◌, ap, take}
use Rattle.myi_window.proofs.ExcerptLemmas.{put_front}
use Rattle.myi_window.proofs.window.move_front.Goals as goal

pub returns : goal.returns
returns c = ap (take (c.args.count - c.args.skip)) c.copy_within.ensures.after ∙ put_front c.args.skip c.args.count c.args.buffer.now _ c.requires.inside c.requires.order
