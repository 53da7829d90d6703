use Rattle.std.proofs.Common.{sym, subst}
use Rattle.std.proofs.lemmas.Result.{IfOk-weaker}
use Rattle.myi_base.specs.Holding.{bytes_of}
use Rattle.myi_frames.specs.Seeing.{IsPartAt}
use Rattle.myi_window.proofs.CallerLemmas.{excerpt_front}
use Rattle.myi_order.proofs.nearby.header_near.Goals as goal

pub returns-clause-told : goal.returns-clause-told
returns-clause-told g c =
    let at = c.args.at in
    IfOk-weaker c.header_in.result _ _ (λ h told m held knows.
    let x = bytes_of c.args.name.now m in
    told x knows.long (subst (λ b. IsPartAt at b x) (sym c.bytes_from-held.ensures) (excerpt_front at c.args.near.now.window x knows.stands))) c.header_in.ensures.told
