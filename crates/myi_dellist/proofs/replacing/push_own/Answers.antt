use Rattle.std.proofs.Common.{◌<◌, ◌≤◌, ◌^◌, ◌⊎◌, refl, arith, inl, inr}
use Rattle.myi_dellist.specs.Releasing.{most_size}
use Rattle.myi_dellist.proofs.ReplaceLemmas.{own-one, own-two}
use Rattle.myi_dellist.proofs.replacing.push_own.Goals.{then-len-lt-GIANT-via-then-len-lt-GIANT, then-len-lt-GIANT-via-else-len-lt-GIANT+then-block-le-MOST_SIZE}
use Rattle.myi_dellist.proofs.replacing.push_own.Goals as goal

pub returns-then-len-lt-GIANT-clause-areas : goal.returns-then-len-lt-GIANT-clause-areas
returns-then-len-lt-GIANT-clause-areas c =
    let one : (c.args.len < 2 ^ 24) ⊎ (c.args.block.now.size ≤ most_size) = elim c.then-len-lt-GIANT.branch [ then-len-lt-GIANT-via-then-len-lt-GIANT w ↦ inl (omega (arith, w.if-len-lt-GIANT.true)) | then-len-lt-GIANT-via-else-len-lt-GIANT+then-block-le-MOST_SIZE w ↦ inr (omega (arith, w.if-block-le-MOST_SIZE.true)) ] in
    own-one c.args.len c.args.areas.now.items c.push.new.self.items c.args.block.now one c.in_ok-push.ensures.items

pub returns-clause-areas : goal.returns-clause-areas
returns-clause-areas c = own-two c.args.len c.args.areas.now.items c.push-2.new.self.items c.push-3.new.self.items c.args.block.now _ _ (omega (arith, c.if-len-lt-GIANT.false)) (omega (arith, c.if-block-le-MOST_SIZE.false)) refl refl c.in_ok-push-2.ensures.items c.in_ok-push-3.ensures.items
