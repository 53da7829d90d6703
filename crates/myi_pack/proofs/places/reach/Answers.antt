use Rattle.std.proofs.Common.{arith}
use Rattle.myi_pack.proofs.PlaceLemmas.{next_here, pushed_begun}
use Rattle.myi_pack.proofs.places.reach.Goals as goal

pub cut_at-requires-clause-inside : goal.cut_at-requires-clause-inside
cut_at-requires-clause-inside c = (next_here c.args.fields.now c.args.flags.now c.args.bytes.now c.loop-behind.behind.items c.deref.result.now c.len-last.result c.place_of-place.result c.requires.row c.loop-behind.invariant c.deref.ensures.value (omega arith) (omega arith) c.place_of-place.ensures).inside

pub cut_at-requires-clause-few : goal.cut_at-requires-clause-few
cut_at-requires-clause-few c = (next_here c.args.fields.now c.args.flags.now c.args.bytes.now c.loop-behind.behind.items c.deref.result.now c.len-last.result c.place_of-place.result c.requires.row c.loop-behind.invariant c.deref.ensures.value (omega arith) (omega arith) c.place_of-place.ensures).few

pub cut_at-requires-clause-found : goal.cut_at-requires-clause-found
cut_at-requires-clause-found c = (next_here c.args.fields.now c.args.flags.now c.args.bytes.now c.loop-behind.behind.items c.deref.result.now c.len-last.result c.place_of-place.result c.requires.row c.loop-behind.invariant c.deref.ensures.value (omega arith) (omega arith) c.place_of-place.ensures).found

pub loop-behind-preserved : goal.loop-behind-preserved
loop-behind-preserved c =
    let here = next_here c.args.fields.now c.args.flags.now c.args.bytes.now c.loop-behind.behind.items c.deref.result.now c.len-last.result c.place_of-place.result c.requires.row c.loop-behind.invariant c.deref.ensures.value (omega arith) (omega arith) c.place_of-place.ensures in
    pushed_begun c.args.fields.now c.args.flags.now c.args.bytes.now c.loop-behind.behind.items c.push.new.self.items c.len-last.result c.place_of-place.result _ _ here c.loop-behind.invariant (omega arith) c.cut_at.ensures.found c.cut_at.ensures.inside c.cut_at.ensures.flag c.in_ok-push.ensures.items
