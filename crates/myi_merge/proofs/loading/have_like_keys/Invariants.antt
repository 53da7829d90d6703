use Rattle.std.proofs.Common.{◌≡◌, take}
use Rattle.myi_merge.proofs.loading.have_like_keys.Given as goal

abbrev pub invariant-loop-index : goal.invariant-loop-index
invariant-loop-index l = take l.index l.one ≡ take l.index l.other
