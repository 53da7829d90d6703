use Rattle.std.proofs.Common.{◌∙◌}
use Rattle.myi_btree.proofs.LaidRoot.{ends_behind, root_is}
use Rattle.myi_btree.proofs.tree.Tree.build.Goals as goal

pub overflow_sub-root : goal.overflow_sub-root
overflow_sub-root g c = ends_behind c.args.place c.args.room.now.end c.in_ok-end.end c.args.pairs.now (λ none. c.if-len-eq0.false (c.len.ensures ∙ none)) c.in_ok-end.ensures.end

pub returns-clause-root : goal.returns-clause-root
returns-clause-root g c = root_is c.args.place c.args.room.now.end c.in_ok-end.end c.args.pairs.now (λ none. c.if-len-eq0.false (c.len.ensures ∙ none)) c.in_ok-end.ensures.end
