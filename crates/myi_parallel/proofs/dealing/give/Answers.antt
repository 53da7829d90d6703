use Rattle.std.proofs.Common.{◌∙◌, ◌++◌, ◌∷◌, [], ap, sym, set, map, get_or}
use Rattle.myi_parallel.specs.KeyTrees.{asked_of}
use Rattle.myi_parallel.specs.Shares.{asked_in}
use Rattle.myi_parallel.proofs.ShareLaws.{map_set, map_one_more, share_is}
use Rattle.myi_parallel.proofs.dealing.give.Goals as goal

pub returns : goal.returns
returns c =
    let shares = c.args.shares.now in
    let own = get_or shares c.args.turn c.index-shares-turn.result in
    let more = ap (map asked_of) c.in_ok-push.ensures.items ∙ map_one_more asked_of own.trees.items c.args.tree in
    map_set asked_in shares c.args.turn _ ∙ ap (λ l. set (map asked_in shares) c.args.turn l)
    (more ∙ ap (λ l. l ++ asked_of c.args.tree ∷ []) (sym (share_is asked_in shares c.args.turn c.index-shares-turn.result c.requires [])))
