use Rattle.std.proofs.Common.{◌≡◌, ◌∙◌, ◌++◌, ◌∷◌, [], refl, ap, subst}
use Rattle.myi_chain.specs.Chain.{ranges_at}
use Rattle.myi_chain.specs.Used.{SameUsed, SameFrom, joined}
use Rattle.myi_chain.proofs.MapLemmas.{far_apart}
use Rattle.myi_chain.proofs.JoinedLemmas.{adds_front, adds_others}
use Rattle.myi_chain.proofs.JoinsLemmas.{more_far, none_same}
use Rattle.myi_chain.proofs.joins.add_blocks.Goals as goal

pub put_all-requires-clause-apart : goal.put_all-requires-clause-apart
put_all-requires-clause-apart c = far_apart (joined c.args.front) c.args.far.now.entries (ranges_at c.args.more.now) (more_far (c.args.at, c.args.to) _ (ranges_at c.args.more.now) c.requires.apart)

pub add_row-requires-clause-apart : goal.add_row-requires-clause-apart
add_row-requires-clause-apart c = far_apart (joined c.args.front) c.args.far.now.entries ((c.args.at, c.args.to) ∷ ranges_at c.args.more.now) c.requires.apart

pub returns-then-at-front-clause-same : goal.returns-then-at-front-clause-same
returns-then-at-front-clause-same c =
    let to = c.args.to in
    let es = c.args.far.now.entries in
    let more = ranges_at c.args.more.now in
    let new = c.put_all.new.far.entries in
    subst (λ n. SameFrom to (joined to ++ new) ((joined n ++ es) ++ (c.args.at, to) ∷ more)) c.if-at-front.true (adds_front c.args.at to es new more c.requires.first c.in_ok-put_all.ensures.same)

pub returns-then-at-front-clause-plain : goal.returns-then-at-front-clause-plain
returns-then-at-front-clause-plain c at none alone =
    let put = c.in_ok-put_all.ensures in
    let all : c.args.far.now.entries ++ ranges_at c.args.more.now ≡ [] = ap (λ es. es ++ ranges_at c.args.more.now) none ∙ ap ranges_at alone in
    (refl, none_same c.put_all.new.far.entries put.order (subst (SameUsed c.put_all.new.far.entries) all put.same))

pub returns-clause-same : goal.returns-clause-same
returns-clause-same c = adds_others c.args.front c.args.to c.args.far.now.entries c.add_row.new.far.entries ((c.args.at, c.args.to) ∷ ranges_at c.args.more.now) c.in_ok-add_row.ensures.same
