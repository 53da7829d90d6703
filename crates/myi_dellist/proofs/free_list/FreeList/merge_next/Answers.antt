use Rattle.std.proofs.Common.{◌≡◌, ap, refl, rules}
use Rattle.myi_dellist.specs.FreeList.{ListState}
use Rattle.myi_dellist.proofs.FreeLemmas.{IsOf}
use Rattle.myi_dellist.proofs.MergeLemmas.{told_merge, finds_merge}
use Rattle.myi_dellist.proofs.free_list.FreeList.merge_next.Goals as goal

pub returns-clause-ok : goal.returns-clause-ok
returns-clause-ok g c =
    let name : c.deref.result.now ≡ c.args.self.now.name = search rules in
    let o : IsOf c.args.self.now c.deref.result.now c.self.inside.end c.self.inside.head = record { name_is = name; end_is = ap (λ (l : ListState). l.end) c.self.view_is; head_is = ap (λ (l : ListState). l.head) c.self.view_is } in
    told_merge _ _ c.args.self.now _ c.deref.result.now c.self.inside.end c.self.inside.head c.args.at c.args.size c.in_ok-merged.merged o refl c.requires.long c.in_ok-merged.ensures.ok

pub returns-clause-finds : goal.returns-clause-finds
returns-clause-finds g c =
    let name : c.deref.result.now ≡ c.args.self.now.name = search rules in
    let o : IsOf c.args.self.now c.deref.result.now c.self.inside.end c.self.inside.head = record { name_is = name; end_is = ap (λ (l : ListState). l.end) c.self.view_is; head_is = ap (λ (l : ListState). l.head) c.self.view_is } in
    finds_merge _ _ c.args.self.now c.deref.result.now c.self.inside.end c.self.inside.head c.args.at c.args.size c.in_ok-merged.merged o c.requires.long c.in_ok-merged.ensures.ok
