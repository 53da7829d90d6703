use Rattle.std.proofs.Common.{◌≡◌, ap, refl, rules, arith}
use Rattle.myi_dellist.specs.FreeList.{ListState}
use Rattle.myi_dellist.proofs.FreeLemmas.{IsOf, told_one, told_two, finds_one, finds_two}
use Rattle.myi_dellist.proofs.free_list.FreeList.release.Goals as goal

pub returns-then-size-le-MOST_SIZE-clause-ok : goal.returns-then-size-le-MOST_SIZE-clause-ok
returns-then-size-le-MOST_SIZE-clause-ok g c =
    let name : c.deref.result.now ≡ c.args.self.now.name = search rules in
    let o : IsOf c.args.self.now c.deref.result.now c.self.inside.end c.self.inside.head = record { name_is = name; end_is = ap (λ (l : ListState). l.end) c.self.view_is; head_is = ap (λ (l : ListState). l.head) c.self.view_is } in
    told_one _ _ c.args.self.now _ c.deref.result.now c.self.inside.end c.self.inside.head c.args.at c.args.size o refl c.requires.long c.requires.place (omega (arith, c.if-size-le-MOST_SIZE.true)) c.in_ok-release_one.ensures.ok

pub returns-then-size-le-MOST_SIZE-clause-finds : goal.returns-then-size-le-MOST_SIZE-clause-finds
returns-then-size-le-MOST_SIZE-clause-finds g c =
    let name : c.deref.result.now ≡ c.args.self.now.name = search rules in
    let o : IsOf c.args.self.now c.deref.result.now c.self.inside.end c.self.inside.head = record { name_is = name; end_is = ap (λ (l : ListState). l.end) c.self.view_is; head_is = ap (λ (l : ListState). l.head) c.self.view_is } in
    finds_one _ _ c.args.self.now c.deref.result.now c.self.inside.end c.self.inside.head c.args.at c.args.size o c.requires.long (omega (arith, c.if-size-le-MOST_SIZE.true)) c.in_ok-release_one.ensures.ok

pub returns-clause-ok : goal.returns-clause-ok
returns-clause-ok g c =
    let name : c.deref-2.result.now ≡ c.args.self.now.name = search rules in
    let o : IsOf c.args.self.now c.deref-2.result.now c.self.inside.end c.self.inside.head = record { name_is = name; end_is = ap (λ (l : ListState). l.end) c.self.view_is; head_is = ap (λ (l : ListState). l.head) c.self.view_is } in
    told_two _ _ c.args.self.now _ c.deref-2.result.now c.self.inside.end c.self.inside.head c.args.at c.args.size o refl c.requires.long c.requires.place (omega (arith, c.if-size-le-MOST_SIZE.false)) c.requires.most c.in_ok-release_two.ensures.ok

pub returns-clause-finds : goal.returns-clause-finds
returns-clause-finds g c =
    let name : c.deref-2.result.now ≡ c.args.self.now.name = search rules in
    let o : IsOf c.args.self.now c.deref-2.result.now c.self.inside.end c.self.inside.head = record { name_is = name; end_is = ap (λ (l : ListState). l.end) c.self.view_is; head_is = ap (λ (l : ListState). l.head) c.self.view_is } in
    finds_two _ _ c.args.self.now c.deref-2.result.now c.self.inside.end c.self.inside.head c.args.at c.args.size o c.requires.long (omega (arith, c.if-size-le-MOST_SIZE.false)) c.in_ok-release_two.ensures.ok
