use Rattle.std.proofs.Common.{◌≡◌, ◌∙◌, ℕ, length, ap, rules, arith}
use Rattle.myi_dellist.specs.Placing.{end_behind}
use Rattle.myi_dellist.specs.FreeList.{ListState}
use Rattle.myi_dellist.specs.Rows.{end_with}
use Rattle.myi_dellist.proofs.AtEndLemmas.{end_pieces, puts_end}
use Rattle.myi_dellist.proofs.AddedLemmas.{end_appends}
use Rattle.myi_dellist.proofs.free_list.FreeList.put_at_end.Goals as goal

pub returns-clause-ok : goal.returns-clause-ok
returns-clause-ok g c =
    let name : c.deref.result.now ≡ c.args.self.now.name = search rules in
    let len : ℕ = length c.args.packed.now in
    let put = c.in_ok-self-inside.ensures in
    let place = ap (λ (l : ListState). l.end) c.self.view_is in
    let end : c.in_ok-self-inside.field-0 ≡ end_with c.args.self.now len = put.end ∙ ap (λ (q : ℕ). end_behind q (end_pieces len q)) place in
    let list = ap (λ (v : ListState). record v { end = c.in_ok-self-inside.field-0 }) c.self.view_is ∙ ap (λ (q : ℕ). record c.args.self.now { end = q }) end in
    puts_end _ _ c.args.self.now _ c.deref.result.now c.self.inside.end c.args.packed.now name place list c.requires.some c.requires.few (omega (arith, end, put.room)) c.requires.long put.ok

pub returns-clause-appended : goal.returns-clause-appended
returns-clause-appended g c =
    let name : c.deref.result.now ≡ c.args.self.now.name = search rules in
    let len : ℕ = length c.args.packed.now in
    let put = c.in_ok-self-inside.ensures in
    let place = ap (λ (l : ListState). l.end) c.self.view_is in
    let end : c.in_ok-self-inside.field-0 ≡ end_with c.args.self.now len = put.end ∙ ap (λ (q : ℕ). end_behind q (end_pieces len q)) place in
    let list = ap (λ (v : ListState). record v { end = c.in_ok-self-inside.field-0 }) c.self.view_is ∙ ap (λ (q : ℕ). record c.args.self.now { end = q }) end in
    end_appends _ _ c.args.self.now _ c.deref.result.now c.self.inside.end c.args.packed.now name place list c.requires.some c.requires.few (omega (arith, end, put.room)) c.requires.long put.ok
