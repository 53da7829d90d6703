use Rattle.std.proofs.Common.{ℕ, ◌+◌, [], get_or, ap, ◌∙◌, arith}
use Rattle.myi_keypage.specs.Page.{entry_with}
use Rattle.myi_keypage.specs.declared.entry.Entry.{Entry}
use Rattle.myi_keypage.proofs.WriteLaws.{part_at}
use Rattle.myi_keypage.proofs.list.PartEntryList.row.Goals as goal

pub overflow_add-first : goal.overflow_add-first
overflow_add-first g c =
    let at = part_at (g.L.EntryList.entries c.args.self.now.list.now) c.args.self.now.start c.args.self.now.count c.args.i (entry_with [] 0) c.requires in
    omega (arith, at.0, c.first.ensures.value, c.first.ensures.bound)

pub row-requires : goal.row-requires
row-requires g c =
    let at = part_at (g.L.EntryList.entries c.args.self.now.list.now) c.args.self.now.start c.args.self.now.count c.args.i (entry_with [] 0) c.requires in
    omega (arith, at.0, c.first.ensures.value)

pub returns : goal.returns
returns g c = λ other.
    let at = part_at (g.L.EntryList.entries c.args.self.now.list.now) c.args.self.now.start c.args.self.now.count c.args.i other c.requires in
    let first = c.first.ensures.value in
    c.row.ensures other ∙ ap (λ (n : ℕ). (get_or (g.L.EntryList.entries c.args.self.now.list.now) (n + c.args.i) other).row) first ∙ ap (λ (e : Entry). e.row) at.1
