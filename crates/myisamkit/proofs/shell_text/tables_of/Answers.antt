use Rattle.std.proofs.Common.{◌≡◌, None, sym, ap, subst, ◌∙◌}
use Rattle.myi_merge.specs.Loading.{list_file, RefusesList}
use Rattle.myisamkit.specs.Shells.{tables_by}
use Rattle.myisamkit.proofs.shell_text.tables_of.Goals as goal

pub returns-in-Err-Absent-clause-tables : goal.returns-in-Err-Absent-clause-tables
returns-in-Err-Absent-clause-tables g c m held =
    let none : m (list_file c.args.name.now) ≡ None = (subst (λ f. RefusesList c.args.name.now f m) c.in-Err-Absent.field-0-is (c.in-Err-Absent.ensures.refused m held)).1 in
    (c.in_ok-names-in-Err-Absent.ensures ∙ sym (ap (tables_by c.args.name.now) none), none)

pub returns-in-Err-List-clause-tables : goal.returns-in-Err-List-clause-tables
returns-in-Err-List-clause-tables g c m held = subst (λ f. RefusesList c.args.name.now f m) c.in-Err-List.field-0-is (c.in-Err-List.ensures.refused m held)
