use Rattle.std.proofs.Common.{Some, refl, sym, subst, arith}
use Rattle.myi_script.specs.declared.types.Act.{Act}
use Rattle.myi_shell.specs.declared.target.Target.TheVariants.{Many}
use Rattle.myi_shell.specs.Targets.{taking}
use Rattle.myi_shell.specs.Changing.{IsChangedBy}
use Rattle.myi_shell.proofs.CarryLemmas.{carried_none}
use Rattle.myi_shell.proofs.TargetTouches.{touched_none}
use Rattle.myi_shell.proofs.ListInserts.{list_unchanged}
use Rattle.myi_shell.proofs.IdleLemmas.{unasked_none, list_leaves}
use Rattle.myi_shell.proofs.target.change_list.Goals as goal

pub returns-in_ok-insert_in-in-Insert-clause-changed : goal.returns-in_ok-insert_in-in-Insert-clause-changed
returns-in_ok-insert_in-in-Insert-clause-changed g c = λ m held s h.
    let g' = Many c.args.merge.now in
    subst (λ (a : Act). IsChangedBy (taking g') g' s c.args.together (Some a) (g.F.Files.holds c.insert_in.new.files) (Many c.insert_in.new.merge) (Some c.in_ok-insert_in-in-Insert.field-0)) (sym c.in-Insert.is) (c.in_ok-insert_in-in-Insert.ensures.changed m held s h c.args.together)

pub returns-in_default : goal.returns-in_default
returns-in_default g c =
    let told = g.F.Files.holds c.args.files.now in
    let list = Many c.args.merge.now in
    record {
      changed = list_unchanged c.args.merge.now told c.args.together c.args.act.now c.in_default.not-Insert;
      touched = touched_none told told list 0 refl;
      idle = unasked_none told told list c.args.together c.args.act.now refl;
      carried = carried_none told told list refl c.requires.kept;
      whole = c.requires.whole;
      refused = tt;
      cause = record { later = omega arith; cause = λ e. cc };
    }

pub returns-in_err-insert_in-in-Insert-clause-idle : goal.returns-in_err-insert_in-in-Insert-clause-idle
returns-in_err-insert_in-in-Insert-clause-idle g c = list_leaves (g.F.Files.holds c.args.files.now) (g.F.Files.holds c.insert_in.new.files) c.args.merge.now c.args.together c.args.act.now _ c.in-Insert.is c.insert_in.ensures.idle

pub returns-in_ok-insert_in-in-Insert-clause-idle : goal.returns-in_ok-insert_in-in-Insert-clause-idle
returns-in_ok-insert_in-in-Insert-clause-idle g c = list_leaves (g.F.Files.holds c.args.files.now) (g.F.Files.holds c.insert_in.new.files) c.args.merge.now c.args.together c.args.act.now _ c.in-Insert.is c.insert_in.ensures.idle
