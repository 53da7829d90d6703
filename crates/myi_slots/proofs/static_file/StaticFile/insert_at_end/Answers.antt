use Rattle.std.proofs.Common.{◌≡◌, length, subst, rules}
use Rattle.myi_defs.specs.declared.types.RowFormat.TheVariants.{Static}
use Rattle.myi_defs.specs.Sound.{IsSound}
use Rattle.myi_slots.specs.SlotFile.{SlotFile}
use Rattle.myi_slots.proofs.ResultLemmas.{append-ok, append-refused, packed-long, append-room, append-numbers, append-causes}
use Rattle.myi_slots.proofs.AddedLemmas.{append-adds}
use Rattle.myi_slots.proofs.static_file.StaticFile.insert_at_end.Goals as goal

pub returns-clause-ok : goal.returns-clause-ok
returns-clause-ok g c =
    append-ok c.args.self.now c.append.new.self c.args.row.now c.as_slice.result.now _ _ c.append.result
    (subst (λ (f : SlotFile). IsSound f.defs) c.self.view_is c.self.invariant.0) (subst (λ (f : SlotFile). f.defs.format ≡ Static) c.self.view_is c.self.invariant.1)
    c.requires.fits (search rules) (search rules) (search rules) (search rules) (search rules)

pub returns-clause-refused : goal.returns-clause-refused
returns-clause-refused g c =
    append-refused c.args.self.now c.args.row.now c.as_slice.result.now _ c.append.result
    (subst (λ (f : SlotFile). IsSound f.defs) c.self.view_is c.self.invariant.0) (subst (λ (f : SlotFile). f.defs.format ≡ Static) c.self.view_is c.self.invariant.1)
    c.requires.fits (search rules) (search rules)

pub returns-clause-room : goal.returns-clause-room
returns-clause-room g c =
    append-room c.args.self.now (length c.as_slice.result.now) c.append.result (packed-long c.args.self.now.defs c.args.row.now c.as_slice.result.now
    (subst (λ (f : SlotFile). IsSound f.defs) c.self.view_is c.self.invariant.0) (subst (λ (f : SlotFile). f.defs.format ≡ Static) c.self.view_is c.self.invariant.1) c.requires.fits (search rules)) (search rules)

pub returns-clause-numbers : goal.returns-clause-numbers
returns-clause-numbers g c =
    append-numbers c.args.self.now c.append.new.self (length c.as_slice.result.now) c.append.result (packed-long c.args.self.now.defs c.args.row.now c.as_slice.result.now
    (subst (λ (f : SlotFile). IsSound f.defs) c.self.view_is c.self.invariant.0) (subst (λ (f : SlotFile). f.defs.format ≡ Static) c.self.view_is c.self.invariant.1) c.requires.fits (search rules)) (search rules)

pub returns-clause-causes : goal.returns-clause-causes
returns-clause-causes g c =
    append-causes c.args.self.now (length c.as_slice.result.now) c.append.result (packed-long c.args.self.now.defs c.args.row.now c.as_slice.result.now
    (subst (λ (f : SlotFile). IsSound f.defs) c.self.view_is c.self.invariant.0) (subst (λ (f : SlotFile). f.defs.format ≡ Static) c.self.view_is c.self.invariant.1) c.requires.fits (search rules)) (search rules)

pub returns-clause-appended : goal.returns-clause-appended
returns-clause-appended g c =
    append-adds c.args.self.now c.append.new.self c.args.row.now c.as_slice.result.now _ _ c.append.result
    (subst (λ (f : SlotFile). f.defs.format ≡ Static) c.self.view_is c.self.invariant.1) (search rules) (search rules) (search rules) (search rules)
