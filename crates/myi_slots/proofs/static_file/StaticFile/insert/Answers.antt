use Rattle.std.proofs.Common.{◌≡◌, length, subst, rules}
use Rattle.myi_defs.specs.declared.types.RowFormat.TheVariants.{Static}
use Rattle.myi_defs.specs.Sound.{IsSound}
use Rattle.myi_slots.specs.SlotFile.{SlotFile}
use Rattle.myi_slots.proofs.ResultLemmas.{append-ok, insert-ok, insert-refused, full-refused, fill-ok, fill-refused, packed-long, append-room, append-numbers, append-causes, new-place, new-room, new-numbers, new-causes, fill-place, fill-room, fill-numbers, fill-causes, new-inside, new-length, new-records, fill-inside, fill-length}
use Rattle.myi_slots.proofs.AddedLemmas.{append-adds, new-adds, fill-adds}
use Rattle.myi_slots.proofs.static_file.StaticFile.insert.Goals as goal

pub returns-in-Some-clause-ok : goal.returns-in-Some-clause-ok
returns-in-Some-clause-ok g c =
    fill-ok c.args.self.now c.fill.new.self c.args.row.now c.as_slice.result.now c.in-Some.at _ _ c.fill.result
    (subst (λ (f : SlotFile). IsSound f.defs) c.self.view_is c.self.invariant.0) (subst (λ (f : SlotFile). f.defs.format ≡ Static) c.self.view_is c.self.invariant.1)
    c.requires.fits (search rules) (search rules) (search rules) (search rules) (search rules) (search rules)

pub returns-in-Some-clause-refused : goal.returns-in-Some-clause-refused
returns-in-Some-clause-refused g c =
    fill-refused c.args.self.now c.args.row.now c.in-Some.at _ c.fill.result
    (subst (λ (f : SlotFile). IsSound f.defs) c.self.view_is c.self.invariant.0) (subst (λ (f : SlotFile). f.defs.format ≡ Static) c.self.view_is c.self.invariant.1)
    (search rules) (search rules)

pub returns-clause-ok : goal.returns-clause-ok
returns-clause-ok g c =
    insert-ok c.args.self.now c.append.new.self c.args.row.now _ _ c.append.result (subst (λ (f : SlotFile). f.defs.format ≡ Static) c.self.view_is c.self.invariant.1) (search rules)
    (append-ok c.args.self.now c.append.new.self c.args.row.now c.as_slice-in-None.result.now _ _ c.append.result
    (subst (λ (f : SlotFile). IsSound f.defs) c.self.view_is c.self.invariant.0) (subst (λ (f : SlotFile). f.defs.format ≡ Static) c.self.view_is c.self.invariant.1)
    c.requires.fits (search rules) (search rules) (search rules) (search rules) (search rules))

pub returns-clause-refused : goal.returns-clause-refused
returns-clause-refused g c =
    insert-refused c.args.self.now c.args.row.now _ c.append.result (subst (λ (f : SlotFile). f.defs.format ≡ Static) c.self.view_is c.self.invariant.1) (search rules)
    (full-refused c.args.self.now c.args.row.now c.as_slice-in-None.result.now _ c.append.result
    (subst (λ (f : SlotFile). IsSound f.defs) c.self.view_is c.self.invariant.0) (subst (λ (f : SlotFile). f.defs.format ≡ Static) c.self.view_is c.self.invariant.1)
    c.requires.fits (search rules) (search rules))

pub returns-in-Some-clause-place : goal.returns-in-Some-clause-place
returns-in-Some-clause-place g c = fill-place c.args.self.now c.in-Some.at c.fill.result (search rules) (search rules)

pub returns-in-Some-clause-room : goal.returns-in-Some-clause-room
returns-in-Some-clause-room g c = fill-room c.args.self.now c.in-Some.at c.fill.result (search rules) (search rules)

pub returns-in-Some-clause-numbers : goal.returns-in-Some-clause-numbers
returns-in-Some-clause-numbers g c = fill-numbers c.args.self.now c.fill.new.self c.in-Some.at _ c.fill.result (search rules) (search rules)

pub returns-in-Some-clause-causes : goal.returns-in-Some-clause-causes
returns-in-Some-clause-causes g c = fill-causes c.args.self.now c.in-Some.at _ c.fill.result (search rules) (search rules)

pub returns-clause-place : goal.returns-clause-place
returns-clause-place g c = new-place c.args.self.now c.append.result (search rules) (search rules)

pub returns-clause-room : goal.returns-clause-room
returns-clause-room g c =
    new-room c.args.self.now c.append.result (search rules)
    (append-room c.args.self.now (length c.as_slice-in-None.result.now) c.append.result (packed-long c.args.self.now.defs c.args.row.now c.as_slice-in-None.result.now
    (subst (λ (f : SlotFile). IsSound f.defs) c.self.view_is c.self.invariant.0) (subst (λ (f : SlotFile). f.defs.format ≡ Static) c.self.view_is c.self.invariant.1) c.requires.fits (search rules)) (search rules))

pub returns-clause-numbers : goal.returns-clause-numbers
returns-clause-numbers g c =
    new-numbers c.args.self.now c.append.new.self _ c.append.result (search rules)
    (append-numbers c.args.self.now c.append.new.self (length c.as_slice-in-None.result.now) c.append.result (packed-long c.args.self.now.defs c.args.row.now c.as_slice-in-None.result.now
    (subst (λ (f : SlotFile). IsSound f.defs) c.self.view_is c.self.invariant.0) (subst (λ (f : SlotFile). f.defs.format ≡ Static) c.self.view_is c.self.invariant.1) c.requires.fits (search rules)) (search rules))

pub returns-clause-causes : goal.returns-clause-causes
returns-clause-causes g c =
    new-causes c.args.self.now _ c.append.result (search rules)
    (append-causes c.args.self.now (length c.as_slice-in-None.result.now) c.append.result (packed-long c.args.self.now.defs c.args.row.now c.as_slice-in-None.result.now
    (subst (λ (f : SlotFile). IsSound f.defs) c.self.view_is c.self.invariant.0) (subst (λ (f : SlotFile). f.defs.format ≡ Static) c.self.view_is c.self.invariant.1) c.requires.fits (search rules)) (search rules))

pub returns-in-Some-clause-inside : goal.returns-in-Some-clause-inside
returns-in-Some-clause-inside g c = fill-inside c.args.self.now c.fill.new.self c.in-Some.at c.fill.result (search rules) (search rules) (search rules)

pub returns-in-Some-clause-length : goal.returns-in-Some-clause-length
returns-in-Some-clause-length g c = fill-length c.args.self.now c.fill.new.self c.in-Some.at c.fill.result (search rules) (search rules)

pub returns-clause-inside : goal.returns-clause-inside
returns-clause-inside g c =
    new-inside c.args.self.now c.append.new.self c.append.result (search rules)
    (append-numbers c.args.self.now c.append.new.self (length c.as_slice-in-None.result.now) c.append.result (packed-long c.args.self.now.defs c.args.row.now c.as_slice-in-None.result.now
    (subst (λ (f : SlotFile). IsSound f.defs) c.self.view_is c.self.invariant.0) (subst (λ (f : SlotFile). f.defs.format ≡ Static) c.self.view_is c.self.invariant.1) c.requires.fits (search rules)) (search rules))

pub returns-clause-length : goal.returns-clause-length
returns-clause-length g c =
    new-length c.args.self.now c.append.new.self c.append.result (search rules)
    (append-numbers c.args.self.now c.append.new.self (length c.as_slice-in-None.result.now) c.append.result (packed-long c.args.self.now.defs c.args.row.now c.as_slice-in-None.result.now
    (subst (λ (f : SlotFile). IsSound f.defs) c.self.view_is c.self.invariant.0) (subst (λ (f : SlotFile). f.defs.format ≡ Static) c.self.view_is c.self.invariant.1) c.requires.fits (search rules)) (search rules))

pub returns-clause-records : goal.returns-clause-records
returns-clause-records g c =
    new-records c.args.self.now c.append.new.self c.append.result
    (append-numbers c.args.self.now c.append.new.self (length c.as_slice-in-None.result.now) c.append.result (packed-long c.args.self.now.defs c.args.row.now c.as_slice-in-None.result.now
    (subst (λ (f : SlotFile). IsSound f.defs) c.self.view_is c.self.invariant.0) (subst (λ (f : SlotFile). f.defs.format ≡ Static) c.self.view_is c.self.invariant.1) c.requires.fits (search rules)) (search rules))

pub returns-in-Some-clause-appended : goal.returns-in-Some-clause-appended
returns-in-Some-clause-appended g c = fill-adds c.args.self.now c.fill.new.self c.args.row.now c.as_slice.result.now c.in-Some.at _ _ c.fill.result (search rules) (search rules)

pub returns-clause-appended : goal.returns-clause-appended
returns-clause-appended g c =
    new-adds c.args.self.now c.append.new.self c.args.row.now _ _ c.append.result
    (append-adds c.args.self.now c.append.new.self c.args.row.now c.as_slice-in-None.result.now _ _ c.append.result
    (subst (λ (f : SlotFile). f.defs.format ≡ Static) c.self.view_is c.self.invariant.1) (search rules) (search rules) (search rules) (search rules))
