-- What an insert in a list leaves of its tables.
use Rattle.std.proofs.Common.{◌≡◌, ◌+◌, ◌<◌, ◌≤◌, ℕ, zero, suc, true, List, [], ◌∷◌, length, get_or, slice_get, Option, Some, None, Result, Ok, Err, IfOk, IfErr, OnOk, OnErr, refl, sym, ap, subst, ◌∙◌, arith}
use Rattle.std.proofs.lemmas.Option.{same_Some}
use Rattle.myi_base.specs.Holding.{Holding, Told}
use Rattle.myi_base.proofs.CallerLemmas.{told_more}
use Rattle.myi_pack.specs.Packed.{Values}
use Rattle.myi_search.specs.Counting.{CountsOn}
use Rattle.myi_state.specs.Changes.{insert}
use Rattle.myi_table.specs.declared.fault.ChangeFault.{ChangeFault}
use Rattle.myi_table.specs.declared.fault.ChangeFault.TheVariants as change
use Rattle.myi_table.specs.Table as table
use Rattle.myi_table.specs.Table.{OpenTable, KeepsOthers}
use Rattle.myi_merge.specs.declared.fault.MergeInsertFault.{MergeInsertFault}
use Rattle.myi_merge.specs.declared.fault.MergeInsertFault.TheVariants as insertion
use Rattle.myi_merge.specs.Merged.{OpenMerge, IsMerge, AreKept, AreWhole, OfEach}
use Rattle.myi_merge.specs.Merging.{KeepBut}
use Rattle.myi_merge.specs.Changing.{target, ChangesTarget, OfTarget, broken_behind, IfReplied, Inserts, RefusesRow, ChangesTheirOwn}
use Rattle.myi_merge.proofs.CallerLemmas.{keep_but}
use Rattle.myi_base.specs.Causes.{HasCause}
use Rattle.myi_shell.specs.declared.fault.ShellFault.{ShellFault}
use Rattle.myi_shell.specs.declared.fault.ShellFault.TheVariants as fault
use Rattle.myi_shell.specs.declared.changes.Changed.{Changed}
use Rattle.myi_shell.specs.declared.target.Target.TheVariants.{Many}
use Rattle.myi_shell.specs.Carrying as one
use Rattle.myi_shell.specs.Changing.{count_by, list_replied}
use Rattle.myi_shell.specs.Targets.{AreNotBelow, index_by, index_in, TouchesAt, IsTouchedBy, IsCarried}
use Rattle.myi_shell.proofs.TouchLemmas as touch
use Rattle.myi_shell.proofs.TargetTouches.{touched_none, each_long}
use Rattle.myi_shell.proofs.CarryLemmas.{one_itself, below_none}
use Rattle.myi_shell.proofs.ListLemmas.{found_at, target_each, counted_one, lists_below, one_below, list_defs, list_takes, touches_one}

got : (ts : List OpenTable) (i : ℕ) (d t : OpenTable) → slice_get ts i ≡ Some t → get_or ts i d ≡ t
got [] i d t is = absurd cc
got (u ∷ ts) zero d t is = same_Some u t is
got (u ∷ ts) (suc i) d t is = got ts i d t is

inside : (ts : List OpenTable) (i : ℕ) (t : OpenTable) → slice_get ts i ≡ Some t → i < length ts
inside [] i t is = absurd cc
inside (u ∷ ts) zero t is = omega arith
inside (u ∷ ts) (suc i) t is = let more = inside ts i t is in omega (arith, more)

-- the files of the other tables stay
pub but_kept : (told next : Option Holding) (g : OpenMerge) (index : ℕ) (before : OpenTable) → IsMerge g → slice_get g.tables index ≡ Some before → table.ChangesItsOwn told next before → Told told next (KeepBut index g.tables)
but_kept told next g index before is stood others =
    told_more told next (KeepsOthers before.name) (KeepBut index g.tables) others (λ m n held k. keep_but g.tables index before m n is.named (inside g.tables index before stood)
    (subst (λ (z : OpenTable). KeepsOthers z.name m n) (sym (got g.tables index before before stood)) k))

-- the table that takes the rows is touched so, and the others are untouched
touches : (told next : Option Holding) (g h : OpenMerge) (k index : ℕ) (before : OpenTable) → IsMerge g → target g ≡ Some index → slice_get g.tables index ≡ Some before → table.ChangesItsOwn told next before → ChangesTarget g h
    → ((u : OpenTable) → slice_get h.tables index ≡ Some u → one.IsTouchedBy told next before u 0 k) → IsTouchedBy told next (Many g) (Many h) 0 k
touches told next g h k index before is takes stood others changes touched =
    let i : index_in g ≡ index = ap index_by takes in
    let lt = inside g.tables index before stood in
    let many = changes.many in
    let u = found_at h.tables index (omega (arith, lt, many)) in
    let at = touches_one told next k index g.tables h.tables before u.0 (but_kept told next g index before is stood others) many stood u.1 (λ j off. changes.others j (λ e. off (sym (same_Some index j (sym takes ∙ e))))) (touched u.0 u.1) in
    (omega arith, changes.method, subst (λ j. TouchesAt told next 0 k j g.tables h.tables) (sym i) at)

made_one : (told next : Option Holding) (t u : OpenTable) → table.IsSame t u → u.changed ≡ true → one.IsTouchedBy told next t u 0 1
made_one told next t u same marked = record { name = same.name; later = omega arith; none = λ e. absurd (omega (arith, e)); some = λ lt. marked }

kept_one : (told next : Option Holding) (t u : OpenTable) → table.IsSame t u → Told told next (table.KeepsRows t.name) → u.changed ≡ t.changed → one.IsTouchedBy told next t u 0 0
kept_one told next t u same rows mark = touch.touched_same told next t u 0 0 same.name refl (record { rows = rows; mark = mark })

abbrev Refused : Option Holding → Option Holding → OpenMerge → OpenMerge → Values → ChangeFault → Type 0
Refused told next g h row f = RefusesRow (insert row) told next g h f

kept_by : (told next : Option Holding) (g h : OpenMerge) (row : Values) (f : ChangeFault) → IsMerge g → Refused told next g h row f → ChangesTarget g h → OfTarget g h table.IsSame → OfTarget g h (λ t u. u.changed ≡ t.changed) → OfTarget g h (λ t u. Told told next (table.KeepsRows t.name))
    → IsTouchedBy told next (Many g) (Many h) 0 0
kept_by told next g h row f is said changes same mark rows =
    touches told next g h 0 said.index said.before is said.takes said.stood said.others changes
    (λ u there. kept_one told next said.before u (same said.index said.before u said.takes said.stood there) (rows said.index said.before u said.takes said.stood there) (mark said.index said.before u said.takes said.stood there))

pub list_touched : (told next : Option Holding) (g h : OpenMerge) (row : Values) (made : Result (ℕ × ℕ) MergeInsertFault) → IsMerge g → IfOk made (Inserts (insert row) told next g h) → ((f : ChangeFault) → made ≡ Err (insertion.Change f) → Refused told next g h row f)
    → (made ≡ Err insertion.NoInsertMethod → (h ≡ g) × (next ≡ told)) → ChangesTarget g h → OfTarget g h table.IsSame
    → OnOk made (OfTarget g h (λ t u. u.changed ≡ true)) → OnErr made (OfTarget g h (λ t u. u.changed ≡ t.changed)) → IfErr made (λ f. IfReplied f (OfTarget g h (λ t u. Told told next (table.KeepsRows t.name))))
    → IfOk (list_replied made) (λ c. IsTouchedBy told next (Many g) (Many h) 0 (count_by c.made))
list_touched told next g h row (Ok place) is ok err none changes same marked mark rows =
    touches told next g h 1 ok.index ok.before is ok.takes ok.stood ok.others changes
    (λ u there. made_one told next ok.before u (same ok.index ok.before u ok.takes ok.stood there) (marked ok.index ok.before u ok.takes ok.stood there))
list_touched told next g h row (Err insertion.NoInsertMethod) is ok err none changes same marked mark rows =
    let w = none refl in
    subst (λ (z : OpenMerge). IsTouchedBy told next (Many g) (Many z) 0 0) (sym w.0) (touched_none told next (Many g) 0 w.1)
list_touched told next g h row (Err (insertion.Change (change.NoRow at))) is ok err none changes same marked mark rows = kept_by told next g h row (change.NoRow at) is (err (change.NoRow at) refl) changes same mark rows
list_touched told next g h row (Err (insertion.Change (change.Duplicate key at))) is ok err none changes same marked mark rows = kept_by told next g h row (change.Duplicate key at) is (err (change.Duplicate key at) refl) changes same mark rows
list_touched told next g h row (Err (insertion.Change change.Full)) is ok err none changes same marked mark rows = kept_by told next g h row change.Full is (err change.Full refl) changes same mark rows
list_touched told next g h row (Err (insertion.Change (change.Broken by))) is ok err none changes same marked mark rows = tt
list_touched told next g h row (Err (insertion.Change (change.Damaged at))) is ok err none changes same marked mark rows = tt
list_touched told next g h row (Err (insertion.Change change.File)) is ok err none changes same marked mark rows = tt
list_touched told next g h row (Err (insertion.Change change.Memory)) is ok err none changes same marked mark rows = tt

pub told_list_touched : (told next : Option Holding) (g h : OpenMerge) (result mine : Result Changed ShellFault) → result ≡ mine → IfOk mine (λ c. IsTouchedBy told next (Many g) (Many h) 0 (count_by c.made)) → IfOk result (λ c. IsTouchedBy told next (Many g) (Many h) 0 (count_by c.made))
told_list_touched told next g h result mine is k = subst (λ (r : Result Changed ShellFault). IfOk r (λ c. IsTouchedBy told next (Many g) (Many h) 0 (count_by c.made))) (sym is) k

-- ---- what is carried

pub list_carried : (told next : Option Holding) (g h : OpenMerge) → AreKept next h.tables → h.method ≡ g.method → OfEach g.tables h.tables table.IsSame → OfEach g.tables h.tables (λ t u. CountsOn t.rows.trees.cache u.rows.trees.cache) → ChangesTheirOwn told next g.tables
    → IsCarried told next (Many g) (Many h)
list_carried told next g h kept method same counted others = record {
  kept = kept;
  same = (method, same);
  defs = list_defs g h method same;
  takes = list_takes g h method (each_long g.tables h.tables table.IsSame same);
  others = others;
  counted = lists_below g.tables h.tables (below g.tables h.tables same counted);
}
  where
    below : (ts us : List OpenTable) → OfEach ts us table.IsSame → OfEach ts us (λ t u. CountsOn t.rows.trees.cache u.rows.trees.cache) → OfEach ts us (λ t u. AreNotBelow (counted_one t) (counted_one u))
    below [] [] a b = tt
    below [] (u ∷ us) a b = absurd a
    below (t ∷ ts) [] a b = absurd a
    below (t ∷ ts) (u ∷ us) a b = (one_below t u a.0 b.0, below ts us a.1 b.1)

counts_itself : (t : OpenTable) → CountsOn t.rows.trees.cache t.rows.trees.cache
counts_itself t = record { setup = refl; read_requests = omega arith; reads = omega arith; write_requests = omega arith; writes = omega arith; fewer = λ f. f }

pub insert_carried : (told next : Option Holding) (g h : OpenMerge) → AreKept next h.tables → ChangesTarget g h → OfTarget g h table.IsSame → OfTarget g h (λ t u. CountsOn t.rows.trees.cache u.rows.trees.cache) → ChangesTheirOwn told next g.tables → IsCarried told next (Many g) (Many h)
insert_carried told next g h kept changes same counted others =
    list_carried told next g h kept changes.method (target_each g h table.IsSame one_itself changes same) (target_each g h (λ t u. CountsOn t.rows.trees.cache u.rows.trees.cache) counts_itself changes counted) others

-- ---- no table is broken

pub whole_then : (ts us : List OpenTable) → AreWhole ts → OfEach ts us (λ t u. u.broken ≡ t.broken) → AreWhole us
whole_then [] [] whole h = tt
whole_then [] (u ∷ us) whole h = absurd h
whole_then (t ∷ ts) [] whole h = absurd h
whole_then (t ∷ ts) (u ∷ us) whole h = (h.0 ∙ whole.0, whole_then ts us whole.1 h.1)

stays_whole : (g h : OpenMerge) → AreWhole g.tables → ChangesTarget g h → OfTarget g h (λ t u. u.broken ≡ t.broken) → AreWhole h.tables
stays_whole g h whole changes broken = whole_then g.tables h.tables whole (target_each g h (λ t u. u.broken ≡ t.broken) (λ t. refl) changes broken)

pub list_whole : (g h : OpenMerge) (made : Result (ℕ × ℕ) MergeInsertFault) (faults : ℕ) → AreWhole g.tables → ChangesTarget g h → OfTarget g h (λ t u. u.broken ≡ broken_behind made faults t.broken) → OnOk (list_replied made) (AreWhole h.tables)
list_whole g h (Ok place) faults whole changes broken = stays_whole g h whole changes broken
list_whole g h (Err insertion.NoInsertMethod) faults whole changes broken = stays_whole g h whole changes broken
list_whole g h (Err (insertion.Change (change.NoRow at))) faults whole changes broken = stays_whole g h whole changes broken
list_whole g h (Err (insertion.Change (change.Duplicate key at))) faults whole changes broken = stays_whole g h whole changes broken
list_whole g h (Err (insertion.Change change.Full)) faults whole changes broken = stays_whole g h whole changes broken
list_whole g h (Err (insertion.Change (change.Broken by))) faults whole changes broken = tt
list_whole g h (Err (insertion.Change (change.Damaged at))) faults whole changes broken = tt
list_whole g h (Err (insertion.Change change.File)) faults whole changes broken = tt
list_whole g h (Err (insertion.Change change.Memory)) faults whole changes broken = tt

pub told_whole : (h : OpenMerge) (result mine : Result Changed ShellFault) → result ≡ mine → OnOk mine (AreWhole h.tables) → OnOk result (AreWhole h.tables)
told_whole h result mine is k = subst (λ (r : Result Changed ShellFault). OnOk r (AreWhole h.tables)) (sym is) k

-- ---- a file fault

list_file : (made : Result (ℕ × ℕ) MergeInsertFault) → list_replied made ≡ Err fault.File → made ≡ Err (insertion.Change change.File)
list_file (Ok place) e = cc
list_file (Err insertion.NoInsertMethod) e = cc
list_file (Err (insertion.Change (change.NoRow at))) e = cc
list_file (Err (insertion.Change (change.Duplicate key at))) e = cc
list_file (Err (insertion.Change change.Full)) e = cc
list_file (Err (insertion.Change (change.Broken by))) e = cc
list_file (Err (insertion.Change (change.Damaged at))) e = cc
list_file (Err (insertion.Change change.File)) e = refl
list_file (Err (insertion.Change change.Memory)) e = cc

pub list_cause : (before now : ℕ) (result : Result Changed ShellFault) (made : Result (ℕ × ℕ) MergeInsertFault) → result ≡ list_replied made → HasCause (insertion.Change change.File) before now made → HasCause fault.File before now result
list_cause before now result made is cause = record { later = cause.later; cause = λ e. cause.cause (list_file made (sym is ∙ e)) }
