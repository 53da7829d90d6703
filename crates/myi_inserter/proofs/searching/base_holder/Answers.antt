use Rattle.std.proofs.Common.{◌≡◌, ◌-◌, ℕ, List, Option, Some, None, inl, sym, ap, subst, ◌∙◌, arith}
use Rattle.std.specs.Prelude.{IfErr}
use Rattle.std.proofs.lemmas.Result.{err_from_is_err_and}
use Rattle.myi_defs.specs.declared.types.Defs.{Defs}
use Rattle.myi_keys.specs.declared.values.KeySeg.{KeySeg}
use Rattle.myi_keys.specs.Limits.{is_complete}
use Rattle.myi_search.specs.Least.{IsLeastRow}
use Rattle.myi_data.specs.Keys.{key_of}
use Rattle.myi_keytrees.specs.Standing.{list_of}
use Rattle.myi_tablestate.specs.Keyed.{IsTable}
use Rattle.myi_rowtrees.specs.RowLists.{lists_of}
use Rattle.myi_ranges.specs.Ranges.{position_within}
use Rattle.myi_keyedrows.specs.declared.keyed_rows.KeyedRows.{KeyedRows}
use Rattle.myi_keyedrows.specs.KeyedRows.{defs_of, IfHold}
use Rattle.myi_inserter.specs.declared.fault.InsertFault.{InsertFault}
use Rattle.myi_inserter.specs.Faults.{IsCutOff}
use Rattle.myi_inserter.specs.declared.unique_key.UniqueKey.{UniqueKey}
use Rattle.myi_inserter.proofs.BaseLemmas.{held_in_base, found_in_base, place_by, searched_holds, never_damaged, written_still}
use Rattle.myi_inserter.proofs.searching.base_holder.Goals as goal

pub find-requires-clause-key : goal.find-requires-clause-key
find-requires-clause-key g c κs within = omega (arith, c.requires.number.0, c.requires.number.1, c.requires.each)

pub find-requires-clause-kept : goal.find-requires-clause-kept
find-requires-clause-kept g c κs within = inl c.requires.written

pub returns-clause-held : goal.returns-clause-held
returns-clause-held g c = λ m held own base h values is unique whole.
    let d : Defs = c.args.defs.now in
    let k : KeyedRows = c.args.rows.now in
    let n : ℕ = c.args.key.now.number in
    let key : c.args.key.now.key ≡ key_of d n values = ap (λ (u : UniqueKey). u.key) is in
    let table : IsTable d base = subst (λ (e : Defs). IsTable e base) c.requires.defs h.table in
    let least : IsLeastRow (key_of d n values) (list_of (lists_of (defs_of k) base.rows) (n - 1)) (Some c.in-Some.pointer) =
    subst (λ (o : Option ℕ). IsLeastRow (key_of d n values) (list_of (lists_of (defs_of k) base.rows) (n - 1)) o) c.in-Some.is
    (subst (λ (q : List KeySeg). IsLeastRow q (list_of (lists_of (defs_of k) base.rows) (n - 1)) c.in_ok-found.found) key (c.in_ok-found.ensures.least m held own (lists_of (defs_of k) base.rows) h.trees)) in
    let place : c.position_of.result ≡ position_within d k.rows.file.counts.length c.in-Some.pointer = place_by d c.position_of.result c.in-Some.pointer c.counts-end.result k.rows.file.counts c.position_of.ensures c.counts-end.ensures in
    found_in_base c.pointers_lead_to_rows.ensures d k own base m values n c.in-Some.pointer c.position_of.result place c.requires.defs c.requires.sound (λ v j l number u w q. c.duplicates_are_found.ensures.found d base v j l c.requires.sound table number u w q) h c.requires.number unique
    (ap is_complete (sym key) ∙ whole) least

pub returns-in_default-clause-held : goal.returns-in_default-clause-held
returns-in_default-clause-held g c = λ m held own base h values is unique whole.
    let d : Defs = c.args.defs.now in
    let k : KeyedRows = c.args.rows.now in
    let n : ℕ = c.args.key.now.number in
    let key : c.args.key.now.key ≡ key_of d n values = ap (λ (u : UniqueKey). u.key) is in
    let table : IsTable d base = subst (λ (e : Defs). IsTable e base) c.requires.defs h.table in
    let least : IsLeastRow (key_of d n values) (list_of (lists_of (defs_of k) base.rows) (n - 1)) None =
    subst (λ (o : Option ℕ). IsLeastRow (key_of d n values) (list_of (lists_of (defs_of k) base.rows) (n - 1)) o) c.in_default.is
    (subst (λ (q : List KeySeg). IsLeastRow q (list_of (lists_of (defs_of k) base.rows) (n - 1)) c.in_ok-found.found) key (c.in_ok-found.ensures.least m held own (lists_of (defs_of k) base.rows) h.trees)) in
    held_in_base c.pointers_lead_to_rows.ensures d k own base m values n None c.requires.defs c.requires.sound (λ v j l number u w q. c.duplicates_are_found.ensures.found d base v j l c.requires.sound table number u w q) h c.requires.number unique (ap is_complete (sym key) ∙ whole) least

pub returns-clause-still : goal.returns-clause-still
returns-clause-still g c = λ m held own base h. searched_holds c.args.rows.now c.find.new.self own base m (g.F.Files.holds c.args.files.now) (g.F.Files.holds c.find.new.files) held (c.in_ok-found.ensures.cache.clean c.requires.written) c.in_ok-found.ensures.stand h

pub returns-in_default-clause-still : goal.returns-in_default-clause-still
returns-in_default-clause-still g c = λ m held own base h. searched_holds c.args.rows.now c.find.new.self own base m (g.F.Files.holds c.args.files.now) (g.F.Files.holds c.find.new.files) held (c.in_ok-found.ensures.cache.clean c.requires.written) c.in_ok-found.ensures.stand h

pub returns-in_err-found-clause-still : goal.returns-in_err-found-clause-still
returns-in_err-found-clause-still g c = λ m held own base h. searched_holds c.args.rows.now c.find.new.self own base m (g.F.Files.holds c.args.files.now) (g.F.Files.holds c.find.new.files) held (c.in_err-found.ensures.cache.clean c.requires.written) c.in_err-found.ensures.stand h

pub returns-clause-written : goal.returns-clause-written
returns-clause-written g c = written_still (g.F.Files.holds c.args.files.now) (g.F.Files.holds c.find.new.files) c.args.rows.now.trees.cache c.find.new.self.cache c.in_ok-found.ensures.cache c.requires.written

pub returns-in_default-clause-written : goal.returns-in_default-clause-written
returns-in_default-clause-written g c = written_still (g.F.Files.holds c.args.files.now) (g.F.Files.holds c.find.new.files) c.args.rows.now.trees.cache c.find.new.self.cache c.in_ok-found.ensures.cache c.requires.written

pub returns-in_err-found-clause-written : goal.returns-in_err-found-clause-written
returns-in_err-found-clause-written g c = written_still (g.F.Files.holds c.args.files.now) (g.F.Files.holds c.find.new.files) c.args.rows.now.trees.cache c.find.new.self.cache c.in_err-found.ensures.cache c.requires.written

pub returns-clause-holds : goal.returns-clause-holds
returns-clause-holds g c = c.in_ok-found.ensures.cache.clean c.requires.written

pub returns-in_default-clause-holds : goal.returns-in_default-clause-holds
returns-in_default-clause-holds g c = c.in_ok-found.ensures.cache.clean c.requires.written

pub returns-in_err-found-clause-holds : goal.returns-in_err-found-clause-holds
returns-in_err-found-clause-holds g c = c.in_err-found.ensures.cache.clean c.requires.written

pub returns-in_err-found-clause-never : goal.returns-in_err-found-clause-never
returns-in_err-found-clause-never g c =
    let e = err_from_is_err_and c.from_residual.result c.from_residual.ensures.1 in
    let told = g.F.Files.holds c.args.files.now in
    subst (λ r. IfErr r (λ f. IfHold told c.args.rows.now (λ m own base. IsCutOff f))) (sym e.1)
    (subst (λ (f : InsertFault). IfHold told c.args.rows.now (λ m own base. IsCutOff f)) (sym e.2) (never_damaged told c.args.rows.now c.in_err-found.field-0.0 c.in_err-found.ensures.never))
