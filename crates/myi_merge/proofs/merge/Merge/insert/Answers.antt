use Rattle.std.proofs.Common.{◌≡◌, ℕ, ◌<◌, true, List, length, get_or, set, slice_get, Option, Some, None, Err, refl, sym, ap, subst, ◌∙◌}
use Rattle.std.specs.Prelude.{IfSome, IfErr, OnErr}
use Rattle.std.proofs.lemmas.Result.{err_from_is_err_and}
use Rattle.myi_pack.specs.Spelling.{fits}
use Rattle.myi_state.specs.Changes.{insert}
use Rattle.myi_table.specs.declared.fault.ChangeFault.{ChangeFault}
use Rattle.myi_search.specs.Counting.{CountsOn}
use Rattle.myi_slots.specs.SlotFile.{AddsNew, Never}
use Rattle.myi_rows.specs.Refusals.{LacksRoom}
use Rattle.myi_rowtrees.specs.Duplicates.{MayRepeat}
use Rattle.myi_keyedrows.specs.KeyedRows.{IsLeft}
use Rattle.myi_table.specs.Table.{OpenTable, defs_in, StillHolds, IsSame, KeepsRows, KeepsOthers}
use Rattle.myi_table.specs.Faults.{broken_after}
use Rattle.myi_table.specs.Refusals.{ByCause}
use Rattle.myi_base.specs.Holding.{Told}
use Rattle.myi_merge.specs.Merged.{OpenMerge, AreKept, IfHoldEach, HoldEachThen, StillHoldEach}
use Rattle.myi_merge.specs.declared.fault.MergeInsertFault.{MergeInsertFault}
use Rattle.myi_merge.specs.Changing.{target, stepped, OfTarget, IfReplied, broken_behind, RefusesRow, ChangesTheirOwn}
use Rattle.myi_merge.proofs.FitLemmas.{fits_at}
use Rattle.myi_merge.proofs.TableLemmas.{got_back, merge_set}
use Rattle.myi_merge.proofs.CarryLemmas.{others_one}
use Rattle.myi_merge.proofs.ChangeLemmas.{stepped_after, still_after, kept_after, if_reply_more}
use Rattle.myi_merge.proofs.TargetLemmas.{of_taker, taker_changes, none_changes, broken_err}
use Rattle.myi_merge.proofs.merge.Merge.insert.Goals as goal

pub insert-made-requires-clause-fits : goal.insert-made-requires-clause-fits
insert-made-requires-clause-fits g c κs within =
    let ts : List OpenTable = c.self.inside.tables.items in
    let i : ℕ = c.in-Some.index in
    let t : OpenTable = c.index_mut-table.result.now in
    let same : ts ≡ c.args.self.now.tables = ap (λ (w : OpenMerge). w.tables) c.self.view_is in
    let inside : i < length c.args.self.now.tables = subst (λ (o : Option ℕ). IfSome o (λ k. k < length c.args.self.now.tables)) c.in-Some.is c.target.ensures.inside in
    let lt : i < length ts = subst (λ (us : List OpenTable). i < length us) (sym same) inside in
    fits_at ts i t c.args.row.now c.self.invariant.alike (got_back ts i t lt (sym c.index_mut-table.ensures.value))
    (subst (λ (us : List OpenTable). IfSome (slice_get us 0) (λ (f : OpenTable). fits (defs_in f) c.args.row.now ≡ true)) (sym same) c.requires.fits)

pub invariant_of-self : goal.invariant_of-self
invariant_of-self g c =
    let told = g.F.Files.holds c.args.files.now in
    let next = g.F.Files.holds c.insert-made.new.files in
    let ts : List OpenTable = c.self.inside.tables.items in
    let i : ℕ = c.in-Some.index in
    let t : OpenTable = c.index_mut-table.result.now in
    let new : OpenTable = c.insert-made.new.self in
    let same : ts ≡ c.args.self.now.tables = ap (λ (w : OpenMerge). w.tables) c.self.view_is in
    let within : i < length c.args.self.now.tables = subst (λ (o : Option ℕ). IfSome o (λ k. k < length c.args.self.now.tables)) c.in-Some.is c.target.ensures.inside in
    let lt : i < length ts = subst (λ (us : List OpenTable). i < length us) (sym same) within in
    let at : get_or ts i t ≡ t = sym c.index_mut-table.ensures.value in
    let rests = c.tables_rest_on_their_files.ensures in
    merge_set ts c.self.inside.method i t new c.self.invariant lt at c.insert-made.ensures.same c.table_is_sound.ensures

pub invariant_of-self-2 : goal.invariant_of-self-2
invariant_of-self-2 g c =
    let told = g.F.Files.holds c.args.files.now in
    let next = g.F.Files.holds c.insert-made.new.files in
    let ts : List OpenTable = c.self.inside.tables.items in
    let i : ℕ = c.in-Some.index in
    let t : OpenTable = c.index_mut-table.result.now in
    let new : OpenTable = c.insert-made.new.self in
    let same : ts ≡ c.args.self.now.tables = ap (λ (w : OpenMerge). w.tables) c.self.view_is in
    let within : i < length c.args.self.now.tables = subst (λ (o : Option ℕ). IfSome o (λ k. k < length c.args.self.now.tables)) c.in-Some.is c.target.ensures.inside in
    let lt : i < length ts = subst (λ (us : List OpenTable). i < length us) (sym same) within in
    let at : get_or ts i t ≡ t = sym c.index_mut-table.ensures.value in
    let rests = c.tables_rest_on_their_files.ensures in
    merge_set ts c.self.inside.method i t new c.self.invariant lt at c.insert-made.ensures.same c.table_is_sound.ensures

pub returns-in_err-made-clause-kept : goal.returns-in_err-made-clause-kept
returns-in_err-made-clause-kept g c =
    let told = g.F.Files.holds c.args.files.now in
    let next = g.F.Files.holds c.insert-made.new.files in
    let ts : List OpenTable = c.self.inside.tables.items in
    let i : ℕ = c.in-Some.index in
    let t : OpenTable = c.index_mut-table.result.now in
    let new : OpenTable = c.insert-made.new.self in
    let same : ts ≡ c.args.self.now.tables = ap (λ (w : OpenMerge). w.tables) c.self.view_is in
    let within : i < length c.args.self.now.tables = subst (λ (o : Option ℕ). IfSome o (λ k. k < length c.args.self.now.tables)) c.in-Some.is c.target.ensures.inside in
    let lt : i < length ts = subst (λ (us : List OpenTable). i < length us) (sym same) within in
    let at : get_or ts i t ≡ t = sym c.index_mut-table.ensures.value in
    let rests = c.tables_rest_on_their_files.ensures in
    kept_after rests told next ts i t new c.self.invariant.named c.self.invariant.sound lt at c.insert-made.ensures.others (subst (λ (us : List OpenTable). AreKept told us) (sym same) c.requires.kept) c.insert-made.ensures.kept

pub returns-clause-kept : goal.returns-clause-kept
returns-clause-kept g c =
    let told = g.F.Files.holds c.args.files.now in
    let next = g.F.Files.holds c.insert-made.new.files in
    let ts : List OpenTable = c.self.inside.tables.items in
    let i : ℕ = c.in-Some.index in
    let t : OpenTable = c.index_mut-table.result.now in
    let new : OpenTable = c.insert-made.new.self in
    let same : ts ≡ c.args.self.now.tables = ap (λ (w : OpenMerge). w.tables) c.self.view_is in
    let within : i < length c.args.self.now.tables = subst (λ (o : Option ℕ). IfSome o (λ k. k < length c.args.self.now.tables)) c.in-Some.is c.target.ensures.inside in
    let lt : i < length ts = subst (λ (us : List OpenTable). i < length us) (sym same) within in
    let at : get_or ts i t ≡ t = sym c.index_mut-table.ensures.value in
    let rests = c.tables_rest_on_their_files.ensures in
    kept_after rests told next ts i t new c.self.invariant.named c.self.invariant.sound lt at c.insert-made.ensures.others (subst (λ (us : List OpenTable). AreKept told us) (sym same) c.requires.kept) c.insert-made.ensures.kept

pub returns-in_err-made-clause-others : goal.returns-in_err-made-clause-others
returns-in_err-made-clause-others g c =
    let told = g.F.Files.holds c.args.files.now in
    let next = g.F.Files.holds c.insert-made.new.files in
    let ts : List OpenTable = c.self.inside.tables.items in
    let i : ℕ = c.in-Some.index in
    let t : OpenTable = c.index_mut-table.result.now in
    let new : OpenTable = c.insert-made.new.self in
    let same : ts ≡ c.args.self.now.tables = ap (λ (w : OpenMerge). w.tables) c.self.view_is in
    let within : i < length c.args.self.now.tables = subst (λ (o : Option ℕ). IfSome o (λ k. k < length c.args.self.now.tables)) c.in-Some.is c.target.ensures.inside in
    let lt : i < length ts = subst (λ (us : List OpenTable). i < length us) (sym same) within in
    let at : get_or ts i t ≡ t = sym c.index_mut-table.ensures.value in
    let rests = c.tables_rest_on_their_files.ensures in
    subst (ChangesTheirOwn told next) same (others_one ts i t told next lt (subst (λ (u : OpenTable). Told told next (KeepsOthers u.name)) (sym at) c.insert-made.ensures.others))

pub returns-clause-others : goal.returns-clause-others
returns-clause-others g c =
    let told = g.F.Files.holds c.args.files.now in
    let next = g.F.Files.holds c.insert-made.new.files in
    let ts : List OpenTable = c.self.inside.tables.items in
    let i : ℕ = c.in-Some.index in
    let t : OpenTable = c.index_mut-table.result.now in
    let new : OpenTable = c.insert-made.new.self in
    let same : ts ≡ c.args.self.now.tables = ap (λ (w : OpenMerge). w.tables) c.self.view_is in
    let within : i < length c.args.self.now.tables = subst (λ (o : Option ℕ). IfSome o (λ k. k < length c.args.self.now.tables)) c.in-Some.is c.target.ensures.inside in
    let lt : i < length ts = subst (λ (us : List OpenTable). i < length us) (sym same) within in
    let at : get_or ts i t ≡ t = sym c.index_mut-table.ensures.value in
    let rests = c.tables_rest_on_their_files.ensures in
    subst (ChangesTheirOwn told next) same (others_one ts i t told next lt (subst (λ (u : OpenTable). Told told next (KeepsOthers u.name)) (sym at) c.insert-made.ensures.others))

pub returns-clause-made : goal.returns-clause-made
returns-clause-made g c =
    let told = g.F.Files.holds c.args.files.now in
    let next = g.F.Files.holds c.insert-made.new.files in
    let ts : List OpenTable = c.self.inside.tables.items in
    let i : ℕ = c.in-Some.index in
    let t : OpenTable = c.index_mut-table.result.now in
    let new : OpenTable = c.insert-made.new.self in
    let same : ts ≡ c.args.self.now.tables = ap (λ (w : OpenMerge). w.tables) c.self.view_is in
    let within : i < length c.args.self.now.tables = subst (λ (o : Option ℕ). IfSome o (λ k. k < length c.args.self.now.tables)) c.in-Some.is c.target.ensures.inside in
    let lt : i < length ts = subst (λ (us : List OpenTable). i < length us) (sym same) within in
    let at : get_or ts i t ≡ t = sym c.index_mut-table.ensures.value in
    let rests = c.tables_rest_on_their_files.ensures in
    record {
      index = i;
      takes = sym c.target.ensures.target ∙ c.in-Some.is;
      before = t;
      stood = subst (λ (us : List OpenTable). slice_get us i ≡ Some t) same (got_back ts i t lt at);
      after = new;
      tables = ap (λ (us : List OpenTable). set us i new) same;
      method = ap (λ (w : OpenMerge). w.method) c.self.view_is;
      same = c.insert-made.ensures.same;
      others = c.insert-made.ensures.others;
      holds = record {
        table = refl;
        made = c.in_ok-made.ensures.made;
        states = subst (λ (us : List OpenTable). IfHoldEach told us (λ m ss. HoldEachThen next (set ts i new) (stepped (insert c.args.row.now) i us ss))) same
            (stepped_after rests (insert c.args.row.now) told next ts i t new c.in_ok-made.field-0 c.self.invariant.named c.self.invariant.sound lt at c.insert-made.ensures.others c.in_ok-made.ensures.made);
      };
    }

pub returns-in_err-made-clause-refused : goal.returns-in_err-made-clause-refused
returns-in_err-made-clause-refused g c = λ f is.
    let told = g.F.Files.holds c.args.files.now in
    let next = g.F.Files.holds c.insert-made.new.files in
    let ts : List OpenTable = c.self.inside.tables.items in
    let i : ℕ = c.in-Some.index in
    let t : OpenTable = c.index_mut-table.result.now in
    let new : OpenTable = c.insert-made.new.self in
    let same : ts ≡ c.args.self.now.tables = ap (λ (w : OpenMerge). w.tables) c.self.view_is in
    let within : i < length c.args.self.now.tables = subst (λ (o : Option ℕ). IfSome o (λ k. k < length c.args.self.now.tables)) c.in-Some.is c.target.ensures.inside in
    let lt : i < length ts = subst (λ (us : List OpenTable). i < length us) (sym same) within in
    let at : get_or ts i t ≡ t = sym c.index_mut-table.ensures.value in
    let rests = c.tables_rest_on_their_files.ensures in
    let e = err_from_is_err_and c.from_residual.result c.from_residual.ensures.1 in
    let fault : c.in_err-made.field-0.0 ≡ f = (let q = sym (e.1 ∙ ap Err e.2) ∙ is in cc) in
    subst (λ (k : ChangeFault). RefusesRow (insert c.args.row.now) told next c.args.self.now (record { tables = set ts i new; method = c.self.inside.method }) k) fault (record {
      index = i;
      takes = sym c.target.ensures.target ∙ c.in-Some.is;
      before = t;
      stood = subst (λ (us : List OpenTable). slice_get us i ≡ Some t) same (got_back ts i t lt at);
      after = new;
      tables = ap (λ (us : List OpenTable). set us i new) same;
      method = ap (λ (w : OpenMerge). w.method) c.self.view_is;
      same = c.insert-made.ensures.same;
      others = c.insert-made.ensures.others;
      holds = record {
        reply = c.in_err-made.ensures.refused;
        first = c.in_err-made.ensures.first;
        still = if_reply_more c.in_err-made.field-0.0 _ _ (λ stays. subst (λ (us : List OpenTable). StillHoldEach told next us (set ts i new)) same (still_after rests told next ts i t new c.self.invariant.named c.self.invariant.sound lt at c.insert-made.ensures.others stays)) c.in_err-made.ensures.unchanged;
        rows = c.in_err-made.ensures.rows;
      };
    })

pub returns-clause-appended : goal.returns-clause-appended
returns-clause-appended g c =
    let told = g.F.Files.holds c.args.files.now in
    let next = g.F.Files.holds c.insert-made.new.files in
    let ts : List OpenTable = c.self.inside.tables.items in
    let i : ℕ = c.in-Some.index in
    let t : OpenTable = c.index_mut-table.result.now in
    let new : OpenTable = c.insert-made.new.self in
    let at : get_or ts i t ≡ t = sym c.index_mut-table.ensures.value in
    let takes : target c.args.self.now ≡ Some i = sym c.target.ensures.target ∙ c.in-Some.is in
    of_taker c.args.self.now ts c.self.inside.method i t new (λ t u. Told told next (AddsNew t.rows.rows.file u.rows.rows.file c.args.row.now)) c.self.view_is at takes (c.in_ok-made.ensures.appended)

pub returns-clause-whole : goal.returns-clause-whole
returns-clause-whole g c =
    let told = g.F.Files.holds c.args.files.now in
    let next = g.F.Files.holds c.insert-made.new.files in
    let ts : List OpenTable = c.self.inside.tables.items in
    let i : ℕ = c.in-Some.index in
    let t : OpenTable = c.index_mut-table.result.now in
    let new : OpenTable = c.insert-made.new.self in
    let at : get_or ts i t ≡ t = sym c.index_mut-table.ensures.value in
    let takes : target c.args.self.now ≡ Some i = sym c.target.ensures.target ∙ c.in-Some.is in
    of_taker c.args.self.now ts c.self.inside.method i t new (λ t u. t.broken ≡ None) c.self.view_is at takes (c.in_ok-made.ensures.whole)

pub returns-clause-changed : goal.returns-clause-changed
returns-clause-changed g c =
    let told = g.F.Files.holds c.args.files.now in
    let next = g.F.Files.holds c.insert-made.new.files in
    let ts : List OpenTable = c.self.inside.tables.items in
    let i : ℕ = c.in-Some.index in
    let t : OpenTable = c.index_mut-table.result.now in
    let new : OpenTable = c.insert-made.new.self in
    let at : get_or ts i t ≡ t = sym c.index_mut-table.ensures.value in
    let takes : target c.args.self.now ≡ Some i = sym c.target.ensures.target ∙ c.in-Some.is in
    of_taker c.args.self.now ts c.self.inside.method i t new (λ t u. u.changed ≡ true) c.self.view_is at takes (c.in_ok-made.ensures.changed)

pub returns-in_err-made-clause-unmarked : goal.returns-in_err-made-clause-unmarked
returns-in_err-made-clause-unmarked g c =
    let told = g.F.Files.holds c.args.files.now in
    let next = g.F.Files.holds c.insert-made.new.files in
    let ts : List OpenTable = c.self.inside.tables.items in
    let i : ℕ = c.in-Some.index in
    let t : OpenTable = c.index_mut-table.result.now in
    let new : OpenTable = c.insert-made.new.self in
    let at : get_or ts i t ≡ t = sym c.index_mut-table.ensures.value in
    let takes : target c.args.self.now ≡ Some i = sym c.target.ensures.target ∙ c.in-Some.is in
    let e = err_from_is_err_and c.from_residual.result c.from_residual.ensures.1 in
    subst (λ r. OnErr r (OfTarget c.args.self.now (record { tables = set ts i new; method = c.self.inside.method }) (λ t u. u.changed ≡ t.changed))) (sym e.1)
    (of_taker c.args.self.now ts c.self.inside.method i t new (λ t u. u.changed ≡ t.changed) c.self.view_is at takes (c.in_err-made.ensures.unmarked))

pub returns-clause-same : goal.returns-clause-same
returns-clause-same g c =
    let told = g.F.Files.holds c.args.files.now in
    let next = g.F.Files.holds c.insert-made.new.files in
    let ts : List OpenTable = c.self.inside.tables.items in
    let i : ℕ = c.in-Some.index in
    let t : OpenTable = c.index_mut-table.result.now in
    let new : OpenTable = c.insert-made.new.self in
    let at : get_or ts i t ≡ t = sym c.index_mut-table.ensures.value in
    let takes : target c.args.self.now ≡ Some i = sym c.target.ensures.target ∙ c.in-Some.is in
    of_taker c.args.self.now ts c.self.inside.method i t new (IsSame) c.self.view_is at takes (c.in_ok-made.ensures.same)

pub returns-in_err-made-clause-same : goal.returns-in_err-made-clause-same
returns-in_err-made-clause-same g c =
    let told = g.F.Files.holds c.args.files.now in
    let next = g.F.Files.holds c.insert-made.new.files in
    let ts : List OpenTable = c.self.inside.tables.items in
    let i : ℕ = c.in-Some.index in
    let t : OpenTable = c.index_mut-table.result.now in
    let new : OpenTable = c.insert-made.new.self in
    let at : get_or ts i t ≡ t = sym c.index_mut-table.ensures.value in
    let takes : target c.args.self.now ≡ Some i = sym c.target.ensures.target ∙ c.in-Some.is in
    of_taker c.args.self.now ts c.self.inside.method i t new (IsSame) c.self.view_is at takes (c.in_err-made.ensures.same)

pub returns-clause-counted : goal.returns-clause-counted
returns-clause-counted g c =
    let told = g.F.Files.holds c.args.files.now in
    let next = g.F.Files.holds c.insert-made.new.files in
    let ts : List OpenTable = c.self.inside.tables.items in
    let i : ℕ = c.in-Some.index in
    let t : OpenTable = c.index_mut-table.result.now in
    let new : OpenTable = c.insert-made.new.self in
    let at : get_or ts i t ≡ t = sym c.index_mut-table.ensures.value in
    let takes : target c.args.self.now ≡ Some i = sym c.target.ensures.target ∙ c.in-Some.is in
    of_taker c.args.self.now ts c.self.inside.method i t new (λ t u. CountsOn t.rows.trees.cache u.rows.trees.cache) c.self.view_is at takes (c.in_ok-made.ensures.counted)

pub returns-in_err-made-clause-counted : goal.returns-in_err-made-clause-counted
returns-in_err-made-clause-counted g c =
    let told = g.F.Files.holds c.args.files.now in
    let next = g.F.Files.holds c.insert-made.new.files in
    let ts : List OpenTable = c.self.inside.tables.items in
    let i : ℕ = c.in-Some.index in
    let t : OpenTable = c.index_mut-table.result.now in
    let new : OpenTable = c.insert-made.new.self in
    let at : get_or ts i t ≡ t = sym c.index_mut-table.ensures.value in
    let takes : target c.args.self.now ≡ Some i = sym c.target.ensures.target ∙ c.in-Some.is in
    of_taker c.args.self.now ts c.self.inside.method i t new (λ t u. CountsOn t.rows.trees.cache u.rows.trees.cache) c.self.view_is at takes (c.in_err-made.ensures.counted)

pub returns-in_err-made-clause-unchanged : goal.returns-in_err-made-clause-unchanged
returns-in_err-made-clause-unchanged g c =
    let told = g.F.Files.holds c.args.files.now in
    let next = g.F.Files.holds c.insert-made.new.files in
    let ts : List OpenTable = c.self.inside.tables.items in
    let i : ℕ = c.in-Some.index in
    let t : OpenTable = c.index_mut-table.result.now in
    let new : OpenTable = c.insert-made.new.self in
    let at : get_or ts i t ≡ t = sym c.index_mut-table.ensures.value in
    let takes : target c.args.self.now ≡ Some i = sym c.target.ensures.target ∙ c.in-Some.is in
    let e = err_from_is_err_and c.from_residual.result c.from_residual.ensures.1 in
    let after : OpenMerge = record { tables = set ts i new; method = c.self.inside.method } in
    let P : OpenTable → OpenTable → Type 0 = StillHolds told next in
    subst (λ r. IfErr r (λ f. IfReplied f (OfTarget c.args.self.now after P))) (sym e.1)
    (subst (λ (f : MergeInsertFault). IfReplied f (OfTarget c.args.self.now after P)) (sym e.2)
    (if_reply_more c.in_err-made.field-0.0 (P t new) (OfTarget c.args.self.now after P) (λ p. of_taker c.args.self.now ts c.self.inside.method i t new P c.self.view_is at takes p) c.in_err-made.ensures.unchanged))

pub returns-in_err-made-clause-rows : goal.returns-in_err-made-clause-rows
returns-in_err-made-clause-rows g c =
    let told = g.F.Files.holds c.args.files.now in
    let next = g.F.Files.holds c.insert-made.new.files in
    let ts : List OpenTable = c.self.inside.tables.items in
    let i : ℕ = c.in-Some.index in
    let t : OpenTable = c.index_mut-table.result.now in
    let new : OpenTable = c.insert-made.new.self in
    let at : get_or ts i t ≡ t = sym c.index_mut-table.ensures.value in
    let takes : target c.args.self.now ≡ Some i = sym c.target.ensures.target ∙ c.in-Some.is in
    let e = err_from_is_err_and c.from_residual.result c.from_residual.ensures.1 in
    let after : OpenMerge = record { tables = set ts i new; method = c.self.inside.method } in
    let P : OpenTable → OpenTable → Type 0 = λ t u. Told told next (KeepsRows t.name) in
    subst (λ r. IfErr r (λ f. IfReplied f (OfTarget c.args.self.now after P))) (sym e.1)
    (subst (λ (f : MergeInsertFault). IfReplied f (OfTarget c.args.self.now after P)) (sym e.2)
    (if_reply_more c.in_err-made.field-0.0 (P t new) (OfTarget c.args.self.now after P) (λ p. of_taker c.args.self.now ts c.self.inside.method i t new P c.self.view_is at takes p) c.in_err-made.ensures.rows))

pub returns-clause-broken : goal.returns-clause-broken
returns-clause-broken g c =
    let told = g.F.Files.holds c.args.files.now in
    let next = g.F.Files.holds c.insert-made.new.files in
    let ts : List OpenTable = c.self.inside.tables.items in
    let i : ℕ = c.in-Some.index in
    let t : OpenTable = c.index_mut-table.result.now in
    let new : OpenTable = c.insert-made.new.self in
    let at : get_or ts i t ≡ t = sym c.index_mut-table.ensures.value in
    let takes : target c.args.self.now ≡ Some i = sym c.target.ensures.target ∙ c.in-Some.is in
    of_taker c.args.self.now ts c.self.inside.method i t new (λ t u. u.broken ≡ t.broken) c.self.view_is at takes (c.insert-made.ensures.broken ∙ ap (λ r. broken_after r (g.F.Files.faults c.insert-made.new.files) t.broken) c.in_ok-made.was)

pub returns-in_err-made-clause-broken : goal.returns-in_err-made-clause-broken
returns-in_err-made-clause-broken g c =
    let told = g.F.Files.holds c.args.files.now in
    let next = g.F.Files.holds c.insert-made.new.files in
    let ts : List OpenTable = c.self.inside.tables.items in
    let i : ℕ = c.in-Some.index in
    let t : OpenTable = c.index_mut-table.result.now in
    let new : OpenTable = c.insert-made.new.self in
    let at : get_or ts i t ≡ t = sym c.index_mut-table.ensures.value in
    let takes : target c.args.self.now ≡ Some i = sym c.target.ensures.target ∙ c.in-Some.is in
    let e = err_from_is_err_and c.from_residual.result c.from_residual.ensures.1 in
    let faults : ℕ = g.F.Files.faults c.insert-made.new.files in
    of_taker c.args.self.now ts c.self.inside.method i t new (λ t u. u.broken ≡ broken_behind c.from_residual.result faults t.broken) c.self.view_is at takes
    (broken_err c.insert-made.result c.from_residual.result c.in_err-made.field-0.0 faults t.broken new.broken c.in_err-made.was (e.1 ∙ ap Err e.2) c.insert-made.ensures.broken)

-- no table takes the rows
pub returns-in_default-clause-alone : goal.returns-in_default-clause-alone
returns-in_default-clause-alone g c = none_changes c.args.self.now

pub returns-clause-alone : goal.returns-clause-alone
returns-clause-alone g c = taker_changes c.args.self.now c.self.inside.tables.items c.self.inside.method c.in-Some.index c.insert-made.new.self c.self.view_is (sym c.target.ensures.target ∙ c.in-Some.is)

pub returns-in_err-made-clause-alone : goal.returns-in_err-made-clause-alone
returns-in_err-made-clause-alone g c = taker_changes c.args.self.now c.self.inside.tables.items c.self.inside.method c.in-Some.index c.insert-made.new.self c.self.view_is (sym c.target.ensures.target ∙ c.in-Some.is)

pub returns-in_default-clause-unmarked : goal.returns-in_default-clause-unmarked
returns-in_default-clause-unmarked g c = λ j u v takes. absurd (let bad : ◌≡◌ {A = Option ℕ} None (Some j) = sym c.in_default.is ∙ c.target.ensures.target ∙ takes in cc)

pub returns-in_default-clause-broken : goal.returns-in_default-clause-broken
returns-in_default-clause-broken g c = λ j u v takes. absurd (let bad : ◌≡◌ {A = Option ℕ} None (Some j) = sym c.in_default.is ∙ c.target.ensures.target ∙ takes in cc)

pub returns-in_default-clause-same : goal.returns-in_default-clause-same
returns-in_default-clause-same g c = λ j u v takes. absurd (let bad : ◌≡◌ {A = Option ℕ} None (Some j) = sym c.in_default.is ∙ c.target.ensures.target ∙ takes in cc)

pub returns-in_default-clause-counted : goal.returns-in_default-clause-counted
returns-in_default-clause-counted g c = λ j u v takes. absurd (let bad : ◌≡◌ {A = Option ℕ} None (Some j) = sym c.in_default.is ∙ c.target.ensures.target ∙ takes in cc)

pub returns-in_err-made-clause-left : goal.returns-in_err-made-clause-left
returns-in_err-made-clause-left g c =
    let told = g.F.Files.holds c.args.files.now in
    let next = g.F.Files.holds c.insert-made.new.files in
    let ts : List OpenTable = c.self.inside.tables.items in
    let i : ℕ = c.in-Some.index in
    let t : OpenTable = c.index_mut-table.result.now in
    let new : OpenTable = c.insert-made.new.self in
    let at : get_or ts i t ≡ t = sym c.index_mut-table.ensures.value in
    let takes : target c.args.self.now ≡ Some i = sym c.target.ensures.target ∙ c.in-Some.is in
    let e = err_from_is_err_and c.from_residual.result c.from_residual.ensures.1 in
    let after : OpenMerge = record { tables = set ts i new; method = c.self.inside.method } in
    let P : OpenTable → OpenTable → Type 0 = λ t u. IsLeft t.rows u.rows in
    subst (λ r. IfErr r (λ f. IfReplied f (OfTarget c.args.self.now after P))) (sym e.1)
    (subst (λ (f : MergeInsertFault). IfReplied f (OfTarget c.args.self.now after P)) (sym e.2)
    (if_reply_more c.in_err-made.field-0.0 (P t new) (OfTarget c.args.self.now after P) (λ p. of_taker c.args.self.now ts c.self.inside.method i t new P c.self.view_is at takes p) c.in_err-made.ensures.left))

pub returns-in_err-made-clause-causes : goal.returns-in_err-made-clause-causes
returns-in_err-made-clause-causes g c = λ f is.
    let told = g.F.Files.holds c.args.files.now in
    let next = g.F.Files.holds c.insert-made.new.files in
    let ts : List OpenTable = c.self.inside.tables.items in
    let i : ℕ = c.in-Some.index in
    let t : OpenTable = c.index_mut-table.result.now in
    let new : OpenTable = c.insert-made.new.self in
    let at : get_or ts i t ≡ t = sym c.index_mut-table.ensures.value in
    let takes : target c.args.self.now ≡ Some i = sym c.target.ensures.target ∙ c.in-Some.is in
    let e = err_from_is_err_and c.from_residual.result c.from_residual.ensures.1 in
    let after : OpenMerge = record { tables = set ts i new; method = c.self.inside.method } in
    let P : ChangeFault → OpenTable → OpenTable → Type 0 = λ f t u. ByCause Never (MayRepeat (defs_in t) c.args.row.now) (LacksRoom t.rows.rows.file c.args.row.now told) f in
    let fault : c.in_err-made.field-0.0 ≡ f = (let q = sym (e.1 ∙ ap Err e.2) ∙ is in cc) in
    subst (λ (f : ChangeFault). OfTarget c.args.self.now after (P f)) fault
    (of_taker c.args.self.now ts c.self.inside.method i t new (P c.in_err-made.field-0.0) c.self.view_is at takes c.in_err-made.ensures.causes)
