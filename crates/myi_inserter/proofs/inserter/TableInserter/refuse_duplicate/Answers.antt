use Rattle.std.proofs.Common.{◌≡◌, sym, ap, subst, ◌∙◌, arith, Some}
use Rattle.std.specs.Prelude.{IfErr}
use Rattle.std.proofs.lemmas.Result.{err_from_is_err_and}
use Rattle.indexmap.specs.IndexMap.{get}
use Rattle.myi_inserter.specs.declared.unique_key.UniqueKey.{UniqueKey}
use Rattle.myi_inserter.specs.declared.fault.InsertFault.{InsertFault}
use Rattle.myi_inserter.specs.Faults.{IsOfSearching, IsHeldBy}
use Rattle.myi_inserter.specs.UniqueKeys.{is_same}
use Rattle.myi_inserter.proofs.InsertLemmas.{searched_on}
use Rattle.myi_inserter.proofs.RefuseLemmas.{OfHolder, nth_any, number_here, none_is, none_more, held_then, none_at_all, absent_more, absent_all, still_on, cut_off, searching}
use Rattle.myi_inserter.proofs.inserter.TableInserter.refuse_duplicate.Goals as goal

pub holder-requires-clause-ready : goal.holder-requires-clause-ready
holder-requires-clause-ready g c κs within = (c.requires.ready.0, c.loop-i.invariant.searched.ready c.requires.ready.0 c.requires.ready.1)

pub holder-requires-clause-number : goal.holder-requires-clause-number
holder-requires-clause-number g c κs within = number_here c.args.self.now c.loop-i.self c.requires.keys.0 c.args.keys.now c.loop-i.i c.index-keys-i.result c.loop-i.invariant.searched c.requires.keys.1 c.loop-i-test.true c.index-keys-i.is

pub returns-in_err-at-clause-held : goal.returns-in_err-at-clause-held
returns-in_err-at-clause-held g c =
    let e = err_from_is_err_and c.from_residual.result c.from_residual.ensures.1 in
    let told = g.F.Files.holds c.args.files.now in
    subst (λ r. IfErr r (λ f. OfHolder told c.args.self.now c.args.keys.now (λ o. IsHeldBy o f))) (sym e.1)
    (subst (λ (f : InsertFault). OfHolder told c.args.self.now c.args.keys.now (λ o. IsHeldBy o f)) (sym e.2)
    (cut_off told (g.F.Files.holds c.loop-i.files) c.args.self.now c.loop-i.self c.args.keys.now c.in_err-at.field-0.0 c.loop-i.invariant.holds c.loop-i.invariant.still c.in_err-at.ensures.never))

pub returns-in_err-at-clause-search : goal.returns-in_err-at-clause-search
returns-in_err-at-clause-search g c =
    let e = err_from_is_err_and c.from_residual.result c.from_residual.ensures.1 in
    subst (λ r. IfErr r IsOfSearching) (sym e.1) (subst IsOfSearching (sym e.2) (searching c.in_err-at.field-0.0 c.in_err-at.ensures.search))

pub returns-in_err-at-clause-searched : goal.returns-in_err-at-clause-searched
returns-in_err-at-clause-searched g c = searched_on c.args.self.now c.loop-i.self c.holder.new.self c.loop-i.invariant.searched c.in_err-at.ensures.searched

pub returns-in_err-at-clause-still : goal.returns-in_err-at-clause-still
returns-in_err-at-clause-still g c = still_on (g.F.Files.holds c.args.files.now) (g.F.Files.holds c.loop-i.files) c.args.self.now c.loop-i.self c.holder.new.self c.loop-i.invariant.holds c.loop-i.invariant.still c.in_err-at.ensures.still

pub returns-in-Some-clause-held : goal.returns-in-Some-clause-held
returns-in-Some-clause-held g c =
    let law = c.duplicates_are_found.ensures in
    let d = c.args.self.now.defs in
    let k = c.loop-i.invariant in
    let one = c.index-keys-i.result in
    let other = c.index-keys-i-in-Some.result in
    subst (λ (u : UniqueKey). OfHolder (g.F.Files.holds c.args.files.now) c.args.self.now c.args.keys.now (λ o. o ≡ Some (u.number, c.in-Some.at))) (c.index-keys-i.is ∙ nth_any c.args.keys.now c.loop-i.i one other c.loop-i-test.true)
    (held_then (g.F.Files.holds c.args.files.now) (g.F.Files.holds c.loop-i.files) c.args.self.now c.loop-i.self c.args.keys.now c.loop-i.i one c.in_ok-at.field-0 c.in-Some.at (λ values n rows. law.plain d values n rows) (λ values n rows. law.absent d values n rows)
    k.holds k.searched k.still c.loop-i-test.true c.index-keys-i.is c.in_ok-at.ensures.held c.in-Some.is k.none)

pub returns-in-Some-clause-searched : goal.returns-in-Some-clause-searched
returns-in-Some-clause-searched g c = searched_on c.args.self.now c.loop-i.self c.holder.new.self c.loop-i.invariant.searched c.in_ok-at.ensures.searched

pub returns-in-Some-clause-still : goal.returns-in-Some-clause-still
returns-in-Some-clause-still g c = still_on (g.F.Files.holds c.args.files.now) (g.F.Files.holds c.loop-i.files) c.args.self.now c.loop-i.self c.holder.new.self c.loop-i.invariant.holds c.loop-i.invariant.still c.in_ok-at.ensures.still

pub loop-i-preserved : goal.loop-i-preserved
loop-i-preserved g c =
    let told = g.F.Files.holds c.args.files.now in
    let next = g.F.Files.holds c.loop-i.files in
    let k = c.loop-i.invariant in
    let n = c.in_ok-at.ensures in
    let none = none_is c.in_ok-at.field-0 c.in_default.not-Some in
    record {
      none = none_more told next c.args.self.now c.loop-i.self c.args.keys.now c.loop-i.i c.index-keys-i.result c.in_ok-at.field-0 k.holds k.searched k.still c.loop-i-test.true c.index-keys-i.is n.held none k.none;
      absent = absent_more c.args.self.now.put c.args.keys.now c.loop-i.i c.index-keys-i.result c.loop-i-test.true c.index-keys-i.is k.absent (ap (λ p. get is_same p c.index-keys-i.result) (sym k.searched.put) ∙ n.absent none);
      searched = searched_on c.args.self.now c.loop-i.self c.holder.new.self k.searched n.searched;
      still = still_on told next c.args.self.now c.loop-i.self c.holder.new.self k.holds k.still n.still;
      holds = n.holds ∙ k.holds;
      faults = let one = k.faults in let two = n.cause.later in omega (arith, one, two);
    }

pub returns-clause-none : goal.returns-clause-none
returns-clause-none g c =
    let law = c.duplicates_are_found.ensures in
    let d = c.args.self.now.defs in
    none_at_all (g.F.Files.holds c.args.files.now) c.args.self.now c.args.keys.now c.loop-i.i (λ values n rows. law.plain d values n rows) (λ values n rows. law.absent d values n rows) c.loop-i-test.false c.loop-i.invariant.none

pub returns-clause-absent : goal.returns-clause-absent
returns-clause-absent g c = absent_all c.args.self.now.put c.args.keys.now c.loop-i.i c.loop-i-test.false c.loop-i.invariant.absent
