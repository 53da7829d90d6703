use Rattle.std.proofs.Common.{rules, ◌≡◌, ℕ, List, map, string_bytes, Err, IfErr, sym, ap, subst, ◌∙◌}
use Rattle.std.proofs.lemmas.Result.{err_from_is_err_and}
use Rattle.myi_base.specs.Holding.{IfTold, Measures, IsFront}
use Rattle.myi_mergelist.specs.MergeList.{IsMergeList, IsNoList}
use Rattle.myi_mergelist.specs.declared.list.ListFault.TheVariants as list
use Rattle.myi_merge.specs.declared.fault.MergeFault.{MergeFault}
use Rattle.myi_merge.specs.Loading.{list_file, RefusesList, TellsOfList}
use Rattle.myi_merge.proofs.ListLemmas.{text_is, no_list, list_tells}
use Rattle.myi_merge.proofs.list_file.read_list.Goals as goal

pub returns-in_err-list-clause-refused : goal.returns-in_err-list-clause-refused
returns-in_err-list-clause-refused g c =
    let told = g.F.Files.holds c.args.files.now in
    let bytes : List ℕ = c.in_ok-text.text.items in
    let named : string_bytes c.in_ok-file.file ≡ list_file c.args.name.now = search rules in
    let e = err_from_is_err_and c.from_residual-in_err-list.result c.from_residual-in_err-list.ensures.1 in
    let none : c.in_err-list.field-0.0 ≡ list.List → IsNoList bytes = λ is. subst IsNoList c.deref.ensures.value (c.parse_list.ensures.outside (c.in_err-list.was ∙ ap Err is)) in
    subst (λ r. IfErr r (λ f. IfTold told (RefusesList c.args.name.now f))) (sym e.1)
    (subst (λ (f : MergeFault). IfTold told (RefusesList c.args.name.now f)) (sym e.2) (λ m held.
    let measured : Measures (m (list_file c.args.name.now)) c.in_ok-length.field-0 = subst (λ (q : List ℕ). Measures (m q) c.in_ok-length.field-0) (c.as_str.ensures.value ∙ named) (c.in_ok-length.ensures.told m held) in
    let front : IsFront (list_file c.args.name.now) c.in-Some.length bytes m = subst (λ (q : List ℕ). IsFront q c.in-Some.length bytes m) (c.as_str-2.ensures.value ∙ named) (c.in_ok-text.ensures.told m (c.in_ok-length.ensures.holds ∙ held)) in
    no_list c.args.name.now bytes m c.in_err-list.field-0.0 (text_is (list_file c.args.name.now) bytes m c.in_ok-length.field-0 c.in-Some.length c.in-Some.is measured front) none))

pub returns-clause-list : goal.returns-clause-list
returns-clause-list g c = λ m held.
    let bytes : List ℕ = c.in_ok-text.text.items in
    let named : string_bytes c.in_ok-file.file ≡ list_file c.args.name.now = search rules in
    let measured : Measures (m (list_file c.args.name.now)) c.in_ok-length.field-0 = subst (λ (q : List ℕ). Measures (m q) c.in_ok-length.field-0) (c.as_str.ensures.value ∙ named) (c.in_ok-length.ensures.told m held) in
    let front : IsFront (list_file c.args.name.now) c.in-Some.length bytes m = subst (λ (q : List ℕ). IsFront q c.in-Some.length bytes m) (c.as_str-2.ensures.value ∙ named) (c.in_ok-text.ensures.told m (c.in_ok-length.ensures.holds ∙ held)) in
    record {
      text = bytes;
      there = text_is (list_file c.args.name.now) bytes m c.in_ok-length.field-0 c.in-Some.length c.in-Some.is measured front;
      list = subst (λ (b : List ℕ). IsMergeList b (map (λ s. string_bytes s) c.in_ok-list.list.members.items) c.in_ok-list.list.method) c.deref.ensures.value c.in_ok-list.ensures.inside;
    }

pub returns-in_err-list-clause-tells : goal.returns-in_err-list-clause-tells
returns-in_err-list-clause-tells g c =
    let e = err_from_is_err_and c.from_residual-in_err-list.result c.from_residual-in_err-list.ensures.1 in
    subst (λ r. IfErr r (TellsOfList c.args.name.now)) (sym e.1) (subst (TellsOfList c.args.name.now) (sym e.2) (list_tells c.args.name.now c.in_err-list.field-0.0))
