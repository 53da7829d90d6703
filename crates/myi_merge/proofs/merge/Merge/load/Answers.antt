use Rattle.std.proofs.Common.{◌≡◌, ℕ, List, map, string_bytes, String, Global, sym, ap, subst, ◌∙◌, inl, inr}
use Rattle.std.specs.Prelude.{IfErr}
use Rattle.std.proofs.lemmas.Result.{err_from_is_err_and}
use Rattle.myi_base.specs.Holding.{IfTold}
use Rattle.myi_merge.specs.declared.fault.MergeFault.{MergeFault}
use Rattle.myi_merge.specs.Loading.{EachLoaded, SomeText, StopsAmong, RefusesMerge, TellsAmong, TellsOf}
use Rattle.myi_merge.proofs.LoadLemmas.{fresh_counted}
use Rattle.myi_merge.proofs.merge.Merge.load.Goals as goal

pub returns-in_err-tables-clause-refused : goal.returns-in_err-tables-clause-refused
returns-in_err-tables-clause-refused g c =
    let told = g.F.Files.holds c.args.files.now in
    let name : List ℕ = c.args.name.now in
    let members : List (List ℕ) = map (λ (q : String Global). string_bytes q) c.in_ok-list.list.members.items in
    let same : map (λ (q : String Global). string_bytes q) c.deref.result.now ≡ members = ap (map (λ (q : String Global). string_bytes q)) c.deref.ensures.value in
    let f : MergeFault = c.in_err-tables.field-0.0 in
    let e = err_from_is_err_and c.from_residual-in_err-tables.result c.from_residual-in_err-tables.ensures.1 in
    subst (λ r. IfErr r (λ k. IfTold told (RefusesMerge name k))) (sym e.1)
    (subst (λ (k : MergeFault). IfTold told (RefusesMerge name k)) (sym e.2) (λ m held.
    inr (members, (c.in_ok-list.list.method, c.in_ok-list.ensures.list m held), subst (λ (qs : List (List ℕ)). StopsAmong qs f m) same (c.in_err-tables.ensures.refused m (c.read_list.ensures.holds ∙ held)))))

pub returns-clause-loaded : goal.returns-clause-loaded
returns-clause-loaded g c = λ m held.
    let members : List (List ℕ) = map (λ (q : String Global). string_bytes q) c.in_ok-list.list.members.items in
    let same : map (λ (q : String Global). string_bytes q) c.deref.result.now ≡ members = ap (map (λ (q : String Global). string_bytes q)) c.deref.ensures.value in
    record {
      members = members;
      list = c.in_ok-list.ensures.list m held;
      tables = subst (λ (qs : List (List ℕ)). EachLoaded qs c.in_ok-tables.tables.items m) same (c.in_ok-tables.ensures.loaded m (c.read_list.ensures.holds ∙ held));
      names = c.in_ok-tables.ensures.named ∙ same;
    }

pub returns-in_err-list-clause-tells : goal.returns-in_err-list-clause-tells
returns-in_err-list-clause-tells g c =
    let name : List ℕ = c.args.name.now in
    let e = err_from_is_err_and c.from_residual.result c.from_residual.ensures.1 in
    subst (λ r. IfErr r (TellsOf name)) (sym e.1) (subst (TellsOf name) (sym e.2) (inl c.in_err-list.ensures.tells))

pub returns-in_err-tables-clause-tells : goal.returns-in_err-tables-clause-tells
returns-in_err-tables-clause-tells g c =
    let name : List ℕ = c.args.name.now in
    let members : List (List ℕ) = map (λ (q : String Global). string_bytes q) c.in_ok-list.list.members.items in
    let same : map (λ (q : String Global). string_bytes q) c.deref.result.now ≡ members = ap (map (λ (q : String Global). string_bytes q)) c.deref.ensures.value in
    let f : MergeFault = c.in_err-tables.field-0.0 in
    let e = err_from_is_err_and c.from_residual-in_err-tables.result c.from_residual-in_err-tables.ensures.1 in
    subst (λ r. IfErr r (TellsOf name)) (sym e.1)
    (subst (TellsOf name) (sym e.2) (inr (members, (c.in_ok-list.list.method, c.in_ok-list.ensures.sound), subst (λ (qs : List (List ℕ)). TellsAmong qs f) same c.in_err-tables.ensures.tells)))

pub returns-clause-named : goal.returns-clause-named
returns-clause-named g c =
    let members : List (List ℕ) = map (λ (q : String Global). string_bytes q) c.in_ok-list.list.members.items in
    let same : map (λ (q : String Global). string_bytes q) c.deref.result.now ≡ members = ap (map (λ (q : String Global). string_bytes q)) c.deref.ensures.value in
    subst (λ (qs : List (List ℕ)). SomeText qs c.in_ok-list.list.method) (sym (c.in_ok-tables.ensures.named ∙ same)) c.in_ok-list.ensures.sound

pub returns-clause-counted : goal.returns-clause-counted
returns-clause-counted g c = fresh_counted c.args.setup c.in_ok-tables.tables.items c.in_ok-tables.ensures.fresh
