use Rattle.std.proofs.Common.{◌≡◌, ℕ, ◌+◌, ◌<◌, true, false, List, [], ◌∷◌, ◌++◌, length, map, take, drop, get_or, string_bytes, String, Global, Err, sym, ap, subst, ◌∙◌, arith}
use Rattle.std.specs.Prelude.{IfErr}
use Rattle.std.specs.List.{AllByRecursion}
use Rattle.std.proofs.lemmas.List.{map-append, take_all}
use Rattle.std.proofs.lemmas.Result.{err_from_is_err_and}
use Rattle.myi_base.specs.Holding.{IfTold}
use Rattle.myi_table.specs.Table.{OpenTable}
use Rattle.myi_table.specs.Loading.{IsLoaded}
use Rattle.myi_merge.specs.declared.fault.MergeFault.{MergeFault}
use Rattle.myi_merge.specs.Merged.{IsLikeFirst, AreAlike, IsSoundTable}
use Rattle.myi_merge.specs.Loading.{EachLoaded, IsFresh, StopsAtMember, StopsAmong, TellsOfMember, TellsAmong}
use Rattle.myi_merge.proofs.LoadLemmas.{all_push, alike_push, each_push, names_more, names_around, stops_member, may_differ, like_none, tells_among}
use Rattle.myi_merge.proofs.loading.load_tables.Goals as goal

pub returns-in_err-table-clause-refused : goal.returns-in_err-table-clause-refused
returns-in_err-table-clause-refused g c =
    let told = g.F.Files.holds c.args.files.now in
    let was = c.loop-name.invariant in
    let names : List (String Global) = c.args.names.now in
    let i : ℕ = c.loop-name.name-index in
    let s : String Global = c.name-item.result in
    let ts : List OpenTable = c.loop-name.tables.items in
    let named : c.as_str.result.now ≡ string_bytes (get_or names i s) = c.as_str.ensures.value ∙ ap (λ (q : String Global). string_bytes q) c.name-item.is in
    let all : List (List ℕ) = map (λ (q : String Global). string_bytes q) names in
    let f : MergeFault = c.in_err-table.field-0.0 in
    let e = err_from_is_err_and c.from_residual-in_err-table.result c.from_residual-in_err-table.ensures.1 in
    subst (λ r. IfErr r (λ k. IfTold told (StopsAmong all k))) (sym e.1)
    (subst (λ (k : MergeFault). IfTold told (StopsAmong all k)) (sym e.2) (λ m held.
    stops_member all (map (λ (q : String Global). string_bytes q) (take i names)) (map (λ (q : String Global). string_bytes q) (drop (i + 1) names)) (string_bytes (get_or names i s)) ts f m (names_around (λ (q : String Global). string_bytes q) names i s c.loop-name-test.true) (was.loaded m held) was.alike
    (subst (λ (q : List ℕ). StopsAtMember q f m) named (c.in_err-table.ensures.refused m (was.holds ∙ held)))))

pub returns-in_err-table-2-clause-cause : goal.returns-in_err-table-2-clause-cause
returns-in_err-table-2-clause-cause g c =
    let e = err_from_is_err_and c.from_residual-in_err-table-2.result c.from_residual-in_err-table-2.ensures.1 in
    record {
      later = omega (arith, c.loop-name.invariant.later, c.load_table.ensures.cause.later);
      cause = λ is. absurd (let q = sym (e.1 ∙ ap Err e.2) ∙ is in cc);
    }

pub returns-then-not-is_like_first-clause-refused : goal.returns-then-not-is_like_first-clause-refused
returns-then-not-is_like_first-clause-refused g c = λ m held.
    let told = g.F.Files.holds c.args.files.now in
    let was = c.loop-name.invariant in
    let names : List (String Global) = c.args.names.now in
    let i : ℕ = c.loop-name.name-index in
    let s : String Global = c.name-item.result in
    let ts : List OpenTable = c.loop-name.tables.items in
    let t : OpenTable = c.in_ok-table.table in
    let named : c.as_str.result.now ≡ string_bytes (get_or names i s) = c.as_str.ensures.value ∙ ap (λ (q : String Global). string_bytes q) c.name-item.is in
    record {
      before = map (λ (q : String Global). string_bytes q) (take i names);
      name = string_bytes (get_or names i s);
      after = map (λ (q : String Global). string_bytes q) (drop (i + 1) names);
      parts = names_around (λ (q : String Global). string_bytes q) names i s c.loop-name-test.true;
      tables = ts;
      loaded = was.loaded m held;
      alike = was.alike;
      stopped = (
        c.in_ok-table-2.ensures.ok ∙ c.as_str-then-not-is_like_first.ensures.value ∙ ap (λ (q : String Global). string_bytes q) c.name-item.is,
        record {
          table = t;
          loaded = subst (λ (q : List ℕ). IsLoaded q t m) named (c.in_ok-table.ensures.loaded m (was.holds ∙ held));
          differs = λ like. let no : false ≡ true = sym c.if-not-is_like_first.true ∙ c.is_like_first.ensures.1 (subst (λ (us : List OpenTable). IsLikeFirst us t) (sym c.deref.ensures.value) like) in absurd cc;
        },
      );
    }

pub returns-then-not-is_like_first-clause-cause : goal.returns-then-not-is_like_first-clause-cause
returns-then-not-is_like_first-clause-cause g c = record {
  later = omega (arith, c.loop-name.invariant.later, c.load_table.ensures.cause.later);
  cause = λ is. absurd cc;
}

pub returns-in_err-push-clause-refused : goal.returns-in_err-push-clause-refused
returns-in_err-push-clause-refused g c =
    let told = g.F.Files.holds c.args.files.now in
    let all : List (List ℕ) = map (λ (q : String Global). string_bytes q) c.args.names.now in
    let e = err_from_is_err_and c.from_residual-in_err-push.result c.from_residual-in_err-push.ensures.1 in
    subst (λ r. IfErr r (λ k. IfTold told (StopsAmong all k))) (sym e.1)
    (subst (λ (k : MergeFault). IfTold told (StopsAmong all k)) (sym e.2) (λ m held. tt))

pub returns-in_err-push-clause-cause : goal.returns-in_err-push-clause-cause
returns-in_err-push-clause-cause g c =
    let e = err_from_is_err_and c.from_residual-in_err-push.result c.from_residual-in_err-push.ensures.1 in
    record {
      later = omega (arith, c.loop-name.invariant.later, c.load_table.ensures.cause.later);
      cause = λ is. absurd (let q = sym (e.1 ∙ ap Err e.2) ∙ is in cc);
    }

pub loop-name-preserved : goal.loop-name-preserved
loop-name-preserved g c =
    let told = g.F.Files.holds c.args.files.now in
    let was = c.loop-name.invariant in
    let names : List (String Global) = c.args.names.now in
    let i : ℕ = c.loop-name.name-index in
    let s : String Global = c.name-item.result in
    let ts : List OpenTable = c.loop-name.tables.items in
    let t : OpenTable = c.in_ok-table.table in
    let named : c.as_str.result.now ≡ string_bytes (get_or names i s) = c.as_str.ensures.value ∙ ap (λ (q : String Global). string_bytes q) c.name-item.is in
    let items : c.push.new.self.items ≡ ts ++ t ∷ [] = c.in_ok-push.ensures.items in
    let like : IsLikeFirst ts t = subst (λ (us : List OpenTable). IsLikeFirst us t) c.deref.ensures.value (c.is_like_first.ensures.0 c.if-not-is_like_first.false) in
    let more = names_more (λ (q : String Global). string_bytes q) names i s c.loop-name-test.true in
    record {
      loaded = λ m held. subst (λ (us : List OpenTable). EachLoaded (map (λ (q : String Global). string_bytes q) (take (i + 1) names)) us m) (sym items)
          (subst (λ (qs : List (List ℕ)). EachLoaded qs (ts ++ t ∷ []) m) (sym more)
          (each_push (map (λ (q : String Global). string_bytes q) (take i names)) ts (string_bytes (get_or names i s)) t m (was.loaded m held)
          (subst (λ (q : List ℕ). IsLoaded q t m) named (c.in_ok-table.ensures.loaded m (was.holds ∙ held)))));
      alike = subst AreAlike (sym items) (alike_push ts t was.alike like);
      fresh = subst (AllByRecursion (IsFresh c.args.setup)) (sym items) (all_push (IsFresh c.args.setup) ts t was.fresh c.in_ok-table.ensures.fresh);
      sound = subst (AllByRecursion IsSoundTable) (sym items) (all_push IsSoundTable ts t was.sound c.in_ok-table.ensures.sound);
      named = ap (map (λ (u : OpenTable). u.name)) items ∙ map-append (λ (u : OpenTable). u.name) ts (t ∷ [])
          ∙ ap (λ (qs : List (List ℕ)). qs ++ t.name ∷ []) was.named
          ∙ ap (λ (q : List ℕ). map (λ (q : String Global). string_bytes q) (take i names) ++ q ∷ []) (c.in_ok-table.ensures.named ∙ named) ∙ sym more;
      holds = c.load_table.ensures.holds ∙ was.holds;
      later = omega (arith, was.later, c.load_table.ensures.cause.later);
    }

pub returns-clause-loaded : goal.returns-clause-loaded
returns-clause-loaded g c = λ m held.
    subst (λ (ss : List (String Global)). EachLoaded (map (λ (q : String Global). string_bytes q) ss) c.loop-name.tables.items m) (take_all c.loop-name.name-index c.args.names.now c.loop-name-test.false)
    (c.loop-name.invariant.loaded m held)

pub returns-in_err-table-clause-tells : goal.returns-in_err-table-clause-tells
returns-in_err-table-clause-tells g c =
    let names : List (String Global) = c.args.names.now in
    let i : ℕ = c.loop-name.name-index in
    let s : String Global = c.name-item.result in
    let named : c.as_str.result.now ≡ string_bytes (get_or names i s) = c.as_str.ensures.value ∙ ap (λ (q : String Global). string_bytes q) c.name-item.is in
    let all : List (List ℕ) = map (λ (q : String Global). string_bytes q) names in
    let f : MergeFault = c.in_err-table.field-0.0 in
    let e = err_from_is_err_and c.from_residual-in_err-table.result c.from_residual-in_err-table.ensures.1 in
    subst (λ r. IfErr r (TellsAmong all)) (sym e.1)
    (subst (TellsAmong all) (sym e.2) (tells_among all f (record {
      before = map (λ (q : String Global). string_bytes q) (take i names);
      name = string_bytes (get_or names i s);
      after = map (λ (q : String Global). string_bytes q) (drop (i + 1) names);
      parts = names_around (λ (q : String Global). string_bytes q) names i s c.loop-name-test.true;
      tells = subst (λ (q : List ℕ). TellsOfMember q f) named c.in_err-table.ensures.tells;
      behind = may_differ (map (λ (q : String Global). string_bytes q) (take i names)) f c.in_err-table.ensures.alone;
    })))

pub returns-then-not-is_like_first-clause-tells : goal.returns-then-not-is_like_first-clause-tells
returns-then-not-is_like_first-clause-tells g c =
    let was = c.loop-name.invariant in
    let names : List (String Global) = c.args.names.now in
    let i : ℕ = c.loop-name.name-index in
    let s : String Global = c.name-item.result in
    let ts : List OpenTable = c.loop-name.tables.items in
    let t : OpenTable = c.in_ok-table.table in
    record {
      before = map (λ (q : String Global). string_bytes q) (take i names);
      name = string_bytes (get_or names i s);
      after = map (λ (q : String Global). string_bytes q) (drop (i + 1) names);
      parts = names_around (λ (q : String Global). string_bytes q) names i s c.loop-name-test.true;
      tells = c.in_ok-table-2.ensures.ok ∙ c.as_str-then-not-is_like_first.ensures.value ∙ ap (λ (q : String Global). string_bytes q) c.name-item.is;
      behind = λ none.
          let like : IsLikeFirst ts t = like_none ts t (was.named ∙ none) in
          let no : false ≡ true = sym c.if-not-is_like_first.true ∙ c.is_like_first.ensures.1 (subst (λ (us : List OpenTable). IsLikeFirst us t) (sym c.deref.ensures.value) like) in
          absurd cc;
    }

pub returns-in_err-table-2-clause-tells : goal.returns-in_err-table-2-clause-tells
returns-in_err-table-2-clause-tells g c =
    let all : List (List ℕ) = map (λ (q : String Global). string_bytes q) c.args.names.now in
    let e = err_from_is_err_and c.from_residual-in_err-table-2.result c.from_residual-in_err-table-2.ensures.1 in
    subst (λ r. IfErr r (TellsAmong all)) (sym (e.1 ∙ ap Err e.2)) tt

pub returns-in_err-push-clause-tells : goal.returns-in_err-push-clause-tells
returns-in_err-push-clause-tells g c =
    let all : List (List ℕ) = map (λ (q : String Global). string_bytes q) c.args.names.now in
    let e = err_from_is_err_and c.from_residual-in_err-push.result c.from_residual-in_err-push.ensures.1 in
    subst (λ r. IfErr r (TellsAmong all)) (sym (e.1 ∙ ap Err e.2)) tt
