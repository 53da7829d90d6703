use Rattle.std.proofs.Common.{rules, ◌≡◌, ◌+◌, ◌++◌, ℕ, suc, true, false, List, [], ◌∷◌, sym, ap, ◌∙◌, arith}
use Rattle.std.specs.Prelude.{slice_index_or}
use Rattle.std.proofs.lemmas.List.{append-nil}
use Rattle.myi_defs.specs.declared.types.Key.{Key}
use Rattle.myi_keys.specs.Limits.{is_complete}
use Rattle.myi_data.specs.Keys.{key_of}
use Rattle.myi_inserter.specs.declared.unique_key.UniqueKey.{UniqueKey}
use Rattle.myi_inserter.proofs.RowLemmas.{unique_at, one_less, one_more, key_is}
use Rattle.myi_inserter.proofs.put_keys.push_unique.Goals as goal

pub returns-then-not-as_slice-i : goal.returns-then-not-as_slice-i
returns-then-not-as_slice-i c =
    let d = c.args.defs.now in
    let i = c.args.i in
    let r = c.index-as_slice-i.result in
    let here = ap (λ (ks : List Key). slice_index_or ks i r) (sym c.as_slice.ensures) ∙ sym c.index-as_slice-i.is in
    let flag : r.unique ≡ false = search rules in
    sym (append-nil c.args.keys.now.items) ∙ ap (λ (l : List UniqueKey). c.args.keys.now.items ++ l) (sym (one_less d c.args.view.now (suc i) (unique_at d i r c.requires.key here ∙ flag)))

pub returns-in_ok-push : goal.returns-in_ok-push
returns-in_ok-push c =
    let d = c.args.defs.now in
    let i = c.args.i in
    let r = c.index-as_slice-i.result in
    let here = ap (λ (ks : List Key). slice_index_or ks i r) (sym c.as_slice.ensures) ∙ sym c.index-as_slice-i.is in
    let flag : r.unique ≡ true = search rules in
    let number : i + 1 ≡ suc i = omega arith in
    let key = c.in_ok-key.ensures in
    let whole : is_complete (key_of d (suc i) c.args.view.now) ≡ true = ap (λ (n : ℕ). is_complete (key_of d n c.args.view.now)) (sym number) ∙ ap is_complete (sym key) ∙ sym c.is_complete.ensures ∙ c.if-is_complete.true in
    c.in_ok-push.ensures.items
    ∙ ap (λ (u : UniqueKey). c.args.keys.now.items ++ u ∷ []) (key_is d c.args.view.now (i + 1) (suc i) c.in_ok-key.key number key)
    ∙ ap (λ (l : List UniqueKey). c.args.keys.now.items ++ l) (sym (one_more d c.args.view.now (suc i) (unique_at d i r c.requires.key here ∙ flag) whole))
