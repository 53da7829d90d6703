use Rattle.std.proofs.Common.{◌≡◌, List, sym, subst}
use Rattle.std.specs.List.{AllByRecursion}
use Rattle.std.proofs.lemmas.Result.{IfOk-weaker}
use Rattle.myi_btree.specs.declared.place.Place.{Place}
use Rattle.myi_table.proofs.loading.open_trees.Goals as goal

pub returns-clause-pointers : goal.returns-clause-pointers
returns-clause-pointers c =
    IfOk-weaker c.open.result (λ trees. trees.places ≡ c.in_ok-places.places.items) (λ trees. AllByRecursion (λ (p : Place). p.rec_ref ≡ c.args.defs.now.rec_ref) trees.places) (λ trees is. subst (λ (list : List Place). AllByRecursion (λ (p : Place). p.rec_ref ≡ c.args.defs.now.rec_ref) list) (sym is) c.in_ok-places.ensures.pointers) c.open.ensures.places
