use Rattle.std.proofs.Common.{Option, Some, None, refl, sym, subst, ◌∙◌}
use Rattle.std.proofs.lemmas.Result.{err_from_is_err_and}
use Rattle.myi_btree.specs.Walk.{Node}
use Rattle.myi_btree.specs.Nodes.{node_in}
use Rattle.myi_search.specs.Passing.{passes, best_of}
use Rattle.myi_search.specs.Seeking.{Enters}
use Rattle.myi_search.specs.Runs.{GathersLeaf}
use Rattle.myi_search.proofs.SeekLaws.{enters_by, no_node}
use Rattle.myi_search.proofs.Serving.{same_place, lent_off, lent_none, lent_is, short_only, if_err, can_get, shown_now}
use Rattle.myi_search.proofs.descent.enter.Goals as goal

pub returns-then-at-ne0-clause-damaged : goal.returns-then-at-ne0-clause-damaged
returns-then-at-ne0-clause-damaged g c = λ p e. (same_place c.args.at p e, λ v k. lent_off c.args.place.now v.first v.start c.args.at c.if-at-ne0.true)

pub returns-in_err-bytes-clause-damaged : goal.returns-in_err-bytes-clause-damaged
returns-in_err-bytes-clause-damaged g c =
    let e = err_from_is_err_and c.from_residual.result c.from_residual.ensures.1 in
    if_err c.from_residual.result e.0 _ e.1
    (λ p d.
    let short = c.in_err-bytes.ensures.short p (short_only c.in_err-bytes.field-0.0 e.0 p e.2 d) in (
      short.0,
      λ v k.
          sym (shown_now c.args.place.now v (g.F.Files.holds c.args.files.now) c.args.cache.now c.args.at k)
          ∙ lent_none c.args.place.now c.args.cache.now k.serves.now c.args.at c.if-at-ne0.false (short.1 k.serves.now k.serves.held (can_get c.args.place.now v (g.F.Files.holds c.args.files.now) c.args.cache.now c.args.at k)),
    ))

pub returns-in-Child-clause-enters : goal.returns-in-Child-clause-enters
returns-in-Child-clause-enters g c = λ v k.
    subst (λ (o : Option Node). Enters (passes c.args.bound.now) o (Some c.in-Child.child) (best_of c.args.reached.now) (best_of c.seek_in.new.reached))
    (sym (lent_is c.args.place.now c.args.cache.now k.serves.now c.args.at c.in_ok-bytes.bytes.now (node_in c.args.place.now.rec_ref c.in_ok-bytes.bytes.now) c.if-at-ne0.false (c.in_ok-bytes.ensures.page k.serves.now k.serves.held (can_get c.args.place.now v (g.F.Files.holds c.args.files.now) c.args.cache.now c.args.at k)) refl)
    ∙ shown_now c.args.place.now v (g.F.Files.holds c.args.files.now) c.args.cache.now c.args.at k)
    (enters_by (passes c.args.bound.now) (node_in c.args.place.now.rec_ref c.in_ok-bytes.bytes.now) c.in_ok-child.field-0 (Some c.in-Child.child) (best_of c.args.reached.now) (best_of c.seek_in.new.reached) c.in_ok-child.ensures.seeks c.in-Child.is)

pub returns-in-Leaf-clause-enters : goal.returns-in-Leaf-clause-enters
returns-in-Leaf-clause-enters g c = λ v k.
    subst (λ (o : Option Node). Enters (passes c.args.bound.now) o None (best_of c.args.reached.now) (best_of c.seek_in.new.reached))
    (sym (lent_is c.args.place.now c.args.cache.now k.serves.now c.args.at c.in_ok-bytes.bytes.now (node_in c.args.place.now.rec_ref c.in_ok-bytes.bytes.now) c.if-at-ne0.false (c.in_ok-bytes.ensures.page k.serves.now k.serves.held (can_get c.args.place.now v (g.F.Files.holds c.args.files.now) c.args.cache.now c.args.at k)) refl)
    ∙ shown_now c.args.place.now v (g.F.Files.holds c.args.files.now) c.args.cache.now c.args.at k)
    (enters_by (passes c.args.bound.now) (node_in c.args.place.now.rec_ref c.in_ok-bytes.bytes.now) c.in_ok-child.field-0 None (best_of c.args.reached.now) (best_of c.seek_in.new.reached) c.in_ok-child.ensures.seeks c.in-Leaf.is)

pub returns-in-NoPage-clause-damaged : goal.returns-in-NoPage-clause-damaged
returns-in-NoPage-clause-damaged g c = λ p e. (
  same_place c.args.at p e,
  λ v k.
      sym (shown_now c.args.place.now v (g.F.Files.holds c.args.files.now) c.args.cache.now c.args.at k)
      ∙ lent_is c.args.place.now c.args.cache.now k.serves.now c.args.at c.in_ok-bytes.bytes.now (node_in c.args.place.now.rec_ref c.in_ok-bytes.bytes.now) c.if-at-ne0.false (c.in_ok-bytes.ensures.page k.serves.now k.serves.held (can_get c.args.place.now v (g.F.Files.holds c.args.files.now) c.args.cache.now c.args.at k)) refl
      ∙ no_node (passes c.args.bound.now) (node_in c.args.place.now.rec_ref c.in_ok-bytes.bytes.now) c.in_ok-child.field-0 (best_of c.args.reached.now) (best_of c.seek_in.new.reached) c.in_ok-child.ensures.seeks c.in-NoPage.is,
)

pub returns-in-Child-clause-run : goal.returns-in-Child-clause-run
returns-in-Child-clause-run g c = λ on v k.
    subst (λ (o : Option Node). GathersLeaf o (best_of c.args.reached.now) c.seek_in.new.reached.run)
    (sym (lent_is c.args.place.now c.args.cache.now k.serves.now c.args.at c.in_ok-bytes.bytes.now (node_in c.args.place.now.rec_ref c.in_ok-bytes.bytes.now) c.if-at-ne0.false (c.in_ok-bytes.ensures.page k.serves.now k.serves.held (can_get c.args.place.now v (g.F.Files.holds c.args.files.now) c.args.cache.now c.args.at k)) refl)
    ∙ shown_now c.args.place.now v (g.F.Files.holds c.args.files.now) c.args.cache.now c.args.at k)
    (c.in_ok-child.ensures.run on)

pub returns-in-Leaf-clause-run : goal.returns-in-Leaf-clause-run
returns-in-Leaf-clause-run g c = λ on v k.
    subst (λ (o : Option Node). GathersLeaf o (best_of c.args.reached.now) c.seek_in.new.reached.run)
    (sym (lent_is c.args.place.now c.args.cache.now k.serves.now c.args.at c.in_ok-bytes.bytes.now (node_in c.args.place.now.rec_ref c.in_ok-bytes.bytes.now) c.if-at-ne0.false (c.in_ok-bytes.ensures.page k.serves.now k.serves.held (can_get c.args.place.now v (g.F.Files.holds c.args.files.now) c.args.cache.now c.args.at k)) refl)
    ∙ shown_now c.args.place.now v (g.F.Files.holds c.args.files.now) c.args.cache.now c.args.at k)
    (c.in_ok-child.ensures.run on)
