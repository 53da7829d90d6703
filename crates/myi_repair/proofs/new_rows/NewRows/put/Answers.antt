use Rattle.std.proofs.Common.{◌+◌, ◌<◌, ◌++◌, ◌∷◌, [], ◌∙◌, ℕ, List, length, arith, refl, ap, sym, subst}
use Rattle.std.proofs.lemmas.List.{length_push}
use Rattle.myi_base.specs.Holding.{Writes}
use Rattle.myi_base.proofs.CallerLemmas.{told_more}
use Rattle.myi_defs.proofs.CallerLemmas.{sound}
use Rattle.myi_data.proofs.CallerLemmas.{spelling_some}
use Rattle.myi_repair.proofs.KeepLaws.{spelled_few, put_bytes, put_count, added, written_one}
use Rattle.myi_repair.proofs.new_rows.NewRows.put.Goals as goal

pub put_packed-requires-clause-few : goal.put_packed-requires-clause-few
put_packed-requires-clause-few g c κs lives =
    let given = c.requires.row in
    let few = spelled_few c.args.defs.now given.0 (sound c.args.defs.now c.requires.defs) given.1.fit in
    omega (arith, few, ap (λ (b : List ℕ). length b) (c.deref.ensures.value ∙ given.1.bytes))

pub put_packed-requires-clause-place : goal.put_packed-requires-clause-place
put_packed-requires-clause-place g c κs lives = c.requires.written.2.came.short

pub pointer-requires : goal.pointer-requires
pointer-requires g c = sound c.args.defs.now c.requires.defs

pub overflow_add-self : goal.overflow_add-self
overflow_add-self g c =
    let k = c.args.self.now in
    omega (arith, c.requires.written.2.came.few, ap (λ (ps : List ℕ). length ps) c.in_ok-push.ensures.added, length_push k.pointers c.pointer.result, c.len-came.ensures)

pub overflow_add-self-2 : goal.overflow_add-self-2
overflow_add-self-2 g c =
    let given = c.requires.row in
    let d = c.args.defs.now in
    let some : 0 < length c.deref.result.now = subst (λ (b : List ℕ). 0 < length b) (sym (c.deref.ensures.value ∙ given.1.bytes)) (spelling_some d given.0.values (sound d c.requires.defs) given.1.fit) in
    omega (arith, c.in_ok-end.ensures.less some, c.requires.written.2.came.less)

pub returns-clause-added : goal.returns-clause-added
returns-clause-added g c row prepared =
    let d = c.args.defs.now in
    let k = c.args.self.now in
    let s = sound d c.requires.defs in
    let bytes = c.deref.ensures.value ∙ prepared.bytes in
    let sizes = c.deref-2.ensures.value ∙ prepared.sizes in
    let some : 0 < length c.deref.result.now = subst (λ (b : List ℕ). 0 < length b) (sym bytes) (spelling_some d row.values s prepared.fit) in
    added d row k _ c.in_ok-end.blocks s prepared.fit refl refl
    (c.in_ok-end.ensures.count ∙ put_count d row c.deref-2.result.now c.deref.result.now bytes sizes)
    (c.in_ok-end.ensures.end ∙ ap (λ (x : List ℕ). k.end + length x) (put_bytes d row k.end c.deref-2.result.now c.deref.result.now bytes sizes))
    (c.in_ok-end.ensures.less some)
    (c.in_ok-push.ensures.added ∙ ap (λ p. k.pointers ++ p ∷ []) c.pointer.ensures)
    (sym c.addressable.ensures ∙ c.if-not-addressable.false)

pub returns-clause-written : goal.returns-clause-written
returns-clause-written g c =
    told_more _ _ _ _ c.in_ok-end.ensures.ok (λ m n held wrote row prepared.
    let d = c.args.defs.now in
    let bytes = c.deref.ensures.value ∙ prepared.bytes in
    let sizes = c.deref-2.ensures.value ∙ prepared.sizes in
    written_one d row c.args.self.now c.args.file.now m n (sound d c.requires.defs)
    (subst (λ b. Writes c.args.file.now c.args.self.now.end b m n) (put_bytes d row c.args.self.now.end c.deref-2.result.now c.deref.result.now bytes sizes) wrote))

pub returns-clause-reached : goal.returns-clause-reached
returns-clause-reached g c = sym c.addressable.ensures ∙ c.if-not-addressable.false
