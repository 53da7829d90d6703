use Rattle.std.proofs.Common.{◌≡◌, ◌+◌, ℕ, Option, Some, None, List, get_or, slice_get, refl, sym, ap, subst, ◌∙◌}
use Rattle.std.specs.Prelude.{IfSome, IfNone, is_some}
use Rattle.std.specs.List.{AllByRecursion}
use Rattle.myi_merge.specs.declared.ranges.Reading.{Reading}
use Rattle.myi_merge.specs.Merging.{comes_before, IsLeast}
use Rattle.myi_merge.proofs.LeastLemmas.{LeastOf, least_first, least_new, least_kept, none_more, some_there, none_there, so_far_some, so_far_none, least_of_all, none_of_all}
use Rattle.myi_merge.proofs.TableLemmas.{got, got_back}
use Rattle.myi_merge.proofs.ranges.least.Goals.{in-None, in-Some, then-better, else-better}
use Rattle.myi_merge.proofs.ranges.least.Goals as goal

pub loop-index-preserved : goal.loop-index-preserved
loop-index-preserved c =
    let rs : List Reading = c.args.readings.now in
    let i : ℕ = c.loop-index.index in
    let was = c.loop-index.invariant in
    elim c.match-least.branch [
      | in-None w ↦
          let q : Reading = w.index-readings-index.result in
          let at : slice_get rs i ≡ Some q = got_back rs i q c.loop-index-test.true (sym w.index-readings-index.is) in
          let there : c.match-least.better ≡ is_some q.head = w.better-is ∙ w.is_some-better.ensures ∙ ap (λ (r : Reading). is_some r.head) (sym w.index-readings-index.is) in
          elim c.if-better.branch [
            | then-better b ↦
                let s = so_far_some rs (i + 1) i c.if-better.least b.least-is (least_first rs i q at (some_there q.head (sym there ∙ b.if-better.true)) (was.none w.in-None.is)) in
                record { found = s.found; none = s.none }
            | else-better b ↦
                let s = so_far_none rs (i + 1) c.if-better.least (b.least-is ∙ w.least-is ∙ w.in-None.is) (none_more rs i q at (none_there q.head (sym there ∙ b.if-better.false)) (was.none w.in-None.is)) in
                record { found = s.found; none = s.none }
          ]
      | in-Some w ↦
          let q : Reading = w.index-readings-index-in-Some.result in
          let p : Reading = w.index-readings-best.result in
          let best : ℕ = w.in-Some.best in
          let at : slice_get rs i ≡ Some q = got_back rs i q c.loop-index-test.true (sym w.index-readings-index-in-Some.is) in
          let of : LeastOf rs i best = subst (λ (o : Option ℕ). IfSome o (LeastOf rs i)) w.in-Some.is was.found in
          let p_is : p ≡ of.least = w.index-readings-best.is ∙ got rs best p of.least of.stands in
          let before : c.match-least.better ≡ comes_before q.head of.least.head =
          w.better-is ∙ w.comes_before-better.ensures ∙ ap (λ (r : Reading). comes_before r.head (get_or rs best p).head) (sym w.index-readings-index-in-Some.is) ∙ ap (λ (r : Reading). comes_before q.head r.head) (sym w.index-readings-best.is ∙ p_is) in
          elim c.if-better.branch [
            | then-better b ↦
                let s = so_far_some rs (i + 1) i c.if-better.least b.least-is (least_new rs i best q at of (sym before ∙ b.if-better.true)) in
                record { found = s.found; none = s.none }
            | else-better b ↦
                let s = so_far_some rs (i + 1) best c.if-better.least (b.least-is ∙ w.least-is) (least_kept rs i best q at of (sym before ∙ b.if-better.false)) in
                record { found = s.found; none = s.none }
          ]
    ]

pub returns-clause-found : goal.returns-clause-found
returns-clause-found c = by c.loop-index.least refl
  where
    by : (o : Option ℕ) → c.loop-index.least ≡ o → IfSome c.loop-index.least (IsLeast c.args.readings.now)
    by None is = subst (λ (o : Option ℕ). IfSome o (IsLeast c.args.readings.now)) (sym is) tt
    by (Some best) is = subst (λ (o : Option ℕ). IfSome o (IsLeast c.args.readings.now)) (sym is) (least_of_all c.args.readings.now c.loop-index.index best c.loop-index-test.false (subst (λ (o : Option ℕ). IfSome o (LeastOf c.args.readings.now c.loop-index.index)) is c.loop-index.invariant.found))

pub returns-clause-none : goal.returns-clause-none
returns-clause-none c = by c.loop-index.least refl
  where
    by : (o : Option ℕ) → c.loop-index.least ≡ o → IfNone c.loop-index.least (AllByRecursion (λ (r : Reading). r.head ≡ None) c.args.readings.now)
    by None is = subst (λ (o : Option ℕ). IfNone o (AllByRecursion (λ (r : Reading). r.head ≡ None) c.args.readings.now)) (sym is) (none_of_all c.args.readings.now c.loop-index.index c.loop-index-test.false (c.loop-index.invariant.none is))
    by (Some best) is = subst (λ (o : Option ℕ). IfNone o (AllByRecursion (λ (r : Reading). r.head ≡ None) c.args.readings.now)) (sym is) tt
