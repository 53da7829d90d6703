use Rattle.std.proofs.Common.{◌≡◌, ◌+◌, ℕ, Option, Some, true, false, [], ◌∷◌, ◌++◌, length, sym, subst, ◌∙◌, arith}
use Rattle.std.proofs.lemmas.Result.{err_from_is_err_and}
use Rattle.myi_btree.specs.CachedTrees.{is_among}
use Rattle.myi_search.specs.Passing.{passes, best_of}
use Rattle.myi_search.specs.Seeking.{Going, Stops}
use Rattle.myi_search.proofs.CountLaws.{counts_on}
use Rattle.myi_search.proofs.Inserted.{seen_is, has_more}
use Rattle.myi_search.proofs.Serving.{lent_shape, same_place, if_err, serves_on, reads_on, reads_none}
use Rattle.myi_btree.specs.Serving.{nodes_at}
use Rattle.myi_search.specs.Runs.{RunsIn}
use Rattle.myi_search.proofs.RunLaws.{ahead_start, runs_more}
use Rattle.myi_search.proofs.DownLaws.{can_go, went_more, going_more, going_ends, stops_none, stops_met, asked_one}
use Rattle.myi_search.proofs.descent.go_down.Goals as goal

pub returns-in_err-insert-clause-asked : goal.returns-in_err-insert-clause-asked
returns-in_err-insert-clause-asked g c = (c.loop-down.invariant.seen, c.loop-down.invariant.asked, λ v k. (c.loop-down.invariant.going v k).went)

pub returns-then-not-branch-clause-asked : goal.returns-then-not-branch-clause-asked
returns-then-not-branch-clause-asked g c = (c.loop-down.invariant.seen, c.loop-down.invariant.asked, λ v k. (c.loop-down.invariant.going v k).went)

pub returns-then-not-branch-clause-stops : goal.returns-then-not-branch-clause-stops
returns-then-not-branch-clause-stops g c = λ at e v k.
    let told = g.F.Files.holds c.loop-down.files in
    let going : Going c.args.place.now (passes c.args.bound.now) v told c.loop-down.cache c.args.root c.loop-down.invariant.seen (Some c.in-Some.at) (best_of c.loop-down.reached) = subst (λ (d : Option ℕ). Going c.args.place.now (passes c.args.bound.now) v told c.loop-down.cache c.args.root c.loop-down.invariant.seen d (best_of c.loop-down.reached)) c.in-Some.is (c.loop-down.invariant.going v k) in
    let met : is_among c.loop-down.invariant.seen c.in-Some.at ≡ true = sym (seen_is c.loop-down.met.keys c.loop-down.invariant.seen c.in-Some.at c.loop-down.invariant.has) ∙ grind (arith, c.in_ok-insert.ensures.added, c.if-not-branch.true) in
    subst (λ (p : ℕ). Stops c.args.place.now (passes c.args.bound.now) v c.args.root p) (sym (same_place c.in-Some.at at e))
    (stops_met c.args.place.now (passes c.args.bound.now) v told c.loop-down.cache c.args.root c.loop-down.invariant.seen c.in-Some.at (best_of c.loop-down.reached) going met)

pub returns-in_err-down-clause-asked : goal.returns-in_err-down-clause-asked
returns-in_err-down-clause-asked g c = (
  c.loop-down.invariant.seen ++ c.in-Some.at ∷ [],
  asked_one c.args.place.now c.args.cache.now c.loop-down.cache c.enter.new.cache (g.F.Files.reads c.args.files.now) (g.F.Files.reads c.loop-down.files) (g.F.Files.reads c.enter.new.files) c.loop-down.invariant.seen c.in-Some.at c.loop-down.invariant.asked c.enter.ensures.requests c.enter.ensures.once c.enter.ensures.added,
  λ v k.
      let told = g.F.Files.holds c.loop-down.files in
      let going : Going c.args.place.now (passes c.args.bound.now) v told c.loop-down.cache c.args.root c.loop-down.invariant.seen (Some c.in-Some.at) (best_of c.loop-down.reached) = subst (λ (d : Option ℕ). Going c.args.place.now (passes c.args.bound.now) v told c.loop-down.cache c.args.root c.loop-down.invariant.seen d (best_of c.loop-down.reached)) c.in-Some.is (c.loop-down.invariant.going v k) in
      let asks = can_go c.args.place.now (passes c.args.bound.now) v told c.loop-down.cache c.args.root c.loop-down.invariant.seen c.in-Some.at (best_of c.loop-down.reached) going in
      went_more c.args.place.now (passes c.args.bound.now) v told (g.F.Files.holds c.enter.new.files) c.loop-down.cache c.enter.new.cache c.args.root c.loop-down.invariant.seen c.in-Some.at (best_of c.loop-down.reached) going
      (serves_on c.args.place.now v told (g.F.Files.holds c.enter.new.files) c.loop-down.cache c.enter.new.cache c.in-Some.at asks c.enter.ensures.cache c.enter.ensures.stays c.enter.ensures.added),
)

pub returns-in_err-down-clause-stops : goal.returns-in_err-down-clause-stops
returns-in_err-down-clause-stops g c =
    let e = err_from_is_err_and c.from_residual-in_err-down.result c.from_residual-in_err-down.ensures.1 in
    if_err c.from_residual-in_err-down.result e.0 _ e.1
    (λ p d v k.
    let told = g.F.Files.holds c.loop-down.files in
    let going : Going c.args.place.now (passes c.args.bound.now) v told c.loop-down.cache c.args.root c.loop-down.invariant.seen (Some c.in-Some.at) (best_of c.loop-down.reached) = subst (λ (d : Option ℕ). Going c.args.place.now (passes c.args.bound.now) v told c.loop-down.cache c.args.root c.loop-down.invariant.seen d (best_of c.loop-down.reached)) c.in-Some.is (c.loop-down.invariant.going v k) in
    let asks = can_go c.args.place.now (passes c.args.bound.now) v told c.loop-down.cache c.args.root c.loop-down.invariant.seen c.in-Some.at (best_of c.loop-down.reached) going in
    let f = c.in_err-down.ensures.damaged p (sym e.2 ∙ d) in
    subst (λ (p : ℕ). Stops c.args.place.now (passes c.args.bound.now) v c.args.root p) (sym f.0)
    (stops_none c.args.place.now (passes c.args.bound.now) v told c.loop-down.cache c.args.root c.loop-down.invariant.seen c.in-Some.at (best_of c.loop-down.reached) going (f.1 v asks)))

pub returns-in_err-down-clause-cache : goal.returns-in_err-down-clause-cache
returns-in_err-down-clause-cache g c = reads_on _ _ _ _ _ _ c.loop-down.invariant.cache c.enter.ensures.cache

pub loop-down-preserved : goal.loop-down-preserved
loop-down-preserved g c =
    let off : is_among c.loop-down.invariant.seen c.in-Some.at ≡ false = sym (seen_is c.loop-down.met.keys c.loop-down.invariant.seen c.in-Some.at c.loop-down.invariant.has) ∙ grind (arith, c.in_ok-insert.ensures.added, c.if-not-branch.false) in
    let long : length c.insert.new.self.keys ≡ length c.loop-down.met.keys + 1 = grind (arith, c.in_ok-insert.ensures.len, c.if-not-branch.false) in
    record {
      seen = c.loop-down.invariant.seen ++ c.in-Some.at ∷ [];
      has = has_more c.loop-down.met.keys c.loop-down.invariant.seen c.insert.new.self.keys c.in-Some.at c.in_ok-insert.ensures.keys long c.loop-down.invariant.has;
      asked = asked_one c.args.place.now c.args.cache.now c.loop-down.cache c.enter.new.cache (g.F.Files.reads c.args.files.now) (g.F.Files.reads c.loop-down.files) (g.F.Files.reads c.enter.new.files) c.loop-down.invariant.seen c.in-Some.at c.loop-down.invariant.asked c.enter.ensures.requests c.enter.ensures.once c.enter.ensures.added;
      going = λ v k.
          let told = g.F.Files.holds c.loop-down.files in
          let going : Going c.args.place.now (passes c.args.bound.now) v told c.loop-down.cache c.args.root c.loop-down.invariant.seen (Some c.in-Some.at) (best_of c.loop-down.reached) = subst (λ (d : Option ℕ). Going c.args.place.now (passes c.args.bound.now) v told c.loop-down.cache c.args.root c.loop-down.invariant.seen d (best_of c.loop-down.reached)) c.in-Some.is (c.loop-down.invariant.going v k) in
          let asks = can_go c.args.place.now (passes c.args.bound.now) v told c.loop-down.cache c.args.root c.loop-down.invariant.seen c.in-Some.at (best_of c.loop-down.reached) going in
          going_more c.args.place.now (passes c.args.bound.now) v told (g.F.Files.holds c.enter.new.files) c.loop-down.cache c.enter.new.cache c.args.root c.loop-down.invariant.seen c.in-Some.at c.in_ok-down.down (best_of c.loop-down.reached) (best_of c.enter.new.reached) going off (c.in_ok-down.ensures.enters v asks)
          (serves_on c.args.place.now v told (g.F.Files.holds c.enter.new.files) c.loop-down.cache c.enter.new.cache c.in-Some.at asks c.enter.ensures.cache c.enter.ensures.stays c.enter.ensures.added);
      cache = reads_on _ _ _ _ _ _ c.loop-down.invariant.cache c.enter.ensures.cache;
      counted = counts_on c.args.cache.now c.loop-down.cache c.enter.new.cache c.loop-down.invariant.counted c.enter.ensures.counted;
      code = c.in_ok-down.ensures.code;
      gathers = c.enter.ensures.gathers ∙ c.loop-down.invariant.gathers;
      runs = λ on v k height w walk parted.
          let told = g.F.Files.holds c.loop-down.files in
          let going : Going c.args.place.now (passes c.args.bound.now) v told c.loop-down.cache c.args.root c.loop-down.invariant.seen (Some c.in-Some.at) (best_of c.loop-down.reached) = subst (λ (d : Option ℕ). Going c.args.place.now (passes c.args.bound.now) v told c.loop-down.cache c.args.root c.loop-down.invariant.seen d (best_of c.loop-down.reached)) c.in-Some.is (c.loop-down.invariant.going v k) in
          let asks = can_go c.args.place.now (passes c.args.bound.now) v told c.loop-down.cache c.args.root c.loop-down.invariant.seen c.in-Some.at (best_of c.loop-down.reached) going in
          let here : RunsIn (nodes_at c.args.place.now v) (passes c.args.bound.now) w (Some c.in-Some.at) (best_of c.loop-down.reached) c.loop-down.reached.run = subst (λ (d : Option ℕ). RunsIn (nodes_at c.args.place.now v) (passes c.args.bound.now) w d (best_of c.loop-down.reached) c.loop-down.reached.run) c.in-Some.is (c.loop-down.invariant.runs on v k height w walk parted) in
          runs_more (nodes_at c.args.place.now v) (passes c.args.bound.now) w c.in-Some.at c.in_ok-down.down (best_of c.loop-down.reached) (best_of c.enter.new.reached) c.enter.new.reached.run (lent_shape c.args.place.now v.first v.start) here (c.in_ok-down.ensures.enters v asks) (c.in_ok-down.ensures.run (c.loop-down.invariant.gathers ∙ on) v asks);
      later = omega (arith, c.loop-down.invariant.later, c.enter.ensures.cause.later);
      reads = omega (arith, c.loop-down.invariant.reads, c.enter.ensures.reads);
    }

pub returns-clause-asked : goal.returns-clause-asked
returns-clause-asked g c = (c.loop-down.invariant.seen, c.loop-down.invariant.asked, λ v k. (c.loop-down.invariant.going v k).went)

pub returns-clause-ends : goal.returns-clause-ends
returns-clause-ends g c = λ v k.
    let told = g.F.Files.holds c.loop-down.files in
    going_ends c.args.place.now (passes c.args.bound.now) v told c.loop-down.cache c.args.root c.loop-down.invariant.seen (best_of c.loop-down.reached)
    (subst (λ (d : Option ℕ). Going c.args.place.now (passes c.args.bound.now) v told c.loop-down.cache c.args.root c.loop-down.invariant.seen d (best_of c.loop-down.reached)) c.in_default.is (c.loop-down.invariant.going v k))

pub returns-clause-run : goal.returns-clause-run
returns-clause-run g c = λ on v k height w walk parted.
    subst (λ (d : Option ℕ). RunsIn (nodes_at c.args.place.now v) (passes c.args.bound.now) w d (best_of c.loop-down.reached) c.loop-down.reached.run) c.in_default.is (c.loop-down.invariant.runs on v k height w walk parted)
