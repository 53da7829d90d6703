use Rattle.std.proofs.Common.{◌≡◌, ℕ, suc, ◌-◌, drop, ◌<◌, subst, arith}
use Rattle.std.specs.List.{AllByRecursion}
use Rattle.myi_insertion.proofs.RoomLaws.{none_more}
use Rattle.myi_insertion.proofs.room.last_of.Goals as goal

pub loop-i-preserved : goal.loop-i-preserved
loop-i-preserved c =
    let i : ℕ = c.loop-i.i in
    let above : 0 < i = c.loop-i-test.true in
    let next : i ≡ suc (i - 1) = omega arith in
    let differs : ℕ × ℕ → Type 0 = λ r. r.1 ≡ c.args.len → ⊥ in
    record {
      inside = omega (arith, c.loop-i.invariant.inside);
      none = none_more differs c.args.free.now (i - 1) (0, 0) (omega (arith, c.loop-i.invariant.inside)) c.if-free-i.false (subst (λ (n : ℕ). AllByRecursion differs (drop n c.args.free.now)) next c.loop-i.invariant.none);
    }
