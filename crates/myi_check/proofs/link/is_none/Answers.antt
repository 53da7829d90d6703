use Rattle.std.proofs.Common.{◌≡◌, ℕ, ◌^◌, ◌≤◌, eqb, ◌+◌, ap, refl, ◌∙◌, arith}
use Rattle.std.proofs.Math.Nat.{pow-le-pow_right}
use Rattle.myi_check.proofs.LinkLemmas.{last_test}
use Rattle.myi_check.proofs.link.is_none.Goals as goal

pub pow-requires : goal.pow-requires
pow-requires c =
    let most : 256 ^ c.args.rec_ref ≤ 256 ^ 8 = pow-le-pow_right (omega arith) c.requires in
    omega (arith, most)

pub returns : goal.returns
returns c =
    let some = λ (k : ℕ) (none : k ≡ 0). let le : k ≤ c.args.rec_ref = omega (arith, none) in let p : 256 ^ k ≤ 256 ^ c.args.rec_ref = pow-le-pow_right (omega arith) le in p in
    ap (λ a. eqb (c.args.number + 1) a) c.pow.ensures ∙ last_test c.args.number (256 ^ c.args.rec_ref) (omega (arith, some 0 refl))
