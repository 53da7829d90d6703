use Rattle.std.proofs.Common.{◌≡◌, ◌∙◌, refl, length, List, [], ap}
use Rattle.std.specs.Prelude.{replicate}
use Rattle.myi_defs.specs.declared.types.Key.{Key}
use Rattle.myi_check.proofs.MetLemmas.{none_met}
use Rattle.myi_check.proofs.met.Met.new.Goals as goal

pub returns-clause-met : goal.returns-clause-met
returns-clause-met c =
    let keys : length c.as_slice.result.now ≡ length c.args.defs.now.keys = ap (λ (ks : List Key). length ks) c.as_slice.ensures in
    none_met c.args.defs.now c.args.noting.together _ (c.in_ok-new.ensures ∙ ap (λ n. replicate n []) keys) c.new-2.ensures refl refl c.new-3.ensures c.new-4.ensures.items c.new-5.ensures refl refl
