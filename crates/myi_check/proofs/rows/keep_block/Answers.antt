use Rattle.std.proofs.Common.{◌≡◌, ◌∙◌, ◌++◌, suc, ◌+◌, true, false, [], ◌∷◌, take, sym, ap, arith}
use Rattle.std.specs.Prelude.{slice_set}
use Rattle.std.proofs.lemmas.List.{append-nil}
use Rattle.myi_check.specs.HeldBytes.{is_free}
use Rattle.myi_check.proofs.KeptLemmas.{one_kept, front_set}
use Rattle.myi_check.proofs.rows.keep_block.Goals as goal

pub returns-then-not-is_apart-clause-kept : goal.returns-then-not-is_apart-clause-kept
returns-then-not-is_apart-clause-kept c =
    let free = is_free c.args.held.now in
    let items = c.args.blocks.now.items in
    let none = one_kept free c.args.index items c.index-block.result.now false c.requires.inside (ap free (sym c.index-block.ensures) ∙ sym c.if-not-is_apart.ensures) in
    sym (ap (λ bs. take c.args.count items ++ bs) none ∙ append-nil (take c.args.count items))

pub returns-clause-kept : goal.returns-clause-kept
returns-clause-kept c =
    let free = is_free c.args.held.now in
    let items = c.args.blocks.now.items in
    let one = one_kept free c.args.index items c.index-block.result.now true c.requires.inside (ap free (sym c.index-block.ensures) ∙ sym c.if-not-is_apart.ensures) in
    let count : c.args.count + 1 ≡ suc c.args.count = omega arith in
    ap (λ n. take n (slice_set items c.args.count c.index-block.result.now)) count
    ∙ front_set c.args.count c.index-block.result.now items (omega (arith, c.requires.few, c.requires.inside))
    ∙ ap (λ b. take c.args.count items ++ b ∷ []) c.index-block.ensures
    ∙ ap (λ bs. take c.args.count items ++ bs) (sym one)
