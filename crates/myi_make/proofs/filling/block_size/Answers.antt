use Rattle.std.proofs.Common.{◌≡◌, ◌∙◌, ℕ, List, length, sym, ap, subst, arith}
use Rattle.myi_defs.specs.declared.types.Defs.{Defs}
use Rattle.myi_defs.specs.Sound.{IsSound}
use Rattle.myi_frames.specs.Sizes.{least_size}
use Rattle.myi_pack.specs.Spelling.{spelling}
use Rattle.myi_make.specs.MadeTable.{defs}
use Rattle.myi_make.proofs.TextLaws.{defs_sound}
use Rattle.myi_make.proofs.BlockLaws.{least_short, length-row_block}
use Rattle.myi_make.proofs.filling.block_size.Goals as goal

pub pack-requires-clause-sound : goal.pack-requires-clause-sound
pack-requires-clause-sound c = subst IsSound (sym c.requires.defs) defs_sound

pub overflow_cast-result : goal.overflow_cast-result
overflow_cast-result c =
    let long : length c.as_slice.result.now ≡ length (spelling defs c.args.row.now) = ap (λ (b : List ℕ). length b) (c.as_slice.ensures.value ∙ c.in_ok-packed.ensures ∙ ap (λ (d : Defs). spelling d c.args.row.now) c.requires.defs) in
    let least = least_short (length (spelling defs c.args.row.now)) c.requires.short in
    let same : c.least_size.result ≡ least_size (length (spelling defs c.args.row.now)) = c.least_size.ensures ∙ ap least_size long in
    omega (arith, same, least)

pub returns : goal.returns
returns c =
    let long : length c.as_slice.result.now ≡ length (spelling defs c.args.row.now) = ap (λ (b : List ℕ). length b) (c.as_slice.ensures.value ∙ c.in_ok-packed.ensures ∙ ap (λ (d : Defs). spelling d c.args.row.now) c.requires.defs) in
    c.least_size.ensures ∙ ap least_size long ∙ sym (length-row_block c.args.row.now c.requires.short)
