use Rattle.std.proofs.Common.{◌≡◌, true, subst, sym}
use Rattle.myi_pack.specs.Packed.{Values}
use Rattle.myi_pack.specs.Spelling.{fits}
use Rattle.myi_blocks.proofs.ReadLemmas.{view-fits}
use Rattle.myi_blocks.proofs.row_blocks.row_in.Goals as goal

pub returns-in_ok-unpack-in-Some-clause-fits : goal.returns-in_ok-unpack-in-Some-clause-fits
returns-in_ok-unpack-in-Some-clause-fits c =
    subst (λ (r : Values). fits c.args.defs.now r ≡ true) (sym c.in_ok-unpack-in-Some.ensures)
    (view-fits c.args.defs.now c.view.result _ c.args.bytes.now c.requires.sound c.requires.few c.in-Some.is c.view.ensures.packs)
