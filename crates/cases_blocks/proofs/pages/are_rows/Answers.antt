use Rattle.std.proofs.Common.{sym, subst, ◌<◌, ◌^◌}
use Rattle.std.proofs.lemmas.List.Elements.{All-more, All-same, recursion_from_All}
use Rattle.std.proofs.lemmas.List.{take_all}
use Rattle.myi_keypage.specs.declared.entry.Entry.{Entry}
use Rattle.cases_blocks.proofs.pages.are_rows.Goals as goal

pub loop-entry-preserved : goal.loop-entry-preserved
loop-entry-preserved c = All-more (λ (e : Entry). e.row < 256 ^ c.args.rec_ref) c.args.entries.now c.loop-entry.entry-index _ c.loop-entry-test.true c.loop-entry.invariant (subst (λ (t : Entry). t.row < 256 ^ c.args.rec_ref) c.entry-item.is (c.is_row.ensures (cc)))

pub returns : goal.returns
returns c =
    λ e. recursion_from_All (λ (e : Entry). e.row < 256 ^ c.args.rec_ref) c.args.entries.now (All-same (λ (e : Entry). e.row < 256 ^ c.args.rec_ref) c.args.entries.now _ (sym (take_all c.loop-entry.entry-index c.args.entries.now c.loop-entry-test.false)) c.loop-entry.invariant)
