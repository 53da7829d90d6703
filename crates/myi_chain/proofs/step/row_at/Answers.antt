use Rattle.std.proofs.Common.{◌∙◌, drop, sym, ap, subst, arith}
use Rattle.std.specs.Option.{option_map}
use Rattle.std.proofs.lemmas.List.{length-take}
use Rattle.myi_window.specs.Excerpt.{bytes_from}
use Rattle.myi_chain.specs.Chain.{chain_of}
use Rattle.myi_chain.specs.Chain.{placed}
use Rattle.myi_chain.specs.Source.{ChainModel, read_bytes, read_blocks, HasFollowed}
use Rattle.myi_chain.proofs.StepLemmas.{whole_last, whole_row, no_broken, long_row, no_row}
use Rattle.myi_chain.proofs.SourceLemmas.{kept_block}
use Rattle.myi_chain.proofs.step.row_at.Goals as goal

pub returns-in-Broken-clause-told : goal.returns-in-Broken-clause-told
returns-in-Broken-clause-told g c m held = no_broken (read_bytes c.args.source.now m) c.args.used.now c.args.block.now (c.requires.here m held) (g.A.Accepts.accepts_gives c.args.test.now) (sym c.first_link.ensures.link ∙ c.in-Broken.is)

pub returns-else-not-keeps_row-clause-told : goal.returns-else-not-keeps_row-clause-told
returns-else-not-keeps_row-clause-told g c m held =
    let s = c.args.source.now in
    let h = c.args.block.now in
    let here = c.requires.here m held in
    let last = sym c.first_link.ensures.link ∙ c.in-Last.is in
    let bytes = kept_block s m h here.0 (c.requires.ready m held) (c.requires.block.inside, c.requires.whole (whole_last h c.args.used.now last)) here.2 in
    whole_row (read_bytes s m) c.args.used.now h here _ last bytes

pub returns-then-not-keeps_row-clause-told : goal.returns-then-not-keeps_row-clause-told
returns-then-not-keeps_row-clause-told g c m held =
    let s = c.args.source.now in
    let h = c.args.block.now in
    let here = c.requires.here m held in
    let last = sym c.first_link.ensures.link ∙ c.in-Last.is in
    let bytes = kept_block s m h here.0 (c.requires.ready m held) (c.requires.block.inside, c.requires.whole (whole_last h c.args.used.now last)) here.2 in
    let t = whole_row (read_bytes s m) c.args.used.now h here _ last bytes in
    let accepts = g.A.Accepts.accepts_gives c.args.test.now in
    no_row accepts _ t.0 t.1 (ap accepts t.3 ∙ sym c.keeps_row.ensures ∙ c.if-not-keeps_row.true)

pub returns-else-not-keeps_row-clause-held : goal.returns-else-not-keeps_row-clause-held
returns-else-not-keeps_row-clause-held g c =
    let s = c.args.source.now in
    let h = c.args.block.now in
    let last = sym c.first_link.ensures.link ∙ c.in-Last.is in
    record {
      packs = sym c.keeps_row.ensures ∙ c.if-not-keeps_row.false;
      counted = omega (arith, length-take h.data_len (drop h.start (bytes_from h.head.at s.kept)), c.first_link.ensures.counted c.in-Last.is);
      joined = tt;
      kept = (c.requires.block.inside, c.requires.whole (whole_last h c.args.used.now last));
    }

pub returns-then-not-branch-2-clause-told : goal.returns-then-not-branch-2-clause-told
returns-then-not-branch-2-clause-told g c m held =
    let s = c.args.source.now in
    let at = c.args.block.now.head.at in
    let used = c.args.used.now in
    let accepts = g.A.Accepts.accepts_gives c.args.test.now in
    let followed = subst (λ f. HasFollowed f c.chain_from.new.chain.taken (option_map placed (chain_of (read_blocks s m) at used))) c.if-not-branch.false (c.in_ok-chain_from-in-More.ensures.told m held (c.requires.here m held)) in
    let told = c.in_ok-joins_row-in-More.ensures.told m (c.chain_from.ensures.holds ∙ held) in
    let t = long_row (read_bytes s m) c.args.block.now used (c.requires.here m held) accepts c.chain_from.new.chain.taken c.joins_row.new.row.joined.items c.in_ok-joins_row-in-More.field-0 followed told in
    no_row accepts _ t.0 t.1 (sym t.4 ∙ c.if-not-branch-2.true)

pub returns-else-not-branch-2-clause-told : goal.returns-else-not-branch-2-clause-told
returns-else-not-branch-2-clause-told g c m held =
    let s = c.args.source.now in
    let at = c.args.block.now.head.at in
    let used = c.args.used.now in
    let accepts = g.A.Accepts.accepts_gives c.args.test.now in
    let followed = subst (λ f. HasFollowed f c.chain_from.new.chain.taken (option_map placed (chain_of (read_blocks s m) at used))) c.if-not-branch.false (c.in_ok-chain_from-in-More.ensures.told m held (c.requires.here m held)) in
    let told = c.in_ok-joins_row-in-More.ensures.told m (c.chain_from.ensures.holds ∙ held) in
    let t = long_row (read_bytes s m) c.args.block.now used (c.requires.here m held) accepts c.chain_from.new.chain.taken c.joins_row.new.row.joined.items c.in_ok-joins_row-in-More.field-0 followed told in
    (t.0, t.1, t.2 ∙ sym (ap (λ (w : ChainModel). w.taken) c.joins_row.ensures.chain), t.3)
