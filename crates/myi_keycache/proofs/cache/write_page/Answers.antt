use Rattle.std.proofs.Common.{refl, sym, ◌∙◌, inl, inr}
use Rattle.std.proofs.lemmas.Result.{err_from_is_err_and}
use Rattle.myi_keycache.proofs.OrderLemmas.{split}
use Rattle.myi_keycache.proofs.HitLemmas.{some_index, index_within, place_at, written_same}
use Rattle.myi_keycache.proofs.CacheLemmas.{not_all_written, stay_written, wrote_only, part_only}
use Rattle.myi_keycache.proofs.OneLemmas.{none_at, some_at, not_none, count_none, count_some, one_none, one_done, one_part}
use Rattle.myi_keycache.proofs.cache.write_page.Goals as goal

pub write_at-requires : goal.write_at-requires
write_at-requires g c =
    let x = some_index _ c.requires.kept in
    let s = split c.args.blocks.now.pages x.0 (index_within c.args.page.at c.args.page.size c.args.blocks.now.pages x.0 x.1) in
    let u = c.is_unwritten.ensures.unwritten x.0 x.1 s in
    elim c.requires.writable [
      | inl w ↦ w
      | inr all ↦ absurd (not_all_written c.args.blocks.now x.0 s (sym u ∙ c.if-not-is_unwritten.false) all)
    ]

pub returns-in_err-write_at-clause-writes : goal.returns-in_err-write_at-clause-writes
returns-in_err-write_at-clause-writes g c =
    let x = some_index _ c.requires.kept in
    let s = split c.args.blocks.now.pages x.0 (index_within c.args.page.at c.args.page.size c.args.blocks.now.pages x.0 x.1) in
    let u = c.is_unwritten.ensures.unwritten x.0 x.1 s in
    let place = place_at c.args.page.at c.args.page.size c.args.blocks.now.pages x.0 s x.1 in
    let bytes = c.page.ensures x.0 x.1 s in
    part_only _ _ c.args.name.now c.args.blocks.now c.args.counters.now x.0 s _ _ c.is_unwritten.ensures.ordered.differ (sym u ∙ c.if-not-is_unwritten.false) place bytes c.requires.writes c.in_err-write_at.ensures.err

pub returns-clause-stay : goal.returns-clause-stay
returns-clause-stay g c =
    let x = some_index _ c.requires.kept in
    let s = split c.args.blocks.now.pages x.0 (index_within c.args.page.at c.args.page.size c.args.blocks.now.pages x.0 x.1) in
    stay_written c.args.blocks.now c.set_written.new.self x.0 s (c.set_written.ensures x.0 x.1 s)

pub returns-clause-writes : goal.returns-clause-writes
returns-clause-writes g c =
    let x = some_index _ c.requires.kept in
    let s = split c.args.blocks.now.pages x.0 (index_within c.args.page.at c.args.page.size c.args.blocks.now.pages x.0 x.1) in
    let u = c.is_unwritten.ensures.unwritten x.0 x.1 s in
    let place = place_at c.args.page.at c.args.page.size c.args.blocks.now.pages x.0 s x.1 in
    let bytes = c.page.ensures x.0 x.1 s in
    wrote_only _ _ c.args.name.now c.args.blocks.now c.set_written.new.self c.args.counters.now c.count_write.new.self x.0 s _ _ c.is_unwritten.ensures.ordered.differ (sym u ∙ c.if-not-is_unwritten.false) place bytes (c.set_written.ensures x.0 x.1 s) c.count_write.ensures c.in_ok-write_at.ensures.ok

pub returns-then-not-is_unwritten-clause-one : goal.returns-then-not-is_unwritten-clause-one
returns-then-not-is_unwritten-clause-one g c i at =
    let s = split c.args.blocks.now.pages i (index_within c.args.page.at c.args.page.size c.args.blocks.now.pages i at) in
    let u = c.is_unwritten.ensures.unwritten i at s in
    one_none _ _ c.args.name.now _ _ (none_at c.args.blocks.now i s (sym u ∙ c.if-not-is_unwritten.true)) refl

pub returns-then-not-is_unwritten-clause-counted : goal.returns-then-not-is_unwritten-clause-counted
returns-then-not-is_unwritten-clause-counted g c i at =
    let s = split c.args.blocks.now.pages i (index_within c.args.page.at c.args.page.size c.args.blocks.now.pages i at) in
    let u = c.is_unwritten.ensures.unwritten i at s in
    count_none c.args.counters.now _ c.requires.writes (none_at c.args.blocks.now i s (sym u ∙ c.if-not-is_unwritten.true))

pub returns-in_err-write_at-clause-one : goal.returns-in_err-write_at-clause-one
returns-in_err-write_at-clause-one g c i at =
    let s = split c.args.blocks.now.pages i (index_within c.args.page.at c.args.page.size c.args.blocks.now.pages i at) in
    let u = c.is_unwritten.ensures.unwritten i at s in
    let place = place_at c.args.page.at c.args.page.size c.args.blocks.now.pages i s at in
    let bytes = c.page.ensures i at s in
    let e = err_from_is_err_and c.from_residual.result c.from_residual.ensures.1 in
    rw e.1 (one_part _ _ c.args.name.now _ e.0 s.page.page _ _ (some_at c.args.blocks.now i s (sym u ∙ c.if-not-is_unwritten.false)) place bytes c.in_err-write_at.ensures.err)

pub returns-in_err-write_at-clause-quiet : goal.returns-in_err-write_at-clause-quiet
returns-in_err-write_at-clause-quiet g c i at none =
    let s = split c.args.blocks.now.pages i (index_within c.args.page.at c.args.page.size c.args.blocks.now.pages i at) in
    let u = c.is_unwritten.ensures.unwritten i at s in
    absurd (not_none _ s.page.page (some_at c.args.blocks.now i s (sym u ∙ c.if-not-is_unwritten.false)) none)

pub returns-clause-one : goal.returns-clause-one
returns-clause-one g c i at =
    let s = split c.args.blocks.now.pages i (index_within c.args.page.at c.args.page.size c.args.blocks.now.pages i at) in
    let u = c.is_unwritten.ensures.unwritten i at s in
    let place = place_at c.args.page.at c.args.page.size c.args.blocks.now.pages i s at in
    let bytes = c.page.ensures i at s in
    one_done _ _ c.args.name.now _ _ s.page.page _ _ (some_at c.args.blocks.now i s (sym u ∙ c.if-not-is_unwritten.false)) place bytes c.in_ok-write_at.ensures.ok

pub returns-clause-quiet : goal.returns-clause-quiet
returns-clause-quiet g c i at none =
    let s = split c.args.blocks.now.pages i (index_within c.args.page.at c.args.page.size c.args.blocks.now.pages i at) in
    let u = c.is_unwritten.ensures.unwritten i at s in
    absurd (not_none _ s.page.page (some_at c.args.blocks.now i s (sym u ∙ c.if-not-is_unwritten.false)) none)

pub returns-clause-counted : goal.returns-clause-counted
returns-clause-counted g c i at =
    let s = split c.args.blocks.now.pages i (index_within c.args.page.at c.args.page.size c.args.blocks.now.pages i at) in
    let u = c.is_unwritten.ensures.unwritten i at s in
    count_some c.args.counters.now c.count_write.new.self _ s.page.page (some_at c.args.blocks.now i s (sym u ∙ c.if-not-is_unwritten.false)) c.count_write.ensures

pub returns-then-not-is_unwritten-clause-ok : goal.returns-then-not-is_unwritten-clause-ok
returns-then-not-is_unwritten-clause-ok g c i at s = written_same c.args.blocks.now i s (sym (c.is_unwritten.ensures.unwritten i at s) ∙ c.if-not-is_unwritten.true)
