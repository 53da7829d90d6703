use Rattle.std.proofs.Common.{◌≡◌, ◌∙◌, ◌+◌, None, refl, subst, arith}
use Rattle.std.specs.Prelude.{IfSome}
use Rattle.myi_frames.specs.Seeing.{HeadsBlock}
use Rattle.myi_chain.specs.Source.{read_bytes, read_blocks, CanAdd}
use Rattle.myi_base.specs.Holding.{IfTold}
use Rattle.myi_chain.specs.declared.piece.ScanFault.TheVariants.{Memory}
use Rattle.myi_chain.specs.Found.{MeetsShortAt, IsHeld, found_at, found_blocks}
use Rattle.myi_chain.proofs.SourceLemmas.{long_bytes}
use Rattle.myi_chain.proofs.StepLemmas.{over_used, over_none, over_block, found_at_place, short_refused, short_adds, short_needs, if_err, heads_now, finds_here, free_held, free_lies, free_between, behind_block}
use Rattle.myi_chain.proofs.step.step.Goals as goal

pub returns-then-at-used_end-clause-told : goal.returns-then-at-used_end-clause-told
returns-then-at-used_end-clause-told g c m held =
    let a = c.args in
    let x = read_bytes a.source.now m in
    let long = long_bytes a.source.now m (c.requires.ready m held) in
    over_used x a.rules.now.extend (g.A.Accepts.accepts_gives a.rules.now.test) a.position.now.place a.position.now.used (omega (arith, long, c.requires.inside)) c.end_from-used_end.result c.min-position.result c.end_from-used_end.ensures c.if-at-used_end.true (omega (arith, long, c.end-end.ensures, c.min-position.ensures))

pub returns-in_default-clause-told : goal.returns-in_default-clause-told
returns-in_default-clause-told g c m held =
    let a = c.args in
    let x = read_bytes a.source.now m in
    let long = long_bytes a.source.now m (c.requires.ready m held) in
    let none = subst (λ o. HeadsBlock x o (read_blocks a.source.now m a.position.now.place)) c.in_default.is (c.in_ok-block.ensures.told m held) in
    over_none x a.rules.now.extend (g.A.Accepts.accepts_gives a.rules.now.test) a.position.now.place a.position.now.used (omega (arith, long, c.requires.inside)) _ (omega (arith, c.end_from-used_end.ensures, c.if-at-used_end.false)) none (omega (arith, long, c.end.ensures, c.slide_to.ensures.reads.end m held, c.min.ensures))

pub row_at-requires-clause-here : goal.row_at-requires-clause-here
row_at-requires-clause-here g c κs lives =
    let a = c.args in
    let place = subst (λ o. IfSome o (Rattle.myi_chain.specs.Source.IsHeader a.position.now.place c.slide_to.new.self.end)) c.in-Some.is c.in_ok-block.ensures.place in
    heads_now (g.F.Files.holds a.files.now) _ a.source.now c.slide_to.new.self a.position.now.place _ c.in-Some.block c.slide_to.ensures.holds c.slide_to.ensures.reads c.in-Some.is place.here c.in_ok-block.ensures.told

pub returns-in_err-add_row-clause-never : goal.returns-in_err-add_row-clause-never
returns-in_err-add_row-clause-never g c = if_err c.from_residual-in_err-add_row.result (λ e. e ≡ Memory → IfTold (g.F.Files.holds c.args.files.now) (λ m. MeetsShortAt (g.A.Accepts.accepts_gives c.args.rules.now.test) c.args.source.now c.args.position.now m → ⊥)) (λ e memory m held meets.
    let a = c.args in
    let x = read_bytes a.source.now m in
    let accepts = g.A.Accepts.accepts_gives a.rules.now.test in
    let p = a.position.now.place in
    let place = subst (λ o. IfSome o (Rattle.myi_chain.specs.Source.IsHeader p c.slide_to.new.self.end)) c.in-Some.is c.in_ok-block.ensures.place in
    let finds = finds_here (g.F.Files.holds a.files.now) a.source.now c.slide_to.new.self m held c.in-Some.block.head.at p a.position.now.used accepts _ _ _ _ _ c.slide_to.ensures.reads place.here c.in-Some-2.is (c.in_ok-found.ensures.told m (c.slide_to.ensures.holds ∙ held)) in
    short_needs x accepts p a.position.now.used meets c.in-Some-2.found _ _ _ finds c.in_err-add_row.ensures.err.1)

pub returns-in-Some-2-clause-told : goal.returns-in-Some-2-clause-told
returns-in-Some-2-clause-told g c m held =
    let a = c.args in
    let x = read_bytes a.source.now m in
    let accepts = g.A.Accepts.accepts_gives a.rules.now.test in
    let p = a.position.now.place in
    let used = a.position.now.used in
    let long = long_bytes a.source.now m (c.requires.ready m held) in
    let place = subst (λ o. IfSome o (Rattle.myi_chain.specs.Source.IsHeader p c.slide_to.new.self.end)) c.in-Some.is c.in_ok-block.ensures.place in
    let here = subst (λ o. HeadsBlock x o (read_blocks a.source.now m p)) c.in-Some.is (c.in_ok-block.ensures.told m held) in
    let finds = finds_here (g.F.Files.holds a.files.now) a.source.now c.slide_to.new.self m held c.in-Some.block.head.at p used accepts _ _ _ _ _ c.slide_to.ensures.reads place.here c.in-Some-2.is (c.in_ok-found.ensures.told m (c.slide_to.ensures.holds ∙ held)) in
    let kept = subst (λ o. IfSome o (IsHeld accepts c.slide_to.new.self.kept c.row_at.new.row.chain.taken c.row_at.new.row.joined.items)) c.in-Some-2.is c.in_ok-found.ensures.held in
    let can = subst (λ o. IfSome o (λ r. (found_at r ≡ c.in-Some.block.head.at) × CanAdd used (found_blocks c.row_at.new.row.chain.taken r))) c.in-Some-2.is c.in_ok-found.ensures.can in
    found_at_place x a.rules.now.extend accepts p used (omega (arith, long, c.requires.inside)) _ c.add_row.new.used c.in-Some.block c.in-Some-2.found c.slide_to.new.self.kept c.row_at.new.row.chain.taken c.row_at.new.row.joined.items (omega (arith, c.end_from-used_end.ensures, c.if-at-used_end.false)) here finds kept.packs (can.0 ∙ place.here) c.in_ok-add_row.ensures.ok refl

pub returns-in-Some-2-clause-short : goal.returns-in-Some-2-clause-short
returns-in-Some-2-clause-short g c m held meets =
    let a = c.args in
    let x = read_bytes a.source.now m in
    let accepts = g.A.Accepts.accepts_gives a.rules.now.test in
    let p = a.position.now.place in
    let used = a.position.now.used in
    let place = subst (λ o. IfSome o (Rattle.myi_chain.specs.Source.IsHeader p c.slide_to.new.self.end)) c.in-Some.is c.in_ok-block.ensures.place in
    let here = subst (λ o. HeadsBlock x o (read_blocks a.source.now m p)) c.in-Some.is (c.in_ok-block.ensures.told m held) in
    let finds = finds_here (g.F.Files.holds a.files.now) a.source.now c.slide_to.new.self m held c.in-Some.block.head.at p used accepts _ _ _ _ _ c.slide_to.ensures.reads place.here c.in-Some-2.is (c.in_ok-found.ensures.told m (c.slide_to.ensures.holds ∙ held)) in
    (behind_block x p _ c.in-Some.block here refl, short_adds x accepts p used meets _ c.add_row.new.used c.in-Some.block c.in-Some-2.found c.slide_to.new.self.kept c.row_at.new.row.chain.taken c.row_at.new.row.joined.items here finds c.in_ok-add_row.ensures.ok refl)

pub returns-clause-told : goal.returns-clause-told
returns-clause-told g c m held =
    let a = c.args in
    let x = read_bytes a.source.now m in
    let accepts = g.A.Accepts.accepts_gives a.rules.now.test in
    let p = a.position.now.place in
    let used = a.position.now.used in
    let long = long_bytes a.source.now m (c.requires.ready m held) in
    let place = subst (λ o. IfSome o (Rattle.myi_chain.specs.Source.IsHeader p c.slide_to.new.self.end)) c.in-Some.is c.in_ok-block.ensures.place in
    let here = subst (λ o. HeadsBlock x o (read_blocks a.source.now m p)) c.in-Some.is (c.in_ok-block.ensures.told m held) in
    let none = finds_here (g.F.Files.holds a.files.now) a.source.now c.slide_to.new.self m held c.in-Some.block.head.at p used accepts c.slide_to.new.self.kept c.row_at.new.row.chain.taken c.row_at.new.row.joined.items _ None c.slide_to.ensures.reads place.here c.in_default-2.is (c.in_ok-found.ensures.told m (c.slide_to.ensures.holds ∙ held)) in
    over_block x a.rules.now.extend accepts p used (omega (arith, long, c.requires.inside)) _ c.past-skip.result.0 c.in-Some.block c.past-skip.result.1 c.slide_to.new.self.kept c.row_at.new.row.chain.taken c.row_at.new.row.joined.items (omega (arith, c.end_from-used_end.ensures, c.if-at-used_end.false)) here none c.past-skip.ensures.passed (omega (arith, long, c.end-2.ensures, c.slide_to.ensures.reads.end m held, c.min-2.ensures))

pub returns-clause-held : goal.returns-clause-held
returns-clause-held g c = free_held (g.A.Accepts.accepts_gives c.args.rules.now.test) c.slide_to.new.self c.row_at.new.row c.past-skip.result.1 c.past-skip.ensures.free

pub returns-clause-short : goal.returns-clause-short
returns-clause-short g c m held meets =
    let a = c.args in
    let x = read_bytes a.source.now m in
    let accepts = g.A.Accepts.accepts_gives a.rules.now.test in
    let p = a.position.now.place in
    let used = a.position.now.used in
    let place = subst (λ o. IfSome o (Rattle.myi_chain.specs.Source.IsHeader p c.slide_to.new.self.end)) c.in-Some.is c.in_ok-block.ensures.place in
    let none = finds_here (g.F.Files.holds a.files.now) a.source.now c.slide_to.new.self m held c.in-Some.block.head.at p used accepts c.slide_to.new.self.kept c.row_at.new.row.chain.taken c.row_at.new.row.joined.items _ None c.slide_to.ensures.reads place.here c.in_default-2.is (c.in_ok-found.ensures.told m (c.slide_to.ensures.holds ∙ held)) in
    absurd (short_refused x accepts p used meets none)

pub returns-clause-rises : goal.returns-clause-rises
returns-clause-rises g c =
    let end = c.slide_to.new.self.end in
    let place = subst (λ o. IfSome o (Rattle.myi_chain.specs.Source.IsHeader c.args.position.now.place end)) c.in-Some.is c.in_ok-block.ensures.place in
    free_between c.args.position.now.place (c.args.position.now.place + c.min-2.result) c.in-Some.block c.past-skip.result.1 place.here (omega (arith, c.past-skip.ensures.rises, c.min-2.ensures, c.end-2.ensures, place.place)) c.past-skip.ensures.here

pub returns-in-Some-2-clause-rises : goal.returns-in-Some-2-clause-rises
returns-in-Some-2-clause-rises g c =
    let used = c.args.position.now.used in
    let place = subst (λ o. IfSome o (Rattle.myi_chain.specs.Source.IsHeader c.args.position.now.place c.slide_to.new.self.end)) c.in-Some.is c.in_ok-block.ensures.place in
    let can = subst (λ o. IfSome o (λ r. (found_at r ≡ c.in-Some.block.head.at) × CanAdd used (found_blocks c.row_at.new.row.chain.taken r))) c.in-Some-2.is c.in_ok-found.ensures.can in
    (omega (arith, can.0, place.here), omega (arith, can.0, place.here, place.place.least))

pub returns-clause-lies : goal.returns-clause-lies
returns-clause-lies g c =
    let end = c.slide_to.new.self.end in
    let place = subst (λ o. IfSome o (Rattle.myi_chain.specs.Source.IsHeader c.args.position.now.place end)) c.in-Some.is c.in_ok-block.ensures.place in
    free_lies c.args.position.now.place c.slide_to.new.self c.row_at.new.row c.in-Some.block c.past-skip.result.1 place c.past-skip.ensures.here
