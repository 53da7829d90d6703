use Rattle.std.proofs.Common.{◌∙◌, Some, Err, length, refl, sym, ap, subst, arith}
use Rattle.std.specs.Prelude.{IfSome}
use Rattle.std.proofs.lemmas.Result.{err_from_is_err_and}
use Rattle.myi_base.proofs.CallerLemmas.{ok_not_err}
use Rattle.myi_chain.specs.declared.step.FoundRow.TheVariants.{Kept, Joined}
use Rattle.myi_chain.specs.declared.step.Found.TheVariants as found
use Rattle.myi_chain.specs.declared.piece.Piece.TheVariants as piece
use Rattle.myi_chain.specs.Found.{HoldsItem, LiesItem, FindsItem, FindsShortAt, IsMeant, Rises, met_at}
use Rattle.myi_chain.specs.Chain.{ranges_at}
use Rattle.myi_chain.specs.Pieces.{is_lent}
use Rattle.myi_chain.specs.ScanModel.{LendsBlock}
use Rattle.myi_chain.proofs.ScanLemmas.{ready_scan, row_answered, free_answered, ended, goes_on_plain, kept_after, some_left, never_plain, err_same, packs_old, free_meant}
use Rattle.myi_chain.proofs.scan.Scan.next_wanted.Goals as goal

pub advance-requires-clause-ready : goal.advance-requires-clause-ready
advance-requires-clause-ready g c κs lives =
    let i = c.self.inside in
    ready_scan (g.F.Files.holds c.args.files.now) c.args.self.now i.source i.rules.test i.rules.extend i.position i.blocks c.self.view_is c.requires.current

pub returns-in_default : goal.returns-in_default
returns-in_default g c =
    let i = c.self.inside in
    let h = g.F.Files.holds c.args.files.now in
    let gives = g.A.Accepts.accepts_gives in
    let next = c.in_ok-found.ensures in
    let mid = c.advance.new.source in
    let q = c.advance.new.position in
    let r = c.advance.new.row in
    let answer = ended h c.args.self.now i.source i.rules.test i.rules.extend i.position i.blocks c.self.view_is c.requires.current gives mid q r next.reads next.falls c.args.wanted (subst (Rises i.position.place q.place mid.end) c.in_default.is next.rises) (λ m held. subst (FindsItem mid r c.args.wanted (met_at i.rules.extend (gives i.rules.test) i.source i.position m) (met_at i.rules.extend (gives i.rules.test) i.source q m)) c.in_default.is (next.told m held)) in (
      (refl, λ _. tt, (answer, tt)),
      record {
        says = record { packs = tt; meant = tt; counted = tt; never = tt; failing = tt };
        holds = next.holds;
        cause = record { later = next.cause.later; cause = λ e. absurd (ok_not_err e) };
        after = tt;
      },
    )

pub returns-in-Free : goal.returns-in-Free
returns-in-Free g c =
    let i = c.self.inside in
    let h = g.F.Files.holds c.args.files.now in
    let gives = g.A.Accepts.accepts_gives in
    let next = c.in_ok-found.ensures in
    let mid = c.advance.new.source in
    let q = c.advance.new.position in
    let r = c.advance.new.row in
    let is = c.in-Some.is ∙ ap Some c.in-Free.is in
    let rises = subst (Rises i.position.place q.place mid.end) is next.rises in
    let old = c.args.self.now in
    let answer = free_answered h old i.source i.rules.test i.rules.extend i.position i.blocks c.self.view_is c.requires.current gives mid q r next.reads next.falls c.args.wanted c.in-Free.at c.in-Free.size (subst (λ o. IfSome o (LiesItem mid r)) is next.lies) rises (λ m held. subst (FindsItem mid r c.args.wanted (met_at i.rules.extend (gives i.rules.test) i.source i.position m) (met_at i.rules.extend (gives i.rules.test) i.source q m)) is (next.told m held)) in (
      (refl, λ _. tt, (answer, λ m held. goes_on_plain h old i.source i.rules.test i.rules.extend i.position i.blocks c.self.view_is c.requires.current gives mid q r next.reads next.falls (found.Free c.in-Free.at c.in-Free.size) rises m (λ meets. absurd (subst (λ o. FindsShortAt i.source m i.position o q) is (next.short m held meets))))),
      record {
        says = record { packs = tt; meant = free_meant c.args.wanted c.in-Free.at c.in-Free.size (subst (λ o. IfSome o (IsMeant c.args.wanted)) is next.meant); counted = tt; never = tt; failing = tt };
        holds = next.holds;
        cause = record { later = next.cause.later; cause = λ e. absurd (ok_not_err e) };
        after = tt;
      },
    )

pub returns-in-Kept : goal.returns-in-Kept
returns-in-Kept g c =
    let i = c.self.inside in
    let h = g.F.Files.holds c.args.files.now in
    let gives = g.A.Accepts.accepts_gives in
    let next = c.in_ok-found.ensures in
    let mid = c.advance.new.source in
    let q = c.advance.new.position in
    let r = c.advance.new.row in
    let f = Kept c.in-Kept.block in
    let is = c.in-Some.is ∙ ap Some (c.in-Row.is ∙ ap found.Row c.in-Kept.is) in
    let held = subst (λ o. IfSome o (HoldsItem (gives i.rules.test) mid r)) is next.held in
    let lies = subst (λ o. IfSome o (LiesItem mid r)) is next.lies in
    let rises = subst (Rises i.position.place q.place mid.end) is next.rises in
    let old = c.args.self.now in
    let answer = row_answered h old i.source i.rules.test i.rules.extend i.position i.blocks c.self.view_is c.requires.current gives mid q r next.reads next.falls c.args.wanted f c.in-Kept.block.head.at c.piece_of.result c.set_one.new.self rises (λ m told. subst (FindsItem mid r c.args.wanted (met_at i.rules.extend (gives i.rules.test) i.source i.position m) (met_at i.rules.extend (gives i.rules.test) i.source q m)) is (next.told m told)) c.piece_of.ensures.bytes refl c.set_one.ensures (subst (LendsBlock c.piece_of.result) (sym c.set_one.ensures) c.piece_of.ensures.form) lies in (
      (refl, λ _. tt, (answer, λ m told. goes_on_plain h old i.source i.rules.test i.rules.extend i.position i.blocks c.self.view_is c.requires.current gives mid q r next.reads next.falls (found.Row f) rises m (λ meets. subst (λ o. FindsShortAt i.source m i.position o q) is (next.short m told meets)))),
      record {
        says = record {
          packs = packs_old h old i.source i.rules.test i.rules.extend i.position i.blocks c.self.view_is c.requires.current gives mid q r next.reads next.falls _ (ap (gives i.rules.test) c.piece_of.ensures.bytes ∙ held.packs);
          meant = tt;
          counted = omega (arith, ap length c.piece_of.ensures.bytes, held.counted);
          never = tt;
          failing = tt;
        };
        holds = next.holds;
        cause = record { later = next.cause.later; cause = λ e. absurd (ok_not_err e) };
        after = tt;
      },
    )

pub returns-in-Joined : goal.returns-in-Joined
returns-in-Joined g c =
    let i = c.self.inside in
    let h = g.F.Files.holds c.args.files.now in
    let gives = g.A.Accepts.accepts_gives in
    let next = c.in_ok-found.ensures in
    let mid = c.advance.new.source in
    let q = c.advance.new.position in
    let r = c.advance.new.row in
    let f = Joined c.in-Joined.at in
    let is = c.in-Some.is ∙ ap Some (c.in-Row.is ∙ ap found.Row c.in-Joined.is) in
    let held = subst (λ o. IfSome o (HoldsItem (gives i.rules.test) mid r)) is next.held in
    let lies = subst (λ o. IfSome o (LiesItem mid r)) is next.lies in
    let rises = subst (Rises i.position.place q.place mid.end) is next.rises in
    let old = c.args.self.now in
    let answer = row_answered h old i.source i.rules.test i.rules.extend i.position i.blocks c.self.view_is c.requires.current gives mid q r next.reads next.falls c.args.wanted f c.in-Joined.at (piece.Joined c.deref.result) c.take.new.self rises (λ m told. subst (FindsItem mid r c.args.wanted (met_at i.rules.extend (gives i.rules.test) i.source i.position m) (met_at i.rules.extend (gives i.rules.test) i.source q m)) is (next.told m told)) c.deref.ensures.value refl c.take.ensures (ap (λ b. is_lent (ranges_at b)) c.take.ensures ∙ held.joined) lies in (
      (refl, λ _. tt, (answer, λ m told. goes_on_plain h old i.source i.rules.test i.rules.extend i.position i.blocks c.self.view_is c.requires.current gives mid q r next.reads next.falls (found.Row f) rises m (λ meets. subst (λ o. FindsShortAt i.source m i.position o q) is (next.short m told meets)))),
      record {
        says = record {
          packs = packs_old h old i.source i.rules.test i.rules.extend i.position i.blocks c.self.view_is c.requires.current gives mid q r next.reads next.falls _ (ap (gives i.rules.test) c.deref.ensures.value ∙ held.packs);
          meant = tt;
          counted = omega (arith, ap length c.deref.ensures.value, held.counted);
          never = tt;
          failing = tt;
        };
        holds = next.holds;
        cause = record { later = next.cause.later; cause = λ e. absurd (ok_not_err e) };
        after = tt;
      },
    )

pub returns-in_err-found : goal.returns-in_err-found
returns-in_err-found g c =
    let i = c.self.inside in
    let h = g.F.Files.holds c.args.files.now in
    let gives = g.A.Accepts.accepts_gives in
    let next = c.in_err-found.ensures in
    let mid = c.advance.new.source in
    let q = c.advance.new.position in
    let r = c.advance.new.row in
    let old = c.args.self.now in
    let e = err_from_is_err_and c.from_residual.result c.from_residual.ensures.1 in
    rw e.1 (
      (refl, λ _. tt, (kept_after h old i.source i.rules.test i.rules.extend i.position i.blocks c.self.view_is c.requires.current gives mid q r next.reads next.falls c.args.wanted next.err next.within, tt)),
      record {
        says = record {
          packs = tt;
          meant = tt;
          counted = tt;
          never = λ is. never_plain h old i.source i.rules.test i.rules.extend i.position i.blocks c.self.view_is c.requires.current gives mid q r next.reads next.falls next.some (next.never (sym e.2 ∙ is));
          failing = some_left h old i.source i.rules.test i.rules.extend i.position i.blocks c.self.view_is c.requires.current gives mid q r next.reads next.falls next.some;
        };
        holds = next.holds;
        cause = record { later = next.cause.later; cause = λ is. next.cause.cause (ap Err (sym e.2 ∙ err_same is)) };
        after = tt;
      },
    )
