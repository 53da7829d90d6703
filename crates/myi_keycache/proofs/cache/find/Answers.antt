use Rattle.std.proofs.Common.{◌≡◌, ℕ, Some, refl, sym, ap, subst, ◌∙◌, arith}
use Rattle.std.specs.Prelude.{is_some}
use Rattle.myi_base.proofs.CallerLemmas.{ok_not_err}
use Rattle.myi_keycache.specs.Kept.{kept}
use Rattle.myi_keycache.proofs.CacheLemmas.{pages_eq}
use Rattle.myi_keycache.proofs.LoadLemmas.{not_kept, kept_false}
use Rattle.myi_keycache.proofs.OneLemmas.{due_hit, one_none}
use Rattle.myi_keycache.proofs.HitLemmas.{some_index, index_within, none_of}
use Rattle.myi_keycache.proofs.GetLemmas.{hit_gets, hit_page, hit_answer, read_kept}
use Rattle.myi_keycache.proofs.cache.find.Goals as goal

pub load-requires-clause-none : goal.load-requires-clause-none
load-requires-clause-none g c κs within = none_of _ (sym c.is_kept.ensures.kept ∙ c.if-not-is_kept.true)

pub returns-then-not-is_kept-clause-hit : goal.returns-then-not-is_kept-clause-hit
returns-then-not-is_kept-clause-hit g c there =
    absurd (kept_false _ c.args.page.at c.args.page.size (not_kept c.args.page.at c.args.page.size c.args.blocks.now.pages (none_of _ (sym c.is_kept.ensures.kept ∙ c.if-not-is_kept.true))) there)

pub hit-requires : goal.hit-requires
hit-requires g c = sym c.is_kept.ensures.kept ∙ c.if-not-is_kept.false

pub returns : goal.returns
returns g c =
    let at : ℕ = c.args.page.at in
    let size : ℕ = c.args.page.size in
    let x = some_index _ (sym c.is_kept.ensures.kept ∙ c.if-not-is_kept.false) in
    let lt = index_within at size c.args.blocks.now.pages x.0 x.1 in
    let h = hit_page c.args.blocks.now x.0 at size lt x.1 in
    let e = c.hit.ensures in
    record {
      finds = record {
        there = (
          h.0.bytes,
          subst (λ l. kept l at size ≡ Some h.0.bytes) (sym (pages_eq c.args.name.now c.hit.new.self c.count_get.new.self)) (e.alike.kept c.is_kept.ensures.ordered.differ at size ∙ h.3),
          record { long = h.2; lent = hit_answer _ c.args.name.now c.args.blocks.now c.args.counters.now at size h.0.bytes h.3; read = read_kept _ c.args.name.now c.args.blocks.now c.args.counters.now at size h.0.bytes h.3 },
        );
        short = tt;
        clean = λ all. refl;
        one = one_none _ _ c.args.name.now _ _ (due_hit c.args.name.now c.args.blocks.now c.args.counters.now at size (ap is_some h.3)) refl;
        gets = hit_gets _ _ c.args.name.now c.args.blocks.now c.hit.new.self c.args.counters.now c.count_get.new.self x.0 at size _ lt x.1 refl c.is_kept.ensures.ordered.differ c.requires.writes e.setup e.lists e.alike c.count_get.ensures;
      };
      hit = λ there. (refl, refl);
      cause = record { later = omega arith; cause = λ e. absurd (ok_not_err e) };
      reads = omega arith;
      once = omega arith;
    }
