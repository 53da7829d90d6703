use Rattle.std.proofs.Common.{◌≡◌, Some, None, Err, true, length, refl, sym, ap, subst, ◌∙◌}
use Rattle.std.specs.Prelude.{string_bytes, is_some}
use Rattle.std.proofs.lemmas.Result.{err_from_is_err_and}
use Rattle.myi_base.specs.Holding.{IfTold}
use Rattle.myi_base.proofs.CallerLemmas.{ok_not_err}
use Rattle.myi_keycache.specs.declared.setup.CacheFault.{CacheFault}
use Rattle.myi_keycache.specs.Kept.{kept, is_kept, AllWritten}
use Rattle.myi_keycache.specs.Caching.{pages_of, IsLent, IsRead}
use Rattle.myi_keycache.specs.Order.{cache_of}
use Rattle.myi_keycache.proofs.CacheLemmas.{pages_eq}
use Rattle.myi_keycache.proofs.ReadLemmas.{cause_goes_on}
use Rattle.myi_keycache.proofs.OneLemmas.{one_of, one_ok, one_err}
use Rattle.myi_keycache.proofs.GetLemmas.{kept_place, gets_ok, gets_err, cache_is, pages_in}
use Rattle.myi_keycache.proofs.cache.KeyCache.get.Goals as goal

pub returns-in_err-find : goal.returns-in_err-find
returns-in_err-find g c =
    let h = c.in_err-find.ensures in
    let fault : CacheFault = c.in_err-find.field-0.0 in
    let e = err_from_is_err_and c.from_residual.result c.from_residual.ensures.1 in
    let same : c.from_residual.result ≡ Err fault = e.1 ∙ ap Err e.2 in
    let old = cache_is c.as_str.result.now (string_bytes c.self.inside.name) c.self.inside.blocks c.self.inside.counters c.args.self.now c.as_str.ensures.value c.self.view_is in
    let pages = pages_in c.as_str.result.now c.self.inside.blocks c.self.inside.counters c.args.self.now old in
    rw same (
      (refl, λ _. tt, gets_err _ _ c.args.at c.args.size fault fault _ _ c.args.self.now _ old (ap (λ n. cache_of n c.find.new.blocks c.find.new.counters) c.as_str.ensures.value) h.finds.gets),
      record {
        page = tt;
        long = tt;
        short = λ p is. let s = h.finds.short p is in (s.0, subst (λ k. IfTold (g.F.Files.holds c.args.files.now) (IsLent k c.args.at c.args.size None)) old s.1.lent);
        read = tt;
        ended = λ p is. let s = h.finds.short p is in subst (λ k. IsRead (g.F.Files.holds c.args.files.now) k c.args.at c.args.size None) old s.1.read;
        clean = λ all. h.finds.clean (subst (λ k. AllWritten (pages_of k)) (sym old) all);
        hit = λ there. h.hit (subst (λ l. is_kept l c.args.at c.args.size ≡ true) pages there);
        one = one_of _ _ _ c.args.self.now c.args.at c.args.size _ old (one_err _ _ c.as_str.result.now _ fault fault h.finds.one);
        read_first = λ p is. let s = h.finds.short p is in s.1.same;
        cause = cause_goes_on _ fault _ _ h.cause;
        reads = h.reads;
        once = h.once;
        after = tt;
      },
    )

pub page-requires : goal.page-requires
page-requires g c =
    let t = c.in_ok-find.ensures.finds.there in
    let k = subst (λ l. kept l c.args.at c.args.size ≡ Some t.0) (pages_eq c.as_str.result.now c.find.new.blocks c.find.new.counters) t.1 in
    ap is_some (kept_place c.find.new.blocks.pages c.args.at c.args.size t.0 k).1

pub returns : goal.returns
returns g c =
    let h = c.in_ok-find.ensures in
    let t = h.finds.there in
    let k = subst (λ l. kept l c.args.at c.args.size ≡ Some t.0) (pages_eq c.as_str.result.now c.find.new.blocks c.find.new.counters) t.1 in
    let q = kept_place c.find.new.blocks.pages c.args.at c.args.size t.0 k in
    let old = cache_is c.as_str.result.now (string_bytes c.self.inside.name) c.self.inside.blocks c.self.inside.counters c.args.self.now c.as_str.ensures.value c.self.view_is in
    let pages = pages_in c.as_str.result.now c.self.inside.blocks c.self.inside.counters c.args.self.now old in
    let bytes : c.page.result.now ≡ t.0 = c.page.ensures q.0 q.1 q.2.0 ∙ q.2.1 in (
      (refl, λ _. tt, gets_ok _ _ c.args.at c.args.size _ _ _ _ c.args.self.now _ old (ap (λ n. cache_of n c.find.new.blocks c.find.new.counters) c.as_str.ensures.value) h.finds.gets),
      record {
        page = λ m held. subst (λ k. IsLent k c.args.at c.args.size (Some c.page.result.now) m) old (rw bytes (t.2.lent m held));
        long = ap length bytes ∙ t.2.long;
        short = tt;
        read = subst (λ k. IsRead (g.F.Files.holds c.args.files.now) k c.args.at c.args.size (Some c.page.result.now)) old (rw bytes t.2.read);
        ended = tt;
        clean = λ all. h.finds.clean (subst (λ k. AllWritten (pages_of k)) (sym old) all);
        hit = λ there. (refl, (h.hit (subst (λ l. is_kept l c.args.at c.args.size ≡ true) pages there)).1);
        one = one_of _ _ _ c.args.self.now c.args.at c.args.size _ old (one_ok _ _ c.as_str.result.now _ _ _ h.finds.one);
        read_first = tt;
        cause = record { later = h.cause.later; cause = λ e. absurd (ok_not_err e) };
        reads = h.reads;
        once = h.once;
        after = tt;
      },
    )
