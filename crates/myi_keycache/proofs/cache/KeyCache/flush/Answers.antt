use Rattle.std.proofs.Common.{◌≡◌, true, Err, sym, ap, subst, ◌∙◌}
use Rattle.std.specs.Prelude.{string_bytes}
use Rattle.std.proofs.lemmas.Result.{err_from_is_err_and}
use Rattle.myi_keycache.specs.declared.setup.CacheFault.{CacheFault}
use Rattle.myi_keycache.specs.Kept.{kept, is_unwritten, AllWritten, WrittenUpTo}
use Rattle.myi_keycache.specs.Caching.{pages_of}
use Rattle.myi_keycache.specs.Order.{cache_of, contents_of}
use Rattle.myi_keycache.proofs.CacheLemmas.{pages_eq}
use Rattle.myi_keycache.proofs.GetLemmas.{cache_is, pages_in}
use Rattle.myi_keycache.proofs.FlushLemmas.{flush_told, refused_told}
use Rattle.myi_keycache.proofs.TurnLemmas.{flush_on}
use Rattle.myi_keycache.proofs.cache.KeyCache.flush.Goals as goal

pub returns-in_err-write_all-clause-in_order : goal.returns-in_err-write_all-clause-in_order
returns-in_err-write_all-clause-in_order g c =
    let fault : CacheFault = c.in_err-write_all.field-0.0 in
    let e = err_from_is_err_and c.from_residual.result c.from_residual.ensures.1 in
    let same : c.from_residual.result ≡ Err fault = e.1 ∙ ap Err e.2 in
    let old = pages_in (string_bytes c.self.inside.name) c.self.inside.blocks c.self.inside.counters c.args.self.now c.self.view_is in
    let new = pages_eq (string_bytes c.self.inside.name) c.write_all.new.blocks c.write_all.new.counters in
    rw same (subst (λ l. WrittenUpTo l (pages_of (cache_of (string_bytes c.self.inside.name) c.write_all.new.blocks c.write_all.new.counters))) (sym old) (subst (λ l. WrittenUpTo (contents_of c.self.inside.blocks.pages) l) (sym new) c.in_err-write_all.ensures.in_order))

pub returns-in_err-write_all-clause-kept : goal.returns-in_err-write_all-clause-kept
returns-in_err-write_all-clause-kept g c p n =
    let old = pages_in (string_bytes c.self.inside.name) c.self.inside.blocks c.self.inside.counters c.args.self.now c.self.view_is in
    let new = pages_eq (string_bytes c.self.inside.name) c.write_all.new.blocks c.write_all.new.counters in
    ap (λ l. kept l p n) new ∙ c.in_err-write_all.ensures.stay.kept p n ∙ ap (λ l. kept l p n) (sym old)

pub returns-in_err-write_all-clause-clean : goal.returns-in_err-write_all-clause-clean
returns-in_err-write_all-clause-clean g c all =
    let old = cache_is c.as_str.result.now (string_bytes c.self.inside.name) c.self.inside.blocks c.self.inside.counters c.args.self.now c.as_str.ensures.value c.self.view_is in
    c.in_err-write_all.ensures.writes.clean (subst (λ k. AllWritten (pages_of k)) (sym old) all)

pub returns-clause-ok : goal.returns-clause-ok
returns-clause-ok g c =
    let old = cache_is c.as_str.result.now (string_bytes c.self.inside.name) c.self.inside.blocks c.self.inside.counters c.args.self.now c.as_str.ensures.value c.self.view_is in
    flush_told _ _ c.as_str.result.now (string_bytes c.self.inside.name) c.self.inside.blocks c.write_all.new.blocks c.self.inside.counters c.write_all.new.counters c.args.self.now old c.as_str.ensures.value c.in_ok-write_all.ensures.written c.in_ok-write_all.ensures.writes.told

pub returns-clause-clean : goal.returns-clause-clean
returns-clause-clean g c all =
    let old = cache_is c.as_str.result.now (string_bytes c.self.inside.name) c.self.inside.blocks c.self.inside.counters c.args.self.now c.as_str.ensures.value c.self.view_is in
    c.in_ok-write_all.ensures.writes.clean (subst (λ k. AllWritten (pages_of k)) (sym old) all)

pub returns-in_err-write_all-clause-writes : goal.returns-in_err-write_all-clause-writes
returns-in_err-write_all-clause-writes g c =
    let fault : CacheFault = c.in_err-write_all.field-0.0 in
    let e = err_from_is_err_and c.from_residual.result c.from_residual.ensures.1 in
    let same : c.from_residual.result ≡ Err fault = e.1 ∙ ap Err e.2 in
    let old = cache_is c.as_str.result.now (string_bytes c.self.inside.name) c.self.inside.blocks c.self.inside.counters c.args.self.now c.as_str.ensures.value c.self.view_is in
    rw same (flush_on _ _ _ _ _ c.args.self.now _ old (ap (λ n. cache_of n c.write_all.new.blocks c.write_all.new.counters) c.as_str.ensures.value) c.in_err-write_all.ensures.turns)

pub returns-in_err-write_all-clause-quiet : goal.returns-in_err-write_all-clause-quiet
returns-in_err-write_all-clause-quiet g c all =
    let pages = pages_in (string_bytes c.self.inside.name) c.self.inside.blocks c.self.inside.counters c.args.self.now c.self.view_is in
    c.in_err-write_all.ensures.quiet (subst AllWritten pages all)

pub returns-in_err-write_all-clause-unwritten : goal.returns-in_err-write_all-clause-unwritten
returns-in_err-write_all-clause-unwritten g c p n u =
    let old = pages_in (string_bytes c.self.inside.name) c.self.inside.blocks c.self.inside.counters c.args.self.now c.self.view_is in
    let new = pages_eq (string_bytes c.self.inside.name) c.write_all.new.blocks c.write_all.new.counters in
    subst (λ l. is_unwritten l p n ≡ true) (sym old) (c.in_err-write_all.ensures.stay.unwritten p n (subst (λ l. is_unwritten l p n ≡ true) new u))

pub returns-clause-writes : goal.returns-clause-writes
returns-clause-writes g c =
    let old = cache_is c.as_str.result.now (string_bytes c.self.inside.name) c.self.inside.blocks c.self.inside.counters c.args.self.now c.as_str.ensures.value c.self.view_is in
    flush_on _ _ _ _ _ c.args.self.now _ old (ap (λ n. cache_of n c.write_all.new.blocks c.write_all.new.counters) c.as_str.ensures.value) c.in_ok-write_all.ensures.turns

pub returns-clause-quiet : goal.returns-clause-quiet
returns-clause-quiet g c all =
    let pages = pages_in (string_bytes c.self.inside.name) c.self.inside.blocks c.self.inside.counters c.args.self.now c.self.view_is in
    c.in_ok-write_all.ensures.quiet (subst AllWritten pages all)

pub returns-clause-unwritten : goal.returns-clause-unwritten
returns-clause-unwritten g c p n u =
    let old = pages_in (string_bytes c.self.inside.name) c.self.inside.blocks c.self.inside.counters c.args.self.now c.self.view_is in
    let new = pages_eq (string_bytes c.self.inside.name) c.write_all.new.blocks c.write_all.new.counters in
    subst (λ l. is_unwritten l p n ≡ true) (sym old) (c.in_ok-write_all.ensures.stay.unwritten p n (subst (λ l. is_unwritten l p n ≡ true) new u))

pub returns-in_err-write_all-clause-err : goal.returns-in_err-write_all-clause-err
returns-in_err-write_all-clause-err g c =
    let fault : CacheFault = c.in_err-write_all.field-0.0 in
    let e = err_from_is_err_and c.from_residual.result c.from_residual.ensures.1 in
    let same : c.from_residual.result ≡ Err fault = e.1 ∙ ap Err e.2 in
    let old = cache_is c.as_str.result.now (string_bytes c.self.inside.name) c.self.inside.blocks c.self.inside.counters c.args.self.now c.as_str.ensures.value c.self.view_is in
    rw same (refused_told _ _ c.as_str.result.now (string_bytes c.self.inside.name) c.self.inside.blocks c.write_all.new.blocks c.self.inside.counters c.write_all.new.counters c.args.self.now old c.as_str.ensures.value c.in_err-write_all.ensures.writes.told)

pub returns-clause-kept : goal.returns-clause-kept
returns-clause-kept g c p n =
    let old = pages_in (string_bytes c.self.inside.name) c.self.inside.blocks c.self.inside.counters c.args.self.now c.self.view_is in
    let new = pages_eq (string_bytes c.self.inside.name) c.write_all.new.blocks c.write_all.new.counters in
    ap (λ l. kept l p n) new ∙ c.in_ok-write_all.ensures.stay.kept p n ∙ ap (λ l. kept l p n) (sym old)
