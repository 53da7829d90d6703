use Rattle.std.proofs.Common.{◌≡◌, ℕ, true, length, refl, sym, ap, ◌∙◌, arith}
use Rattle.std.specs.Prelude.{string_bytes, is_some}
use Rattle.std.proofs.lemmas.Result.{err_from_is_err_and}
use Rattle.myi_base.proofs.CallerLemmas.{ok_not_err}
use Rattle.myi_keycache.specs.declared.setup.CacheFault.{CacheFault}
use Rattle.myi_keycache.specs.Kept.{is_kept}
use Rattle.myi_keycache.specs.Order.{contents_of}
use Rattle.myi_keycache.proofs.OrderLemmas.{split}
use Rattle.myi_keycache.proofs.HitLemmas.{some_index, index_within, none_of}
use Rattle.myi_keycache.proofs.OneLemmas.{due_kept, never_hit, one_none, one_kept}
use Rattle.myi_keycache.proofs.FlagLemmas.{none_still, flags_still}
use Rattle.myi_keycache.proofs.OthersLemmas.{same_keeps, same_changes}
use Rattle.myi_keycache.proofs.GetLemmas.{hit_page}
use Rattle.myi_keycache.proofs.PutLemmas.{renewed, hit_stores, stores_on}
use Rattle.myi_keycache.proofs.cache.KeyCache.put.Goals as goal

pub overwrite-requires-clause-kept : goal.overwrite-requires-clause-kept
overwrite-requires-clause-kept g c = sym c.is_kept.ensures.kept ∙ c.if-not-is_kept.false

pub hit-requires : goal.hit-requires
hit-requires g c =
    let x = some_index _ (sym c.is_kept.ensures.kept ∙ c.if-not-is_kept.false) in
    let lt = index_within c.args.at (length c.args.bytes.now) c.self.inside.blocks.pages x.0 x.1 in
    let s = split c.self.inside.blocks.pages x.0 lt in
    let r = renewed c.self.inside.blocks c.overwrite.new.self x.0 c.args.at c.args.bytes.now s c.is_kept.ensures.ordered.differ x.1 (c.overwrite.ensures x.0 x.1 s) in
    ap is_some r.found

pub returns : goal.returns
returns g c =
    let x = some_index _ (sym c.is_kept.ensures.kept ∙ c.if-not-is_kept.false) in
    let lt = index_within c.args.at (length c.args.bytes.now) c.self.inside.blocks.pages x.0 x.1 in
    let s = split c.self.inside.blocks.pages x.0 lt in
    let r = renewed c.self.inside.blocks c.overwrite.new.self x.0 c.args.at c.args.bytes.now s c.is_kept.ensures.ordered.differ x.1 (c.overwrite.ensures x.0 x.1 s) in
    let e = c.hit.ensures in
    let there : is_kept (contents_of c.self.inside.blocks.pages) c.args.at (length c.args.bytes.now) ≡ true = ap is_some (hit_page c.self.inside.blocks x.0 c.args.at (length c.args.bytes.now) lt x.1).3 in
    let t = stores_on {T = ℕ} {U = ℕ} {E = CacheFault} {F = CacheFault} (g.F.Files.holds c.args.files.now) (g.F.Files.holds c.args.files.now) c.args.at c.args.bytes.now 0 0 _ _ c.args.self.now _ c.self.view_is refl
    (hit_stores {T = ℕ} {E = CacheFault} _ _ (string_bytes c.self.inside.name) c.self.inside.blocks c.overwrite.new.self c.hit.new.self c.self.inside.counters c.count_put.new.self x.0 c.args.at c.args.bytes.now 0 refl r there c.self.invariant.1 e.setup e.lists e.alike c.count_put.ensures) in
    record {
      ok = t.ok;
      err = tt;
      others = t.others;
      kept = tt;
      added = t.added;
      there = t.there;
      to_write = t.to_write;
      keeps = t.keeps;
      unwritten = tt;
      name = t.name;
      setup = t.setup;
      access = t.access;
      counters = t.counters;
      written = t.written;
      one = one_none _ _ _ _ _ (due_kept (string_bytes c.self.inside.name) c.self.inside.blocks c.self.inside.counters c.args.self.now c.args.at (length c.args.bytes.now) c.self.view_is there) refl;
      flags = t.flags;
      refusal = tt;
      quiet = λ none. refl;
      hit = λ kept. (refl, refl);
      faults = tt;
      cause = record { later = omega arith; cause = λ e. absurd (ok_not_err e) };
      reads = refl;
    }

pub returns-in_err-extend_from_slice-clause-hit : goal.returns-in_err-extend_from_slice-clause-hit
returns-in_err-extend_from_slice-clause-hit g c kept = absurd (never_hit (string_bytes c.self.inside.name) c.self.inside.blocks c.self.inside.counters c.args.self.now c.args.at (length c.args.bytes.now) c.self.view_is (none_of _ (sym c.is_kept.ensures.kept ∙ c.if-not-is_kept.true)) kept)

pub returns-in_err-store-clause-hit : goal.returns-in_err-store-clause-hit
returns-in_err-store-clause-hit g c kept = absurd (never_hit (string_bytes c.self.inside.name) c.self.inside.blocks c.self.inside.counters c.args.self.now c.args.at (length c.args.bytes.now) c.self.view_is (none_of _ (sym c.is_kept.ensures.kept ∙ c.if-not-is_kept.true)) kept)

pub returns-then-not-is_kept-clause-hit : goal.returns-then-not-is_kept-clause-hit
returns-then-not-is_kept-clause-hit g c kept = absurd (never_hit (string_bytes c.self.inside.name) c.self.inside.blocks c.self.inside.counters c.args.self.now c.args.at (length c.args.bytes.now) c.self.view_is (none_of _ (sym c.is_kept.ensures.kept ∙ c.if-not-is_kept.true)) kept)

pub returns-in_err-extend_from_slice-clause-one : goal.returns-in_err-extend_from_slice-clause-one
returns-in_err-extend_from_slice-clause-one g c =
    let e = err_from_is_err_and c.from_residual.result c.from_residual.ensures.1 in
    rw e.1 (one_kept _ _ _ _ e.0 refl)

pub returns-in_err-extend_from_slice-clause-keeps : goal.returns-in_err-extend_from_slice-clause-keeps
returns-in_err-extend_from_slice-clause-keeps g c = same_keeps _ _ c.args.at (length c.args.bytes.now) c.self.view_is

pub returns-in_err-extend_from_slice-clause-unwritten : goal.returns-in_err-extend_from_slice-clause-unwritten
returns-in_err-extend_from_slice-clause-unwritten g c =
    let e = err_from_is_err_and c.from_residual.result c.from_residual.ensures.1 in
    rw e.1 (same_changes _ _ c.self.view_is)

pub returns-in_err-extend_from_slice-clause-flags : goal.returns-in_err-extend_from_slice-clause-flags
returns-in_err-extend_from_slice-clause-flags g c = flags_still _ _ _ c.args.at (length c.args.bytes.now) c.self.view_is

pub returns-in_err-extend_from_slice-clause-refusal : goal.returns-in_err-extend_from_slice-clause-refusal
returns-in_err-extend_from_slice-clause-refusal g c =
    let e = err_from_is_err_and c.from_residual.result c.from_residual.ensures.1 in
    rw e.1 (none_still _ _ _ _ _ c.self.view_is)
