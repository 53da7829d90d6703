use Rattle.std.proofs.Common.{◌≡◌, ℕ, false, List, Some, None, Err, length, refl, sym, ap, subst, ◌∙◌, arith}
use Rattle.std.proofs.lemmas.Result.{err_from_is_err_and}
use Rattle.myi_base.proofs.CallerLemmas.{ok_not_err}
use Rattle.myi_keycache.specs.declared.setup.CacheFault.{CacheFault}
use Rattle.myi_keycache.specs.Kept.{kept}
use Rattle.myi_keycache.specs.Order.{WritesOnly, due_in, cache_of, contents_of}
use Rattle.myi_keycache.proofs.CacheLemmas.{pages_eq, stay_same, nothing_only}
use Rattle.myi_keycache.proofs.LoadLemmas.{Room, room_is}
use Rattle.myi_keycache.proofs.OthersLemmas.{taken_there}
use Rattle.myi_keycache.proofs.FlagLemmas.{none_or, wrote_or, flags_of, refused_flags}
use Rattle.myi_keycache.proofs.OneLemmas.{one_due, one_ok, one_kept, one_refused, one_err}
use Rattle.myi_keycache.proofs.GetLemmas.{refused_gets, short_lent, read_answer, read_missing, load_gets, not_short, memory_not_short}
use Rattle.myi_keycache.proofs.cache.load.Goals as goal

pub returns-in_err-read_page-clause-finds : goal.returns-in_err-read_page-clause-finds
returns-in_err-read_page-clause-finds g c =
    let fault : CacheFault = c.in_err-read_page.field-0.0 in
    let e = err_from_is_err_and c.from_residual.result c.from_residual.ensures.1 in
    let same : c.from_residual.result ≡ Err fault = e.1 ∙ ap Err e.2 in
    let h = c.in_err-read_page.ensures in
    rw same (record {
      there = tt;
      short = λ p is.
          let s = h.short p is in (
            s.0,
            record {
              lent = short_lent _ c.args.name.now c.args.blocks.now c.args.counters.now c.args.page.at c.args.page.size c.requires.none s.1;
              read = read_missing _ c.args.name.now c.args.blocks.now c.args.counters.now c.args.page.at c.args.page.size None c.requires.none s.1;
              same = h.holds;
            },
          );
      clean = λ all. h.holds;
      one = one_kept _ _ c.args.name.now _ fault h.holds;
      gets = refused_gets _ _ c.args.name.now c.args.blocks.now c.args.blocks.now c.args.counters.now c.args.counters.now c.args.page.at c.args.page.size fault (stay_same c.args.blocks.now) (nothing_only _ _ c.args.name.now c.args.blocks.now c.args.counters.now c.requires.writes h.holds)
          (refused_flags c.args.name.now c.args.blocks.now c.args.blocks.now c.args.counters.now c.args.counters.now _ refl) (none_or _ _ _ c.args.name.now c.args.blocks.now c.args.blocks.now c.args.counters.now c.args.counters.now refl refl);
    })

pub returns-in_err-make_room-clause-finds : goal.returns-in_err-make_room-clause-finds
returns-in_err-make_room-clause-finds g c =
    let fault : CacheFault = c.in_err-make_room.field-0.0 in
    let e = err_from_is_err_and c.from_residual-in_err-make_room.result c.from_residual-in_err-make_room.ensures.1 in
    let same : c.from_residual-in_err-make_room.result ≡ Err fault = e.1 ∙ ap Err e.2 in
    let h = c.in_err-make_room.ensures in
    let w = subst (λ h. WritesOnly h (g.F.Files.holds c.make_room.new.files) (cache_of c.args.name.now c.args.blocks.now c.args.counters.now) (cache_of c.args.name.now c.make_room.new.blocks c.make_room.new.counters)) c.in_ok-read_page.ensures.holds h.writes in
    rw same (record {
      there = tt;
      short = λ p is. absurd (not_short fault p h.faults is);
      clean = w.clean;
      one = one_due _ _ _ c.args.name.now c.args.blocks.now c.args.counters.now c.args.page.at c.args.page.size _ c.requires.none c.in_ok-read_page.ensures.holds (one_err _ _ c.args.name.now (due_in c.args.blocks.now) _ fault h.one);
      gets = refused_gets _ _ c.args.name.now c.args.blocks.now c.make_room.new.blocks c.args.counters.now c.make_room.new.counters c.args.page.at c.args.page.size fault h.stay w
          (refused_flags c.args.name.now c.args.blocks.now c.make_room.new.blocks c.args.counters.now c.make_room.new.counters _ h.err) (none_or _ _ _ c.args.name.now c.args.blocks.now c.make_room.new.blocks c.args.counters.now c.make_room.new.counters h.err h.uncounted);
    })

pub returns-in_err-take_in-clause-finds : goal.returns-in_err-take_in-clause-finds
returns-in_err-take_in-clause-finds g c =
    let fault : CacheFault = c.in_err-take_in.field-0.0 in
    let e = err_from_is_err_and c.from_residual-in_err-take_in.result c.from_residual-in_err-take_in.ensures.1 in
    let same : c.from_residual-in_err-take_in.result ≡ Err fault = e.1 ∙ ap Err e.2 in
    let h = c.in_ok-make_room.ensures in
    let w = subst (λ h. WritesOnly h (g.F.Files.holds c.make_room.new.files) (cache_of c.args.name.now c.args.blocks.now c.args.counters.now) (cache_of c.args.name.now c.make_room.new.blocks c.make_room.new.counters)) c.in_ok-read_page.ensures.holds h.writes in
    rw (same, c.in_err-take_in.ensures.err) (record {
      there = tt;
      short = λ p is. absurd (memory_not_short fault p c.in_err-take_in.ensures.fault is);
      clean = w.clean;
      one = one_due _ _ _ c.args.name.now c.args.blocks.now c.args.counters.now c.args.page.at c.args.page.size _ c.requires.none c.in_ok-read_page.ensures.holds (one_refused _ _ c.args.name.now (due_in c.args.blocks.now) _ fault h.one);
      gets = refused_gets _ _ c.args.name.now c.args.blocks.now c.make_room.new.blocks c.args.counters.now c.make_room.new.counters c.args.page.at c.args.page.size fault h.stay w
          (flags_of c.args.name.now c.args.blocks.now c.make_room.new.blocks c.args.counters.now c.make_room.new.counters c.args.page.at c.args.page.size c.requires.none h.wrote.flags)
          (wrote_or _ _ c.args.name.now c.args.blocks.now c.make_room.new.blocks c.args.counters.now c.make_room.new.counters c.args.page.at c.args.page.size _ c.requires.none h.wrote h.counted c.requires.writes
          (one_due _ _ _ c.args.name.now c.args.blocks.now c.args.counters.now c.args.page.at c.args.page.size _ c.requires.none c.in_ok-read_page.ensures.holds h.one));
    })

pub returns : goal.returns
returns g c =
    let bytes : List ℕ = c.read_page.new.into.items in
    let long : length bytes ≡ c.args.page.size = sym c.read_page.new.into.ok.0 ∙ c.in_ok-read_page.ensures.long in
    let w = subst (λ h. WritesOnly h (g.F.Files.holds c.make_room.new.files) (cache_of c.args.name.now c.args.blocks.now c.args.counters.now) (cache_of c.args.name.now c.make_room.new.blocks c.make_room.new.counters)) c.in_ok-read_page.ensures.holds c.in_ok-make_room.ensures.writes in
    let room = room_is c.args.blocks.now c.make_room.new.blocks c.args.page.at c.args.page.size c.requires.differ c.requires.none c.in_ok-make_room.ensures.stay c.in_ok-make_room.ensures.ok in
    let shown = read_answer (g.F.Files.holds c.args.files.now) c.args.name.now c.args.blocks.now c.args.counters.now c.args.page.at c.args.page.size bytes c.requires.none long c.in_ok-read_page.ensures.page in
    let read = read_missing (g.F.Files.holds c.args.files.now) c.args.name.now c.args.blocks.now c.args.counters.now c.args.page.at c.args.page.size (Some bytes) c.requires.none c.in_ok-read_page.ensures.page in
    let t = c.in_ok-take_in.ensures in
    record {
      finds = record {
        there = (
          bytes,
          subst (λ l. kept l c.args.page.at c.args.page.size ≡ Some bytes) (sym (pages_eq c.args.name.now c.take_in.new.self c.count_get.new.self))
              (subst (λ n. kept (contents_of c.take_in.new.self.pages) c.args.page.at n ≡ Some bytes) long (taken_there c.args.blocks.now c.make_room.new.blocks c.take_in.new.self c.args.page.at bytes false (subst (Room c.args.blocks.now c.make_room.new.blocks c.args.page.at) (sym long) room) t.alike)),
          record { long = long; lent = shown; read = read },
        );
        short = tt;
        clean = w.clean;
        one = one_due _ _ _ c.args.name.now c.args.blocks.now c.args.counters.now c.args.page.at c.args.page.size _ c.requires.none c.in_ok-read_page.ensures.holds (one_ok _ _ c.args.name.now (due_in c.args.blocks.now) _ _ c.in_ok-make_room.ensures.one);
        gets = load_gets _ _ c.args.name.now c.args.blocks.now c.make_room.new.blocks c.take_in.new.self c.args.counters.now c.make_room.new.counters c.count_get.new.self c.args.page.at c.args.page.size bytes _ long c.in_ok-make_room.ensures.stay w c.requires.none room t.setup t.lists t.alike c.count_get.ensures c.in_ok-make_room.ensures.counted c.in_ok-make_room.ensures.wrote shown read;
      };
      cause = record { later = omega (arith, c.in_ok-read_page.ensures.cause.later, c.in_ok-make_room.ensures.cause.later); cause = λ e. absurd (ok_not_err e) };
      reads = omega (arith, c.in_ok-read_page.ensures.reads, c.in_ok-make_room.ensures.reads);
      once = omega (arith, c.in_ok-read_page.ensures.once, c.in_ok-make_room.ensures.reads);
    }
