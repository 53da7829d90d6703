use Rattle.std.proofs.Common.{◌≡◌, refl, sym, arith, ◌∙◌}
use Rattle.std.proofs.lemmas.Result.{err_from_is_err_and}
use Rattle.myi_insertion.specs.declared.page.PageData.{PageData}
use Rattle.myi_btree.specs.CachedTrees.{node_lent, ReadsOnly}
use Rattle.myi_search.proofs.CallerLemmas.{reads_none}
use Rattle.myi_insertion.specs.Openings.{CanHold}
use Rattle.myi_insertion.proofs.LoadLaws.{if_err}
use Rattle.myi_insertion.proofs.SplitLaws.{if_some, if_none}
use Rattle.myi_insertion.proofs.PuttingLaws.{never_in}
use Rattle.myi_insertion.proofs.RemovalLaws.{TakesPair, SeeksPair, taken_from, none_from, none_stays, none_stays_empty, none_at_all}
use Rattle.myi_insertion.proofs.DamageLaws.{damage_in}
use Rattle.myi_insertion.proofs.removal.remove.Goals as goal

pub returns-in_default-clause-there : goal.returns-in_default-clause-there
returns-in_default-clause-there g c = λ m held xs pages tree can sorted. sym (none_at_all c.args.pair.now c.args.place.now c.args.cache.now (g.F.Files.holds c.args.files.now) c.args.room.now c.args.place.now.root c.in_default.is m held xs pages tree can).0

pub returns-in_default-clause-removed : goal.returns-in_default-clause-removed
returns-in_default-clause-removed g c = λ m held xs pages tree can sorted. (none_at_all c.args.pair.now c.args.place.now c.args.cache.now (g.F.Files.holds c.args.files.now) c.args.room.now c.args.place.now.root c.in_default.is m held xs pages tree can).1

pub returns-in_err-taken-clause-never : goal.returns-in_err-taken-clause-never
returns-in_err-taken-clause-never g c =
    let e = err_from_is_err_and c.from_residual.result c.from_residual.ensures.1 in
    if_err c.from_residual.result e.0 _ e.1
    (λ p d. never_in c.args.place.now c.args.cache.now (g.F.Files.holds c.args.files.now) c.args.room.now c.in-Some.root c.args.place.now.root c.in-Some.is (c.in_err-taken.ensures.never p (sym e.2 ∙ d)))

pub returns-in_default-taken-clause-there : goal.returns-in_default-taken-clause-there
returns-in_default-taken-clause-there g c = λ m held xs pages tree can sorted. sym (none_from c.args.pair.now c.args.place.now c.args.cache.now (g.F.Files.holds c.args.files.now) (g.F.Files.holds c.without_pair.new.files) c.without_pair.new.cache c.args.room.now c.without_pair.new.room c.in-Some.root c.args.place.now.root
    (if_none c.in_ok-taken.taken (SeeksPair c.args.pair.now c.args.place.now c.args.cache.now (g.F.Files.holds c.args.files.now) c.args.room.now c.in-Some.root (g.F.Files.holds c.without_pair.new.files) c.without_pair.new.cache) c.in_default-taken.is c.in_ok-taken.ensures.sought)
    c.in-Some.is (if_none c.in_ok-taken.taken (c.without_pair.new.room ≡ c.args.room.now) c.in_default-taken.is c.in_ok-taken.ensures.kept) m held xs pages tree can sorted).0

pub returns-in_default-taken-clause-removed : goal.returns-in_default-taken-clause-removed
returns-in_default-taken-clause-removed g c = λ m held xs pages tree can sorted. (none_from c.args.pair.now c.args.place.now c.args.cache.now (g.F.Files.holds c.args.files.now) (g.F.Files.holds c.without_pair.new.files) c.without_pair.new.cache c.args.room.now c.without_pair.new.room c.in-Some.root c.args.place.now.root
    (if_none c.in_ok-taken.taken (SeeksPair c.args.pair.now c.args.place.now c.args.cache.now (g.F.Files.holds c.args.files.now) c.args.room.now c.in-Some.root (g.F.Files.holds c.without_pair.new.files) c.without_pair.new.cache) c.in_default-taken.is c.in_ok-taken.ensures.sought)
    c.in-Some.is (if_none c.in_ok-taken.taken (c.without_pair.new.room ≡ c.args.room.now) c.in_default-taken.is c.in_ok-taken.ensures.kept) m held xs pages tree can sorted).1

pub returns-in_default-taken-clause-kept : goal.returns-in_default-taken-clause-kept
returns-in_default-taken-clause-kept g c = λ e. (refl, if_none c.in_ok-taken.taken (c.without_pair.new.room ≡ c.args.room.now) c.in_default-taken.is c.in_ok-taken.ensures.kept)

pub write_root-requires-clause-page : goal.write_root-requires-clause-page
write_root-requires-clause-page g c = λ κs lives. if_some c.in_ok-taken.taken c.in-Some-taken.page (λ (q : PageData). CanHold c.args.place.now.rec_ref q.pairs q.children.items) c.in-Some-taken.is c.in_ok-taken.ensures.shape

pub returns-clause-there : goal.returns-clause-there
returns-clause-there g c = λ m held xs pages tree can sorted.
    sym (taken_from c.args.pair.now c.args.place.now c.args.cache.now (g.F.Files.holds c.args.files.now) (g.F.Files.holds c.without_pair.new.files) (g.F.Files.holds c.write_root.new.files) c.without_pair.new.cache c.write_root.new.cache c.args.room.now c.without_pair.new.room c.write_root.new.room c.in-Some.root c.args.place.now.root c.in_ok-top.top c.in-Some-taken.page.pairs c.in-Some-taken.page.children.items
    (let l = c.requires.placed.least in omega arith)
    (if_some c.in_ok-taken.taken c.in-Some-taken.page (λ (q : PageData). TakesPair c.args.pair.now c.args.place.now c.args.cache.now (g.F.Files.holds c.args.files.now) c.args.room.now c.in-Some.root (g.F.Files.holds c.without_pair.new.files) c.without_pair.new.cache c.without_pair.new.room q.pairs q.children.items) c.in-Some-taken.is c.in_ok-taken.ensures.taken)
    c.in_ok-top.ensures.rooted c.in-Some.is m held xs pages tree can sorted).0

pub returns-clause-removed : goal.returns-clause-removed
returns-clause-removed g c = λ m held xs pages tree can sorted.
    (taken_from c.args.pair.now c.args.place.now c.args.cache.now (g.F.Files.holds c.args.files.now) (g.F.Files.holds c.without_pair.new.files) (g.F.Files.holds c.write_root.new.files) c.without_pair.new.cache c.write_root.new.cache c.args.room.now c.without_pair.new.room c.write_root.new.room c.in-Some.root c.args.place.now.root c.in_ok-top.top c.in-Some-taken.page.pairs c.in-Some-taken.page.children.items
    (let l = c.requires.placed.least in omega arith)
    (if_some c.in_ok-taken.taken c.in-Some-taken.page (λ (q : PageData). TakesPair c.args.pair.now c.args.place.now c.args.cache.now (g.F.Files.holds c.args.files.now) c.args.room.now c.in-Some.root (g.F.Files.holds c.without_pair.new.files) c.without_pair.new.cache c.without_pair.new.room q.pairs q.children.items) c.in-Some-taken.is c.in_ok-taken.ensures.taken)
    c.in_ok-top.ensures.rooted c.in-Some.is m held xs pages tree can sorted).1

pub returns-in_err-taken-clause-damaged : goal.returns-in_err-taken-clause-damaged
returns-in_err-taken-clause-damaged g c =
    let e = err_from_is_err_and c.from_residual.result c.from_residual.ensures.1 in
    if_err c.from_residual.result e.0 _ e.1
    (λ p d m held file. damage_in (node_lent c.args.place.now c.args.cache.now m) c.args.pair.now c.in-Some.root p c.args.place.now.root c.in-Some.is (c.in_err-taken.ensures.damaged p (sym e.2 ∙ d) m held file))

pub returns-in_default-clause-quiet : goal.returns-in_default-clause-quiet
returns-in_default-clause-quiet g c = λ e. reads_none (g.F.Files.holds c.args.files.now) c.args.cache.now

pub returns-in_default-clause-same : goal.returns-in_default-clause-same
returns-in_default-clause-same g c = λ e. none_stays_empty c.args.place.now c.args.cache.now (g.F.Files.holds c.args.files.now) c.args.room.now c.args.place.now.root

pub returns-in_default-taken-clause-quiet : goal.returns-in_default-taken-clause-quiet
returns-in_default-taken-clause-quiet g c = λ e. if_none c.in_ok-taken.taken (ReadsOnly (g.F.Files.holds c.args.files.now) (g.F.Files.holds c.without_pair.new.files) c.args.cache.now c.without_pair.new.cache) c.in_default-taken.is c.in_ok-taken.ensures.quiet

pub returns-in_default-taken-clause-same : goal.returns-in_default-taken-clause-same
returns-in_default-taken-clause-same g c = λ e. none_stays c.args.pair.now c.args.place.now c.args.cache.now (g.F.Files.holds c.args.files.now) (g.F.Files.holds c.without_pair.new.files) c.without_pair.new.cache c.args.room.now c.in-Some.root c.args.place.now.root
    (if_none c.in_ok-taken.taken (SeeksPair c.args.pair.now c.args.place.now c.args.cache.now (g.F.Files.holds c.args.files.now) c.args.room.now c.in-Some.root (g.F.Files.holds c.without_pair.new.files) c.without_pair.new.cache) c.in_default-taken.is c.in_ok-taken.ensures.sought)
    c.in-Some.is c.without_pair.ensures.others
