use Rattle.std.proofs.Common.{arith, sym, ◌∙◌}
use Rattle.myi_keylist.specs.PairOrder.{put_pair}
use Rattle.std.proofs.lemmas.Result.{err_from_is_err_and}
use Rattle.myi_insertion.proofs.LoadLaws.{if_err}
use Rattle.myi_insertion.proofs.PuttingLaws.{inserted_in, filled_in}
use Rattle.myi_insertion.proofs.insertion.insert.Goals as goal

pub returns-clause-inserted : goal.returns-clause-inserted
returns-clause-inserted g c = λ m held xs pages tree can sorted.
    let s = c.in_ok-strip.ensures.stands m held xs pages tree can sorted in
    inserted_in c.args.place.now c.args.cache.now m pages c.args.room.now c.put_in.new.cache (g.F.Files.holds c.put_in.new.files) c.put_in.new.room s.0 (put_pair c.args.pair.now xs) c.in_ok-strip.strip.places.items c.in_ok-strip.strip.separators c.raise.new.cache (g.F.Files.holds c.raise.new.files) c.raise.new.room c.in_ok-root.root
    (let l = c.requires.placed.least in omega arith) can s.1.settles c.in_ok-root.ensures.rooted

pub returns-clause-filled : goal.returns-clause-filled
returns-clause-filled g c = λ m held xs pages tree can sorted.
    let s = c.in_ok-strip.ensures.stands m held xs pages tree can sorted in
    filled_in c.args.place.now c.args.cache.now m pages c.args.room.now c.put_in.new.cache (g.F.Files.holds c.put_in.new.files) c.put_in.new.room s.0 (put_pair c.args.pair.now xs) c.in_ok-strip.strip.places.items c.in_ok-strip.strip.separators c.raise.new.cache (g.F.Files.holds c.raise.new.files) c.raise.new.room c.in_ok-root.root
    (let l = c.requires.placed.least in omega arith) can s.1 c.in_ok-root.ensures.alone c.in_ok-root.ensures.rooted

pub returns-in_err-strip-clause-never : goal.returns-in_err-strip-clause-never
returns-in_err-strip-clause-never g c =
    let e = err_from_is_err_and c.from_residual.result c.from_residual.ensures.1 in
    if_err c.from_residual.result e.0 _ e.1 (λ p d. c.in_err-strip.ensures.never p (sym e.2 ∙ d))

pub returns-in_err-strip-clause-damaged : goal.returns-in_err-strip-clause-damaged
returns-in_err-strip-clause-damaged g c =
    let e = err_from_is_err_and c.from_residual.result c.from_residual.ensures.1 in
    if_err c.from_residual.result e.0 _ e.1 (λ p d. c.in_err-strip.ensures.damaged p (sym e.2 ∙ d))
