use Rattle.std.proofs.Common.{ℕ, List, length, ap, subst, arith}
use Rattle.myi_keylist.specs.declared.pair.Pair.{Pair}
use Rattle.myi_insertion.proofs.PuttingLaws.{Fills, raised}
use Rattle.myi_insertion.proofs.insertion.+raise.Goals as goal

pub returns-clause-rooted : goal.returns-clause-rooted
returns-clause-rooted g t c =
    let place = c.args.setup.place in
    let fills = subst (λ (ps : List Pair). Fills place c.args.cache.now (g.F.Files.holds c.args.files.now) c.take_page.new.room c.in_ok-at.at ps c.into_page-page.result.children.items (g.F.Files.holds c.settle.new.files) c.settle.new.cache c.settle.new.room c.in_ok-above.above.places.items c.in_ok-above.above.separators) c.into_page-page.ensures.pairs c.in_ok-above.ensures.settles in
    raised place c.args.cache.now (g.F.Files.holds c.args.files.now) c.args.room.now c.take_page.new.room c.in_ok-at.at c.settle.new.cache (g.F.Files.holds c.settle.new.files) c.settle.new.room c.raise.new.cache (g.F.Files.holds c.raise.new.files) c.raise.new.room c.args.strip.places.items c.in_ok-above.above.places.items c.args.strip.separators c.in_ok-above.above.separators c.in_ok-root.root
    (let l = c.requires.placed.least in omega arith) c.in_ok-at.ensures.taken
    (subst (λ (cs : List ℕ). Fills place c.args.cache.now (g.F.Files.holds c.args.files.now) c.take_page.new.room c.in_ok-at.at c.args.strip.separators cs (g.F.Files.holds c.settle.new.files) c.settle.new.cache c.settle.new.room c.in_ok-above.above.places.items c.in_ok-above.above.separators) (ap (λ v. v.items) c.into_page-page.ensures.children) fills)
    c.in_ok-root.ensures.alone c.in_ok-root.ensures.rooted

pub returns-clause-alone : goal.returns-clause-alone
returns-clause-alone g t c = λ at one. absurd (omega (arith, c.len.ensures, c.if-len-eq1.false, ap length one))
