use Rattle.std.proofs.Common.{◌≡◌, ◌∷◌, ℕ, List, [], sym, ap, ◌∙◌, arith}
use Rattle.std.specs.List.{slice_get}
use Rattle.myi_insertion.proofs.RemovalLaws.{root_given, root_written}
use Rattle.myi_insertion.proofs.removal.write_root.Goals as goal

pub returns-then-len-eq0-clause-rooted : goal.returns-then-len-eq0-clause-rooted
returns-then-len-eq0-clause-rooted g c =
    let first = λ (t : List ℕ) (e : c.args.page.now.children.items ≡ t). c.copied.ensures ∙ c.first.ensures.value ∙ ap (λ (t : List ℕ). slice_get t 0) (c.deref.ensures.value ∙ e) in
    root_given c.args.setup.place c.args.cache.now (g.F.Files.holds c.args.files.now) c.args.room.now c.give_page.new.room c.args.at c.args.page.now.pairs c.args.page.now.children.items c.copied.result c.in_ok-give_page.ensures.given (sym c.len.ensures ∙ c.if-len-eq0.true)
    (λ none. first [] none) (λ k one. first (k ∷ []) one)

pub returns-clause-rooted : goal.returns-clause-rooted
returns-clause-rooted g c =
    root_written c.args.setup.place c.args.cache.now (g.F.Files.holds c.args.files.now) (g.F.Files.holds c.settle.new.files) (g.F.Files.holds c.raise.new.files) c.settle.new.cache c.raise.new.cache c.args.room.now c.settle.new.room c.raise.new.room c.args.at c.in_ok-root.root c.args.page.now.pairs c.args.page.now.children.items c.in_ok-strip.strip.places.items c.in_ok-strip.strip.separators
    (let l = c.requires.placed.least in omega arith) c.in_ok-strip.ensures.settles c.in_ok-root.ensures.rooted
