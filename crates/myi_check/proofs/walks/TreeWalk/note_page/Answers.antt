use Rattle.std.proofs.Common.{◌∙◌, ◌∷◌, sym, refl, arith}
use Rattle.myi_btree.specs.Events.{page}
use Rattle.myi_check.proofs.ShowsLaws.{apart_any, apart_busy, apart_page}
use Rattle.myi_check.proofs.walks.TreeWalk.note_page.Goals as goal

pub returns-then-self-clause-shows : goal.returns-then-self-clause-shows
returns-then-self-clause-shows c = λ pairs all left s. apart_any c.args.key pairs c.args.busy.now c.args.self.now all (page c.args.at ∷ left) left c.if-self.true s

pub returns-then-not-is_free-clause-shows : goal.returns-then-not-is_free-clause-shows
returns-then-not-is_free-clause-shows c = λ pairs all left s.
    c.cut.ensures.shows c.args.key pairs c.args.busy.now all left
    (apart_busy c.args.key pairs c.args.busy.now c.args.self.now c.args.at all left (omega (arith, c.requires.placed.least)) (sym c.is_free.ensures ∙ c.if-not-is_free.true) s)

pub returns-clause-shows : goal.returns-clause-shows
returns-clause-shows c = λ pairs all left s.
    apart_page c.args.key pairs c.args.busy.now c.args.self.now (record c.args.self.now { places = c.insert.new.self; bytes = c.saturating_add-self.result }) c.args.at all left (omega (arith, c.requires.placed.least)) (sym c.is_free.ensures ∙ c.if-not-is_free.false) refl refl c.in_ok-insert.ensures.keys c.saturating_add-self.ensures s
