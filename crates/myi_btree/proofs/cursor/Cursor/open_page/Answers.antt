use Rattle.std.proofs.Common.{◌∙◌, Bool, length, ap, sym, arith}
use Rattle.myi_btree.specs.Cursors.{event_of, may_stand, height_with}
use Rattle.myi_btree.proofs.StepLaws.{done_hand, some_hand, opens_hand}
use Rattle.myi_btree.proofs.CursorLaws.{opens_bad, opens_page}
use Rattle.myi_btree.proofs.cursor.Cursor.open_page.Goals as goal

pub returns-then-not-may_stand-clause-opens : goal.returns-then-not-may_stand-clause-opens
returns-then-not-may_stand-clause-opens c =
    opens_bad c.args.self.now c.stop.new.self c.args.page (event_of c.stop.result) c.requires.down c.stop.ensures.done c.stop.ensures.height (ap event_of c.stop.ensures.event)
    (ap (λ (b : Bool). may_stand c.args.self.now.height (length c.args.self.now.path.items) b) (sym c.is_leaf.ensures) ∙ sym c.may_stand.ensures ∙ c.if-not-may_stand.true)

pub returns-clause-opens : goal.returns-clause-opens
returns-clause-opens c =
    opens_page c.args.self.now (record c.args.self.now { height = c.height_with-self.result; down = c.next_child-self.result; path = c.push.new.self }) c.args.page c.next_child-self.new.self c.requires.down
    (ap (λ (b : Bool). may_stand c.args.self.now.height (length c.args.self.now.path.items) b) (sym c.is_leaf.ensures) ∙ sym c.may_stand.ensures ∙ c.if-not-may_stand.false)
    (c.height_with-self.ensures ∙ ap (λ (b : Bool). height_with c.args.self.now.height (length c.args.self.now.path.items) b) c.is_leaf-2.ensures)
    c.next_child-self.ensures.child c.next_child-self.ensures.at c.next_child-self.ensures.pairs c.in-Ok.ensures.items

pub returns-then-not-may_stand-clause-hand : goal.returns-then-not-may_stand-clause-hand
returns-then-not-may_stand-clause-hand c = omega (arith, done_hand c.stop.new.self c.stop.ensures.done, some_hand c.args.self.now c.args.page.at c.requires.down)

pub returns-clause-hand : goal.returns-clause-hand
returns-clause-hand c = opens_hand c.args.self.now (record c.args.self.now { height = c.height_with-self.result; down = c.next_child-self.result; path = c.push.new.self }) c.args.page c.next_child-self.new.self c.requires.down c.next_child-self.ensures.child c.next_child-self.ensures.pairs c.in-Ok.ensures.items
