use Rattle.std.proofs.Common.{◌∙◌, ◌+◌, None, ap, sym, subst, arith, append-nil}
use Rattle.myi_keylist.specs.PairOrder.{sorted}
use Rattle.myi_check.specs.declared.keys.KeysSoFar.{KeysSoFar}
use Rattle.myi_check.specs.Walks.{events_in}
use Rattle.myi_check.specs.Asked.{OfKey, row_pairs}
use Rattle.myi_check.specs.Sections.{AreInOrder}
use Rattle.myi_check.proofs.KeysLaws.{adds}
use Rattle.myi_check.proofs.OrderLaws.{wider}
use Rattle.myi_check.proofs.AskedWalks.{all_asked, none_after, pairs_many}
use Rattle.myi_check.proofs.asking.ask_key.Goals as goal

pub returns-clause-shows : goal.returns-clause-shows
returns-clause-shows g c = λ whole m held x d there file scanned.
    let key = c.args.key.now in
    let tree = key.tree in
    let walk = c.in_ok-walk.walk in
    let old = c.args.found.now in
    let last = c.in_ok-add_pages.ensures in
    let new : KeysSoFar = record c.add_pages.new.self { number = c.add_pages.new.self.number + 1 } in
    let list = row_pairs key.of_rows.defs.now key.of_rows.number d in
    let good = c.is_whole.ensures.none c.if-not-is_whole.false in
    let count = c.is_whole.ensures.all c.if-not-is_whole.false ∙ scanned.records ∙ sym (pairs_many key.of_rows.defs.now key.of_rows.number d) in
    let shows = all_asked (OfKey (g.F.Files.holds c.args.files.now) key) tree old.busy walk (events_in tree.place x) list (λ p of. of m held d file scanned) count (c.in_ok-walk.ensures.asks good m held x there) in
    adds tree (sorted list) (events_in tree.place x) walk None old new (record {
      findings = ap (λ v. v.items) last.findings ∙ sym (append-nil old.findings.items);
      walks = last.walks;
      bytes = last.bytes;
      first = last.first;
      trees = last.trees;
    }) (none_after tree.unique list walk.met good count) shows

pub returns-clause-order : goal.returns-clause-order
returns-clause-order g c = λ whole order.
    let last = c.in_ok-add_pages.ensures in
    let fs = c.args.found.now.findings.items in
    let n = c.args.found.now.number in
    subst (AreInOrder 2 (1 + (c.add_pages.new.self.number + 1))) (sym (ap (λ v. v.items) last.findings))
    (subst (λ k. AreInOrder 2 (1 + (k + 1)) fs) (sym last.number) (wider 2 (1 + n) (1 + (n + 1)) fs (omega arith) order))
