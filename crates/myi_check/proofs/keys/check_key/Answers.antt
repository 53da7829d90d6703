use Rattle.std.proofs.Common.{◌∙◌, ◌+◌, ◌&&◌, ◌++◌, Bool, ℕ, List, not, cond, map, ap, sym, subst, arith}
use Rattle.myi_keylist.specs.declared.pair.Pair.{Pair}
use Rattle.myi_pair.specs.Findings.{told}
use Rattle.myi_check.specs.declared.busy.BusyPages.{BusyPages}
use Rattle.myi_check.specs.declared.keys.KeysSoFar.{KeysSoFar}
use Rattle.myi_check.specs.Walks.{events_in}
use Rattle.myi_check.specs.Keys.{Adds, tree_if}
use Rattle.myi_check.specs.Sections.{AreInOrder}
use Rattle.myi_check.proofs.KeysLaws.{sized_more, adds}
use Rattle.myi_check.proofs.OrderLaws.{key_more}
use Rattle.myi_pair.specs.declared.finding.Finding.TheVariants as finding
use Rattle.std.specs.Option.{option_to_list}
use Rattle.myi_check.proofs.keys.check_key.Goals as goal

pub returns-clause-sized : goal.returns-clause-sized
returns-clause-sized g c =
    sized_more c.in_ok-walk.walk c.args.key.place.block_length c.args.found.now.busy.trees.items c.add_pages.new.self.busy.trees.items (omega (arith, c.requires.placed.least))
    (c.in_ok-add_pages.ensures.trees ∙ ap (λ (b : BusyPages). b.trees.items ++ tree_if c.in_ok-walk.walk c.args.key.place.block_length) c.in_ok-add_finding.ensures.busy) c.requires.sized

pub returns-clause-shows : goal.returns-clause-shows
returns-clause-shows g c = λ m held x is.
    let key = c.args.key in
    let block = key.place.block_length in
    let walk = c.in_ok-walk.walk in
    let old = c.args.found.now in
    let mid = c.in_ok-add_finding.ensures in
    let last = c.in_ok-add_pages.ensures in
    let new : KeysSoFar = record c.add_pages.new.self { number = c.add_pages.new.self.number + 1 } in
    subst (λ (ps : List Pair). Adds key ps (events_in key.place x) old new) c.sort.ensures
    (adds key c.sort.new.self (events_in key.place x) walk c.first_bad.result old new (record {
      findings = ap (λ v. v.items) last.findings ∙ mid.findings;
      walks = last.walks ∙ ap (λ (b : Bool). b && not walk.is_cut) mid.walks;
      bytes = last.bytes ∙ ap (λ (n : ℕ). cond walk.is_cut n (told (n + walk.bytes))) mid.bytes;
      first = last.first ∙ ap (λ (b : BusyPages). b.first_page) mid.busy;
      trees = last.trees ∙ ap (λ (b : BusyPages). b.trees.items ++ tree_if walk block) mid.busy;
    }) (c.first_bad.ensures key.unique) (c.in_ok-walk.ensures.shows m held x is))

pub returns-clause-order : goal.returns-clause-order
returns-clause-order g c order =
    subst (AreInOrder 2 (1 + (c.add_pages.new.self.number + 1))) (sym (ap (λ v. v.items) c.in_ok-add_pages.ensures.findings ∙ c.in_ok-add_finding.ensures.findings))
    (subst (λ n. AreInOrder 2 (1 + (n + 1)) (c.args.found.now.findings.items ++ map (λ at. finding.Key c.args.found.now.number at) (option_to_list c.first_bad.result))) (sym (c.in_ok-add_pages.ensures.number ∙ c.in_ok-add_finding.ensures.number))
    (key_more c.args.found.now.number c.args.found.now.findings.items c.first_bad.result order))
