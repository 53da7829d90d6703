use Rattle.std.proofs.Common.{◌≡◌, Some, None, List, [], ◌∷◌, ◌++◌, drop, refl, sym, ap, subst, ◌∙◌}
use Rattle.std.specs.Prelude.{is_some}
use Rattle.std.specs.Option.{option_to_list}
use Rattle.myi_keys.specs.Comparing.{key_front}
use Rattle.myi_keypage.specs.PageItems.{Item, key_after}
use Rattle.myi_keypage.specs.Views.{entries_after}
use Rattle.myi_keylist.specs.PairOrder.{pair_with}
use Rattle.myi_btree.specs.Walk.{each}
use Rattle.myi_btree.specs.Nodes.{key_in, pair_in}
use Rattle.myi_search.proofs.SeekLaws.{first_item, no_item, none_is, best_same}
use Rattle.myi_search.proofs.GatherLaws.{Reads, reads_start, reads_step, reads_none, reads_end, not_both}
use Rattle.std.proofs.lemmas.Option.{same_Some}
use Rattle.myi_search.specs.Passing.{best_of}
use Rattle.myi_search.proofs.page.gather.Goals as goal

pub loop-item-init : goal.loop-item-init
loop-item-init c = record {
  reads = reads_start c.args.view.now.items c.begin_page.new.self.code.items c.walk-walk.result c.new-run.result c.begin_page.ensures.code c.walk-walk.ensures c.new-run.ensures;
  best = c.begin_page.ensures.best;
  row = c.begin_page.ensures.row;
  gathers = c.begin_page.ensures.gathers;
}

pub returns-then-not-is_code-clause-all : goal.returns-then-not-is_code-clause-all
returns-then-not-is_code-clause-all c =
    let it : Item = record { prefix = c.in-Some.item.prefix; rest = c.in-Some.item.rest.now; row = c.in-Some.item.row; child = c.in-Some.item.child } in
    let items_are : c.loop-item.walk ≡ it ∷ drop 1 c.loop-item.walk = first_item c.loop-item.walk _ it c.in-Some.ensures.item refl in
    let code_now = c.deref.ensures.value ∙ c.in_ok-read.ensures.code in
    let none = none_is (key_in (key_after c.loop-item.reached.code.items it)) (sym c.if-not-is_code.true ∙ c.is_code.ensures.read ∙ ap (λ t. is_some (key_in t)) code_now) in
    ap is_some (sym (reads_none (entries_after [] c.args.view.now.items) c.loop-item.reached.code.items it (drop 1 c.loop-item.walk) c.loop-item.run
    (subst (λ (t : List Item). Reads (entries_after [] c.args.view.now.items) c.loop-item.reached.code.items t c.loop-item.run) items_are c.loop-item.invariant.reads) none))

pub returns-then-not-is_code-clause-run : goal.returns-then-not-is_code-clause-run
returns-then-not-is_code-clause-run c = λ pairs e.
    let it : Item = record { prefix = c.in-Some.item.prefix; rest = c.in-Some.item.rest.now; row = c.in-Some.item.row; child = c.in-Some.item.child } in
    let items_are : c.loop-item.walk ≡ it ∷ drop 1 c.loop-item.walk = first_item c.loop-item.walk _ it c.in-Some.ensures.item refl in
    let code_now = c.deref.ensures.value ∙ c.in_ok-read.ensures.code in
    let none = none_is (key_in (key_after c.loop-item.reached.code.items it)) (sym c.if-not-is_code.true ∙ c.is_code.ensures.read ∙ ap (λ t. is_some (key_in t)) code_now) in
    not_both (each pair_in (entries_after [] c.args.view.now.items)) pairs (reads_none (entries_after [] c.args.view.now.items) c.loop-item.reached.code.items it (drop 1 c.loop-item.walk) c.loop-item.run
    (subst (λ (t : List Item). Reads (entries_after [] c.args.view.now.items) c.loop-item.reached.code.items t c.loop-item.run) items_are c.loop-item.invariant.reads) none) e

pub loop-item-preserved : goal.loop-item-preserved
loop-item-preserved c =
    let i = c.loop-item.invariant in
    let it : Item = record { prefix = c.in-Some.item.prefix; rest = c.in-Some.item.rest.now; row = c.in-Some.item.row; child = c.in-Some.item.child } in
    let rest : List Item = drop 1 c.loop-item.walk in
    let items_are : c.loop-item.walk ≡ it ∷ rest = first_item c.loop-item.walk _ it c.in-Some.ensures.item refl in
    let code_now = c.deref.ensures.value ∙ c.in_ok-read.ensures.code in
    let key_is : key_in (key_after c.loop-item.reached.code.items it) ≡ Some (key_front c.deref.result.now) = ap key_in (sym code_now) ∙ c.is_code.ensures.key c.if-not-is_code.false in
    let step = reads_step (entries_after [] c.args.view.now.items) c.loop-item.reached.code.items it rest c.loop-item.run (key_front c.deref.result.now)
    (subst (λ (t : List Item). Reads (entries_after [] c.args.view.now.items) c.loop-item.reached.code.items t c.loop-item.run) items_are i.reads) key_is in
    let same : key_front c.deref-in-Some.result.now ≡ key_front c.deref.result.now = ap key_front (c.deref-in-Some.ensures.value ∙ sym c.deref.ensures.value) in
    let pushed : c.push.new.self ≡ c.loop-item.run ++ pair_with (key_front c.deref.result.now) it.row ∷ [] = c.in_ok-push.ensures.added ∙ ap (λ k. c.loop-item.run ++ pair_with k it.row ∷ []) same in
    record {
      reads = rw (c.in_ok-read.ensures.code, c.in-Some.ensures.rest, pushed) step;
      best = c.in_ok-read.ensures.best ∙ i.best;
      row = c.in_ok-read.ensures.row ∙ i.row;
      gathers = c.in_ok-read.ensures.gathers ∙ i.gathers;
    }

pub returns-clause-all : goal.returns-clause-all
returns-clause-all c =
    let i = c.loop-item.invariant in
    ap is_some (sym (reads_end (entries_after [] c.args.view.now.items) c.loop-item.reached.code.items c.loop-item.walk c.loop-item.run (no_item c.loop-item.walk c.in_default.ensures.item) i.reads))

pub returns-clause-run : goal.returns-clause-run
returns-clause-run c = λ pairs e.
    let i = c.loop-item.invariant in
    let all = reads_end (entries_after [] c.args.view.now.items) c.loop-item.reached.code.items c.loop-item.walk c.loop-item.run (no_item c.loop-item.walk c.in_default.ensures.item) i.reads in
    let same : c.loop-item.run ≡ pairs = same_Some c.loop-item.run pairs (sym all ∙ e) in
    c.in_ok-push_best.ensures ∙ ap (λ o. c.loop-item.run ++ option_to_list o) (best_same c.loop-item.reached c.args.reached.now i.best i.row) ∙ ap (λ t. t ++ option_to_list (best_of c.args.reached.now)) same
