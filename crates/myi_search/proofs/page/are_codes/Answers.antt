use Rattle.std.proofs.Common.{◌≡◌, List, ◌∷◌, drop, refl, sym, ap, ◌∙◌}
use Rattle.std.specs.Prelude.{is_some}
use Rattle.myi_keypage.specs.PageItems.{Item, key_after}
use Rattle.myi_keypage.specs.Views.{entries_after}
use Rattle.myi_keys.specs.Comparing.{key_front}
use Rattle.myi_btree.specs.Walk.{each}
use Rattle.myi_btree.specs.Nodes.{pair_in, key_in}
use Rattle.myi_search.proofs.SeekLaws.{first_item, none_is, codes_step, codes_fail}
use Rattle.myi_search.proofs.page.are_codes.Goals as goal

pub returns-then-not-is_code-clause-all : goal.returns-then-not-is_code-clause-all
returns-then-not-is_code-clause-all c =
    let it : Item = record { prefix = c.in-Some.item.prefix; rest = c.in-Some.item.rest.now; row = c.in-Some.item.row; child = c.in-Some.item.child } in
    let items_are : c.loop-item.walk ≡ it ∷ drop 1 c.loop-item.walk = first_item c.loop-item.walk _ it c.in-Some.ensures.item refl in
    let code_now = c.deref.ensures.value ∙ c.in_ok-read.ensures.code in
    let none = none_is (key_in (key_after c.loop-item.reached.code.items it)) (sym c.if-not-is_code.true ∙ c.is_code.ensures.read ∙ ap (λ t. is_some (key_in t)) code_now) in
    sym (codes_fail c.loop-item.reached.code.items it (drop 1 c.loop-item.walk) none) ∙ ap (λ (t : List Item). is_some (each pair_in (entries_after c.loop-item.reached.code.items t))) (sym items_are) ∙ c.loop-item.invariant.codes

pub loop-item-preserved : goal.loop-item-preserved
loop-item-preserved c =
    let it : Item = record { prefix = c.in-Some.item.prefix; rest = c.in-Some.item.rest.now; row = c.in-Some.item.row; child = c.in-Some.item.child } in
    let rest : List Item = drop 1 c.loop-item.walk in
    let items_are : c.loop-item.walk ≡ it ∷ rest = first_item c.loop-item.walk _ it c.in-Some.ensures.item refl in
    let code_now = c.deref.ensures.value ∙ c.in_ok-read.ensures.code in
    let key_is = ap key_in (sym code_now) ∙ c.is_code.ensures.key c.if-not-is_code.false in
    record {
      codes = rw (c.in_ok-read.ensures.code, c.in-Some.ensures.rest) (sym (codes_step c.loop-item.reached.code.items it rest (key_front c.deref.result.now) key_is) ∙ ap (λ (t : List Item). is_some (each pair_in (entries_after c.loop-item.reached.code.items t))) (sym items_are) ∙ c.loop-item.invariant.codes);
      best = c.in_ok-read.ensures.best ∙ c.loop-item.invariant.best;
      row = c.in_ok-read.ensures.row ∙ c.loop-item.invariant.row;
      gathers = c.in_ok-read.ensures.gathers ∙ c.loop-item.invariant.gathers;
      run = c.in_ok-read.ensures.run ∙ c.loop-item.invariant.run;
    }
