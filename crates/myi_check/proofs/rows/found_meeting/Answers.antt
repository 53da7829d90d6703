use Rattle.std.proofs.Common.{◌∙◌, ◌++◌, ℕ, cond, map, refl, sym, ap, subst}
use Rattle.std.specs.Prelude.{sum_by}
use Rattle.std.specs.List.{AllByRecursion}
use Rattle.myi_defs.specs.Addressable.{is_addressable}
use Rattle.myi_chain.specs.Chain.{ranges_at}
use Rattle.myi_check.specs.HeldBytes.{SameBytes, EndsNear, front_of, gap_behind, is_free}
use Rattle.myi_check.proofs.RowsLemmas.{table_rises, near_kept, rows_found}
use Rattle.myi_check.proofs.rows.found_meeting.Goals as goal

pub add_blocks-requires : goal.add_blocks-requires
add_blocks-requires c =
    let h = c.put_in_order.new.self in
    let kept = c.deref.ensures.value ∙ c.keep_apart.ensures in
    subst (AllByRecursion EndsNear) (sym kept) (near_kept (is_free h) c.args.met.frees.items c.requires.met.1.frees.near)

pub returns-clause-found : goal.returns-clause-found
returns-clause-found c x long has =
    let d = c.args.defs.now in
    let h = c.put_in_order.new.self in
    let last = c.put_in_order-2.new.self in
    let kept = c.keep_apart.new.blocks.items in
    rows_found d x c.args.met h c.add_blocks.new.self last kept _ (table_rises c.rows_are_met.ensures.in_order d x c.requires.sound) has
    c.in_ok-put_in_order.ensures.same c.keep_apart.ensures
    (subst (λ bs. SameBytes (h ++ ranges_at bs) c.add_blocks.new.self) c.deref.ensures.value c.in_ok-add_blocks.ensures)
    c.in_ok-put_in_order-2.ensures.same c.in_ok-put_in_order-2.ensures.order
    refl c.row_places.view_is refl refl (c.in_ok-places.ensures ∙ ap (map (λ (b : ℕ × ℕ). b.0)) c.deref-2.ensures.value) (c.in_ok-bytes_in.ensures ∙ ap (sum_by (λ (b : ℕ × ℕ). b.1)) c.deref-3.ensures.value)
    (c.gap.ensures ∙ ap (λ n. gap_behind (cond (is_addressable d n) (front_of last) 0) n) long)
    c.requires.sound

pub returns-clause-lists : goal.returns-clause-lists
returns-clause-lists c = c.requires.met.1.lists
