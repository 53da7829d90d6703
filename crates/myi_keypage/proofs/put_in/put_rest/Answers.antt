use Rattle.std.proofs.Common.{length, take, sym, ap, ◌∙◌, arith}
use Rattle.std.proofs.lemmas.Bool.{eqb-true, eqb-false}
use Rattle.std.proofs.lemmas.List.{length-take, length-append}
use Rattle.myi_keypage.specs.Page.{entry_with, entry_bytes}
use Rattle.myi_keypage.specs.PageItems.{item_view}
use Rattle.myi_keypage.proofs.PutInLaws.{none_left, next_of, next_none, next_text, next_puts}
use Rattle.myi_keypage.proofs.put_in.put_rest.Goals as goal

pub returns-then-is_empty-clause-some : goal.returns-then-is_empty-clause-some
returns-then-is_empty-clause-some c = λ es are. none_left c.args.rest.now.rec_ref (take c.args.len c.args.key.now) c.args.before.now es c.args.rest.now.text.now c.args.into.now c.args.to are (eqb-true _ _ (sym c.is_empty.ensures ∙ c.if-is_empty.true))

pub unreachable-unreachable : goal.unreachable-unreachable
unreachable-unreachable c =
    let r = c.requires.entries in
    let ne = eqb-false _ _ (sym c.is_empty.ensures ∙ c.if-is_empty.false) in
    next_none c.args.rest.now.rec_ref (take c.args.len c.args.key.now) r.0 c.args.rest.now.text.now (length c.args.key.now) c.requires.small (omega (arith, c.requires.short, length-take c.args.len c.args.key.now)) (omega (arith, ne)) r.1 c.in_default.ensures

pub unreachable-requires : goal.unreachable-requires
unreachable-requires c =
    let r = c.requires.entries in
    let ne = eqb-false _ _ (sym c.is_empty.ensures ∙ c.if-is_empty.false) in
    next_none c.args.rest.now.rec_ref (take c.args.len c.args.key.now) r.0 c.args.rest.now.text.now (length c.args.key.now) c.requires.small (omega (arith, c.requires.short, length-take c.args.len c.args.key.now)) (omega (arith, ne)) r.1 c.in_default.ensures

pub keep_key-len-requires-clause-prefix : goal.keep_key-len-requires-clause-prefix
keep_key-len-requires-clause-prefix c =
    let r = c.requires.entries in
    let ne = eqb-false _ _ (sym c.is_empty.ensures ∙ c.if-is_empty.false) in
    let n = next_of c.args.rest.now.rec_ref (take c.args.len c.args.key.now) r.0 c.args.rest.now.text.now (length c.args.key.now) (item_view c.in-Some.item) c.in-Some.after.now c.requires.small (omega (arith, c.requires.short, length-take c.args.len c.args.key.now)) (omega (arith, ne)) r.1 c.in-Some.ensures in
    omega (arith, n.prefix, length-take c.args.len c.args.key.now, c.requires.short)

pub keep_key-len-requires-clause-room : goal.keep_key-len-requires-clause-room
keep_key-len-requires-clause-room c =
    let r = c.requires.entries in
    let ne = eqb-false _ _ (sym c.is_empty.ensures ∙ c.if-is_empty.false) in
    let n = next_of c.args.rest.now.rec_ref (take c.args.len c.args.key.now) r.0 c.args.rest.now.text.now (length c.args.key.now) (item_view c.in-Some.item) c.in-Some.after.now c.requires.small (omega (arith, c.requires.short, length-take c.args.len c.args.key.now)) (omega (arith, ne)) r.1 c.in-Some.ensures in
    omega (arith, n.room)

pub put_if_room-requires-clause-row : goal.put_if_room-requires-clause-row
put_if_room-requires-clause-row c =
    let r = c.requires.entries in
    let ne = eqb-false _ _ (sym c.is_empty.ensures ∙ c.if-is_empty.false) in
    let n = next_of c.args.rest.now.rec_ref (take c.args.len c.args.key.now) r.0 c.args.rest.now.text.now (length c.args.key.now) (item_view c.in-Some.item) c.in-Some.after.now c.requires.small (omega (arith, c.requires.short, length-take c.args.len c.args.key.now)) (omega (arith, ne)) r.1 c.in-Some.ensures in
    n.row

pub returns-clause-some : goal.returns-clause-some
returns-clause-some c = λ es are.
    let ne = eqb-false _ _ (sym c.is_empty.ensures ∙ c.if-is_empty.false) in
    let n = next_of c.args.rest.now.rec_ref (take c.args.len c.args.key.now) es c.args.rest.now.text.now (length c.args.key.now) (item_view c.in-Some.item) c.in-Some.after.now c.requires.small (omega (arith, c.requires.short, length-take c.args.len c.args.key.now)) (omega (arith, ne)) are c.in-Some.ensures in
    next_puts c.args.rest.now.rec_ref (take c.args.len c.args.key.now) c.args.before.now es c.args.rest.now.text.now (length c.args.key.now) (item_view c.in-Some.item) c.in-Some.after.now (take c.keep_key-len.result c.keep_key-len.new.key) c.args.into.now c.args.to c.put_if_room.new.into c.in-Some-put_if_room.end c.put.new.into c.put.result n (c.keep_key-len.ensures.key ∙ n.key) c.in-Some-put_if_room.ensures.some c.put.ensures

pub returns-in_default-put_if_room-clause-none : goal.returns-in_default-put_if_room-clause-none
returns-in_default-put_if_room-clause-none c = λ es are.
    let ne = eqb-false _ _ (sym c.is_empty.ensures ∙ c.if-is_empty.false) in
    let n = next_of c.args.rest.now.rec_ref (take c.args.len c.args.key.now) es c.args.rest.now.text.now (length c.args.key.now) (item_view c.in-Some.item) c.in-Some.after.now c.requires.small (omega (arith, c.requires.short, length-take c.args.len c.args.key.now)) (omega (arith, ne)) are c.in-Some.ensures in
    let text = next_text c.args.rest.now.rec_ref (take c.args.len c.args.key.now) c.args.before.now es c.args.rest.now.text.now (length c.args.key.now) (item_view c.in-Some.item) c.in-Some.after.now (take c.keep_key-len.result c.keep_key-len.new.key) n (c.keep_key-len.ensures.key ∙ n.key) in
    omega (arith, c.in_default-put_if_room.ensures.none, ap length text, length-append (entry_bytes c.args.rest.now.rec_ref c.args.before.now (entry_with (take c.keep_key-len.result c.keep_key-len.new.key) c.in-Some.item.row)) c.in-Some.after.now)

pub returns-then-into-end-clause-none : goal.returns-then-into-end-clause-none
returns-then-into-end-clause-none c = λ es are.
    let ne = eqb-false _ _ (sym c.is_empty.ensures ∙ c.if-is_empty.false) in
    let n = next_of c.args.rest.now.rec_ref (take c.args.len c.args.key.now) es c.args.rest.now.text.now (length c.args.key.now) (item_view c.in-Some.item) c.in-Some.after.now c.requires.small (omega (arith, c.requires.short, length-take c.args.len c.args.key.now)) (omega (arith, ne)) are c.in-Some.ensures in
    let text = next_text c.args.rest.now.rec_ref (take c.args.len c.args.key.now) c.args.before.now es c.args.rest.now.text.now (length c.args.key.now) (item_view c.in-Some.item) c.in-Some.after.now (take c.keep_key-len.result c.keep_key-len.new.key) n (c.keep_key-len.ensures.key ∙ n.key) in
    let some = c.in-Some-put_if_room.ensures.some in
    omega (arith, some.ends, ap length text, length-append (entry_bytes c.args.rest.now.rec_ref c.args.before.now (entry_with (take c.keep_key-len.result c.keep_key-len.new.key) c.in-Some.item.row)) c.in-Some.after.now)

pub slice_bounds-put_if_room-end : goal.slice_bounds-put_if_room-end
slice_bounds-put_if_room-end c =
    let r = c.requires.entries in
    let ne = eqb-false _ _ (sym c.is_empty.ensures ∙ c.if-is_empty.false) in
    let n = next_of c.args.rest.now.rec_ref (take c.args.len c.args.key.now) r.0 c.args.rest.now.text.now (length c.args.key.now) (item_view c.in-Some.item) c.in-Some.after.now c.requires.small (omega (arith, c.requires.short, length-take c.args.len c.args.key.now)) (omega (arith, ne)) r.1 c.in-Some.ensures in
    omega (arith, n.room, c.keep_key-len.ensures.len)

pub slice_bounds-put_if_room-end-2 : goal.slice_bounds-put_if_room-end-2
slice_bounds-put_if_room-end-2 c =
    let r = c.requires.entries in
    let ne = eqb-false _ _ (sym c.is_empty.ensures ∙ c.if-is_empty.false) in
    let n = next_of c.args.rest.now.rec_ref (take c.args.len c.args.key.now) r.0 c.args.rest.now.text.now (length c.args.key.now) (item_view c.in-Some.item) c.in-Some.after.now c.requires.small (omega (arith, c.requires.short, length-take c.args.len c.args.key.now)) (omega (arith, ne)) r.1 c.in-Some.ensures in
    omega (arith, n.room, c.keep_key-len.ensures.len, length-take c.keep_key-len.result c.keep_key-len.new.key)
