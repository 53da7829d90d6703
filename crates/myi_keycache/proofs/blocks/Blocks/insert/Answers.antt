use Rattle.std.proofs.Common.{◌≡◌, ◌<◌, ◌++◌, ◌∷◌, [], ℕ, length, ap, sym, subst, ◌∙◌, arith}
use Rattle.std.specs.Global.{Vec}
use Rattle.std.specs.List.{AllByRecursion}
use Rattle.std.proofs.lemmas.Bool.{leb-true, leb-false}
use Rattle.std.proofs.lemmas.List.{length-append}
use Rattle.myi_keycache.specs.declared.blocks.PageName.{PageName}
use Rattle.myi_keycache.specs.declared.blocks.Block.{Block}
use Rattle.myi_keycache.specs.Ring.{Linked}
use Rattle.myi_keycache.specs.Order.{Order}
use Rattle.myi_keycache.proofs.SlotLemmas.{first_there, placed_at, pages_long}
use Rattle.myi_keycache.proofs.MoveLemmas.{few_left, first_on, off_new}
use Rattle.myi_keycache.proofs.TakeLemmas.{names_new, holds_room, took_room, took_full}
use Rattle.myi_keycache.proofs.blocks.Blocks.insert.Goals as goal

pub push-requires : goal.push-requires
push-requires c =
    subst (λ (n : ℕ). AllByRecursion (λ (e : PageName × Block). e.0.at ≡ c.args.at → e.0.size ≡ n → ⊥) c.self.inside.pages.entries) (sym (c.len.ensures ∙ c.args.buffer.now.ok.0))
    (names_new c.self.inside.setup c.self.inside.pages.entries c.self.inside.lists c.self.inside.accesses c.args.at (length c.args.buffer.now.items) c.args.self.now c.self.view_is c.self.invariant c.requires)

pub make_room-requires : goal.make_room-requires
make_room-requires c =
    let room = c.self.invariant.room in
    omega (arith, room, c.len-index.ensures.len)

pub first-first-requires : goal.first-first-requires
first-first-requires c =
    let le = leb-true _ _ (sym c.is_full-full.ensures.full ∙ c.if-full.true) in
    let some = c.is_full-full.ensures.ordered.setup.some_block in
    let r = holds_room c.self.inside.setup c.self.inside.pages.entries c.self.inside.lists c.make_room.new.self c.self.inside.accesses c.args.self.now c.self.view_is c.in_ok-make_room.ensures.warm c.in_ok-make_room.ensures.hot c.in_ok-make_room.ensures.more c.self.invariant in
    let f = first_there c.self.inside.setup c.self.inside.pages.entries c.make_room.new.self c.self.inside.accesses c.args.self.now r.1 r.0 (omega (arith, le, some)) in
    omega (arith, ap length f.2)

pub replace_by_last-requires : goal.replace_by_last-requires
replace_by_last-requires c =
    let le = leb-true _ _ (sym c.is_full-full.ensures.full ∙ c.if-full.true) in
    let some = c.is_full-full.ensures.ordered.setup.some_block in
    let r = holds_room c.self.inside.setup c.self.inside.pages.entries c.self.inside.lists c.make_room.new.self c.self.inside.accesses c.args.self.now c.self.view_is c.in_ok-make_room.ensures.warm c.in_ok-make_room.ensures.hot c.in_ok-make_room.ensures.more c.self.invariant in
    let f = first_there c.self.inside.setup c.self.inside.pages.entries c.make_room.new.self c.self.inside.accesses c.args.self.now r.1 r.0 (omega (arith, le, some)) in
    let slots = f.2 ∙ ap (λ (n : ℕ). n ∷ f.1) (sym (c.first-first.ensures f.0 f.1 f.2)) in
    let p = placed_at c.self.inside.setup c.self.inside.pages.entries c.make_room.new.self c.self.inside.accesses c.first-first.result [] f.1 r.0 slots in
    let lt = f.3 in
    omega (arith, lt, c.first-first.ensures f.0 f.1 f.2, ap length c.in_ok-push.ensures.pages, length-append c.self.inside.pages.entries ((record { at = c.args.at; size = c.len.result }, record { bytes = c.replace.result; unwritten = c.args.unwritten; hits = 0; last = c.saturating_add-accesses.result }) ∷ []))

pub take_off-requires : goal.take_off-requires
take_off-requires c =
    let le = leb-true _ _ (sym c.is_full-full.ensures.full ∙ c.if-full.true) in
    let some = c.is_full-full.ensures.ordered.setup.some_block in
    let r = holds_room c.self.inside.setup c.self.inside.pages.entries c.self.inside.lists c.make_room.new.self c.self.inside.accesses c.args.self.now c.self.view_is c.in_ok-make_room.ensures.warm c.in_ok-make_room.ensures.hot c.in_ok-make_room.ensures.more c.self.invariant in
    let f = first_there c.self.inside.setup c.self.inside.pages.entries c.make_room.new.self c.self.inside.accesses c.args.self.now r.1 r.0 (omega (arith, le, some)) in
    let slots = f.2 ∙ ap (λ (n : ℕ). n ∷ f.1) (sym (c.first-first.ensures f.0 f.1 f.2)) in
    first_on c.make_room.new.self c.first-first.result f.1 slots

pub put_at_warm_end-requires-clause-few : goal.put_at_warm_end-requires-clause-few
put_at_warm_end-requires-clause-few c =
    let le = leb-true _ _ (sym c.is_full-full.ensures.full ∙ c.if-full.true) in
    let some = c.is_full-full.ensures.ordered.setup.some_block in
    let r = holds_room c.self.inside.setup c.self.inside.pages.entries c.self.inside.lists c.make_room.new.self c.self.inside.accesses c.args.self.now c.self.view_is c.in_ok-make_room.ensures.warm c.in_ok-make_room.ensures.hot c.in_ok-make_room.ensures.more c.self.invariant in
    let f = first_there c.self.inside.setup c.self.inside.pages.entries c.make_room.new.self c.self.inside.accesses c.args.self.now r.1 r.0 (omega (arith, le, some)) in
    let slots = f.2 ∙ ap (λ (n : ℕ). n ∷ f.1) (sym (c.first-first.ensures f.0 f.1 f.2)) in
    let p = placed_at c.self.inside.setup c.self.inside.pages.entries c.make_room.new.self c.self.inside.accesses c.first-first.result [] f.1 r.0 slots in
    omega (arith, few_left c.self.inside.setup c.self.inside.pages.entries c.make_room.new.self c.take_off.new.self c.self.inside.accesses c.first-first.result 0 r.0 p c.take_off.ensures.warm c.take_off.ensures.hot)

pub put_at_warm_end-requires-else-full-clause-off : goal.put_at_warm_end-requires-else-full-clause-off
put_at_warm_end-requires-else-full-clause-off c =
    let r = holds_room c.self.inside.setup c.self.inside.pages.entries c.self.inside.lists c.make_room.new.self c.self.inside.accesses c.args.self.now c.self.view_is c.in_ok-make_room.ensures.warm c.in_ok-make_room.ensures.hot c.in_ok-make_room.ensures.more c.self.invariant in
    off_new c.self.inside.setup c.self.inside.pages.entries c.make_room.new.self c.self.inside.accesses c.len-index.result r.0 c.len-index.ensures.len c.in_ok-make_room.ensures.room

pub put_at_warm_end-requires-else-full-clause-few : goal.put_at_warm_end-requires-else-full-clause-few
put_at_warm_end-requires-else-full-clause-few c =
    let r = holds_room c.self.inside.setup c.self.inside.pages.entries c.self.inside.lists c.make_room.new.self c.self.inside.accesses c.args.self.now c.self.view_is c.in_ok-make_room.ensures.warm c.in_ok-make_room.ensures.hot c.in_ok-make_room.ensures.more c.self.invariant in
    let few = r.0.ordered.few in
    let most = r.0.ordered.setup.most_blocks in
    let long = pages_long c.self.inside.setup c.self.inside.pages.entries c.make_room.new.self c.self.inside.accesses c.args.self.now r.1 r.0 in
    let free = leb-false _ _ (sym c.is_full-full.ensures.full ∙ c.if-full.false) in
    let warm = r.0.ordered.warm in
    let n = ap (λ (o : Order). length o.pages) r.1 in
    let b = ap (λ (o : Order). o.setup.blocks) r.1 in
    omega (arith, warm, free, most, n, b)

pub invariant_of-self-then-full : goal.invariant_of-self-then-full
invariant_of-self-then-full c =
    let le = leb-true _ _ (sym c.is_full-full.ensures.full ∙ c.if-full.true) in
    let some = c.is_full-full.ensures.ordered.setup.some_block in
    let r = holds_room c.self.inside.setup c.self.inside.pages.entries c.self.inside.lists c.make_room.new.self c.self.inside.accesses c.args.self.now c.self.view_is c.in_ok-make_room.ensures.warm c.in_ok-make_room.ensures.hot c.in_ok-make_room.ensures.more c.self.invariant in
    let f = first_there c.self.inside.setup c.self.inside.pages.entries c.make_room.new.self c.self.inside.accesses c.args.self.now r.1 r.0 (omega (arith, le, some)) in
    let slots = f.2 ∙ ap (λ (n : ℕ). n ∷ f.1) (sym (c.first-first.ensures f.0 f.1 f.2)) in
    (took_full c.self.inside.setup c.self.inside.pages.entries c.push.new.pages.entries c.replace_by_last.new.pages.entries c.make_room.new.self c.put_at_warm_end.new.self c.self.inside.accesses c.saturating_add-accesses.result c.first-first.result c.args.at f.1 c.args.buffer.now.items c.args.unwritten
    (record { at = c.args.at; size = c.len.result }, record { bytes = c.replace.result; unwritten = c.args.unwritten; hits = 0; last = c.saturating_add-accesses.result }) c.args.self.now r.1 r.0 c.requires (sym c.is_full-full.ensures.full ∙ c.if-full.true) c.saturating_add-accesses.ensures (λ i. record { page = record { at = c.args.at; bytes = (c.replace.ensures.value i).items; unwritten = c.args.unwritten }; hits = 0; last = c.saturating_add-accesses.result }) (c.len.ensures ∙ c.args.buffer.now.ok.0 ∙ ap (λ (v : Vec ℕ). length v.items) (sym c.replace.ensures.value)) c.in_ok-push.ensures.pages c.replace_by_last.ensures slots ((λ f b e. c.put_at_warm_end.ensures ∙ ap (λ (l : Linked). record l { warm = l.warm ++ c.first-first.result ∷ [] }) (c.take_off.ensures.warm f b e)), (λ f b e. c.put_at_warm_end.ensures ∙ ap (λ (l : Linked). record l { warm = l.warm ++ c.first-first.result ∷ [] }) (c.take_off.ensures.hot f b e)))).0

pub invariant_of-self-else-full : goal.invariant_of-self-else-full
invariant_of-self-else-full c =
    let r = holds_room c.self.inside.setup c.self.inside.pages.entries c.self.inside.lists c.make_room.new.self c.self.inside.accesses c.args.self.now c.self.view_is c.in_ok-make_room.ensures.warm c.in_ok-make_room.ensures.hot c.in_ok-make_room.ensures.more c.self.invariant in
    (took_room c.self.inside.setup c.self.inside.pages.entries c.push.new.pages.entries c.make_room.new.self c.put_at_warm_end-else-full.new.self c.self.inside.accesses c.saturating_add-accesses.result c.args.at c.args.buffer.now.items c.args.unwritten
    (record { at = c.args.at; size = c.len.result }, record { bytes = c.replace.result; unwritten = c.args.unwritten; hits = 0; last = c.saturating_add-accesses.result }) c.args.self.now r.1 r.0 c.requires (sym c.is_full-full.ensures.full ∙ c.if-full.false) c.saturating_add-accesses.ensures (λ i. record { page = record { at = c.args.at; bytes = (c.replace.ensures.value i).items; unwritten = c.args.unwritten }; hits = 0; last = c.saturating_add-accesses.result }) (c.len.ensures ∙ c.args.buffer.now.ok.0 ∙ ap (λ (v : Vec ℕ). length v.items) (sym c.replace.ensures.value)) c.in_ok-push.ensures.pages
    (c.put_at_warm_end-else-full.ensures ∙ ap (λ (n : ℕ). record c.make_room.new.self { warm = c.make_room.new.self.warm ++ n ∷ [] }) c.len-index.ensures.len) (subst (λ (n : ℕ). n < c.make_room.new.self.room) c.len-index.ensures.len c.in_ok-make_room.ensures.room)).0

pub returns-then-full : goal.returns-then-full
returns-then-full c =
    let le = leb-true _ _ (sym c.is_full-full.ensures.full ∙ c.if-full.true) in
    let some = c.is_full-full.ensures.ordered.setup.some_block in
    let r = holds_room c.self.inside.setup c.self.inside.pages.entries c.self.inside.lists c.make_room.new.self c.self.inside.accesses c.args.self.now c.self.view_is c.in_ok-make_room.ensures.warm c.in_ok-make_room.ensures.hot c.in_ok-make_room.ensures.more c.self.invariant in
    let f = first_there c.self.inside.setup c.self.inside.pages.entries c.make_room.new.self c.self.inside.accesses c.args.self.now r.1 r.0 (omega (arith, le, some)) in
    let slots = f.2 ∙ ap (λ (n : ℕ). n ∷ f.1) (sym (c.first-first.ensures f.0 f.1 f.2)) in
    let t = (took_full c.self.inside.setup c.self.inside.pages.entries c.push.new.pages.entries c.replace_by_last.new.pages.entries c.make_room.new.self c.put_at_warm_end.new.self c.self.inside.accesses c.saturating_add-accesses.result c.first-first.result c.args.at f.1 c.args.buffer.now.items c.args.unwritten
    (record { at = c.args.at; size = c.len.result }, record { bytes = c.replace.result; unwritten = c.args.unwritten; hits = 0; last = c.saturating_add-accesses.result }) c.args.self.now r.1 r.0 c.requires (sym c.is_full-full.ensures.full ∙ c.if-full.true) c.saturating_add-accesses.ensures (λ i. record { page = record { at = c.args.at; bytes = (c.replace.ensures.value i).items; unwritten = c.args.unwritten }; hits = 0; last = c.saturating_add-accesses.result }) (c.len.ensures ∙ c.args.buffer.now.ok.0 ∙ ap (λ (v : Vec ℕ). length v.items) (sym c.replace.ensures.value)) c.in_ok-push.ensures.pages c.replace_by_last.ensures slots ((λ f b e. c.put_at_warm_end.ensures ∙ ap (λ (l : Linked). record l { warm = l.warm ++ c.first-first.result ∷ [] }) (c.take_off.ensures.warm f b e)), (λ f b e. c.put_at_warm_end.ensures ∙ ap (λ (l : Linked). record l { warm = l.warm ++ c.first-first.result ∷ [] }) (c.take_off.ensures.hot f b e)))).1 in
    record { lists = t.lists; setup = t.setup; alike = t.alike; err = tt; fault = tt }

pub returns-else-full : goal.returns-else-full
returns-else-full c =
    let r = holds_room c.self.inside.setup c.self.inside.pages.entries c.self.inside.lists c.make_room.new.self c.self.inside.accesses c.args.self.now c.self.view_is c.in_ok-make_room.ensures.warm c.in_ok-make_room.ensures.hot c.in_ok-make_room.ensures.more c.self.invariant in
    let t = (took_room c.self.inside.setup c.self.inside.pages.entries c.push.new.pages.entries c.make_room.new.self c.put_at_warm_end-else-full.new.self c.self.inside.accesses c.saturating_add-accesses.result c.args.at c.args.buffer.now.items c.args.unwritten
    (record { at = c.args.at; size = c.len.result }, record { bytes = c.replace.result; unwritten = c.args.unwritten; hits = 0; last = c.saturating_add-accesses.result }) c.args.self.now r.1 r.0 c.requires (sym c.is_full-full.ensures.full ∙ c.if-full.false) c.saturating_add-accesses.ensures (λ i. record { page = record { at = c.args.at; bytes = (c.replace.ensures.value i).items; unwritten = c.args.unwritten }; hits = 0; last = c.saturating_add-accesses.result }) (c.len.ensures ∙ c.args.buffer.now.ok.0 ∙ ap (λ (v : Vec ℕ). length v.items) (sym c.replace.ensures.value)) c.in_ok-push.ensures.pages
    (c.put_at_warm_end-else-full.ensures ∙ ap (λ (n : ℕ). record c.make_room.new.self { warm = c.make_room.new.self.warm ++ n ∷ [] }) c.len-index.ensures.len) (subst (λ (n : ℕ). n < c.make_room.new.self.room) c.len-index.ensures.len c.in_ok-make_room.ensures.room)).1 in
    record { lists = t.lists; setup = t.setup; alike = t.alike; err = tt; fault = tt }
