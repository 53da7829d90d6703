use Rattle.std.proofs.Common.{◌≡◌, ℕ, List, [], false, length, take, drop, refl, ap, ◌∙◌, arith}
use Rattle.std.proofs.lemmas.List.{length-take}
use Rattle.myi_keypage.specs.declared.entry.Entry.{Entry}
use Rattle.myi_keypage.specs.Page.{page_with, entry_with, entry_bytes, entries_bytes}
use Rattle.myi_keypage.specs.PuttingIn.{key_before, with_entry}
use Rattle.myi_keypage.proofs.WriteLaws.{written}
use Rattle.myi_keypage.proofs.PutInLaws.{front_is, front_length, total, key_short, all_put, left_in, rest_put, not_true}
use Rattle.myi_keypage.proofs.put_in.write_in.Goals as goal

pub put_rest-requires-clause-entries : goal.put_rest-requires-clause-entries
put_rest-requires-clause-entries c =
    let r = c.requires.entries in
    (drop c.args.index r.0, left_in c.args.all.now.rec_ref c.args.all.now.rec_ref c.args.index r.0 c.pass_entries-len.result.0.now c.pass_entries-len.new.key c.pass_entries-len.result.1 refl (c.pass_entries-len.ensures.rest r.0 r.1 r.2) (c.pass_entries-len.ensures.key r.0 r.1 r.2))

pub returns-in_default-clause-fits : goal.returns-in_default-clause-fits
returns-in_default-clause-fits c = λ es are le.
    let rest = c.pass_entries-len.ensures.rest es are le in
    let key = c.pass_entries-len.ensures.key es are le in
    let e : Entry = entry_with c.args.entry.now.key.now c.args.entry.now.row in
    let t = total c.args.all.now.rec_ref es c.args.index e le in
    let f = front_length c.args.all.now.rec_ref es c.args.index c.args.all.now.text.now c.pass_entries-len.result.0.now le are rest in
    let none = c.in_default.ensures.none in
    let at = c.put-at.ensures.ends in
    let front = length-take c.saturating_sub.result c.args.all.now.text.now in
    let one : length (entry_bytes c.args.all.now.rec_ref (take c.pass_entries-len.result.1 c.pass_entries-len.new.key) e) ≡ length (entry_bytes c.args.all.now.rec_ref (key_before [] es c.args.index) e) = ap (λ (t : List ℕ). length (entry_bytes c.args.all.now.rec_ref t e)) key in
    (λ no. absurd (not_true no), λ fits. absurd (omega (arith, fits, t, f, none, one, at, front, c.saturating_sub.ensures)))

pub returns-in_default-put_rest-clause-fits : goal.returns-in_default-put_rest-clause-fits
returns-in_default-put_rest-clause-fits c = λ es are le.
    let rest = c.pass_entries-len.ensures.rest es are le in
    let key = c.pass_entries-len.ensures.key es are le in
    let e : Entry = entry_with c.args.entry.now.key.now c.args.entry.now.row in
    let t = total c.args.all.now.rec_ref es c.args.index e le in
    let f = front_length c.args.all.now.rec_ref es c.args.index c.args.all.now.text.now c.pass_entries-len.result.0.now le are rest in
    let some = c.in-Some.ensures.some in
    let at = c.put-at.ensures.ends in
    let front = length-take c.saturating_sub.result c.args.all.now.text.now in
    let one : length (entry_bytes c.args.all.now.rec_ref (take c.pass_entries-len.result.1 c.pass_entries-len.new.key) e) ≡ length (entry_bytes c.args.all.now.rec_ref (key_before [] es c.args.index) e) = ap (λ (t : List ℕ). length (entry_bytes c.args.all.now.rec_ref t e)) key in
    let none = c.in_default-put_rest.ensures.none (drop c.args.index es) (left_in c.args.all.now.rec_ref c.args.all.now.rec_ref c.args.index es c.pass_entries-len.result.0.now c.pass_entries-len.new.key c.pass_entries-len.result.1 refl rest key) in
    let two : length (entries_bytes c.args.all.now.rec_ref c.args.entry.now.key.now (drop c.args.index es) []) ≡ length (entries_bytes c.args.all.now.rec_ref c.args.entry.now.key.now (drop c.args.index es) []) = ap (λ (n : ℕ). length (entries_bytes n c.args.entry.now.key.now (drop c.args.index es) [])) refl in
    (λ no. absurd (not_true no), λ fits. absurd (omega (arith, fits, t, f, none, one, two, some.ends, at, front, c.saturating_sub.ensures)))

pub returns-clause-written : goal.returns-clause-written
returns-clause-written c = λ es are le yes.
    let rest = c.pass_entries-len.ensures.rest es are le in
    let key = c.pass_entries-len.ensures.key es are le in
    let e : Entry = entry_with c.args.entry.now.key.now c.args.entry.now.row in
    let left = left_in c.args.all.now.rec_ref c.args.all.now.rec_ref c.args.index es c.pass_entries-len.result.0.now c.pass_entries-len.new.key c.pass_entries-len.result.1 refl rest key in
    let last = rest_put c.args.all.now.rec_ref c.args.all.now.rec_ref c.args.entry.now.key.now (drop c.args.index es) _ _ _ _ refl (c.in-Some-put_rest.ensures.some (drop c.args.index es) left) in
    let front = ap (λ (n : ℕ). take n c.args.all.now.text.now) c.saturating_sub.ensures ∙ front_is c.args.all.now.rec_ref es c.args.index c.args.all.now.text.now c.pass_entries-len.result.0.now le are rest in
    let body = all_put c.args.all.now.rec_ref es c.args.index e (take c.saturating_sub.result c.args.all.now.text.now) (take c.pass_entries-len.result.1 c.pass_entries-len.new.key) c.args.into.now c.put-at.new.into c.put-at.result c.put_if_room.new.into c.in-Some.to c.put_rest.new.into c.in-Some-put_rest.end le front key c.put-at.ensures c.in-Some.ensures.some last in
    written c.args.all.now.rec_ref (page_with (with_entry c.args.index e es) []) c.args.into.now c.put_rest.new.into c.put_head.new.into c.put_zeros.new.into false c.in-Some-put_rest.end (omega (arith, c.requires.room)) refl body (omega arith) c.put_head.ensures (omega arith) c.put_zeros.ensures

pub returns-clause-fits : goal.returns-clause-fits
returns-clause-fits c = λ es are le.
    let rest = c.pass_entries-len.ensures.rest es are le in
    let key = c.pass_entries-len.ensures.key es are le in
    let e : Entry = entry_with c.args.entry.now.key.now c.args.entry.now.row in
    let left = left_in c.args.all.now.rec_ref c.args.all.now.rec_ref c.args.index es c.pass_entries-len.result.0.now c.pass_entries-len.new.key c.pass_entries-len.result.1 refl rest key in
    let last = rest_put c.args.all.now.rec_ref c.args.all.now.rec_ref c.args.entry.now.key.now (drop c.args.index es) _ _ _ _ refl (c.in-Some-put_rest.ensures.some (drop c.args.index es) left) in
    let t = total c.args.all.now.rec_ref es c.args.index e le in
    let f = front_length c.args.all.now.rec_ref es c.args.index c.args.all.now.text.now c.pass_entries-len.result.0.now le are rest in
    let one : length (entry_bytes c.args.all.now.rec_ref (take c.pass_entries-len.result.1 c.pass_entries-len.new.key) e) ≡ length (entry_bytes c.args.all.now.rec_ref (key_before [] es c.args.index) e) = ap (λ (t : List ℕ). length (entry_bytes c.args.all.now.rec_ref t e)) key in
    let some = c.in-Some.ensures.some in
    let at = c.put-at.ensures.ends in
    let front = length-take c.saturating_sub.result c.args.all.now.text.now in
    (λ yes. omega (arith, t, f, one, some.ends, last.ends, at, front, c.saturating_sub.ensures, c.in-Some-put_rest.ensures.inside), λ fits. refl)

pub put_rest-requires-clause-few : goal.put_rest-requires-clause-few
put_rest-requires-clause-few c =
    let some = c.in-Some.ensures.some in
    let inside = c.in-Some.ensures.inside in
    let e : Entry = entry_with c.args.entry.now.key.now c.args.entry.now.row in
    let key = key_short c.args.all.now.rec_ref (take c.pass_entries-len.result.1 c.pass_entries-len.new.key) e (length c.args.into.now) (omega (arith, some.ends, inside)) in
    omega (arith, key, length-take c.pass_entries-len.result.1 c.pass_entries-len.new.key, c.requires.limit, c.requires.small, c.pass_entries-len.ensures.short)
