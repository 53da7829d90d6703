use Rattle.std.proofs.Common.{length, refl, arith}
use Rattle.myi_keypage.specs.PageItems.{item_view}
use Rattle.myi_keypage.proofs.PutInLaws.{pass_start, pass_one, passed_none, passed_item, passed_over}
use Rattle.myi_keypage.proofs.put_in.pass_entries.Goals as goal

pub loop-turn-init : goal.loop-turn-init
loop-turn-init c = record {
  long = refl;
  short = omega (arith, c.requires.short);
  passed = λ es are le. pass_start c.args.rec_ref es c.args.all.now c.args.key.now are;
}

pub unreachable-unreachable : goal.unreachable-unreachable
unreachable-unreachable c =
    let r = c.requires.entries in
    passed_none c.args.rec_ref r.0 c.loop-turn._turn c.loop-turn.text.now c.loop-turn.key c.loop-turn.len (length c.args.key.now) c.requires.small c.loop-turn.invariant.short (omega (arith, r.2)) (c.loop-turn.invariant.passed r.0 r.1 r.2) c.in_default.ensures

pub unreachable-requires : goal.unreachable-requires
unreachable-requires c =
    let r = c.requires.entries in
    passed_none c.args.rec_ref r.0 c.loop-turn._turn c.loop-turn.text.now c.loop-turn.key c.loop-turn.len (length c.args.key.now) c.requires.small c.loop-turn.invariant.short (omega (arith, r.2)) (c.loop-turn.invariant.passed r.0 r.1 r.2) c.in_default.ensures

pub keep_key-len-requires-clause-len : goal.keep_key-len-requires-clause-len
keep_key-len-requires-clause-len c = omega (arith, c.loop-turn.invariant.short, c.loop-turn.invariant.long)

pub keep_key-len-requires-clause-prefix : goal.keep_key-len-requires-clause-prefix
keep_key-len-requires-clause-prefix c =
    let r = c.requires.entries in
    (passed_item c.args.rec_ref r.0 c.loop-turn._turn c.loop-turn.text.now c.loop-turn.key c.loop-turn.len (length c.args.key.now) (item_view c.in-Some.item) c.in-Some.after.now c.requires.small c.loop-turn.invariant.short (omega (arith, r.2)) (c.loop-turn.invariant.passed r.0 r.1 r.2) c.in-Some.ensures).0

pub keep_key-len-requires-clause-room : goal.keep_key-len-requires-clause-room
keep_key-len-requires-clause-room c =
    let r = c.requires.entries in
    omega (arith, c.loop-turn.invariant.long, (passed_item c.args.rec_ref r.0 c.loop-turn._turn c.loop-turn.text.now c.loop-turn.key c.loop-turn.len (length c.args.key.now) (item_view c.in-Some.item) c.in-Some.after.now c.requires.small c.loop-turn.invariant.short (omega (arith, r.2)) (c.loop-turn.invariant.passed r.0 r.1 r.2) c.in-Some.ensures).1)

pub loop-turn-preserved : goal.loop-turn-preserved
loop-turn-preserved c =
    let r = c.requires.entries in
    let room = (passed_item c.args.rec_ref r.0 c.loop-turn._turn c.loop-turn.text.now c.loop-turn.key c.loop-turn.len (length c.args.key.now) (item_view c.in-Some.item) c.in-Some.after.now c.requires.small c.loop-turn.invariant.short (omega (arith, r.2)) (c.loop-turn.invariant.passed r.0 r.1 r.2) c.in-Some.ensures).1 in
    record {
      long = omega (arith, c.loop-turn.invariant.long);
      short = omega (arith, room, c.keep_key-len.ensures.len);
      passed = λ es are le. (pass_one c.args.rec_ref es c.loop-turn._turn c.loop-turn.text.now c.loop-turn.key c.loop-turn.len (length c.args.key.now) (item_view c.in-Some.item) c.in-Some.after.now c.keep_key-len.new.key c.keep_key-len.result c.requires.small c.loop-turn.invariant.short (omega (arith, le)) (c.loop-turn.invariant.passed es are le) c.in-Some.ensures c.keep_key-len.ensures.len c.keep_key-len.ensures.key).0;
    }

pub returns-clause-rest : goal.returns-clause-rest
returns-clause-rest c = λ es are le. (passed_over c.args.rec_ref es c.loop-turn._turn c.args.count c.loop-turn.text.now c.loop-turn.key c.loop-turn.len (omega arith) (c.loop-turn.invariant.passed es are le)).left

pub returns-clause-key : goal.returns-clause-key
returns-clause-key c = λ es are le. (passed_over c.args.rec_ref es c.loop-turn._turn c.args.count c.loop-turn.text.now c.loop-turn.key c.loop-turn.len (omega arith) (c.loop-turn.invariant.passed es are le)).key_is
