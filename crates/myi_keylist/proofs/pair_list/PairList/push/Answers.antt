use Rattle.std.proofs.Common.{arith}
use Rattle.std.proofs.lemmas.Result.{err_from_is_err_and}
use Rattle.myi_keys.specs.Comparing.{key_front}
use Rattle.myi_keylist.proofs.MarkLaws.{key_short, marks_grown, pairs_same, pushed}
use Rattle.myi_keylist.proofs.pair_list.PairList.push.Goals as goal

pub append_code-requires : goal.append_code-requires
append_code-requires c = rw c.requires.written (key_short (key_front c.args.code.now) c.requires.key)

pub invariant_of-self : goal.invariant_of-self
invariant_of-self c = marks_grown c.self.inside.codes.items c.append_code.new.codes.items c.self.inside.marks.items (record { front = c.append_code.ensures.front }) c.self.invariant

pub returns-in_err-append_code-clause-unchanged : goal.returns-in_err-append_code-clause-unchanged
returns-in_err-append_code-clause-unchanged c =
    let p = err_from_is_err_and c.from_residual.result c.from_residual.ensures.1 in
    rw (p.1, ← c.self.view_is) (pairs_same c.self.inside.codes.items c.append_code.new.codes.items c.self.inside.marks.items (record { front = c.append_code.ensures.front }) c.self.invariant)

pub invariant_of-self-in_err-push : goal.invariant_of-self-in_err-push
invariant_of-self-in_err-push c =
    rw c.in_err-push.ensures.items (marks_grown c.self.inside.codes.items c.append_code.new.codes.items c.self.inside.marks.items (record { front = c.append_code.ensures.front }) c.self.invariant)

pub returns-in_err-push-clause-unchanged : goal.returns-in_err-push-clause-unchanged
returns-in_err-push-clause-unchanged c =
    let p = err_from_is_err_and c.from_residual-in_err-push.result c.from_residual-in_err-push.ensures.1 in
    rw (p.1, c.in_err-push.ensures.items, ← c.self.view_is) (pairs_same c.self.inside.codes.items c.append_code.new.codes.items c.self.inside.marks.items (record { front = c.append_code.ensures.front }) c.self.invariant)

pub invariant_of-self-2 : goal.invariant_of-self-2
invariant_of-self-2 c =
    rw c.in_ok-push.ensures.items ((pushed c.self.inside.codes.items c.append_code.new.codes.items c.self.inside.marks.items c.args.code.now c.code_prefix.result c.len-start.result c.args.row (key_front c.args.code.now) c.self.invariant c.requires.key c.requires.written c.in_ok-append_code.ensures.added c.code_prefix.ensures (omega arith)).0)

pub returns-clause-added : goal.returns-clause-added
returns-clause-added c =
    rw (c.in_ok-push.ensures.items, ← c.self.view_is) ((pushed c.self.inside.codes.items c.append_code.new.codes.items c.self.inside.marks.items c.args.code.now c.code_prefix.result c.len-start.result c.args.row (key_front c.args.code.now) c.self.invariant c.requires.key c.requires.written c.in_ok-append_code.ensures.added c.code_prefix.ensures (omega arith)).1)
