use Rattle.std.proofs.Common.{◌∙◌}
use Rattle.myi_check.proofs.LinkLemmas.{short_block, whole_part, no_block_names, no_block_next, head_names, head_next}
use Rattle.myi_check.proofs.link.block_link.Goals as goal

pub returns-then-bytes-lt-LEAST_SIZE-clause-named : goal.returns-then-bytes-lt-LEAST_SIZE-clause-named
returns-then-bytes-lt-LEAST_SIZE-clause-named c = λ d long is. no_block_names d c.args.place c.args.before (short_block d c.args.place c.args.bytes.now is c.if-bytes-lt-LEAST_SIZE.true)

pub returns-then-bytes-lt-LEAST_SIZE-clause-next : goal.returns-then-bytes-lt-LEAST_SIZE-clause-next
returns-then-bytes-lt-LEAST_SIZE-clause-next c = λ defs d long is. no_block_next defs d c.args.place (short_block d c.args.place c.args.bytes.now is c.if-bytes-lt-LEAST_SIZE.true)

pub returns-in-Some-clause-named : goal.returns-in-Some-clause-named
returns-in-Some-clause-named c = λ d long is.
    c.is_same.ensures ∙ head_names d c.args.place c.args.before c.in-Some.head (c.in-Some.ensures.head d long (whole_part d c.args.place c.args.bytes.now is c.if-bytes-lt-LEAST_SIZE.false))

pub returns-in-Some-clause-next : goal.returns-in-Some-clause-next
returns-in-Some-clause-next c = λ defs d long is.
    c.widened.ensures ∙ head_next defs d c.args.place c.in-Some.head (c.in-Some.ensures.head d long (whole_part d c.args.place c.args.bytes.now is c.if-bytes-lt-LEAST_SIZE.false))
