use Rattle.myi_header.proofs.PrintLaws.{appended_state}
use Rattle.myi_header.proofs.print.append_state.Goals as goal

pub returns-clause-bytes : goal.returns-clause-bytes
returns-clause-bytes c =
    appended_state c.args.layout c.args.state.now c.as_slice-rest.result.now c.as_slice.result.now _ _ _ _ _ _ _ _ _ c.as_slice-rest.ensures c.as_slice.ensures c.in_ok-append_counts.ensures.bytes c.in_ok-append_front.ensures c.in_ok-append_roots.ensures.bytes c.in_ok-append_part.ensures.bytes c.in_ok-append_u64.ensures.ok c.in_ok-append_part-2.ensures.bytes c.in_ok-append_u64-2.ensures.ok c.in_ok-append_rest.ensures
