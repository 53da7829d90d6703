use Rattle.std.proofs.Common.{◌≡◌, ◌+◌, ◌*◌, ◌≤◌, ◌∙◌, ap, length, arith}
use Rattle.myi_base.specs.Numbers.{num_at}
use Rattle.myi_repair.proofs.StateLaws.{length-without_free_pages}
use Rattle.myi_repair.proofs.finishing.new_state.Goals as goal

pub returns-clause-rest : goal.returns-clause-rest
returns-clause-rest c =
    let rest = c.into_vec.result.items in
    let same : length rest ≡ length c.in_ok-stored.stored.rest = ap (λ b. length b) c.into_vec.ensures in
    let inside : 24 + 8 * c.u8_at-page_sizes.result ≤ length rest = omega (arith, same, c.in_ok-stored.ensures.rest, c.u8_at-page_sizes.ensures, ap (λ b. num_at 21 1 b) c.as_slice.ensures) in
    ap (λ b. length b) (c.new-2.ensures ∙ c.without_free_pages.ensures) ∙ length-without_free_pages (8 * c.u8_at-page_sizes.result) rest inside ∙ same ∙ c.in_ok-stored.ensures.rest
