use Rattle.std.proofs.Common.{sym, ◌∙◌}
use Rattle.std.proofs.lemmas.Bool.{and_parts, eqb-true}
use Rattle.myi_keycache.proofs.TakeLemmas.{pushed}
use Rattle.myi_keycache.proofs.blocks.push.Goals as goal

pub returns-clause-pages : goal.returns-clause-pages
returns-clause-pages c =
    c.in_ok-insert.ensures.entries
    ∙ pushed _ c.args.pages.now.entries c.args.name c.args.block (λ k is. let p = and_parts _ _ is in (sym (eqb-true _ _ p.0), sym (eqb-true _ _ p.1))) c.requires
