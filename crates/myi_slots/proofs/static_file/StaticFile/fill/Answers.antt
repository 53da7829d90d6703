use Rattle.std.proofs.Common.{◌∙◌, ap, Err, rules}
use Rattle.std.proofs.lemmas.Result.{err_from_is_err_and}
use Rattle.myi_slots.proofs.FileLemmas.{by-cause, err-is, lacks-hole, slot-ends}
use Rattle.myi_slots.proofs.static_file.StaticFile.fill.Goals as goal

pub returns-in_err-next-clause-refused : goal.returns-in_err-next-clause-refused
returns-in_err-next-clause-refused g c =
    let e = err_from_is_err_and c.from_residual.result c.from_residual.ensures.1 in
    err-is c.from_residual.result c.in_err-next.field-0.0 _ (e.1 ∙ ap Err e.2)
    (by-cause _ _ _ _ _ _ c.in_err-next.field-0.0 (λ p h. h) (λ h. absurd h) (λ p h. (h.0, λ m held. lacks-hole c.args.self.now c.as_str.result.now c.slots-slots.result c.args.at m (search rules) (search rules) (h.1 m held) (c.requires.long m held))) c.in_err-next.ensures.err)

pub returns-clause-inside : goal.returns-clause-inside
returns-clause-inside g c = slot-ends c.args.self.now c.slots-slots.result c.args.at (search rules) c.in_ok-next.ensures.inside
