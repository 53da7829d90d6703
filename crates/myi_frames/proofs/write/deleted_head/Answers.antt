use Rattle.std.proofs.Common.{◌≡◌, ℕ, List, Some, ap, ◌∙◌, arith}
use Rattle.myi_base.specs.Holding.{overwritten}
use Rattle.myi_frames.specs.Form.{form_of}
use Rattle.myi_frames.specs.Block.{block_of}
use Rattle.myi_frames.specs.Writing.{deleted_spec}
use Rattle.myi_frames.proofs.WriteLemmas.{deleted-fits, form-fits, deleted-is, deleted-overwritten}
use Rattle.myi_frames.proofs.write.deleted_head.Goals as goal

pub unreachable-requires : goal.unreachable-requires
unreachable-requires c =
    let w = deleted-fits c.args.size c.args.next c.args.prev c.requires.least c.requires.most c.requires.next c.requires.prev in
    cc (w.is, c.form_of.ensures.form, c.in_default.is)

pub put_header-requires-clause-fit : goal.put_header-requires-clause-fit
put_header-requires-clause-fit c =
    let w = deleted-fits c.args.size c.args.next c.args.prev c.requires.least c.requires.most c.requires.next c.requires.prev in
    let is : form_of 0 ≡ Some c.in-Some.form = cc (c.form_of.ensures.form, c.in-Some.is) in
    (form-fits 0 (deleted_spec c.args.next c.args.prev) 0 c.args.size c.in-Some.form w is).0

pub returns-clause-written : goal.returns-clause-written
returns-clause-written c =
    let is : form_of 0 ≡ Some c.in-Some.form = cc (c.form_of.ensures.form, c.in-Some.is) in
    deleted-is c.args.size c.args.next c.args.prev c.in-Some.form c.put_header.new.into is (omega arith) c.put_header.ensures

pub returns-clause-block : goal.returns-clause-block
returns-clause-block c = λ d at place.
    let written = returns-clause-written c in
    ap (λ (x : List ℕ). block_of (overwritten at x d) at) written ∙ deleted-overwritten c.args.size at c.args.next c.args.prev d c.requires.most c.requires.next c.requires.prev place
