use Rattle.std.proofs.Common.{◌≡◌, ℕ, List, length, ◌++◌, Some, ap, ◌∙◌, arith}
use Rattle.std.proofs.lemmas.Grind.{common_steps}
use Rattle.myi_frames.specs.Form.{form_of}
use Rattle.myi_frames.specs.Block.{block_of}
use Rattle.myi_frames.specs.Writing.{header_bytes, block_bytes, type_of}
use Rattle.myi_frames.proofs.WriteLemmas.{type-fits, form-fits, block-joined}
use Rattle.myi_frames.proofs.write.write_frame.Goals as goal

pub unreachable-requires : goal.unreachable-requires
unreachable-requires c =
    let w = type-fits c.args.spec.now (length c.args.bytes.now) (length c.args.into.now) c.requires in
    cc (w.is, c.type_for-number.ensures, c.form_of.ensures.form, c.in_default.is)

pub put_header-requires-clause-used : goal.put_header-requires-clause-used
put_header-requires-clause-used c =
    let f = c.args.spec.now in
    let n = length c.args.bytes.now in
    let size = length c.args.into.now in
    let is : form_of (type_of f n size) ≡ Some c.in-Some.form = cc (c.type_for-number.ensures, c.form_of.ensures.form, c.in-Some.is) in
    (form-fits (type_of f n size) f n size c.in-Some.form (type-fits f n size c.requires) is).1

pub put_header-requires-clause-fit : goal.put_header-requires-clause-fit
put_header-requires-clause-fit c =
    let f = c.args.spec.now in
    let n = length c.args.bytes.now in
    let size = length c.args.into.now in
    let is : form_of (type_of f n size) ≡ Some c.in-Some.form = cc (c.type_for-number.ensures, c.form_of.ensures.form, c.in-Some.is) in
    (form-fits (type_of f n size) f n size c.in-Some.form (type-fits f n size c.requires) is).0

pub put_bytes-requires : goal.put_bytes-requires
put_bytes-requires c =
    let f = c.args.spec.now in
    let n = length c.args.bytes.now in
    let size = length c.args.into.now in
    let is : form_of (type_of f n size) ≡ Some c.in-Some.form = cc (c.type_for-number.ensures, c.form_of.ensures.form, c.in-Some.is) in
    omega (arith, (form-fits (type_of f n size) f n size c.in-Some.form (type-fits f n size c.requires) is).1, c.header_len-start.ensures)

pub returns-clause-written : goal.returns-clause-written
unfolding block_bytes header_bytes
returns-clause-written c = grind (arith, common_steps)

pub returns-clause-block : goal.returns-clause-block
returns-clause-block c = λ front back aligned.
    let written = returns-clause-written c in
    ap (λ (x : List ℕ). block_of (front ++ (x ++ back)) (length front)) written ∙ block-joined c.args.spec.now c.args.bytes.now front back (length c.args.into.now) c.requires aligned
