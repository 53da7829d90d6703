use Rattle.std.proofs.Common.{◌≡◌, Some, take, ap, sym, arith, ◌∙◌}
use Rattle.myi_frames.specs.Form.{form_of}
use Rattle.myi_frames.specs.Writing.{type_of, header_as}
use Rattle.myi_frames.proofs.WriteLemmas.{type-fits, form-fits, header-is}
use Rattle.myi_frames.proofs.write.frame_header.Goals as goal

pub unreachable-requires : goal.unreachable-requires
unreachable-requires c =
    let w = type-fits c.args.spec.now c.args.len c.args.size c.requires in
    cc (w.is, c.type_for-number.ensures, c.form_of.ensures.form, c.in_default.is)

pub put_header-requires-clause-used : goal.put_header-requires-clause-used
put_header-requires-clause-used c =
    let f = c.args.spec.now in
    let n = c.args.len in
    let size = c.args.size in
    let is : form_of (type_of f n size) ≡ Some c.in-Some.form = cc (c.type_for-number.ensures, c.form_of.ensures.form, c.in-Some.is) in
    (form-fits (type_of f n size) f n size c.in-Some.form (type-fits f n size c.requires) is).1

pub put_header-requires-clause-fit : goal.put_header-requires-clause-fit
put_header-requires-clause-fit c =
    let f = c.args.spec.now in
    let n = c.args.len in
    let size = c.args.size in
    let is : form_of (type_of f n size) ≡ Some c.in-Some.form = cc (c.type_for-number.ensures, c.form_of.ensures.form, c.in-Some.is) in
    (form-fits (type_of f n size) f n size c.in-Some.form (type-fits f n size c.requires) is).0

pub returns-clause-inside : goal.returns-clause-inside
returns-clause-inside c =
    let f = c.args.spec.now in
    let n = c.args.len in
    let size = c.args.size in
    let is : form_of (type_of f n size) ≡ Some c.in-Some.form = cc (c.type_for-number.ensures, c.form_of.ensures.form, c.in-Some.is) in
    omega (arith, (form-fits (type_of f n size) f n size c.in-Some.form (type-fits f n size c.requires) is).1, c.header_len.ensures)

pub returns-clause-header : goal.returns-clause-header
returns-clause-header c =
    let f = c.args.spec.now in
    let n = c.args.len in
    let size = c.args.size in
    let is : form_of (type_of f n size) ≡ Some c.in-Some.form = cc (c.type_for-number.ensures, c.form_of.ensures.form, c.in-Some.is) in
    ap (λ k. take k c.put_header.new.into) c.header_len.ensures ∙ c.put_header.ensures ∙ ap (λ t. header_as t c.in-Some.form f n size) c.type_for-number.ensures ∙ sym (header-is f n size c.in-Some.form is)
