use Rattle.std.proofs.Common.{◌≡◌, length, true, ◌∙◌, sym, ap, subst, arith}
use Rattle.myi_defs.specs.Elsewhere.{AgreeOutsideState}
use Rattle.myi_header.specs.StateOf.{state_of, has_mark}
use Rattle.myi_header.specs.HeaderOf.{header_of}
use Rattle.myi_header.proofs.PrintLaws.{front_of, front_appended, length-front_of, printed, filled}
use Rattle.myi_header.proofs.print.print_state.Goals as goal

pub fill-requires : goal.fill-requires
fill-requires c =
    let front : c.append_rest.new.out.items ≡ front_of c.args.defs.now c.args.state.now = front_appended c.args.defs.now c.args.state.now c.layout_of-layout.result c.as_slice-raw.result.now _ _ _ _ _ _ c.layout_of-layout.ensures c.as_slice-raw.ensures c.in_ok-out.ensures.items c.in_ok-append_front.ensures c.in_ok-append_state.ensures.bytes c.in_ok-append_part.ensures.bytes c.in_ok-extend_from_slice.ensures.items c.in_ok-append_rest.ensures in
    let long : length c.append_rest.new.out.items ≡ length c.args.defs.now.raw = ap length front ∙ length-front_of c.args.defs.now c.args.state.now c.requires.sound c.requires.roots c.requires.rest c.in_ok-append_state.ensures.fits in
    omega (arith, long, c.first_page-2.ensures.behind)

pub returns-clause-bytes : goal.returns-clause-bytes
returns-clause-bytes c =
    let front : c.append_rest.new.out.items ≡ front_of c.args.defs.now c.args.state.now = front_appended c.args.defs.now c.args.state.now c.layout_of-layout.result c.as_slice-raw.result.now _ _ _ _ _ _ c.layout_of-layout.ensures c.as_slice-raw.ensures c.in_ok-out.ensures.items c.in_ok-append_front.ensures c.in_ok-append_state.ensures.bytes c.in_ok-append_part.ensures.bytes c.in_ok-extend_from_slice.ensures.items c.in_ok-append_rest.ensures in
    let long : length c.append_rest.new.out.items ≡ length c.args.defs.now.raw = ap length front ∙ length-front_of c.args.defs.now c.args.state.now c.requires.sound c.requires.roots c.requires.rest c.in_ok-append_state.ensures.fits in
    let whole : c.fill.new.out.items ≡ header_of c.args.defs.now c.args.state.now = filled c.args.defs.now c.args.state.now c.append_rest.new.out.items c.fill.new.out.items _ front c.in_ok-fill.ensures (omega (arith, long, c.first_page-2.ensures.value)) in
    whole

pub returns-clause-read : goal.returns-clause-read
returns-clause-read c =
    let front : c.append_rest.new.out.items ≡ front_of c.args.defs.now c.args.state.now = front_appended c.args.defs.now c.args.state.now c.layout_of-layout.result c.as_slice-raw.result.now _ _ _ _ _ _ c.layout_of-layout.ensures c.as_slice-raw.ensures c.in_ok-out.ensures.items c.in_ok-append_front.ensures c.in_ok-append_state.ensures.bytes c.in_ok-append_part.ensures.bytes c.in_ok-extend_from_slice.ensures.items c.in_ok-append_rest.ensures in
    let long : length c.append_rest.new.out.items ≡ length c.args.defs.now.raw = ap length front ∙ length-front_of c.args.defs.now c.args.state.now c.requires.sound c.requires.roots c.requires.rest c.in_ok-append_state.ensures.fits in
    let whole : c.fill.new.out.items ≡ header_of c.args.defs.now c.args.state.now = filled c.args.defs.now c.args.state.now c.append_rest.new.out.items c.fill.new.out.items _ front c.in_ok-fill.ensures (omega (arith, long, c.first_page-2.ensures.value)) in
    subst (λ x. state_of c.args.defs.now x ≡ c.args.state.now) (sym whole) (printed c.args.defs.now c.args.state.now c.requires.sound c.requires.roots c.requires.rest c.requires.dellink c.requires.places c.in_ok-append_state.ensures.fits).read

pub returns-clause-marked : goal.returns-clause-marked
returns-clause-marked c =
    let front : c.append_rest.new.out.items ≡ front_of c.args.defs.now c.args.state.now = front_appended c.args.defs.now c.args.state.now c.layout_of-layout.result c.as_slice-raw.result.now _ _ _ _ _ _ c.layout_of-layout.ensures c.as_slice-raw.ensures c.in_ok-out.ensures.items c.in_ok-append_front.ensures c.in_ok-append_state.ensures.bytes c.in_ok-append_part.ensures.bytes c.in_ok-extend_from_slice.ensures.items c.in_ok-append_rest.ensures in
    let long : length c.append_rest.new.out.items ≡ length c.args.defs.now.raw = ap length front ∙ length-front_of c.args.defs.now c.args.state.now c.requires.sound c.requires.roots c.requires.rest c.in_ok-append_state.ensures.fits in
    let whole : c.fill.new.out.items ≡ header_of c.args.defs.now c.args.state.now = filled c.args.defs.now c.args.state.now c.append_rest.new.out.items c.fill.new.out.items _ front c.in_ok-fill.ensures (omega (arith, long, c.first_page-2.ensures.value)) in
    subst (λ x. has_mark c.args.defs.now x ≡ true) (sym whole) (printed c.args.defs.now c.args.state.now c.requires.sound c.requires.roots c.requires.rest c.requires.dellink c.requires.places c.in_ok-append_state.ensures.fits).marked

pub returns-clause-elsewhere : goal.returns-clause-elsewhere
returns-clause-elsewhere c =
    let front : c.append_rest.new.out.items ≡ front_of c.args.defs.now c.args.state.now = front_appended c.args.defs.now c.args.state.now c.layout_of-layout.result c.as_slice-raw.result.now _ _ _ _ _ _ c.layout_of-layout.ensures c.as_slice-raw.ensures c.in_ok-out.ensures.items c.in_ok-append_front.ensures c.in_ok-append_state.ensures.bytes c.in_ok-append_part.ensures.bytes c.in_ok-extend_from_slice.ensures.items c.in_ok-append_rest.ensures in
    let long : length c.append_rest.new.out.items ≡ length c.args.defs.now.raw = ap length front ∙ length-front_of c.args.defs.now c.args.state.now c.requires.sound c.requires.roots c.requires.rest c.in_ok-append_state.ensures.fits in
    let whole : c.fill.new.out.items ≡ header_of c.args.defs.now c.args.state.now = filled c.args.defs.now c.args.state.now c.append_rest.new.out.items c.fill.new.out.items _ front c.in_ok-fill.ensures (omega (arith, long, c.first_page-2.ensures.value)) in
    subst (λ x. AgreeOutsideState c.args.defs.now.raw x) (sym whole) (printed c.args.defs.now c.args.state.now c.requires.sound c.requires.roots c.requires.rest c.requires.dellink c.requires.places c.in_ok-append_state.ensures.fits).elsewhere

pub returns-clause-long : goal.returns-clause-long
returns-clause-long c =
    let front : c.append_rest.new.out.items ≡ front_of c.args.defs.now c.args.state.now = front_appended c.args.defs.now c.args.state.now c.layout_of-layout.result c.as_slice-raw.result.now _ _ _ _ _ _ c.layout_of-layout.ensures c.as_slice-raw.ensures c.in_ok-out.ensures.items c.in_ok-append_front.ensures c.in_ok-append_state.ensures.bytes c.in_ok-append_part.ensures.bytes c.in_ok-extend_from_slice.ensures.items c.in_ok-append_rest.ensures in
    let long : length c.append_rest.new.out.items ≡ length c.args.defs.now.raw = ap length front ∙ length-front_of c.args.defs.now c.args.state.now c.requires.sound c.requires.roots c.requires.rest c.in_ok-append_state.ensures.fits in
    let whole : c.fill.new.out.items ≡ header_of c.args.defs.now c.args.state.now = filled c.args.defs.now c.args.state.now c.append_rest.new.out.items c.fill.new.out.items _ front c.in_ok-fill.ensures (omega (arith, long, c.first_page-2.ensures.value)) in
    ap length whole ∙ (printed c.args.defs.now c.args.state.now c.requires.sound c.requires.roots c.requires.rest c.requires.dellink c.requires.places c.in_ok-append_state.ensures.fits).long
