use Rattle.std.proofs.Common.{arith, get_or, [], sym, ap, ◌∙◌}
use Rattle.myi_defs.specs.declared.types.FieldKind.TheVariants.{Normal}
use Rattle.myi_pack.specs.Packed.{Values}
use Rattle.myi_pack.proofs.NumberedLemmas.{IsThere, field_there, found_some, shown_there}
use Rattle.myi_pack.proofs.PlaceLemmas.{has_field, next_here}
use Rattle.myi_pack.proofs.row.NumberedFields.field.Goals as goal

there : (c : goal.In-Static) → IsThere c.self.inside.fields.now c.self.inside.bytes.now c.args.self.now c.args.i (record { kind = Normal; length = 0; start = 0 })
there c = field_there c.self.inside.format c.self.inside.fields.now c.self.inside.flags.now c.self.inside.bytes.now c.args.self.now c.args.i _ c.in-Static.is c.self.invariant.placed c.self.view_is c.requires

pub offset_bounds-self-inside-i : goal.offset_bounds-self-inside-i
offset_bounds-self-inside-i c = omega (arith, (there c).few)

pub bounds-self-inside-i : goal.bounds-self-inside-i
bounds-self-inside-i c = (there c).inside

field : (c : goal.After-slot_field-arg-1) → IsThere c.self.inside.fields.now c.self.inside.bytes.now c.args.self.now c.args.i (record { kind = Normal; length = 0; start = 0 })
field c = field_there c.self.inside.format c.self.inside.fields.now c.self.inside.flags.now c.self.inside.bytes.now c.args.self.now c.args.i _ c.in-Static.is c.self.invariant.placed c.self.view_is c.requires

pub slot_field-requires-clause-length : goal.slot_field-requires-clause-length
slot_field-requires-clause-length c = (field c).long

pub slot_field-requires-clause-inside : goal.slot_field-requires-clause-inside
slot_field-requires-clause-inside c = (field c).starts

pub slot_field-requires-clause-found : goal.slot_field-requires-clause-found
slot_field-requires-clause-found c = found_some _ _ (field c).value

pub returns-in-Static-clause-shown : goal.returns-in-Static-clause-shown
returns-in-Static-clause-shown c = shown_there c.self.inside.fields.now c.self.inside.bytes.now c.args.self.now c.args.i _ _ (field_there c.self.inside.format c.self.inside.fields.now c.self.inside.flags.now c.self.inside.bytes.now c.args.self.now c.args.i _ c.in-Static.is c.self.invariant.placed c.self.view_is c.requires) c.slot_field.ensures

pub reach-requires-clause-inside : goal.reach-requires-clause-inside
reach-requires-clause-inside c = (has_field c.self.inside.format c.self.inside.fields.now c.self.inside.flags.now c.self.inside.bytes.now c.args.self.now c.args.i c.in-Dynamic.is c.self.invariant.placed c.self.view_is c.requires).inside

pub bounds-self-inside-i-in-Dynamic : goal.bounds-self-inside-i-in-Dynamic
bounds-self-inside-i-in-Dynamic c = (has_field c.self.inside.format c.self.inside.fields.now c.self.inside.flags.now c.self.inside.bytes.now c.args.self.now c.args.i c.in-Dynamic.is c.self.invariant.placed c.self.view_is c.requires).inside

pub cut_at-requires-clause-length : goal.cut_at-requires-clause-length
cut_at-requires-clause-length c =
    let row = has_field c.self.inside.format c.self.inside.fields.now c.self.inside.flags.now c.self.inside.bytes.now c.args.self.now c.args.i c.in-Dynamic.is c.self.invariant.placed c.self.view_is c.requires in
    (next_here c.self.inside.fields.now c.self.inside.flags.now c.self.inside.bytes.now c.reach.new.behind.items c.deref.result.now c.args.i c.place_of-place.result row.left c.in_ok-reach-in-Dynamic.ensures.begun c.deref.ensures.value c.in_ok-reach-in-Dynamic.ensures.reached row.inside c.place_of-place.ensures).long

pub cut_at-requires-clause-inside : goal.cut_at-requires-clause-inside
cut_at-requires-clause-inside c =
    let row = has_field c.self.inside.format c.self.inside.fields.now c.self.inside.flags.now c.self.inside.bytes.now c.args.self.now c.args.i c.in-Dynamic.is c.self.invariant.placed c.self.view_is c.requires in
    (next_here c.self.inside.fields.now c.self.inside.flags.now c.self.inside.bytes.now c.reach.new.behind.items c.deref.result.now c.args.i c.place_of-place.result row.left c.in_ok-reach-in-Dynamic.ensures.begun c.deref.ensures.value c.in_ok-reach-in-Dynamic.ensures.reached row.inside c.place_of-place.ensures).inside

pub cut_at-requires-clause-few : goal.cut_at-requires-clause-few
cut_at-requires-clause-few c =
    let row = has_field c.self.inside.format c.self.inside.fields.now c.self.inside.flags.now c.self.inside.bytes.now c.args.self.now c.args.i c.in-Dynamic.is c.self.invariant.placed c.self.view_is c.requires in
    (next_here c.self.inside.fields.now c.self.inside.flags.now c.self.inside.bytes.now c.reach.new.behind.items c.deref.result.now c.args.i c.place_of-place.result row.left c.in_ok-reach-in-Dynamic.ensures.begun c.deref.ensures.value c.in_ok-reach-in-Dynamic.ensures.reached row.inside c.place_of-place.ensures).few

pub cut_at-requires-clause-found : goal.cut_at-requires-clause-found
cut_at-requires-clause-found c =
    let row = has_field c.self.inside.format c.self.inside.fields.now c.self.inside.flags.now c.self.inside.bytes.now c.args.self.now c.args.i c.in-Dynamic.is c.self.invariant.placed c.self.view_is c.requires in
    (next_here c.self.inside.fields.now c.self.inside.flags.now c.self.inside.bytes.now c.reach.new.behind.items c.deref.result.now c.args.i c.place_of-place.result row.left c.in_ok-reach-in-Dynamic.ensures.begun c.deref.ensures.value c.in_ok-reach-in-Dynamic.ensures.reached row.inside c.place_of-place.ensures).found

pub returns-in_ok-reach-in-Dynamic-clause-shown : goal.returns-in_ok-reach-in-Dynamic-clause-shown
returns-in_ok-reach-in-Dynamic-clause-shown c =
    let row = has_field c.self.inside.format c.self.inside.fields.now c.self.inside.flags.now c.self.inside.bytes.now c.args.self.now c.args.i c.in-Dynamic.is c.self.invariant.placed c.self.view_is c.requires in
    let here = next_here c.self.inside.fields.now c.self.inside.flags.now c.self.inside.bytes.now c.reach.new.behind.items c.deref.result.now c.args.i c.place_of-place.result row.left c.in_ok-reach-in-Dynamic.ensures.begun c.deref.ensures.value c.in_ok-reach-in-Dynamic.ensures.reached row.inside c.place_of-place.ensures in
    ap (λ (vs : Values). get_or vs c.args.i []) (sym row.is) ∙ here.value _ _ c.cut_at.ensures.found
