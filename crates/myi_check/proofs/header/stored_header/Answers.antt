use Rattle.std.proofs.Common.{◌≡◌, Err, length, sym, ap, ◌∙◌}
use Rattle.std.proofs.lemmas.Result.{IfOk-weaker}
use Rattle.myi_base.specs.Numbers.{num_at}
use Rattle.myi_header.specs.declared.state.State.{State}
use Rattle.myi_header.specs.declared.state.StateFault.TheVariants as fault
use Rattle.myi_header.specs.StateOf.{read_state}
use Rattle.myi_check.proofs.StoredLemmas.{not_short, state_ok, marked_ok, marked_not, state_is, mark_is, as_many_roots}
use Rattle.myi_check.proofs.header.stored_header.Goals as goal

pub unreachable-requires : goal.unreachable-requires
unreachable-requires c =
    let other = λ (memory : c.in-Err-Short.field-0 ≡ fault.Memory). let e : fault.Short ≡ fault.Memory = sym c.in-Err-Short.field-0-is ∙ memory in absurd cc in
    not_short c.args.defs.now (ap (read_state c.args.defs.now) (sym c.as_slice.ensures) ∙ c.in-Err-Short.ensures.refused other ∙ ap Err c.in-Err-Short.field-0-is)

pub returns-in-Ok-clause-state : goal.returns-in-Ok-clause-state
returns-in-Ok-clause-state c = λ x read.
    state_ok c.args.defs.now _ (ap (read_state c.args.defs.now) (sym c.as_slice.ensures) ∙ c.in-Ok.ensures.found) ∙ state_is c.args.defs.now (num_at 6 2 x) x c.requires (c.definitions_are_sound.ensures.raw x c.args.defs.now read)

pub returns-in-Ok-clause-marked : goal.returns-in-Ok-clause-marked
returns-in-Ok-clause-marked c = λ x read.
    marked_ok c.args.defs.now _ (ap (read_state c.args.defs.now) (sym c.as_slice.ensures) ∙ c.in-Ok.ensures.found) ∙ mark_is c.args.defs.now (num_at 6 2 x) x c.requires (c.definitions_are_sound.ensures.raw x c.args.defs.now read)

pub returns-in-Ok-clause-roots : goal.returns-in-Ok-clause-roots
returns-in-Ok-clause-roots c =
    ap (λ (s : State). length s.roots) (state_ok c.args.defs.now _ (ap (read_state c.args.defs.now) (sym c.as_slice.ensures) ∙ c.in-Ok.ensures.found)) ∙ as_many_roots c.args.defs.now c.args.defs.now.raw

pub returns-in-Err-Foreign-clause-state : goal.returns-in-Err-Foreign-clause-state
returns-in-Err-Foreign-clause-state c = IfOk-weaker c.foreign_header.result _ _ (λ h is x read.
    is ∙ state_is c.args.defs.now (num_at 6 2 x) x c.requires (c.definitions_are_sound.ensures.raw x c.args.defs.now read)) c.foreign_header.ensures.state

pub returns-in-Err-Foreign-clause-marked : goal.returns-in-Err-Foreign-clause-marked
returns-in-Err-Foreign-clause-marked c =
    let other = λ (memory : c.in-Err-Foreign.field-0 ≡ fault.Memory). let e : fault.Foreign ≡ fault.Memory = sym c.in-Err-Foreign.field-0-is ∙ memory in absurd cc in
    let absent = marked_not c.args.defs.now (ap (read_state c.args.defs.now) (sym c.as_slice.ensures) ∙ c.in-Err-Foreign.ensures.refused other ∙ ap Err c.in-Err-Foreign.field-0-is) in
    IfOk-weaker c.foreign_header.result _ _ (λ h is x read.
    is ∙ absent ∙ mark_is c.args.defs.now (num_at 6 2 x) x c.requires (c.definitions_are_sound.ensures.raw x c.args.defs.now read)) c.foreign_header.ensures.marked

pub returns-in-Err-Foreign-clause-roots : goal.returns-in-Err-Foreign-clause-roots
returns-in-Err-Foreign-clause-roots c = IfOk-weaker c.foreign_header.result _ _ (λ h is. ap (λ (s : State). length s.roots) is ∙ as_many_roots c.args.defs.now c.args.defs.now.raw) c.foreign_header.ensures.state
