use Rattle.std.proofs.Common.{◌≡◌, ◌⊎◌, ◌∙◌, None, max, length, ap, sym, subst}
use Rattle.std.specs.Prelude.{IfErr, All}
use Rattle.std.proofs.lemmas.Result.{err_from_is_err_and}
use Rattle.myi_base.specs.Holding.{Cuts, Writes}
use Rattle.myi_base.proofs.CallerLemmas.{told_back}
use Rattle.myi_defs.proofs.CallerLemmas.{sound}
use Rattle.myi_header.specs.declared.state.State.{State}
use Rattle.myi_header.specs.Layout.{first_page_of}
use Rattle.myi_header.specs.StateOf.{IsPlace, state_of}
use Rattle.myi_header.specs.HeaderOf.{header_of}
use Rattle.myi_check.proofs.CallerLemmas.{as_many_roots}
use Rattle.myi_sortindex.specs.declared.laying.IndexCopy.{IndexCopy}
use Rattle.myi_sortindex.specs.Laying.{HaveNoRoom, IsCleanIndex, state_laid}
use Rattle.myi_sortindex.specs.Refusals.{CutsOff}
use Rattle.myi_sortindex.proofs.CallLaws.{cut_long, dellink_place, told_four, HasHeader, replaced, has_room, only_untold}
use Rattle.myi_sortindex.proofs.replacing.write_index.Goals as goal

pub lay_trees-requires-clause-sound : goal.lay_trees-requires-clause-sound
lay_trees-requires-clause-sound g c κs within = sound c.args.defs.now c.requires.defs

pub lay_trees-requires-clause-roots : goal.lay_trees-requires-clause-roots
lay_trees-requires-clause-roots g c κs within =
    ap length c.as_slice.ensures ∙ ap (λ (s : State). length s.roots) c.in_ok-state.ensures.value ∙ as_many_roots c.args.defs.now c.args.defs.now.raw

pub lay_trees-requires-clause-long : goal.lay_trees-requires-clause-long
lay_trees-requires-clause-long g c κs within = λ k held.
    let b = told_back _ _ _ k c.in_ok-make_working.ensures.made held in
    cut_long c.args.working.now c.first_page.result b.0 k b.2 ∙ c.first_page.ensures.value

pub print_state-requires-clause-sound : goal.print_state-requires-clause-sound
print_state-requires-clause-sound g c = sound c.args.defs.now c.requires.defs

pub print_state-requires-clause-roots : goal.print_state-requires-clause-roots
print_state-requires-clause-roots g c =
    ap (λ (s : State). length s.roots) c.with_trees.ensures ∙ c.in_ok-laid.ensures.count ∙ ap length c.as_slice.ensures ∙ ap (λ (s : State). length s.roots) c.in_ok-state.ensures.value ∙ as_many_roots c.args.defs.now c.args.defs.now.raw

pub print_state-requires-clause-rest : goal.print_state-requires-clause-rest
print_state-requires-clause-rest g c = ap (λ (s : State). length s.rest) c.with_trees.ensures ∙ c.in_ok-state.ensures.rest

pub print_state-requires-clause-dellink : goal.print_state-requires-clause-dellink
print_state-requires-clause-dellink g c =
    subst IsPlace (sym (ap (λ (s : State). s.dellink) c.with_trees.ensures ∙ ap (λ (s : State). s.dellink) c.in_ok-state.ensures.value)) (dellink_place c.args.defs.now c.args.defs.now.raw)

pub print_state-requires-clause-places : goal.print_state-requires-clause-places
print_state-requires-clause-places g c = subst (All IsPlace) (sym (ap (λ (s : State). s.roots) c.with_trees.ensures)) c.in_ok-laid.ensures.places

pub returns-in_err-laid-clause-cut : goal.returns-in_err-laid-clause-cut
returns-in_err-laid-clause-cut g c =
    let old = g.F.Files.holds c.args.files.now in
    let mid = g.F.Files.holds c.make_working.new.files in
    let d = c.args.defs.now in
    let copy : IndexCopy = record { alloc = c.args.alloc; index = c.args.index; working = c.args.working; limit = c.max.result } in
    let roots = c.as_slice.result.now in
    let roots_are : roots ≡ (state_of d d.raw).roots = c.as_slice.ensures ∙ ap (λ (s : State). s.roots) c.in_ok-state.ensures.value in
    let limit : copy.limit ≡ max (state_of d d.raw).key_file_length (first_page_of d) =
    c.max.ensures ∙ ap (λ (s : State). max s.key_file_length c.first_page-2.result) c.in_ok-state.ensures.value ∙ ap (λ n. max (state_of d d.raw).key_file_length n) c.first_page-2.ensures.value in
    let e = err_from_is_err_and c.from_residual-in_err-laid.result c.from_residual-in_err-laid.ensures.1 in
    let fault = only_untold old mid _ (IsCleanIndex c.args.index.now d) (HaveNoRoom copy d roots) _ c.in_ok-make_working.ensures.made c.requires.clean
    (λ m k clean cut none. has_room copy d roots m k (sound d c.requires.defs) (λ x read. c.definitions_are_sound.ensures.raw x d read) c.requires.apart roots_are limit clean (subst (λ n. Cuts c.args.working.now n m k) c.first_page.ensures.value cut) none)
    c.in_err-laid.ensures.refused in
    subst (λ r. IfErr r (λ f. CutsOff f ⊎ (old ≡ None))) (sym e.1) (subst (λ x. CutsOff x ⊎ (old ≡ None)) (sym e.2) fault)

pub returns-clause-replaced : goal.returns-clause-replaced
returns-clause-replaced g c =
    let d = c.args.defs.now in
    let copy : IndexCopy = record { alloc = c.args.alloc; index = c.args.index; working = c.args.working; limit = c.max.result } in
    let roots = c.as_slice.result.now in
    let roots_are : roots ≡ (state_of d d.raw).roots = c.as_slice.ensures ∙ ap (λ (s : State). s.roots) c.in_ok-state.ensures.value in
    let header = c.in_ok-header.ensures in
    let laid = c.in_ok-laid.laid in
    let has : HasHeader d c.in_ok-header.header.items laid = record {
      sound = sound d c.requires.defs;
      defs = c.requires.defs;
      raw = λ x read. c.definitions_are_sound.ensures.raw x d read;
      bytes = header.bytes ∙ ap (header_of d) (c.with_trees.ensures ∙ ap (λ (s : State). state_laid s laid) c.in_ok-state.ensures.value);
      front = header.long;
      state = header.read ∙ c.with_trees.ensures ∙ ap (λ (s : State). state_laid s laid) c.in_ok-state.ensures.value;
      marked = header.marked;
      elsewhere = header.elsewhere;
    } in
    told_four _ _ _ _ _ _ _ _ _ _ c.in_ok-make_working.ensures.made c.in_ok-laid.ensures.laid c.in_ok-put_header.ensures.put c.in_ok-rename.ensures.ok
    (λ m k n o p cut lays writes renames. replaced c.walks_depend_on_their_pages.ensures copy d c.in_ok-header.header.items laid roots m k n o p has c.requires.apart roots_are (subst (λ j. Cuts c.args.working.now j m k) c.first_page.ensures.value cut) lays (subst (λ b. Writes c.args.working.now 0 b n o) c.deref.ensures.value writes) renames)
