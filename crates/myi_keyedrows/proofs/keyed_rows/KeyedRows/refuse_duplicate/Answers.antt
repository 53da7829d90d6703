use Rattle.std.proofs.Common.{◌≡◌, ℕ, Option, inr, refl, sym, ap, subst, ◌∙◌}
use Rattle.std.specs.Prelude.{IfSome}
use Rattle.std.proofs.lemmas.Result.{err_from_is_err_and}
use Rattle.myi_defs.specs.Sound.{IsSound}
use Rattle.myi_pack.specs.Packed.{Values}
use Rattle.myi_state.specs.declared.counts.Counts.{Counts}
use Rattle.myi_rowtrees.specs.declared.duplicates.Duplicate.{Duplicate}
use Rattle.myi_rowtrees.specs.RowLists.{row_pairs}
use Rattle.myi_rowtrees.specs.Duplicates.{MayRepeat}
use Rattle.myi_ranges.specs.Ranges.{position_within}
use Rattle.myi_keyedrows.specs.declared.fault.KeyedFault.{KeyedFault}
use Rattle.myi_keyedrows.specs.Checking.{IsHeldBy}
use Rattle.myi_keyedrows.proofs.HoldLemmas.{kept_trees, look_stands}
use Rattle.myi_keyedrows.proofs.FaultLemmas.{if_err}
use Rattle.myi_keyedrows.proofs.AnswerLemmas.{OfHolder, Searches, none_found, row_found, tree_refuses}
use Rattle.myi_slots.specs.SlotFile.{Never}
use Rattle.myi_keyedrows.specs.Refusals.{ByCause}
use Rattle.myi_keyedrows.proofs.CauseLemmas.{tree_cause}
use Rattle.myi_keyedrows.proofs.keyed_rows.KeyedRows.refuse_duplicate.Goals as goal

pub first_duplicate-requires-clause-kept : goal.first_duplicate-requires-clause-kept
first_duplicate-requires-clause-kept g c κs within = inr (c.requires.writable, kept_trees c.args.self.now (g.F.Files.holds c.args.files.now) c.requires.kept)

pub returns-in_err-found-clause-held : goal.returns-in_err-found-clause-held
returns-in_err-found-clause-held g c =
    let told = g.F.Files.holds c.args.files.now in
    let e = err_from_is_err_and c.from_residual.result c.from_residual.ensures.1 in
    if_err c.from_residual.result e.0 (λ f. OfHolder told c.args.self.now c.args.defs.now c.args.pairs.now c.args.own (λ h. IsHeldBy h f)) e.1
    (subst (λ (f : KeyedFault). OfHolder told c.args.self.now c.args.defs.now c.args.pairs.now c.args.own (λ h. IsHeldBy h f)) (sym e.2)
    (tree_refuses told c.args.self.now c.args.defs.now c.args.pairs.now c.args.own c.in_err-found.field-0.0 c.in_err-found.ensures.never))

pub returns-in_err-found-clause-looks : goal.returns-in_err-found-clause-looks
returns-in_err-found-clause-looks g c = record {
  stand = look_stands c.args.self.now c.first_duplicate.new.trees (g.F.Files.holds c.args.files.now) (g.F.Files.holds c.first_duplicate.new.files) c.requires.fit.apart c.in_err-found.ensures.stand c.in_err-found.ensures.others;
  rows = refl;
  places = c.in_err-found.ensures.places;
  room = c.in_err-found.ensures.room;
  name = c.in_err-found.ensures.name;
  counted = c.in_err-found.ensures.counted;
  others = c.in_err-found.ensures.others;
}

pub returns-in_default-clause-none : goal.returns-in_default-clause-none
returns-in_default-clause-none g c =
    let told = g.F.Files.holds c.args.files.now in
    none_found told c.args.self.now c.args.defs.now c.args.pairs.now c.args.own c.requires.defs
    (subst (λ (o : Option Duplicate). Searches told c.args.self.now c.args.defs.now c.args.pairs.now c.args.own o) c.in_default.is c.in_ok-found.ensures.first)

pub returns-in_default-clause-looks : goal.returns-in_default-clause-looks
returns-in_default-clause-looks g c = record {
  stand = look_stands c.args.self.now c.first_duplicate.new.trees (g.F.Files.holds c.args.files.now) (g.F.Files.holds c.first_duplicate.new.files) c.requires.fit.apart c.in_ok-found.ensures.stand c.in_ok-found.ensures.others;
  rows = refl;
  places = c.in_ok-found.ensures.places;
  room = c.in_ok-found.ensures.room;
  name = c.in_ok-found.ensures.name;
  counted = c.in_ok-found.ensures.counted;
  others = c.in_ok-found.ensures.others;
}

pub returns-clause-held : goal.returns-clause-held
returns-clause-held g c =
    let told = g.F.Files.holds c.args.files.now in
    row_found c.pointers_lead_to_rows.ensures told c.args.self.now c.args.defs.now c.args.pairs.now c.args.own c.in-Some.found c.position_of.result c.requires.defs (subst IsSound c.requires.defs c.requires.fit.sound)
    (c.position_of.ensures ∙ ap (λ (n : Counts). position_within c.args.defs.now n.length c.in-Some.found.row) c.counts-end.ensures)
    (subst (λ (o : Option Duplicate). Searches told c.args.self.now c.args.defs.now c.args.pairs.now c.args.own o) c.in-Some.is c.in_ok-found.ensures.first)

pub returns-clause-looks : goal.returns-clause-looks
returns-clause-looks g c = record {
  stand = look_stands c.args.self.now c.first_duplicate.new.trees (g.F.Files.holds c.args.files.now) (g.F.Files.holds c.first_duplicate.new.files) c.requires.fit.apart c.in_ok-found.ensures.stand c.in_ok-found.ensures.others;
  rows = refl;
  places = c.in_ok-found.ensures.places;
  room = c.in_ok-found.ensures.room;
  name = c.in_ok-found.ensures.name;
  counted = c.in_ok-found.ensures.counted;
  others = c.in_ok-found.ensures.others;
}

pub returns-in_err-found-clause-causes : goal.returns-in_err-found-clause-causes
returns-in_err-found-clause-causes g c =
    let e = err_from_is_err_and c.from_residual.result c.from_residual.ensures.1 in
    let H : ℕ → Type 0 = λ key. (values : Values) (pointer : ℕ) → c.args.pairs.now ≡ row_pairs c.args.defs.now values pointer → MayRepeat c.args.defs.now values key in
    if_err c.from_residual.result e.0 (λ f. ByCause Never H ⊥ f) e.1
    (subst (λ (f : KeyedFault). ByCause Never H ⊥ f) (sym e.2) (tree_cause Never H ⊥ c.in_err-found.field-0.0))

pub returns-clause-causes : goal.returns-clause-causes
returns-clause-causes g c =
    let H : Duplicate → Type 0 = λ one. (values : Values) (pointer : ℕ) → c.args.pairs.now ≡ row_pairs c.args.defs.now values pointer → MayRepeat c.args.defs.now values one.key in
    subst (λ (o : Option Duplicate). IfSome o H) c.in-Some.is c.in_ok-found.ensures.named
