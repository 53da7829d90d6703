use Rattle.std.proofs.Common.{◌≡◌, ◌+◌, true, List, sym, ap, subst, ◌∙◌}
use Rattle.std.specs.Prelude.{slice_index_or, option_map}
use Rattle.myi_defs.specs.declared.types.Key.{Key}
use Rattle.myi_keys.specs.declared.values.KeySeg.{KeySeg}
use Rattle.myi_keys.specs.Limits.{is_complete}
use Rattle.myi_keys.specs.Comparing.{key_front}
use Rattle.myi_keys.proofs.CallerLemmas.{front_again}
use Rattle.myi_keylist.specs.declared.pair.Pair.{Pair}
use Rattle.myi_search.specs.Least.{IsLeastRow}
use Rattle.myi_rowkeys.specs.TableKeys.{is_unique}
use Rattle.myi_tablestate.specs.Listed.{listed, position}
use Rattle.myi_rowtrees.specs.Duplicates.{others}
use Rattle.myi_rowtrees.proofs.HeldLemmas.{search_on, unique_at, Found, held, number_of, some_all}
use Rattle.myi_rowtrees.proofs.duplicates.other_row.Goals as goal
use Rattle.myi_rowtrees.proofs.duplicates.other_row.Goals.{then-not-unique-via-then-not-unique, then-not-unique-via-else-not-unique+then-not-is_complete_code}

pub returns-then-not-unique-clause-held : goal.returns-then-not-unique-clause-held
returns-then-not-unique-clause-held g c = λ m told own lists s state values t list key.
    let law = c.duplicates_are_found.ensures in
    let d = c.args.defs.now in
    let i = c.args.i in
    let r = c.index-as_slice-i.result in
    let here = ap (λ (ks : List Key). slice_index_or ks i r) (sym c.as_slice.ensures) ∙ sym c.index-as_slice-i.is in
    let unique = unique_at d i r c.requires.key here ∙ ap (λ (k : Key). k.unique) c.index-as_slice-i.is in
    elim c.then-not-unique.branch [
      | then-not-unique-via-then-not-unique w ↦ sym (law.plain d values (i + 1) (others d c.args.own state.rows) (unique ∙ w.if-not-unique.true))
      | then-not-unique-via-else-not-unique+then-not-is_complete_code w ↦
          sym (law.absent d values (i + 1) (others d c.args.own state.rows)
          (ap is_complete (sym key ∙ sym (front_again c.args.pair.now.key w.code.ensures.key) ∙ ap key_front (sym w.code.ensures.value)) ∙ sym w.is_complete_code.ensures ∙ w.if-not-is_complete_code.true))
    ]

pub returns-in_err-row-clause-search : goal.returns-in_err-row-clause-search
returns-in_err-row-clause-search g c = λ w. search_on g.F.Files.writable (g.F.Files.holds c.args.files.now) (g.F.Files.holds c.find.new.files) c.args.trees.now c.find.new.self w c.in_err-row.ensures.cache c.in_err-row.ensures.stand c.requires.kept

pub returns-clause-held : goal.returns-clause-held
returns-clause-held g c = λ m told own lists s state values t list key.
    let law = c.duplicates_are_found.ensures in
    let d = c.args.defs.now in
    let i = c.args.i in
    let r = c.index-as_slice-i.result in
    let here = ap (λ (ks : List Key). slice_index_or ks i r) (sym c.as_slice.ensures) ∙ sym c.index-as_slice-i.is in
    let unique = unique_at d i r c.requires.key here ∙ ap (λ (k : Key). k.unique) c.index-as_slice-i.is ∙ c.if-not-unique.false in
    let whole = ap is_complete (sym key ∙ sym (front_again c.args.pair.now.key c.code.ensures.key) ∙ ap key_front (sym c.code.ensures.value)) ∙ sym c.is_complete_code.ensures ∙ c.if-not-is_complete_code.false in
    let least = subst (λ (k : List KeySeg). IsLeastRow k (listed d (i + 1) state.rows) c.in_ok-row.row) key
    (subst (λ (ps : List Pair). IsLeastRow c.args.pair.now.key ps c.in_ok-row.row) list (c.in_ok-row.ensures.least m told own lists s)) in
    let found : Found d = record {
      plain = λ values k rows. law.plain d values k rows;
      absent = λ values k rows. law.absent d values k rows;
      found = λ s values k least. law.found d s values k least c.requires.sound;
      other = λ s values k at p. law.other d s values k at p c.requires.sound;
      own = λ s values k at p. law.own d s values k at p c.requires.sound;
      none = λ s values k at. law.none d s values k at c.requires.sound;
    } in
    ap (option_map (position d)) c.another.ensures ∙ held d c.requires.sound found state values (i + 1) c.args.own c.in_ok-row.row t (number_of d i c.requires.key) unique whole least

pub returns-clause-search : goal.returns-clause-search
returns-clause-search g c = λ w. search_on g.F.Files.writable (g.F.Files.holds c.args.files.now) (g.F.Files.holds c.find.new.files) c.args.trees.now c.find.new.self w c.in_ok-row.ensures.cache c.in_ok-row.ensures.stand c.requires.kept

pub returns-clause-unique : goal.returns-clause-unique
returns-clause-unique g c =
    let d = c.args.defs.now in
    let i = c.args.i in
    let r = c.index-as_slice-i.result in
    let here = ap (λ (ks : List Key). slice_index_or ks i r) (sym c.as_slice.ensures) ∙ sym c.index-as_slice-i.is in
    let unique = unique_at d i r c.requires.key here ∙ ap (λ (k : Key). k.unique) c.index-as_slice-i.is ∙ c.if-not-unique.false in
    some_all c.another.result (is_unique d (i + 1) ≡ true) unique

pub returns-clause-whole : goal.returns-clause-whole
returns-clause-whole g c =
    let whole = ap is_complete (sym (front_again c.args.pair.now.key c.code.ensures.key) ∙ ap key_front (sym c.code.ensures.value)) ∙ sym c.is_complete_code.ensures ∙ c.if-not-is_complete_code.false in
    some_all c.another.result (is_complete c.args.pair.now.key ≡ true) whole
