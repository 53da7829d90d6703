use Rattle.std.proofs.Common.{List, sym, ap, ◌∙◌}
use Rattle.std.specs.Prelude.{slice_index_or}
use Rattle.myi_defs.specs.declared.types.Key.{Key}
use Rattle.myi_keys.specs.Limits.{is_complete}
use Rattle.myi_keys.specs.Comparing.{key_front}
use Rattle.myi_keys.proofs.CallerLemmas.{front_again}
use Rattle.myi_keytrees.specs.Standing.{list_of}
use Rattle.myi_saferepair.proofs.HeldLaws.{search_on, unique_at, held_least, held_plain, held_absent}
use Rattle.myi_saferepair.proofs.repeats.is_held.Goals as goal
use Rattle.myi_saferepair.proofs.repeats.is_held.Goals.{then-not-unique-via-then-not-unique, then-not-unique-via-else-not-unique+then-not-is_complete_code}

pub returns-then-not-unique-clause-held : goal.returns-then-not-unique-clause-held
returns-then-not-unique-clause-held g c = λ m told own lists s.
    let d = c.args.defs.now in
    let i = c.args.i in
    let r = c.index-as_slice-i.result in
    let here = ap (λ (ks : List Key). slice_index_or ks i r) (sym c.as_slice.ensures) ∙ sym c.index-as_slice-i.is in
    let unique = unique_at d i r c.requires.key here ∙ ap (λ (k : Key). k.unique) c.index-as_slice-i.is in
    elim c.then-not-unique.branch [
      | then-not-unique-via-then-not-unique w ↦ held_plain d i c.args.pair.now.key (list_of lists i) (unique ∙ w.if-not-unique.true)
      | then-not-unique-via-else-not-unique+then-not-is_complete_code w ↦
          held_absent d i c.args.pair.now.key (list_of lists i)
          (ap is_complete (sym (front_again c.args.pair.now.key w.code.ensures.key) ∙ ap key_front (sym w.code.ensures.value)) ∙ sym w.is_complete_code.ensures ∙ w.if-not-is_complete_code.true)
    ]

pub returns-in_err-row-clause-search : goal.returns-in_err-row-clause-search
returns-in_err-row-clause-search g c = search_on g.F.Files.writable (g.F.Files.holds c.args.files.now) (g.F.Files.holds c.find.new.files) c.args.trees.now c.find.new.self c.requires.writable c.in_err-row.ensures.cache c.in_err-row.ensures.stand c.requires.kept

pub returns-clause-held : goal.returns-clause-held
returns-clause-held g c = λ m told own lists s.
    let d = c.args.defs.now in
    let i = c.args.i in
    let r = c.index-as_slice-i.result in
    let here = ap (λ (ks : List Key). slice_index_or ks i r) (sym c.as_slice.ensures) ∙ sym c.index-as_slice-i.is in
    let unique = unique_at d i r c.requires.key here ∙ ap (λ (k : Key). k.unique) c.index-as_slice-i.is ∙ c.if-not-unique.false in
    let whole = ap is_complete (sym (front_again c.args.pair.now.key c.code.ensures.key) ∙ ap key_front (sym c.code.ensures.value)) ∙ sym c.is_complete_code.ensures ∙ c.if-not-is_complete_code.false in
    c.is_some.ensures ∙ held_least d i c.args.pair.now.key (list_of lists i) c.in_ok-row.row unique whole (c.in_ok-row.ensures.least m told own lists s)

pub returns-clause-search : goal.returns-clause-search
returns-clause-search g c = search_on g.F.Files.writable (g.F.Files.holds c.args.files.now) (g.F.Files.holds c.find.new.files) c.args.trees.now c.find.new.self c.requires.writable c.in_ok-row.ensures.cache c.in_ok-row.ensures.stand c.requires.kept
