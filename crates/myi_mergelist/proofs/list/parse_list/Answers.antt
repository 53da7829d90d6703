use Rattle.std.proofs.Common.{◌≡◌, List, ℕ, map, ap, sym, ◌∙◌, arith, None, length, Ok, subst, Bor, bytes_eq}
use Rattle.std.specs.List.{filter, IsDistinct}
use Rattle.myi_mergelist.specs.MergeList.{is_name, names, lines}
use Rattle.myi_mergelist.specs.Reading.{method_of}
use Rattle.myi_mergelist.proofs.MethodLemmas.{method_read}
use Rattle.myi_mergelist.proofs.NameLemmas.{names_found, is_list, none_is_no_list, many_are_no_list, repeat_is_no_list, length_shown}
use Rattle.myi_mergelist.proofs.list.parse_list.Goals.{then-is_empty-via-then-is_empty, then-is_empty-via-else-is_empty+then-len-gt-MOST_NAMES, then-is_empty-via-else-is_empty+else-len-gt-MOST_NAMES+in_ok-has_repeat+then-branch}
use Rattle.myi_mergelist.proofs.list.parse_list.Goals as goal

pub returns-then-is_empty-clause-outside : goal.returns-then-is_empty-clause-outside
returns-then-is_empty-clause-outside c = λ e.
    let bytes = c.args.bytes.now in
    let shown = map (λ s. s.now) c.in_ok-names.names.items in
    let found : shown ≡ names bytes = names_found bytes c.in-Ok.text.now c.in_ok-lines.lines.items c.in_ok-names.names.items c.in-Ok.ensures.cases.0 c.in_ok-lines.ensures (c.in_ok-names.ensures ∙ ap (filter (λ s. is_name s.now)) c.deref.ensures.value) in
    let long : length shown ≡ c.in_ok-names.names.len = length_shown (λ s. s.now) c.in_ok-names.names.items c.in_ok-names.names.len (sym c.in_ok-names.names.ok.0) in
    elim c.then-is_empty.branch [
      | then-is_empty-via-then-is_empty w ↦ none_is_no_list bytes shown found (grind (arith, long, w.if-is_empty, c.is_empty.ensures))
      | then-is_empty-via-else-is_empty+then-len-gt-MOST_NAMES w ↦ many_are_no_list bytes shown found (grind (arith, long, w.if-len-gt-MOST_NAMES, w.len.ensures))
      | then-is_empty-via-else-is_empty+else-len-gt-MOST_NAMES+in_ok-has_repeat+then-branch w ↦ repeat_is_no_list bytes shown found (λ once. w.has_repeat.ensures.alike (w.in_ok-has_repeat.was ∙ ap (λ b. Ok b) w.if-branch.true) (subst (λ (l : List (Bor (List ℕ))). IsDistinct bytes_eq (map (λ s. s.now) l)) (sym w.deref-else-len-gt-MOST_NAMES.ensures.value) once))
    ]

pub returns-clause-inside : goal.returns-clause-inside
returns-clause-inside c =
    let bytes = c.args.bytes.now in
    let shown = map (λ s. s.now) c.in_ok-names.names.items in
    let found : shown ≡ names bytes = names_found bytes c.in-Ok.text.now c.in_ok-lines.lines.items c.in_ok-names.names.items c.in-Ok.ensures.cases.0 c.in_ok-lines.ensures (c.in_ok-names.ensures ∙ ap (filter (λ s. is_name s.now)) c.deref.ensures.value) in
    let long : length shown ≡ c.in_ok-names.names.len = length_shown (λ s. s.now) c.in_ok-names.names.items c.in_ok-names.names.len (sym c.in_ok-names.names.ok.0) in
    is_list bytes shown _ _ c.in-Ok.ensures.cases.1 found (c.in_ok-owned.ensures ∙ ap (map (λ s. s.now)) c.deref-2.ensures.value) (grind (arith, long, c.if-is_empty.false, c.is_empty.ensures)) (grind (arith, long, c.if-len-gt-MOST_NAMES.false, c.len.ensures))
    (subst (λ (l : List (Bor (List ℕ))). IsDistinct bytes_eq (map (λ s. s.now) l)) c.deref-else-len-gt-MOST_NAMES.ensures.value (c.has_repeat.ensures.apart (c.in_ok-has_repeat.was ∙ ap (λ b. Ok b) c.if-branch.false)))
    (method_read (lines bytes) _ (sym (c.method_of.ensures ∙ ap (method_of None) (ap (map (λ s. s.now)) c.deref-3.ensures.value ∙ c.in_ok-lines.ensures ∙ ap lines c.in-Ok.ensures.cases.0))))
