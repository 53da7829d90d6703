use Rattle.std.proofs.Common.{rules, ◌≡◌, true, false, sym, ◌∙◌}
use Rattle.std.specs.Bool.{Decides}
use Rattle.std.proofs.lemmas.Slice.Eq.{slice_eq-Decides}
use Rattle.myi_defs.specs.declared.types.Field.{Field}
use Rattle.myi_merge.proofs.LikeLemmas.{decides_then, decides_else, field_decides}
use Rattle.myi_merge.proofs.loading.is_like.Goals.{then-eq, else-eq}
use Rattle.myi_merge.proofs.loading.is_like.Goals as goal

pub returns-then-eq-2 : goal.returns-then-eq-2
returns-then-eq-2 c =
    let one = c.args.one.now in
    let other = c.args.other.now in
    let format : Decides c.eq.result (one.format ≡ other.format) = search rules in
    let both : Decides c.if-eq.value ((one.format ≡ other.format) × (one.fields ≡ other.fields)) = elim c.if-eq.branch [
      | then-eq w ↦ decides_then _ _ _ format w.if-eq.true (rw (sym w.as_slice.ensures, sym w.as_slice-then-eq.ensures) (slice_eq-Decides (λ (a : Field) (b : Field). field_decides _ a b (search rules)) w.as_slice.result.now w.as_slice-then-eq.result.now w.eq-then-eq.result w.eq-then-eq.ensures)) w.value-is
      | else-eq w ↦ decides_else _ _ format w.if-eq.false (w.value-is ∙ w.if-eq.false)
    ] in
    let first = both.0 c.if-eq-2.true in (
      λ is. record {
        format = first.0;
        fields = first.1;
        keys = sym c.as_slice-then-eq-2.ensures ∙ c.have_like_keys.ensures.0 is ∙ c.as_slice-then-eq-2-2.ensures;
      },
      λ like. c.have_like_keys.ensures.1 (c.as_slice-then-eq-2.ensures ∙ like.keys ∙ sym c.as_slice-then-eq-2-2.ensures),
    )

pub returns-else-eq-2 : goal.returns-else-eq-2
returns-else-eq-2 c =
    let one = c.args.one.now in
    let other = c.args.other.now in
    let format : Decides c.eq.result (one.format ≡ other.format) = search rules in
    let both : Decides c.if-eq.value ((one.format ≡ other.format) × (one.fields ≡ other.fields)) = elim c.if-eq.branch [
      | then-eq w ↦ decides_then _ _ _ format w.if-eq.true (rw (sym w.as_slice.ensures, sym w.as_slice-then-eq.ensures) (slice_eq-Decides (λ (a : Field) (b : Field). field_decides _ a b (search rules)) w.as_slice.result.now w.as_slice-then-eq.result.now w.eq-then-eq.result w.eq-then-eq.ensures)) w.value-is
      | else-eq w ↦ decides_else _ _ format w.if-eq.false (w.value-is ∙ w.if-eq.false)
    ] in
    (λ is. let no : false ≡ true = sym c.if-eq-2.false ∙ is in absurd cc, λ like. both.1 (like.format, like.fields))
