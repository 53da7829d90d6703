use Rattle.std.proofs.Common.{◌≡◌, ◌∙◌, ◌==◌, List, ℕ, Bor, Some, None, Err, map, ap, subst}
use Rattle.std.specs.List.{slice_split}
use Rattle.std.proofs.lemmas.Result.{err_from_is_err_and}
use Rattle.myi_deftext.specs.Text.{outside, lines, start}
use Rattle.myi_deftext.proofs.text.read_lines.Goals as goal

pub returns-in_err-said-clause-outside : goal.returns-in_err-said-clause-outside
returns-in_err-said-clause-outside c = λ n same.
    let p = err_from_is_err_and c.from_residual-in_err-said.result c.from_residual-in_err-said.ensures.1 in
    let pieces = c.in_ok-lines.ensures in
    let whole : map (λ (l : Bor (List ℕ)). l.now) c.deref.result.now ≡ lines c.args.text.now =
    ap (map (λ (l : Bor (List ℕ)). l.now)) c.deref.ensures.value ∙ pieces ∙ ap (slice_split (λ b. b == 10)) c.without_end.ensures in
    let error : c.followed.result ≡ Err (Rattle.myi_deftext.specs.declared.text.LineFault.TheVariants.Line n) = cc (c.in_err-said.was, p.1, p.2, same) in
    subst (λ ls. outside (Some start) 0 ls ≡ Some n) whole (c.followed.ensures.outside n error)

pub returns-clause-inside : goal.returns-clause-inside
returns-clause-inside c =
    let pieces = c.in_ok-lines.ensures in
    let whole : map (λ (l : Bor (List ℕ)). l.now) c.deref.result.now ≡ lines c.args.text.now =
    ap (map (λ (l : Bor (List ℕ)). l.now)) c.deref.ensures.value ∙ pieces ∙ ap (slice_split (λ b. b == 10)) c.without_end.ensures in
    let inside = c.in_ok-said.ensures.inside in
    subst (λ ls. outside (Some start) 0 ls ≡ None) whole inside
