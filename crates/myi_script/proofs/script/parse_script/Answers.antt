use Rattle.std.proofs.Common.{◌==◌, map, ap, sym, Ok, Err, ◌∙◌}
use Rattle.std.specs.List.{slice_split}
use Rattle.myi_script.proofs.ScriptLemmas.{found, refused}
use Rattle.myi_script.proofs.SoundLemmas.{have_segments}
use Rattle.myi_script.proofs.script.parse_script.Goals as goal

pub returns-clause-inside : goal.returns-clause-inside
returns-clause-inside c =
    found c.args.merge c.args.defs.now c.args.text.now _ _
    (ap (map (λ s. s.now)) c.deref.ensures.value ∙ c.in_ok-lines.ensures ∙ ap (slice_split (λ b. b == 10)) c.without_end.ensures) (c.in_ok-said.ensures.said ∙ ap (λ q. Ok q) (sym c.new.ensures))

pub returns-in_err-said-clause-outside : goal.returns-in_err-said-clause-outside
returns-in_err-said-clause-outside c = λ k e.
    refused c.args.merge c.args.defs.now c.args.text.now _ k (have_segments c.args.defs.now c.requires)
    (ap (map (λ s. s.now)) c.deref.ensures.value ∙ c.in_ok-lines.ensures ∙ ap (slice_split (λ b. b == 10)) c.without_end.ensures)
    (c.in_err-said.ensures.outside k (ap (λ q. Err q) (sym (rw e at c.from_residual-in_err-said.ensures.1))))
