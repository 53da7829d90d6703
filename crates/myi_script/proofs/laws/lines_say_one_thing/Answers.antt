use Rattle.std.proofs.Common.{◌≡◌, [], Ok, sym, ◌∙◌}
use Rattle.myi_deftext.specs.Text.{lines}
use Rattle.myi_script.proofs.LineLemmas.{line_back}
use Rattle.myi_script.proofs.ScriptLemmas.{same_line, lines_back}
use Rattle.myi_script.proofs.SoundLemmas.{have_segments}
use Rattle.myi_script.proofs.laws.lines_say_one_thing.Goals as goal

pub returns-clause-line : goal.returns-clause-line
returns-clause-line c = λ m d l s t a b sound one two. same_line m d l s t a b (have_segments d sound) (line_back m d l s a (have_segments d sound) one) two

pub returns-clause-script : goal.returns-clause-script
returns-clause-script c = λ m d text said other sound one two.
    let e : Ok said ≡ Ok other = sym (lines_back m d [] 1 (lines text) said (have_segments d sound) one) ∙ lines_back m d [] 1 (lines text) other (have_segments d sound) two in cc
