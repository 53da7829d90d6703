-- How many words a step needs.
use Rattle.std.proofs.Common.{◌≡◌, ◌+◌, ◌/◌, length, Option, Some, None, sym, ap, ◌∙◌}
use Rattle.myi_defs.specs.declared.types.Defs.{Defs}
use Rattle.myi_pack.specs.Packed.{Values}
use Rattle.myi_pack.specs.Spelling.{spelling}
use Rattle.myi_script.specs.declared.types.Act.{Act}
use Rattle.myi_script.specs.declared.types.Act.TheVariants as act
use Rattle.myi_rounds.specs.Inserts.{inserted_row}
use Rattle.myi_rounds.specs.Words.{row_words}
use Rattle.myi_rounds.proofs.InsertLemmas.{inserts_none}

pub words_of_none : (d : Defs) (o : Option Act) → ◌≡◌ {A = Option Act} None o → row_words d (inserted_row o) ≡ 0
words_of_none d o is = ap (λ (p : Option Act). row_words d (inserted_row p)) (sym is)

pub words_of_other : (d : Defs) (o : Option Act) (a : Act) → ◌≡◌ {A = Option Act} (Some a) o → ((row : Values) → a ≡ act.Insert row → ⊥) → row_words d (inserted_row o) ≡ 0
words_of_other d o a is other = ap (λ (p : Option Act). row_words d (inserted_row p)) (sym is) ∙ ap (row_words d) (inserts_none a other)

pub words_of_row : (d : Defs) (o : Option Act) (a : Act) (row : Values) → ◌≡◌ {A = Option Act} (Some a) o → a ≡ act.Insert row → row_words d (inserted_row o) ≡ (length (spelling d row) + 7) / 8 + 1
words_of_row d o a row is insert = ap (λ (p : Option Act). row_words d (inserted_row p)) (sym is) ∙ ap (λ (b : Act). row_words d (inserted_row (Some b))) insert
