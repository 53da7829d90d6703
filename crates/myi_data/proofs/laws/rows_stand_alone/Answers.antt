use Rattle.std.proofs.Common.{◌≡◌, ℕ, List, length, refl, sym, ap, ◌∙◌}
use Rattle.myi_defs.specs.declared.types.RowFormat.TheVariants.{Dynamic}
use Rattle.myi_defs.specs.declared.types.Defs.{Defs}
use Rattle.myi_defs.specs.Sound.{IsSound}
use Rattle.myi_pack.specs.Spelling.{spelling}
use Rattle.myi_data.specs.Stored.{SizedRow, Share, stored_by, stored, stored_size, IsStorable}
use Rattle.myi_data.proofs.AloneLemmas.{group_alone, stored_alone}
use Rattle.myi_data.proofs.StandLemmas.{stored_long, stored_some}
use Rattle.myi_data.proofs.laws.rows_stand_alone.Goals as goal

stored_is : (d : Defs) (row : SizedRow) → stored d 0 row ≡ stored_by d.format 0 row.sizes (spelling d row.values)
unfolding stored
stored_is d row = refl

size_is : (d : Defs) (row : SizedRow) → IsSound d → IsStorable d row → stored_size d row ≡ length (stored_by d.format 0 row.sizes (spelling d row.values))
size_is d row s can = sym (stored_long d row s can 0) ∙ ap (λ (b : List ℕ). length b) (stored_is d row)

pub returns : goal.returns
returns c = record {
  sized = λ d at row s can. stored_long d row s can at;
  one = λ f sizes n short. ap (λ (g : List Share). length g) (group_alone f sizes n short);
  slot = λ at sizes b. refl;
  block = λ at sizes b short. stored_alone Dynamic at sizes b (λ _. short);
  few = stored_some;
  size = size_is;
}
