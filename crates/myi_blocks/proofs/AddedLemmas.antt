-- What a row adds to a dynamic file, and what changes of rows write.
use Rattle.std.proofs.Common.{◌≡◌, ℕ, List, ◌++◌, Option, ap, sym, subst, ◌∙◌}
use Rattle.myi_base.specs.Holding.{Holding, Told, bytes_of}
use Rattle.myi_base.proofs.CallerLemmas.{told_more}
use Rattle.myi_defs.specs.declared.types.RowFormat.{RowFormat}
use Rattle.myi_defs.specs.declared.types.RowFormat.TheVariants.{Dynamic}
use Rattle.myi_pack.specs.Packed.{Values}
use Rattle.myi_pack.specs.Spelling.{spelling}
use Rattle.myi_dellist.specs.Appending.{Appends, AppendsNew}
use Rattle.myi_dellist.specs.FreeList.{ListState}
use Rattle.myi_dellist.specs.Freed.{FreesRow}
use Rattle.myi_dellist.specs.Replacing.{RewritesRow}
use Rattle.myi_state.specs.Adding.{packed_at_end, added_bytes}
use Rattle.myi_slots.specs.SlotFile.{SlotFile, Adds, AddsNew}
use Rattle.myi_blocks.specs.BlockFile.{list_in}

block_adds : (f g : SlotFile) (values : Values) (m n : Holding) → f.defs.format ≡ Dynamic → Appends (list_in f) (list_in g) (spelling f.defs values) m n → Adds f g values m n
unfolding added_bytes
block_adds f g values m n dynamic a = record {
  bytes = a.0 ∙ ap (λ (k : RowFormat). bytes_of f.name m ++ packed_at_end k f.counts.length (spelling f.defs values)) (sym dynamic);
  first = a.1;
}

-- a row behind the end
pub end-adds : (f g : SlotFile) (values : Values) (row : List ℕ) (old new : Option Holding) → f.defs.format ≡ Dynamic → row ≡ spelling f.defs values → Told old new (Appends (list_in f) (list_in g) row) → Told old new (Adds f g values)
end-adds f g values row old new dynamic packed t =
    told_more old new (Appends (list_in f) (list_in g) (spelling f.defs values)) (Adds f g values) (subst (λ (y : List ℕ). Told old new (Appends (list_in f) (list_in g) y)) packed t) (λ m n held a. block_adds f g values m n dynamic a)

-- the same where nothing is deleted
pub new-adds : (f g : SlotFile) (values : Values) (row : List ℕ) (old new : Option Holding) → f.defs.format ≡ Dynamic → row ≡ spelling f.defs values → Told old new (AppendsNew (list_in f) (list_in g) row) → Told old new (AddsNew f g values)
new-adds f g values row old new dynamic packed t =
    told_more old new (AppendsNew (list_in f) (list_in g) (spelling f.defs values)) (AddsNew f g values) (subst (λ (y : List ℕ). Told old new (AppendsNew (list_in f) (list_in g) y)) packed t) (λ m n held a none. block_adds f g values m n dynamic (a none))

-- of two lists that are the same
pub gone-told : (old new : Option Holding) (l k lf kf : ListState) (at : ℕ) → l ≡ lf → k ≡ kf → Told old new (FreesRow l k at) → Told old new (FreesRow lf kf at)
gone-told old new l k lf kf at same then t = subst (λ (x : ListState). Told old new (FreesRow lf x at)) then (subst (λ (x : ListState). Told old new (FreesRow x k at)) same t)

pub other-told : (old new : Option Holding) (l k lf kf : ListState) (at : ℕ) (row : List ℕ) → l ≡ lf → k ≡ kf → Told old new (RewritesRow l k at row) → Told old new (RewritesRow lf kf at row)
other-told old new l k lf kf at row same then t = subst (λ (x : ListState). Told old new (RewritesRow lf x at row)) then (subst (λ (x : ListState). Told old new (RewritesRow x k at row)) same t)
