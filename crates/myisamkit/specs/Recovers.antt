-- What a repair of one table that can be repaired comes to, with its status.
use Rattle.std.specs.Prelude.{◌≡◌, ◌⊎◌, ℕ, List, [], ◌∷◌}
use Rattle.myi_base.specs.Holding.{Holding}
use Rattle.myi_defs.specs.declared.types.Defs.{Defs}
use Rattle.myi_pair.specs.RecoveredBytes.{new_data}
use Rattle.myi_check.specs.Checking.{Finds}
use Rattle.myi_repair.specs.Names.{names_for}
use Rattle.myi_repair.specs.Opening.{IsTable}
use Rattle.myisamkit.specs.declared.status.Status.{Status}
use Rattle.myisamkit.specs.declared.status.Status.TheVariants as status
use Rattle.myisamkit.specs.declared.options.TreeWork.{TreeWork}
use Rattle.myisamkit.specs.declared.options.Mode.TheVariants.{Recover}
use Rattle.myisamkit.specs.declared.options.Options.{Options}
use Rattle.myisamkit.specs.Words.{Request, chk}
use Rattle.myisamkit.specs.Turns.{replaced, is_row_by_row, MakesIndex}

-- the table's two files are what a repair is to leave of the old ones, its working files are gone, and all others as before;
-- nothing is wrong with it
pub record IsRepaired (o : Options) (now : ℕ) (name : List ℕ) (defs : Defs) (d : List ℕ) (m n : Holding) : Type 0 where
  pub index : List ℕ
  pub files : n ≡ replaced (names_for name) (new_data defs o.extend d) index m
  -- recovered, and where trees were not changed row by row the defined bytes
  pub made : MakesIndex (is_row_by_row o.mode) o now defs d index
  -- a check of it finds nothing
  pub sound : Finds name [] n

-- A table that can be repaired, by a readable header and a data file within reach of its row pointers, is repaired, but with
-- these two statuses; the output may fail afterwards. So it is however its trees are made.
abbrev pub Recovers : Request → ℕ → Status → Holding → Holding → Type 0
Recovers request now s m n = (o : Options) (trees : TreeWork) (name : List ℕ) (defs : Defs) (d : List ℕ) → request ≡ chk o (name ∷ []) → o.mode ≡ Recover trees → IsTable (names_for name) defs d m
    → (s ≡ status.FileFault) ⊎ ((s ≡ status.Memory) ⊎ (((s ≡ status.Ok) ⊎ (s ≡ status.SinkFault)) × IsRepaired o now name defs d m n))
