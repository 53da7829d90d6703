-- The two files that a repair leaves are a table of the kept rows.
use Rattle.std.proofs.Common.{◌≡◌, ℕ, Bool, false, List, [], length, map, Ok, refl, sym, ap, subst, ◌∙◌}
use Rattle.myi_defs.specs.declared.types.Defs.{Defs}
use Rattle.myi_defs.specs.Addressable.{is_addressable}
use Rattle.myi_defs.specs.ReadDefs.{read_defs}
use Rattle.myi_defs.proofs.CallerLemmas.{sound}
use Rattle.myi_data.specs.Readable.{readable}
use Rattle.myi_pair.specs.FirstRows.{first_rows, AreDistinct}
use Rattle.myi_pair.specs.Clean.{sized_row, IsClean}
use Rattle.myi_pair.specs.RebuiltBytes.{rebuilt_index}
use Rattle.myi_pair.specs.Rebuilt.{CanBeRebuilt, Rebuilt}
use Rattle.myi_pair.specs.RecoveredBytes.{kept, new_data, new_index}
use Rattle.myi_pair.specs.Recovered.{IsRepairable, Recovered}
use Rattle.myi_pair.proofs.FirstRowsLaws.{all_kept}
use Rattle.myi_pair.proofs.KeptLaws.{kept_each, kept_distinct, values_sized, data_of}
use Rattle.myi_pair.proofs.ShorterLaws.{shorter, reach_less}
use Rattle.myi_pair.proofs.RebuiltLaws.{is_rebuilt, same_defs}

pub index_of : (d : Defs) (extend : Bool) (x : List ℕ) (now : ℕ) → new_index d extend x now ≡ rebuilt_index d (kept d extend x) now
unfolding new_index
index_of d extend x now = refl

-- a table can be made of the kept rows
pub can_keep : (d : Defs) (extend : Bool) (x : List ℕ) (now : ℕ) → IsRepairable d x now → CanBeRebuilt d (kept d extend x) now
can_keep d extend x now can =
    let less = shorter d extend x can.defined can.bytes in
    record {
      defined = can.defined;
      header = can.header;
      storable = kept_each d extend x can.defined can.bytes;
      distinct = kept_distinct d extend x;
      reached = ap (λ (b : List ℕ). is_addressable d (length b)) (sym (data_of d extend x)) ∙ reach_less d (length x) (length (new_data d extend x)) (sound d can.defined) less can.reached;
      time = can.time;
    }

pub recovered : (d : Defs) (extend : Bool) (x : List ℕ) (now : ℕ) → IsRepairable d x now → Recovered d extend x now (new_data d extend x) (new_index d extend x now)
recovered d extend x now can = record {
  rebuilt = subst (λ (y : List ℕ). Rebuilt d (kept d extend x) now (new_data d extend x) y) (sym (index_of d extend x now))
      (subst (λ (e : List ℕ). Rebuilt d (kept d extend x) now e (rebuilt_index d (kept d extend x) now)) (sym (data_of d extend x)) (is_rebuilt d (kept d extend x) now (can_keep d extend x now can)));
  shorter = shorter d extend x can.defined can.bytes;
}

-- a clean table keeps all its rows

pub clean_kept : (d : Defs) (e y : List ℕ) → read_defs y ≡ Ok d → IsClean e y → kept d false e ≡ map (sized_row d) (readable d false e)
unfolding kept
clean_kept d e y read clean =
    subst (λ (a : Defs). first_rows a (map (sized_row a) (readable a false e)) ≡ map (sized_row a) (readable a false e)) (same_defs d clean.defs y read clean.read)
    (all_kept clean.defs (map (sized_row clean.defs) (readable clean.defs false e)) (subst (AreDistinct clean.defs []) (sym (values_sized clean.defs (readable clean.defs false e))) clean.distinct))
