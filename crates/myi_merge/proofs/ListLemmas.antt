-- The file of a list, read whole.
use Rattle.std.proofs.Common.{◌≡◌, ℕ, List, [], take, Option, Some, None, unwrap_or, refl, sym, ap, ◌∙◌, arith}
use Rattle.std.proofs.lemmas.List.{take_all}
use Rattle.myi_base.specs.Holding.{Holding, Measures, IsFront}
use Rattle.myi_mergelist.specs.declared.list.ListFault.{ListFault}
use Rattle.myi_mergelist.specs.declared.list.ListFault.TheVariants as list
use Rattle.myi_mergelist.specs.MergeList.{IsNoList}
use Rattle.myi_merge.specs.Loading.{list_file, of_list, RefusesList, TellsOfList}

pub text_is : (file front : List ℕ) (m : Holding) (size : Option ℕ) (n : ℕ) → size ≡ Some n → Measures (m file) size → IsFront file n front m → m file ≡ Some front
text_is file front m None n is measured read = absurd cc
text_is file front m (Some k) n is measured read =
    let same : k ≡ n = ap (λ o. unwrap_or o 0) is in
    let all : take n measured.0 ≡ measured.0 = take_all n measured.0 (omega (arith, measured.2)) in
    measured.1 ∙ ap Some (sym (read ∙ ap (λ o. take n (unwrap_or o [])) measured.1 ∙ all))

-- why the text of a list is refused
pub no_list : (name bytes : List ℕ) (m : Holding) (e : ListFault) → m (list_file name) ≡ Some bytes → (e ≡ list.List → IsNoList bytes) → RefusesList name (of_list e) m
no_list name bytes m list.List there none = (bytes, there, none refl)
no_list name bytes m list.Memory there none = tt

pub list_tells : (name : List ℕ) (e : ListFault) → TellsOfList name (of_list e)
list_tells name list.List = tt
list_tells name list.Memory = tt
