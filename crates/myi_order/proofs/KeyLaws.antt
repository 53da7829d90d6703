-- A key is said to be missing only where its number is none.
use Rattle.std.proofs.Common.{◌≡◌, ◌⊎◌, inl, inr, ℕ, ◌<◌, ◌≤◌, Bool, true, false, ◌&&◌, length, Result, Err, IfErr, sym, ap, subst, ◌∙◌, arith, refl}
use Rattle.std.specs.Prelude.{nat_le, nat_lt}
use Rattle.std.proofs.lemmas.Bool.Decides.{nat_tests}
use Rattle.myi_defs.specs.declared.types.Defs.{Defs}
use Rattle.myi_opening.specs.declared.fault.TableFault.{TableFault}
use Rattle.myi_opening.specs.declared.fault.TableFault.TheVariants as table
use Rattle.myi_order.specs.declared.fault.OrderFault.{OrderFault}
use Rattle.myi_order.specs.declared.fault.OrderFault.TheVariants.{NoKey, Damaged, File, Memory}
use Rattle.myi_order.specs.Faults.{order_fault, CutsOff, LacksKey}
use Rattle.myi_order.specs.Sorting.{has_key}

pub err_lacks : {T : Type 0} (key : ℕ) (r : Result T OrderFault) (f : OrderFault) → r ≡ Err f → LacksKey key f → IfErr r (LacksKey key)
err_lacks key r f e lacks = rw e lacks

pub memory_lacks : (key : ℕ) (f : OrderFault) → f ≡ Memory → LacksKey key f
memory_lacks key f e = λ keys is. let same : Memory ≡ NoKey keys = sym e ∙ is in absurd cc

of_table : (key : ℕ) (e : TableFault) → LacksKey key (order_fault e)
of_table key (table.Absent f) = λ keys is. absurd cc
of_table key (table.Def f) = λ keys is. absurd cc
of_table key table.File = λ keys is. absurd cc
of_table key table.Memory = λ keys is. absurd cc

pub table_lacks : (key : ℕ) (e : TableFault) (f : OrderFault) → f ≡ order_fault e → LacksKey key f
table_lacks key e f same = λ keys is. of_table key e keys (sym same ∙ is)

pub damaged_lacks : (key : ℕ) (found : Rattle.myi_pair.specs.declared.finding.Finding.Finding) → LacksKey key (Damaged found)
damaged_lacks key found = λ keys is. absurd cc

cut_lacks : (key : ℕ) (f : OrderFault) → CutsOff f → LacksKey key f
cut_lacks key f (inl e) = λ keys is. let same : File ≡ NoKey keys = sym e ∙ is in absurd cc
cut_lacks key f (inr e) = memory_lacks key f e

pub cut_off_lacks : {T : Type 0} (key : ℕ) (r : Result T OrderFault) → IfErr r CutsOff → IfErr r (LacksKey key)
cut_off_lacks key (Rattle.std.proofs.Common.Ok x) cut = tt
cut_off_lacks key (Err f) cut = cut_lacks key f cut

none_by : (key keys : ℕ) (a b : Bool) → nat_lt 0 key ≡ a → nat_le key keys ≡ b → (a && b) ≡ false → (key ≡ 0) ⊎ (keys < key)
none_by key keys true true one other is = absurd cc
none_by key keys true false one other is = inr (grind (arith, nat_tests, other))
none_by key keys false b one other is = inl (grind (arith, nat_tests, one))

pub missing_lacks : (d : Defs) (key : ℕ) (f : OrderFault) → f ≡ NoKey (length d.keys) → has_key d key ≡ false → LacksKey key f
missing_lacks d key f e none = λ keys is.
    let same : NoKey (length d.keys) ≡ NoKey keys = sym e ∙ is in
    let count : length d.keys ≡ keys = cc in
    subst (λ (n : ℕ). (key ≡ 0) ⊎ (n < key)) count (none_by key (length d.keys) (nat_lt 0 key) (nat_le key (length d.keys)) refl refl none)
