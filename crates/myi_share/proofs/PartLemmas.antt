-- The inserter and the readers of a sharing, as they are made.
use Rattle.std.proofs.Common.{◌≡◌, ℕ, List, [], ◌∷◌, ◌++◌, All, Option, Some, None, refl, sym, ap, subst, ◌∙◌}
use Rattle.std.proofs.lemmas.List.Elements.{All-append, All-cons, All-nil}
use Rattle.myi_base.specs.Holding.{Holding}
use Rattle.myi_pack.specs.Packed.{Values}
use Rattle.myi_table.specs.Table.{OpenTable, HoldState, IsKept, StillHolds}
use Rattle.myi_tail.specs.Seats.{TailId, TailReader, IsNew}
use Rattle.myi_readers.specs.declared.reader.TableReader.{TableReader}
use Rattle.myi_inserter.specs.declared.inserter.TableInserter.{TableInserter}
use Rattle.myi_share.specs.Sharing.{Sharing, IsInserterOf, IsReaderOf, sharing_of}

pub one_more : {A : Type 0} (P : A → Type 0) (xs all : List A) (x : A) → all ≡ xs ++ x ∷ [] → All P xs → P x → All P all
one_more {A = A} P xs all x more old new = subst (λ (l : List A). All P l) (sym more) (All-append P xs (x ∷ []) old (All-cons P x [] new (All-nil P)))

-- a sharing of a table, at a tail
abbrev pub sharing_at : OpenTable → ℕ → TailId → Sharing
sharing_at table number tail = record { table = table; tail = tail; number = number }

pub new_reader : (table : OpenTable) (number : ℕ) (tail : TailId) (seat : TailReader) (was told objects : Option Holding) (r : TableReader) → IsNew tail seat → was ≡ told → r.seat ≡ seat
    → IsReaderOf (sharing_at table number seat.tail) was objects r → IsReaderOf (sharing_at table number tail) told objects r × IsNew tail r.seat
new_reader table number tail seat was told objects r new same is of = (
  subst (λ (o : Option Holding). IsReaderOf (sharing_at table number tail) o objects r) same (subst (λ (t : TailId). IsReaderOf (sharing_at table number t) was objects r) new.of_tail of),
  subst (IsNew tail) (sym is) new,
)

-- ---- the sharing of an inserter

same_sharing : (table : OpenTable) (number : ℕ) (tail : TailId) (i : TableInserter) → i.appender.tail ≡ tail → i.number ≡ number → sharing_at table number tail ≡ sharing_of table i
same_sharing table number tail i same_tail same_number =
    ap (λ (n : ℕ). sharing_at table n tail) (sym same_number) ∙ ap (sharing_at table i.number) (sym same_tail)

pub of_its_sharing : (table : OpenTable) (number : ℕ) (tail : TailId) (was told objects : Option Holding) (i : TableInserter) (rows : List Values) → told ≡ was → IsInserterOf (sharing_at table number tail) was objects i rows → IsInserterOf (sharing_of table i) told objects i rows
of_its_sharing table number tail was told objects i rows same of =
    subst (λ (s : Sharing). IsInserterOf s told objects i rows) (same_sharing table number tail i of.tail of.number) (subst (λ (o : Option Holding). IsInserterOf (sharing_at table number tail) o objects i rows) (sym same) of)

pub of_that_sharing : (table : OpenTable) (number : ℕ) (tail : TailId) (was told objects : Option Holding) (i : TableInserter) (r : TableReader) → told ≡ was → i.appender.tail ≡ tail → i.number ≡ number → IsReaderOf (sharing_at table number tail) was objects r → IsReaderOf (sharing_of table i) told objects r
of_that_sharing table number tail was told objects i r same same_tail same_number of =
    subst (λ (s : Sharing). IsReaderOf s told objects r) (same_sharing table number tail i same_tail same_number) (subst (λ (o : Option Holding). IsReaderOf (sharing_at table number tail) o objects r) (sym same) of)

-- ---- the table

pub still_kept : (told next : Option Holding) (old new : OpenTable) → old.broken ≡ None → IsKept told old → StillHolds told next old new → (told ≡ None → next ≡ None) → IsKept next new
still_kept None next old new whole kept still untold = λ broken n is. absurd (let bad : None ≡ Some n = sym (untold refl) ∙ is in cc)
still_kept (Some m) next old new whole kept still untold = λ broken n is.
    let s = kept whole m refl in
    let h = still m refl s.0 s.1 in
    (s.0, subst (HoldState new s.0) (let same : Some h.0 ≡ Some n = sym h.1 ∙ is in cc) h.2)
