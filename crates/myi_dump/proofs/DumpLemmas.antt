-- What was written so far, what waits, and the lines of the rows that are left give the whole.
use Rattle.std.proofs.Common.{◌≡◌, ℕ, ◌+◌, false, List, [], ◌∷◌, ◌++◌, length, length-append, take, Option, Some, Result, Ok, Err, unwrap_or, sym, ap, subst, ◌∙◌, arith, append_assoc}
use Rattle.std.specs.Prelude.{OnOk, OnErr}
use Rattle.std.proofs.lemmas.List.{append-nil, take_all, take-append-le}
use Rattle.std.proofs.Math.Seq.{take-append-add}
use Rattle.myi_base.specs.Holding.{Holding, IfTold, bytes_of}
use Rattle.myi_base.specs.Output.{Appends, AppendsPart}
use Rattle.myi_base.specs.Ranges.{Range}
use Rattle.myi_defs.specs.declared.types.Defs.{Defs}
use Rattle.myi_pack.specs.Packed.{Values}
use Rattle.myi_pack.specs.Unpacking.{row_of}
use Rattle.myi_chain.specs.declared.piece.Piece.{Piece}
use Rattle.myi_chain.specs.declared.piece.ScanFault.{ScanFault}
use Rattle.myi_chain.specs.declared.piece.Wanted.TheVariants.{Rows}
use Rattle.myi_chain.specs.Chain.{ranges_at}
use Rattle.myi_chain.specs.Readable.{Row, rows_of}
use Rattle.myi_chain.specs.Pieces.{piece_bytes}
use Rattle.myi_chain.specs.ScanModel.{fresh_scan, IsSameScan, as_item, as_items}
use Rattle.myi_chain.proofs.CallerLemmas.{row_first}
use Rattle.myi_data.specs.Readable.{items_in, readable}
use Rattle.myi_data.specs.Scanning.{TableScan, items_ahead, rows_ahead, IsAsKnown, AfterTable}
use Rattle.myi_data.proofs.CallerLemmas.{fresh_ahead, fresh_known}
use Rattle.myi_dump.specs.RowLines.{row_line, row_lines}
use Rattle.myi_dump.specs.Dumping.{line_of, Reads, Moves}

-- ---- one row

-- what a call answered, and what it leaves
pub answered_of : (h : Option Holding) (old new : TableScan) (r : Result (Option (ℕ × Piece)) ScanFault) (o : Option (ℕ × Piece)) (x : ℕ × Piece) → r ≡ Ok o → o ≡ Some x → AfterTable Rows h old (as_items r) new → AfterTable Rows h old (Ok (Some (as_item x))) new
answered_of h old new r o x ok some leaves = subst (λ o. AfterTable Rows h old (as_items (Ok o)) new) some (subst (λ r. AfterTable Rows h old (as_items r) new) ok leaves)

abbrev made : ℕ → List ℕ → List Range → Row
made at bytes blocks = record { at = at; bytes = bytes; blocks = blocks }

-- the row that came first is of these parts
row_is : (r : Row) (at : ℕ) (bytes given : List ℕ) (blocks : List Range) → r.at ≡ at → given ≡ r.bytes → bytes ≡ given → blocks ≡ r.blocks → r ≡ made at bytes blocks
row_is r at bytes given blocks here same shows are =
    ap (λ x. made x r.bytes r.blocks) here ∙ ap (λ x. made at x r.blocks) (sym (shows ∙ same)) ∙ ap (λ x. made at bytes x) (sym are)

-- a row that was answered was read
pub reads : (d : Defs) (h : Option Holding) (old new : TableScan) (found : ℕ × Piece) (view : Values) (bytes was is : List ℕ) → AfterTable Rows h old (Ok (Some (as_item found))) new → bytes ≡ piece_bytes found.1 → row_of d bytes ≡ Some view → is ≡ was ++ line_of found.0 view → Reads d h old new was is
reads d h old new found view bytes was is answer shows read waits = record {
  row = made found.0 bytes (ranges_at new.blocks);
  waits = waits ∙ ap (λ v. was ++ line_of found.0 v) (sym (ap (λ o. unwrap_or o []) read));
  rises = answer.0.rises;
  within = answer.0.within;
  first = λ m told.
      let given = row_first (items_ahead old m) (items_ahead new m) found.0 found.1 old.blocks new.blocks (answer.0.told m told) in
      given.1 ∙ ap (λ q. q ∷ rows_ahead new m) (row_is given.0 found.0 bytes (piece_bytes found.1) (ranges_at new.blocks) given.2.0 given.2.1 shows given.2.2);
}

-- ---- parts of texts

-- a part of the first text is a part of both
part_first : (text more : List ℕ) (v : Option (List ℕ)) (b : List ℕ) → AppendsPart text v b → AppendsPart (text ++ more) v b
part_first text more v b part = (part.0, omega (arith, part.1, length-append text more), part.2 ∙ ap (λ l. Some (b ++ l)) (sym (take-append-le part.0 text more part.1)))

-- a part of the text behind it
part_second : (text more : List ℕ) (w v : Option (List ℕ)) (b : List ℕ) → Appends text w b → ((c : List ℕ) → w ≡ Some c → AppendsPart more v c) → AppendsPart (text ++ more) v b
part_second text more w v b first second =
    let q = second (b ++ text) first in
    (length text + q.0, omega (arith, q.1, length-append text more), q.2 ∙ ap Some (append_assoc b text (take q.0 more) ∙ ap (λ l. b ++ l) (sym (take-append-add text more q.0))))

-- a text is a part of itself
whole_part : (text : List ℕ) (v : Option (List ℕ)) (b : List ℕ) → Appends text v b → AppendsPart text v b
whole_part text v b all = (length text, omega arith, all ∙ ap (λ l. Some (b ++ l)) (sym (take_all (length text) text (omega arith))))

-- ---- the loop

-- something was written, and with what waits and the lines of the rows that are left it is the whole
abbrev pub Goes : Defs → TableScan → TableScan → List ℕ → Option (List ℕ) → Holding → List ℕ → Type 0
Goes d start now waiting w m b = (done : List ℕ) × Appends done w b × (done ++ (waiting ++ row_lines d (rows_ahead now m)) ≡ row_lines d (rows_ahead start m))

-- so it is, where the files and the output tell
abbrev pub Dumps : Defs → Option Holding → TableScan → TableScan → List ℕ → Option (List ℕ) → Option (List ℕ) → Type 0
Dumps d h start now waiting v w = IfTold h (λ m. IfTold v (Goes d start now waiting w m))

pub dumps_none : (d : Defs) (h : Option Holding) (start : TableScan) (waiting : List ℕ) (v : Option (List ℕ)) → waiting ≡ [] → Dumps d h start start waiting v v
dumps_none d h start waiting v none m told b was = ([], was ∙ ap Some (sym (append-nil b)), ap (λ l. l ++ row_lines d (rows_ahead start m)) none)

-- a row was read
pub dumps_read : (d : Defs) (h : Option Holding) (start now next : TableScan) (old new : List ℕ) (v w : Option (List ℕ)) → Dumps d h start now old v w → Reads d h now next old new → Dumps d h start next new v w
dumps_read d h start now next old new v w so_far read m told b was =
    let so = so_far m told b was in
    let rest : List ℕ = row_lines d (rows_ahead next m) in
    let more : new ++ rest ≡ old ++ row_lines d (rows_ahead now m) = ap (λ l. l ++ rest) read.waits ∙ append_assoc old (row_line d read.row) rest ∙ ap (λ rs. old ++ row_lines d rs) (sym (read.first m told)) in
    (so.0, so.1, ap (λ l. so.0 ++ l) more ∙ so.2)

-- a front of what waited was written
pub dumps_moved : (d : Defs) (h : Option Holding) (start now : TableScan) (old new : List ℕ) (v w x : Option (List ℕ)) → Dumps d h start now old v w → Moves old new w x → Dumps d h start now new v x
dumps_moved d h start now old new v w x so_far moved m told b was =
    let so = so_far m told b was in
    let rest : List ℕ = row_lines d (rows_ahead now m) in
    let more : moved.0 ++ (new ++ rest) ≡ old ++ rest = sym (append_assoc moved.0 new rest) ∙ ap (λ l. l ++ rest) (sym moved.1) in (
      so.0 ++ moved.0,
      moved.2 (b ++ so.0) so.1 ∙ ap Some (append_assoc b so.0 moved.0),
      append_assoc so.0 moved.0 (new ++ rest) ∙ ap (λ l. so.0 ++ l) more ∙ so.2,
    )

-- no row was left, and all that waited was written
pub dumped : (d : Defs) (h : Option Holding) (start now : TableScan) (waiting : List ℕ) (v w x : Option (List ℕ)) → Dumps d h start now waiting v w → IfTold h (λ m. rows_ahead now m ≡ []) → IfTold w (Appends waiting x) → IfTold h (λ m. IfTold v (Appends (row_lines d (rows_ahead start m)) x))
dumped d h start now waiting v w x so_far none said m told b was =
    let so = so_far m told b was in
    let all : so.0 ++ waiting ≡ row_lines d (rows_ahead start m) = ap (λ l. so.0 ++ l) (sym (append-nil waiting) ∙ ap (λ rs. waiting ++ row_lines d rs) (sym (none m told))) ∙ so.2 in
    said (b ++ so.0) so.1 ∙ ap Some (append_assoc b so.0 waiting ∙ ap (λ l. b ++ l) all)

-- it was cut off between two writes
pub part_so_far : (d : Defs) (h : Option Holding) (start now : TableScan) (waiting : List ℕ) (v w : Option (List ℕ)) → Dumps d h start now waiting v w → IfTold h (λ m. IfTold v (AppendsPart (row_lines d (rows_ahead start m)) w))
part_so_far d h start now waiting v w so_far m told b was =
    let so = so_far m told b was in
    subst (λ l. AppendsPart l w b) so.2 (part_first so.0 (waiting ++ row_lines d (rows_ahead now m)) w b (whole_part so.0 w b so.1))

-- it was cut off by a write
pub part_written : (d : Defs) (h : Option Holding) (start now : TableScan) (waiting : List ℕ) (v w x : Option (List ℕ)) → Dumps d h start now waiting v w → IfTold w (AppendsPart waiting x) → IfTold h (λ m. IfTold v (AppendsPart (row_lines d (rows_ahead start m)) x))
part_written d h start now waiting v w x so_far part m told b was =
    let so = so_far m told b was in
    subst (λ l. AppendsPart l x b) so.2 (part_second so.0 (waiting ++ row_lines d (rows_ahead now m)) w x b so.1 (λ c e. part_first waiting (row_lines d (rows_ahead now m)) x c (part c e)))

pub same_then : (a b c : TableScan) → IsSameScan a b → IsSameScan b c → IsSameScan a c
same_then a b c p q = record { name = q.name ∙ p.name; test = q.test ∙ p.test; extend = q.extend ∙ p.extend; end = omega (arith, p.end, q.end) }

-- ---- the whole file

-- a scan of the whole file that has read nothing goes by any file of that length
pub begins_known : (name x : List ℕ) (d : Defs) (end : ℕ) (scan : TableScan) (m : Holding) → scan ≡ fresh_scan name d false end → m name ≡ Some x → end ≡ length x → IsAsKnown scan m
begins_known name x d end scan m is file long =
    let here : bytes_of name m ≡ x = ap (λ o. unwrap_or o []) file in
    subst (λ (s : TableScan). IsAsKnown s m) (sym is) (fresh_known name d false end m (λ _. omega (arith, long, ap (λ (b : List ℕ). length b) here)))

-- it has all rows left
pub all_rows : (name x : List ℕ) (d : Defs) (end : ℕ) (scan : TableScan) (m : Holding) → scan ≡ fresh_scan name d false end → m name ≡ Some x → end ≡ length x → rows_ahead scan m ≡ readable d false x
unfolding readable
all_rows name x d end scan m is file long =
    let here : bytes_of name m ≡ x = ap (λ o. unwrap_or o []) file in
    ap (λ s. rows_ahead s m) is ∙ ap rows_of (fresh_ahead name d false end m) ∙ ap (λ b. rows_of (items_in d false (take end b))) here ∙ ap (λ b. rows_of (items_in d false b)) (take_all end x (omega (arith, long)))

pub same_file : (name x y : List ℕ) (n : ℕ) (m : Holding) → m name ≡ Some x → m name ≡ Some y → n ≡ length x → n ≡ length y
same_file name x y n m one two long = long ∙ ap (λ o. length (unwrap_or o [])) (sym one ∙ two)

pub on_ok_more : {A E : Type 0} (r : Result A E) (P Q : Type 0) → (P → Q) → OnOk r P → OnOk r Q
on_ok_more (Ok x) P Q f p = f p
on_ok_more (Err e) P Q f p = tt

pub on_err_more : {A E : Type 0} (r : Result A E) (P Q : Type 0) → (P → Q) → OnErr r P → OnErr r Q
on_err_more (Ok x) P Q f p = tt
on_err_more (Err e) P Q f p = f p

-- what holds anyway holds of an error
pub on_err : {A E : Type 0} (r : Result A E) (P : Type 0) → P → OnErr r P
on_err (Ok x) P p = tt
on_err (Err e) P p = p
