-- Reading accepts exactly the grammar, and refuses at the first line outside.
use Rattle.std.proofs.Common.{◌≡◌, ℕ, suc, ◌+◌, ◌≤◌, ◌<◌, Bool, true, false, List, [], ◌∷◌, ◌++◌, length, take, drop, Option, Some, None, if◌then◌else◌, refl, sym, ap, subst, ◌∙◌, arith, append_assoc, inl, inr}
use Rattle.std.specs.Prelude.{nat_lt, codes, option_and_then}
use Rattle.std.specs.List.{AllByRecursion}
use Rattle.std.proofs.lemmas.Bool.{ltb-true, lt-ltb, cases_lt}
use Rattle.std.proofs.lemmas.List.{take-take, take-append-drop}
use Rattle.std.proofs.lemmas.Option.{same_Some}
use Rattle.myi_defs.specs.declared.types.RowFormat.{RowFormat}
use Rattle.myi_defs.specs.declared.types.RowFormat.TheVariants.{Static}
use Rattle.myi_defs.specs.declared.types.FieldKind.{FieldKind}
use Rattle.myi_defs.specs.declared.types.FieldKind.TheVariants.{Normal}
use Rattle.myi_defs.specs.declared.types.SegType.TheVariants as seg
use Rattle.myi_defs.specs.declared.header.SegItem.{SegItem}
use Rattle.myi_deftext.specs.declared.text.Line.{Line}
use Rattle.myi_deftext.specs.declared.text.Line.TheVariants as line
use Rattle.myi_deftext.specs.declared.text.LineKind.{LineKind}
use Rattle.myi_deftext.specs.declared.text.LineKind.TheVariants as kind
use Rattle.myi_deftext.specs.declared.text.Stage.{Stage}
use Rattle.myi_defs.specs.Layout.{most_fields, most_keys, most_segments}
use Rattle.myi_deftext.specs.Text.{words, is_decimal, value, number, format_of, kind_of, seg_of, two_words, field_line, seg_line, line_of, next, may_end, step, outside, said, start}
use Rattle.myi_deftext.specs.TextHeader.{leading}
use Rattle.myi_deftext.specs.Grammar.{FieldSaid, KeySaid, TableSaid, Says, EachSays, pointer_lines, field_lines, segment_lines, key_lines, table_lines, HasSegments, IsInLimits, Describe, AreText, IsFirstOutside}
use Rattle.myi_deftext.proofs.SaysLaws.{line_says, line_read}
use Rattle.myi_deftext.proofs.TextLemmas.{said-cons}

abbrev stage : LineKind → ℕ → ℕ → ℕ → Stage
stage last f n m = record { last = last; fields = f; keys = n; segments = m }

-- what lines say may stand behind a stage, and end a text
abbrev accepts : Option Stage → List Line → Bool
accepts None gs = false
accepts (Some s) [] = may_end s.last
accepts (Some s) (g ∷ gs) = accepts (next s g) gs

-- ---- the lines of a text and what they say

record Read (s : Stage) (ls : List (List ℕ)) : Type 0 where
  pub gs : List Line
  pub says : EachSays ls gs
  pub accepted : accepts (Some s) gs ≡ true

ends : (b : Bool) (n : ℕ) → (if b then None else Some n) ≡ None → b ≡ true
ends true n e = refl
ends false n e = absurd cc

bound : {A B : Type 0} (f : A → Option B) (o : Option A) (y : B) (P : Type 0) → ((x : A) → o ≡ Some x → f x ≡ Some y → P) → option_and_then f o ≡ Some y → P
bound f None y P go e = absurd cc
bound f (Some x) y P go e = go x refl e

joined : (s t : Stage) (l : List ℕ) (ls : List (List ℕ)) → step s l ≡ Some t → Read t ls → Read s (l ∷ ls)
unfolding step
joined s t l ls goes read = bound (next s) (line_of (words l)) t (Read s (l ∷ ls)) (λ g says to. record { gs = g ∷ read.gs; says = (line_says l g says, read.says); accepted = ap (λ (o : Option Stage). accepts o read.gs) to ∙ read.accepted }) goes

stepped : (s : Stage) (i : ℕ) (l : List ℕ) (ls : List (List ℕ)) → ((t : Stage) → outside (Some t) (i + 1) ls ≡ None → Read t ls) → (o : Option Stage) → step s l ≡ o → outside o (i + 1) ls ≡ None → Read s (l ∷ ls)
stepped s i l ls others None is e = absurd cc
stepped s i l ls others (Some t) is e = joined s t l ls is (others t e)

read_lines : (s : Stage) (i : ℕ) (ls : List (List ℕ)) → outside (Some s) i ls ≡ None → Read s ls
read_lines s i [] e = record { gs = []; says = tt; accepted = ends (may_end s.last) (i + 1) e }
read_lines s i (l ∷ ls) e = stepped s i l ls (λ t rest. read_lines t (i + 1) ls rest) (step s l) refl e

read_step : (s : Stage) (l : List ℕ) (g : Line) → Says l g → step s l ≡ next s g
unfolding step
read_step s l g says = ap (option_and_then (next s)) (line_read l g says)

stepped_back : (i : ℕ) (gs : List Line) (ls : List (List ℕ)) → ((t : Stage) → accepts (Some t) gs ≡ true → outside (Some t) (i + 1) ls ≡ None) → (o : Option Stage) → accepts o gs ≡ true → outside o (i + 1) ls ≡ None
stepped_back i gs ls others None e = absurd cc
stepped_back i gs ls others (Some t) e = others t e

stops : (s : Stage) (i : ℕ) (gs : List Line) (ls : List (List ℕ)) → EachSays ls gs → accepts (Some s) gs ≡ true → outside (Some s) i ls ≡ None
stops s i [] [] says e = rw e refl
stops s i [] (l ∷ ls) says e = absurd says
stops s i (g ∷ gs) [] says e = absurd says
stops s i (g ∷ gs) (l ∷ ls) says e =
    ap (λ (o : Option Stage). outside o (i + 1) ls) (read_step s l g says.0)
    ∙ stepped_back i gs ls (λ t rest. stops t (i + 1) gs ls says.1 rest) (next s g) e

-- ---- what is accepted is a table

record Gone (b : Bool) (s : Stage) (gs : List Line) : Type 0 where
  pub unclosed : b ≡ true
  pub accepted : accepts (Some s) gs ≡ true

gone : (b : Bool) (s : Stage) (gs : List Line) → accepts (if b then Some s else None) gs ≡ true → Gone b s gs
gone true s gs e = record { unclosed = refl; accepted = e }
gone false s gs e = absurd cc

-- segments of a key that has some already, and then keys
record KeysLeft (n m : ℕ) (gs : List Line) : Type 0 where
  pub segments : List SegItem
  pub keys : List KeySaid
  pub are : gs ≡ segment_lines segments ++ key_lines keys
  pub few_segments : m + length segments ≤ most_segments
  pub few_keys : n + length keys ≤ most_keys
  pub each : AllByRecursion HasSegments keys

more_segments : (f n m : ℕ) (g : SegItem) (gs : List Line) → KeysLeft n (m + 1) gs → KeysLeft n m (line.Seg g ∷ gs)
more_segments f n m g gs k = record {
  segments = g ∷ k.segments;
  keys = k.keys;
  are = ap (λ xs. line.Seg g ∷ xs) k.are;
  few_segments = omega (arith, k.few_segments);
  few_keys = k.few_keys;
  each = k.each;
}

more_keys : (n m : ℕ) (u : Bool) (g : SegItem) (gs : List Line) → m ≤ most_segments → KeysLeft (n + 1) 1 gs → KeysLeft n m (line.Key u ∷ line.Seg g ∷ gs)
more_keys n m u g gs few k = record {
  segments = [];
  keys = record { unique = u; segments = g ∷ k.segments } ∷ k.keys;
  are = ap (λ xs. line.Key u ∷ line.Seg g ∷ xs) k.are;
  few_segments = omega arith;
  few_keys = omega (arith, k.few_keys);
  each = (record { some_segments = omega arith; few_segments = omega (arith, k.few_segments) }, k.each);
}

keys_left : (f n m : ℕ) (gs : List Line) → n ≤ most_keys → m ≤ most_segments → accepts (Some (stage kind.Segments f n m)) gs ≡ true → KeysLeft n m gs
keys_left f n m [] few_keys few e = record { segments = []; keys = []; are = refl; few_segments = omega arith; few_keys = omega arith; each = tt }
keys_left f n m (line.Seg g ∷ gs) few_keys few e =
    let to = gone (nat_lt m most_segments) (stage kind.Segments f n (m + 1)) gs e in
    let below : m < most_segments = ltb-true _ _ to.unclosed in
    more_segments f n m g gs (keys_left f n (m + 1) gs few_keys (omega arith) to.accepted)
keys_left f n m (line.Key u ∷ line.Seg g ∷ gs) few_keys few e =
    let to = gone (nat_lt n most_keys) (stage kind.Key f (n + 1) 0) (line.Seg g ∷ gs) e in
    let below : n < most_keys = ltb-true _ _ to.unclosed in
    more_keys n m u g gs few (keys_left f (n + 1) 1 gs (omega arith) (omega arith) to.accepted)
keys_left f n m (line.Key u ∷ gs) few_keys few e =
    let no = (gone (nat_lt n most_keys) (stage kind.Key f (n + 1) 0) gs e).accepted in
    absurd cc
keys_left f n m (g ∷ gs) few_keys few e = absurd cc

-- fields, and then keys
record FieldsLeft (f : ℕ) (gs : List Line) : Type 0 where
  pub fields : List FieldSaid
  pub keys : List KeySaid
  pub are : gs ≡ field_lines fields ++ key_lines keys
  pub few_fields : f + length fields ≤ most_fields
  pub few_keys : length keys ≤ most_keys
  pub each : AllByRecursion HasSegments keys

more_fields : (f : ℕ) (k : FieldKind) (n : ℕ) (gs : List Line) → FieldsLeft (f + 1) gs → FieldsLeft f (line.Field k n ∷ gs)
more_fields f k n gs left = record {
  fields = record { kind = k; length = n } ∷ left.fields;
  keys = left.keys;
  are = ap (λ xs. line.Field k n ∷ xs) left.are;
  few_fields = omega (arith, left.few_fields);
  few_keys = left.few_keys;
  each = left.each;
}

first_key : (f : ℕ) (u : Bool) (g : SegItem) (gs : List Line) → f ≤ most_fields → KeysLeft 1 1 gs → FieldsLeft f (line.Key u ∷ line.Seg g ∷ gs)
first_key f u g gs few k = record {
  fields = [];
  keys = record { unique = u; segments = g ∷ k.segments } ∷ k.keys;
  are = ap (λ xs. line.Key u ∷ line.Seg g ∷ xs) k.are;
  few_fields = omega arith;
  few_keys = omega (arith, k.few_keys);
  each = (record { some_segments = omega arith; few_segments = omega (arith, k.few_segments) }, k.each);
}

fields_left : (f m : ℕ) (gs : List Line) → f ≤ most_fields → accepts (Some (stage kind.Fields f 0 m)) gs ≡ true → FieldsLeft f gs
fields_left f m [] few e = record { fields = []; keys = []; are = refl; few_fields = omega arith; few_keys = omega arith; each = tt }
fields_left f m (line.Field k n ∷ gs) few e =
    let to = gone (nat_lt f most_fields) (stage kind.Fields (f + 1) 0 m) gs e in
    let below : f < most_fields = ltb-true _ _ to.unclosed in
    more_fields f k n gs (fields_left (f + 1) m gs (omega arith) to.accepted)
fields_left f m (line.Key u ∷ line.Seg g ∷ gs) few e = first_key f u g gs few (keys_left f 1 1 gs (omega arith) (omega arith) e)
fields_left f m (line.Key u ∷ gs) few e = absurd cc
fields_left f m (g ∷ gs) few e = absurd cc

-- a whole text
of_fields : (r : RowFormat) (p : Option ℕ) (k : FieldKind) (n : ℕ) (gs : List Line) → FieldsLeft 1 gs → (t : TableSaid) × (line.Rows r ∷ (pointer_lines p ++ line.Field k n ∷ gs) ≡ table_lines t) × IsInLimits t
of_fields r p k n gs left = (
  record { format = r; pointer = p; fields = record { kind = k; length = n } ∷ left.fields; keys = left.keys },
  ap (λ xs. line.Rows r ∷ (pointer_lines p ++ line.Field k n ∷ xs)) left.are,
  record { some_fields = omega arith; few_fields = omega (arith, left.few_fields); few_keys = left.few_keys; segments = left.each },
)

accepted_table : (gs : List Line) → accepts (Some start) gs ≡ true → (t : TableSaid) × (gs ≡ table_lines t) × IsInLimits t
accepted_table [] e = absurd cc
accepted_table (line.Rows r ∷ []) e = absurd cc
accepted_table (line.Rows r ∷ line.Field k n ∷ gs) e = of_fields r None k n gs (fields_left 1 0 gs (omega arith) e)
accepted_table (line.Rows r ∷ line.Pointer p ∷ []) e = absurd cc
accepted_table (line.Rows r ∷ line.Pointer p ∷ line.Field k n ∷ gs) e = of_fields r (Some p) k n gs (fields_left 1 0 gs (omega arith) e)
accepted_table (line.Rows r ∷ line.Pointer p ∷ g ∷ gs) e = absurd cc
accepted_table (line.Rows r ∷ g ∷ gs) e = absurd cc
accepted_table (g ∷ gs) e = absurd cc

-- ---- a table is accepted

opened : (b : Bool) (s : Stage) (gs : List Line) → b ≡ true → accepts (Some s) gs ≡ true → accepts (if b then Some s else None) gs ≡ true
opened true s gs unclosed e = e
opened false s gs unclosed e = absurd cc

after_segments : (f n m : ℕ) (ss : List SegItem) (gs : List Line) → m + length ss ≤ most_segments → ((j : ℕ) → accepts (Some (stage kind.Segments f n j)) gs ≡ true) → accepts (Some (stage kind.Segments f n m)) (segment_lines ss ++ gs) ≡ true
after_segments f n m [] gs few on = on m
after_segments f n m (s ∷ ss) gs few on =
    opened (nat_lt m most_segments) (stage kind.Segments f n (m + 1)) (segment_lines ss ++ gs) (lt-ltb m most_segments (omega arith)) (after_segments f n (m + 1) ss gs (omega arith) on)

of_key : (f n : ℕ) (ss : List SegItem) (gs : List Line) → 0 < length ss → length ss ≤ most_segments → ((j : ℕ) → accepts (Some (stage kind.Segments f n j)) gs ≡ true) → accepts (Some (stage kind.Key f n 0)) (segment_lines ss ++ gs) ≡ true
of_key f n [] gs some few on = absurd (omega arith)
of_key f n (s ∷ ss) gs some few on = after_segments f n 1 ss gs (omega arith) on

keys_accepted : (f n : ℕ) (ks : List KeySaid) → n + length ks ≤ most_keys → AllByRecursion HasSegments ks → (j : ℕ) → accepts (Some (stage kind.Segments f n j)) (key_lines ks) ≡ true
keys_accepted f n [] few each j = refl
keys_accepted f n (k ∷ ks) few each j =
    opened (nat_lt n most_keys) (stage kind.Key f (n + 1) 0) (segment_lines k.segments ++ key_lines ks) (lt-ltb n most_keys (omega arith))
    (of_key f (n + 1) k.segments (key_lines ks) each.0.some_segments each.0.few_segments (keys_accepted f (n + 1) ks (omega arith) each.1))

keys_begun : (f m : ℕ) (ks : List KeySaid) → length ks ≤ most_keys → AllByRecursion HasSegments ks → accepts (Some (stage kind.Fields f 0 m)) (key_lines ks) ≡ true
keys_begun f m [] few each = refl
keys_begun f m (k ∷ ks) few each =
    of_key f 1 k.segments (key_lines ks) each.0.some_segments each.0.few_segments (keys_accepted f 1 ks (omega arith) each.1)

fields_accepted : (f m : ℕ) (fs : List FieldSaid) (gs : List Line) → f + length fs ≤ most_fields → ((j : ℕ) → accepts (Some (stage kind.Fields j 0 m)) gs ≡ true) → accepts (Some (stage kind.Fields f 0 m)) (field_lines fs ++ gs) ≡ true
fields_accepted f m [] gs few on = on f
fields_accepted f m (x ∷ fs) gs few on =
    opened (nat_lt f most_fields) (stage kind.Fields (f + 1) 0 m) (field_lines fs ++ gs) (lt-ltb f most_fields (omega arith)) (fields_accepted (f + 1) m fs gs (omega arith) on)

fields_begun : (p : Option ℕ) (fs : List FieldSaid) (gs : List Line) (r : RowFormat) → 0 < length fs → length fs ≤ most_fields → ((j : ℕ) → accepts (Some (stage kind.Fields j 0 0)) gs ≡ true) → accepts (Some start) (line.Rows r ∷ (pointer_lines p ++ (field_lines fs ++ gs))) ≡ true
fields_begun p [] gs r some few on = absurd (omega arith)
fields_begun None (x ∷ fs) gs r some few on = fields_accepted 1 0 fs gs (omega arith) on
fields_begun (Some p) (x ∷ fs) gs r some few on = fields_accepted 1 0 fs gs (omega arith) on

table_accepted : (t : TableSaid) → IsInLimits t → accepts (Some start) (table_lines t) ≡ true
table_accepted t is = fields_begun t.pointer t.fields (key_lines t.keys) t.format is.some_fields is.few_fields (λ j. keys_begun j 0 t.keys is.few_keys is.segments)

-- ---- both ways

pub in_grammar : (ls : List (List ℕ)) → outside (Some start) 0 ls ≡ None → AreText ls
in_grammar ls e =
    let read = read_lines start 0 ls e in
    let table = accepted_table read.gs read.accepted in
    (table.0, record { says = subst (EachSays ls) table.1 read.says; limits = table.2 })

pub in_grammar-read : (ls : List (List ℕ)) (t : TableSaid) → Describe ls t → outside (Some start) 0 ls ≡ None
in_grammar-read ls t d = stops start 0 (table_lines t) ls d.says (table_accepted t d.limits)

pub says_said : (ls : List (List ℕ)) (gs : List Line) → EachSays ls gs → said ls ≡ gs
says_said [] [] says = refl
says_said [] (g ∷ gs) says = absurd says
says_said (l ∷ ls) [] says = absurd says
says_said (l ∷ ls) (g ∷ gs) says = said-cons l ls g (line_read l g says.0) ∙ ap (λ xs. g ∷ xs) (says_said ls gs says.1)

-- ---- the first line outside

-- a stage that can be gone on from
abbrev IsOpen : LineKind → ℕ → ℕ → Type 0
IsOpen kind.Start f m = f < most_fields
IsOpen kind.Rows f m = f < most_fields
IsOpen kind.Pointer f m = f < most_fields
IsOpen kind.Fields f m = Unit {0}
IsOpen kind.Key f m = m < most_segments
IsOpen kind.Segments f m = Unit {0}

abbrev one_field : List ℕ
one_field = codes "field normal 1"

abbrev one_segment : List ℕ
one_segment = codes "seg text 0 1 8 0 0"

abbrev ending : LineKind → List (List ℕ)
ending kind.Start = codes "rows static" ∷ one_field ∷ []
ending kind.Rows = one_field ∷ []
ending kind.Pointer = one_field ∷ []
ending kind.Fields = []
ending kind.Key = one_segment ∷ []
ending kind.Segments = []

-- a stage is what its parts say
abbrev IsOpenStage : Stage → Type 0
IsOpenStage s = IsOpen s.last s.fields s.segments

gives : (b : Bool) (s t : Stage) → (if b then Some s else None) ≡ Some t → IsOpenStage s → IsOpenStage t
gives true s t e unclosed = subst IsOpenStage (same_Some s t e) unclosed
gives false s t e unclosed = absurd cc

open_next : (last : LineKind) (f n m : ℕ) (g : Line) (t : Stage) → IsOpen last f m → next (stage last f n m) g ≡ Some t → IsOpenStage t
open_next kind.Start f n m (line.Rows r) t unclosed e = subst IsOpenStage (same_Some (stage kind.Rows f n m) t e) unclosed
open_next kind.Rows f n m (line.Pointer p) t unclosed e = subst IsOpenStage (same_Some (stage kind.Pointer f n m) t e) unclosed
open_next last f n m (line.Rows r) t unclosed e = absurd cc
open_next last f n m (line.Pointer p) t unclosed e = absurd cc
open_next last f n m (line.Field k x) t unclosed e = gives _ (stage kind.Fields (f + 1) n m) t e tt
open_next last f n m (line.Key u) t unclosed e = gives _ (stage kind.Key f (n + 1) 0) t e (omega arith)
open_next last f n m (line.Seg s) t unclosed e = gives _ (stage kind.Segments f n (m + 1)) t e tt

open_step : (s : Stage) (l : List ℕ) (t : Stage) → IsOpenStage s → step s l ≡ Some t → IsOpenStage t
unfolding step
open_step s l t unclosed e = bound (next s) (line_of (words l)) t (IsOpenStage t) (λ g says to. open_next s.last s.fields s.keys s.segments g t unclosed to) e

-- lines that may follow a stage end the text
read_field : line_of (words one_field) ≡ Some (line.Field Normal 1)
unfolding line_of field_line kind_of number is_decimal value
read_field = refl

read_rows : line_of (words (codes "rows static")) ≡ Some (line.Rows Static)
unfolding line_of two_words format_of
read_rows = refl

the_segment : SegItem
the_segment = record { seg = Some seg.Text; language = 8; null_bit = 0; length = 1; start = 0; null_pos = 0 }

read_segment : line_of (words one_segment) ≡ Some (line.Seg the_segment)
unfolding the_segment line_of seg_line seg_of number is_decimal value
read_segment = refl

ending_says : (last : LineKind) → List Line
ending_says kind.Start = line.Rows Static ∷ line.Field Normal 1 ∷ []
ending_says kind.Rows = line.Field Normal 1 ∷ []
ending_says kind.Pointer = line.Field Normal 1 ∷ []
ending_says kind.Fields = []
ending_says kind.Key = line.Seg the_segment ∷ []
ending_says kind.Segments = []

ending_each : (last : LineKind) → EachSays (ending last) (ending_says last)
unfolding ending_says
ending_each kind.Start = (line_says (codes "rows static") (line.Rows Static) read_rows, (line_says one_field (line.Field Normal 1) read_field, tt))
ending_each kind.Rows = (line_says one_field (line.Field Normal 1) read_field, tt)
ending_each kind.Pointer = (line_says one_field (line.Field Normal 1) read_field, tt)
ending_each kind.Fields = tt
ending_each kind.Key = (line_says one_segment (line.Seg the_segment) read_segment, tt)
ending_each kind.Segments = tt

ending_accepted : (last : LineKind) (f n m : ℕ) → IsOpen last f m → accepts (Some (stage last f n m)) (ending_says last) ≡ true
unfolding ending_says
ending_accepted kind.Start f n m unclosed = opened (nat_lt f most_fields) (stage kind.Fields (f + 1) n m) [] (lt-ltb f most_fields unclosed) refl
ending_accepted kind.Rows f n m unclosed = opened (nat_lt f most_fields) (stage kind.Fields (f + 1) n m) [] (lt-ltb f most_fields unclosed) refl
ending_accepted kind.Pointer f n m unclosed = opened (nat_lt f most_fields) (stage kind.Fields (f + 1) n m) [] (lt-ltb f most_fields unclosed) refl
ending_accepted kind.Fields f n m unclosed = refl
ending_accepted kind.Key f n m unclosed = opened (nat_lt m most_segments) (stage kind.Segments f n (m + 1)) [] (lt-ltb m most_segments unclosed) refl
ending_accepted kind.Segments f n m unclosed = refl

closes : (s : Stage) → IsOpenStage s → (i : ℕ) → outside (Some s) i (ending s.last) ≡ None
closes s unclosed i = stops s i (ending_says s.last) (ending s.last) (ending_each s.last) (ending_accepted s.last s.fields s.keys s.segments unclosed)

-- reading from a stage on refuses line n, behind i lines
record IsRefused (s : Stage) (i : ℕ) (ls : List (List ℕ)) (n : ℕ) : Type 0 where
  pub before : ℕ
  pub number : n ≡ i + before + 1
  pub inside : before ≤ length ls
  pub more : List (List ℕ)
  pub begins : (j : ℕ) → outside (Some s) j (take before ls ++ more) ≡ None
  pub stays : before < length ls → (after : List (List ℕ)) (j : ℕ) → outside (Some s) j (take (suc before) ls ++ after) ≡ Some (j + before + 1)

at_end : (s : Stage) (i n : ℕ) → IsOpenStage s → outside (Some s) i [] ≡ Some n → IsRefused s i [] n
at_end s i n unclosed e = record {
  before = 0;
  number = omega (arith, last (may_end s.last) e);
  inside = omega arith;
  more = ending s.last;
  begins = closes s unclosed;
  stays = λ none after j. absurd (omega arith);
}
  where
    last : (b : Bool) → (if b then None else Some (i + 1)) ≡ Some n → i + 1 ≡ n
    last true e = absurd cc
    last false e = same_Some (i + 1) n e

here : (s : Stage) (i n : ℕ) (l : List ℕ) (ls : List (List ℕ)) → IsOpenStage s → step s l ≡ None → i + 1 ≡ n → IsRefused s i (l ∷ ls) n
here s i n l ls unclosed none e = record {
  before = 0;
  number = omega arith;
  inside = omega arith;
  more = ending s.last;
  begins = closes s unclosed;
  stays = λ some after j. ap (λ (o : Option Stage). outside o (j + 1) after) none ∙ ap Some (let same : j + 1 ≡ j + 0 + 1 = omega arith in same);
}

later : (s t : Stage) (i n : ℕ) (l : List ℕ) (ls : List (List ℕ)) → step s l ≡ Some t → IsRefused t (i + 1) ls n → IsRefused s i (l ∷ ls) n
later s t i n l ls goes r = record {
  before = suc r.before;
  number = omega (arith, r.number);
  inside = omega (arith, r.inside);
  more = r.more;
  begins = λ j. ap (λ (o : Option Stage). outside o (j + 1) (take r.before ls ++ r.more)) goes ∙ r.begins (j + 1);
  stays = λ some after j.
      ap (λ (o : Option Stage). outside o (j + 1) (take (suc r.before) ls ++ after)) goes
      ∙ r.stays (omega arith) after (j + 1)
      ∙ ap Some (let same : j + 1 + r.before + 1 ≡ j + suc r.before + 1 = omega arith in same);
}

refused_by : (s : Stage) (i n : ℕ) (l : List ℕ) (ls : List (List ℕ)) → IsOpenStage s → ((t : Stage) → IsOpenStage t → outside (Some t) (i + 1) ls ≡ Some n → IsRefused t (i + 1) ls n) → (o : Option Stage) → step s l ≡ o → outside o (i + 1) ls ≡ Some n → IsRefused s i (l ∷ ls) n
refused_by s i n l ls unclosed others None is e = here s i n l ls unclosed is (same_Some (i + 1) n e)
refused_by s i n l ls unclosed others (Some t) is e = later s t i n l ls is (others t (open_step s l t unclosed is) e)

refused : (s : Stage) (i n : ℕ) (ls : List (List ℕ)) → IsOpenStage s → outside (Some s) i ls ≡ Some n → IsRefused s i ls n
refused s i n [] unclosed e = at_end s i n unclosed e
refused s i n (l ∷ ls) unclosed e = refused_by s i n l ls unclosed (λ t to rest. refused t (i + 1) n ls to rest) (step s l) refl e

pub first_outside : (ls : List (List ℕ)) (n : ℕ) → outside (Some start) 0 ls ≡ Some n → IsFirstOutside ls n
first_outside ls n e =
    let r = refused start 0 n ls (omega arith) e in
    record {
      before = r.before;
      number = omega (arith, r.number);
      inside = r.inside;
      begins = (r.more, in_grammar (take r.before ls ++ r.more) (r.begins 0));
      outside = λ within begun.
          let same : n ≡ suc r.before = omega (arith, r.number) in
          let ends = in_grammar-read (take n ls ++ begun.0) begun.1.0 begun.1.1 in
          let goes : outside (Some start) 0 (take n ls ++ begun.0) ≡ Some (0 + r.before + 1) = ap (λ k. outside (Some start) 0 (take k ls ++ begun.0)) same ∙ r.stays (omega arith) begun.0 0 in
          absurd (cc (ends, goes));
      early = λ all text.
          let ends = in_grammar-read ls text.0 text.1 in
          absurd (cc (ends, e));
    }

-- ---- lines describe one table, and have one first line outside

fields_in : List Line → List FieldSaid
fields_in [] = []
fields_in (line.Field k n ∷ gs) = record { kind = k; length = n } ∷ fields_in gs
fields_in (g ∷ gs) = fields_in gs

keys_in : List Line → List KeySaid
keys_in [] = []
keys_in (line.Key u ∷ gs) = record { unique = u; segments = leading gs } ∷ keys_in gs
keys_in (g ∷ gs) = keys_in gs

pub no_leading : (ks : List KeySaid) → leading (key_lines ks) ≡ []
no_leading [] = refl
no_leading (k ∷ ks) = refl

pub all_leading : (ss : List SegItem) (gs : List Line) → leading gs ≡ [] → leading (segment_lines ss ++ gs) ≡ ss
all_leading [] gs none = none
all_leading (s ∷ ss) gs none = ap (λ xs. s ∷ xs) (all_leading ss gs none)

no_keys : (ss : List SegItem) (gs : List Line) → keys_in (segment_lines ss ++ gs) ≡ keys_in gs
unfolding keys_in
no_keys [] gs = refl
no_keys (s ∷ ss) gs = no_keys ss gs

keys_again : (ks : List KeySaid) → keys_in (key_lines ks) ≡ ks
unfolding keys_in
keys_again [] = refl
keys_again (k ∷ ks) =
    let first = all_leading k.segments (key_lines ks) (no_leading ks) in
    let others = no_keys k.segments (key_lines ks) ∙ keys_again ks in
    ap (λ ss. record { unique = k.unique; segments = ss } ∷ keys_in (segment_lines k.segments ++ key_lines ks)) first ∙ ap (λ xs. k ∷ xs) others

keys_behind : (fs : List FieldSaid) (gs : List Line) → keys_in (field_lines fs ++ gs) ≡ keys_in gs
unfolding keys_in
keys_behind [] gs = refl
keys_behind (f ∷ fs) gs = keys_behind fs gs

no_fields : (ss : List SegItem) (gs : List Line) → fields_in (segment_lines ss ++ gs) ≡ fields_in gs
unfolding fields_in
no_fields [] gs = refl
no_fields (s ∷ ss) gs = no_fields ss gs

no_fields_in : (ks : List KeySaid) → fields_in (key_lines ks) ≡ []
unfolding fields_in
no_fields_in [] = refl
no_fields_in (k ∷ ks) = no_fields k.segments (key_lines ks) ∙ no_fields_in ks

fields_again : (fs : List FieldSaid) (gs : List Line) → fields_in gs ≡ [] → fields_in (field_lines fs ++ gs) ≡ fs
unfolding fields_in
fields_again [] gs none = none
fields_again (f ∷ fs) gs none = ap (λ xs. f ∷ xs) (fields_again fs gs none)

format_in : List Line → RowFormat
format_in (line.Rows r ∷ gs) = r
format_in gs = Static

pointer_in : List Line → Option ℕ
pointer_in (r ∷ line.Pointer n ∷ gs) = Some n
pointer_in gs = None

table_in : List Line → TableSaid
table_in gs = record { format = format_in gs; pointer = pointer_in gs; fields = fields_in gs; keys = keys_in gs }

no_pointer : (r : RowFormat) (fs : List FieldSaid) (ks : List KeySaid) → pointer_in (line.Rows r ∷ (field_lines fs ++ key_lines ks)) ≡ None
unfolding pointer_in
no_pointer r [] [] = refl
no_pointer r [] (k ∷ ks) = refl
no_pointer r (f ∷ fs) ks = refl

table_again : (t : TableSaid) → table_in (table_lines t) ≡ t
unfolding table_in format_in fields_in keys_in pointer_in
table_again t = by_pointer t.format t.pointer t.fields t.keys
  where
    same : (p q : Option ℕ) (fs gs : List FieldSaid) (ks ls : List KeySaid) (r : RowFormat) → p ≡ q → fs ≡ gs → ks ≡ ls → ◌≡◌ {A = TableSaid} (record { format = r; pointer = p; fields = fs; keys = ks }) (record { format = r; pointer = q; fields = gs; keys = ls })
    same p q fs gs ks ls r a b c = cc

    by_pointer : (r : RowFormat) (p : Option ℕ) (fs : List FieldSaid) (ks : List KeySaid) → table_in (line.Rows r ∷ (pointer_lines p ++ (field_lines fs ++ key_lines ks))) ≡ record { format = r; pointer = p; fields = fs; keys = ks }
    by_pointer r None fs ks = same _ None _ fs _ ks r (no_pointer r fs ks) (fields_again fs (key_lines ks) (no_fields_in ks)) (keys_behind fs (key_lines ks) ∙ keys_again ks)
    by_pointer r (Some n) fs ks = same (Some n) (Some n) _ fs _ ks r refl (fields_again fs (key_lines ks) (no_fields_in ks)) (keys_behind fs (key_lines ks) ∙ keys_again ks)

pub one_table : (ls : List (List ℕ)) (t u : TableSaid) → Describe ls t → Describe ls u → t ≡ u
one_table ls t u d e =
    let one = says_said ls (table_lines t) d.says in
    let other = says_said ls (table_lines u) e.says in
    sym (table_again t) ∙ ap table_in (sym one ∙ other) ∙ table_again u

pub text_or_outside : (ls : List (List ℕ)) (n : ℕ) → AreText ls → IsFirstOutside ls n → ⊥
text_or_outside ls n text first = elim (cases_lt first.before (length ls)) [
  | inl below ↦ first.outside (omega (arith, first.number)) (drop n ls, subst AreText (sym (take-append-drop n ls)) text)
  | inr past ↦ first.early (omega (arith, first.inside)) text
]

not_below : (ls : List (List ℕ)) (m n : ℕ) → IsFirstOutside ls m → IsFirstOutside ls n → m < n → ⊥
not_below ls m n a b less =
    let within : m ≤ b.before = omega (arith, b.number) in
    let split : take b.before ls ≡ take m ls ++ drop m (take b.before ls) = sym (take-append-drop m (take b.before ls)) ∙ ap (λ xs. xs ++ drop m (take b.before ls)) (take-take m b.before ls within) in
    let more = b.begins in
    a.outside (omega (arith, b.inside)) (drop m (take b.before ls) ++ more.0, subst AreText (ap (λ xs. xs ++ more.0) split ∙ append_assoc (take m ls) (drop m (take b.before ls)) more.0) more.1)

pub one_line : (ls : List (List ℕ)) (m n : ℕ) → IsFirstOutside ls m → IsFirstOutside ls n → m ≡ n
one_line ls m n a b = elim (cases_lt m n) [
  | inl less ↦ absurd (not_below ls m n a b less)
  | inr most ↦ elim (cases_lt n m) [
    | inl less ↦ absurd (not_below ls n m b a less)
    | inr least ↦ omega arith
  ]
]
