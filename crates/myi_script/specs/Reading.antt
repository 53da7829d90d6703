-- How the lines of a script are read.
use Rattle.std.specs.Prelude.{ℕ, ◌+◌, ◌-◌, ◌*◌, ◌^◌, Bool, true, false, ◌&&◌, not, ◌==◌, nat_lt, nat_le, if◌then◌else◌, List, [], ◌∷◌, length, take, drop, slice_index, codes, bytes_eq, Option, Some, None, option_map, option_and_then}
use Rattle.std.specs.List.{list_all, prefix_len}
use Rattle.myi_base.specs.Numbers.{low_num_bytes}
use Rattle.myi_defs.specs.declared.types.Segment.{Segment}
use Rattle.myi_defs.specs.declared.types.Defs.{Defs}
use Rattle.myi_deftext.specs.Text.{number}
use Rattle.myi_keys.specs.declared.values.KeySeg.{KeySeg}
use Rattle.myi_keys.specs.declared.values.KeySeg.TheVariants.{Absent, Weights}
use Rattle.myi_keys.specs.Weights.{weights}
use Rattle.myi_locks.specs.declared.steps.LockKind.TheVariants.{Read, ReadLocal, Write}
use Rattle.myi_pack.specs.Spelling.{fits}
use Rattle.myi_script.specs.declared.types.Act.{Act}
use Rattle.myi_script.specs.declared.types.Act.TheVariants as act
use Rattle.myi_script.specs.declared.form.Form.{Form}
use Rattle.myi_script.specs.Values.{fits_form, filled, greatest, depth, segment_form}
use Rattle.myi_script.specs.Grammar.{highest, row_forms, segments_of}

-- ---- a value

abbrev pub digit_of : ℕ → Option ℕ
digit_of b = if nat_le 48 b && nat_le b 57 then Some (b - 48) else (if nat_le 65 b && nat_le b 70 then Some (b - 65 + 10) else None)

abbrev pub byte_of : Option ℕ → Option ℕ → Option ℕ
byte_of (Some x) (Some y) = Some (x * 16 + y)
byte_of a b = None

abbrev pub byte_before : Option ℕ → Option (List ℕ) → Option (List ℕ)
byte_before (Some x) (Some v) = Some (x ∷ v)
byte_before a b = None

abbrev pub unhex : List ℕ → Option (List ℕ)
unhex [] = Some []
unhex (a ∷ []) = None
unhex (a ∷ b ∷ rest) = byte_before (byte_of (digit_of a) (digit_of b)) (unhex rest)

abbrev pub fitting : Form → List ℕ → Option (List ℕ)
fitting f v = if fits_form f (length v) then Some v else None

abbrev pub hex_of : Form → List ℕ → Option (List ℕ)
hex_of f w = option_and_then (fitting f) (unhex w)

abbrev pub is_printable : ℕ → Bool
is_printable b = nat_le 32 b && nat_lt b 127 && not (b == 39)

-- after the first quote
abbrev pub quoted_of : Form → List ℕ → Option (List ℕ)
quoted_of f cs =
    let t = take (length cs - 1) cs in
    if nat_lt 0 (length cs) && (slice_index cs (length cs - 1) == 39) && list_all is_printable t && nat_le (length t) f.most then Some (filled f t) else None

abbrev pub positive_by : ℕ → List ℕ → Option ℕ → Option (List ℕ)
positive_by width d None = None
positive_by width d (Some most) = option_map (λ n. low_num_bytes width n) (number 0 most d)

abbrev pub positive_of : Form → List ℕ → Option (List ℕ)
positive_of f d = positive_by f.most d (greatest f.numbers f.most)

abbrev pub negative_by : ℕ → List ℕ → Option ℕ → Option (List ℕ)
negative_by width d None = None
negative_by width d (Some most) = option_map (λ n. low_num_bytes width (256 ^ width - n)) (number 1 most d)

abbrev pub negative_of : Form → List ℕ → Option (List ℕ)
negative_of f d = negative_by f.most d (depth f.numbers f.most)

-- after `#`
abbrev pub number_of : Form → List ℕ → Option (List ℕ)
number_of f [] = None
number_of f (c ∷ d) = if c == 45 then negative_of f d else positive_of f (c ∷ d)

abbrev pub empty_of : Form → Option (List ℕ)
empty_of f = if f.fixed then None else Some []

abbrev pub is_nil : List ℕ → Bool
is_nil [] = true
is_nil (c ∷ cs) = false

-- the content of a value
unfoldable pub value_of : Form → List ℕ → Option (List ℕ)
value_of f [] = None
value_of f (c ∷ cs) =
    if c == 39 then quoted_of f cs
    else if c == 35 then number_of f cs
    else if (c == 45) && is_nil cs then empty_of f
    else hex_of f (c ∷ cs)

-- ---- words

abbrev pub goes_on : ℕ → Bool
goes_on b = not (b == 32) && not (b == 44)

-- how many bytes the first value has: to its second quote, or to the first space or comma
abbrev pub value_len : List ℕ → ℕ
value_len [] = 0
value_len (c ∷ cs) = if c == 39 then 2 + prefix_len (λ b. not (b == 39)) cs else prefix_len goes_on (c ∷ cs)

-- the first value, which this byte stands before, and what stands after it
unfoldable pub next_value : ℕ → List ℕ → Option (List ℕ × List ℕ)
next_value mark [] = None
next_value mark (c ∷ cs) = if c == mark then Some (take (value_len cs) cs, drop (value_len cs) cs) else None

-- what stands after these bytes
unfoldable pub after : List ℕ → List ℕ → Option (List ℕ)
after word t = if bytes_eq (take (length word) t) word then Some (drop (length word) t) else None

-- ---- rows

abbrev pub before_values : Option (List ℕ) → Option (List (List ℕ)) → Option (List (List ℕ))
before_values (Some v) (Some row) = Some (v ∷ row)
before_values v row = None

abbrev pub then_values : Form → Option (List ℕ × List ℕ) → (List ℕ → Option (List (List ℕ))) → Option (List (List ℕ))
then_values f None rest = None
then_values f (Some p) rest = before_values (value_of f p.0) (rest p.1)

unfoldable pub values_of : List Form → List ℕ → Option (List (List ℕ))
values_of [] text = if is_nil text then Some [] else None
values_of (f ∷ fs) text = then_values f (next_value 32 text) (λ more. values_of fs more)

abbrev pub fitting_row : Defs → List (List ℕ) → Option (List (List ℕ))
fitting_row d row = if fits d row then Some row else None

unfoldable pub row_of : Defs → List ℕ → Option (List (List ℕ))
row_of d text = option_and_then (fitting_row d) (values_of (row_forms d) text)

-- ---- ranges

abbrev pub weighed : Segment → Option (List ℕ) → Option KeySeg
weighed s None = None
weighed s (Some v) = Some (Weights (weights s v))

unfoldable pub part_of : Segment → List ℕ → Option KeySeg
part_of s w = if bytes_eq w (codes "null") then Some Absent else weighed s (value_of (segment_form s) w)

abbrev pub before_parts : Option KeySeg → Option (List KeySeg × List ℕ) → Option (List KeySeg × List ℕ)
before_parts (Some k) (Some p) = Some (k ∷ p.0, p.1)
before_parts k p = None

abbrev pub then_parts : Segment → Option (List ℕ × List ℕ) → (List ℕ → Option (List KeySeg × List ℕ)) → Option (List KeySeg × List ℕ)
then_parts s None rest = None
then_parts s (Some p) rest = before_parts (part_of s p.0) (rest p.1)

-- the parts of a bound, the first of which this byte stands before, and what stands after them
unfoldable pub parts_of : ℕ → List Segment → List ℕ → Option (List KeySeg × List ℕ)
parts_of mark [] text = Some ([], text)
parts_of mark (s ∷ ss) text = then_parts s (next_value mark text) (λ more. parts_of 44 ss more)

abbrev pub some_parts : Option (List KeySeg × List ℕ) → Option (Option (List KeySeg) × List ℕ)
some_parts None = None
some_parts (Some p) = Some (Some p.0, p.1)

-- the bound that a space stands before, and what stands after it
unfoldable pub bound_of : List Segment → List ℕ → Option (Option (List KeySeg) × List ℕ)
bound_of ss text = if bytes_eq (take 2 text) (codes " *") then Some (None, drop 2 text) else some_parts (parts_of 32 ss text)

abbrev pub ranged : ℕ → Option (List KeySeg) → Option (Option (List KeySeg) × List ℕ) → Option Act
ranged k from None = None
ranged k from (Some p) = if is_nil p.1 then Some (act.Over (record { key = k; from = from; to = p.0 })) else None

abbrev pub with_from : List Segment → ℕ → Option (Option (List KeySeg) × List ℕ) → Option Act
with_from ss k None = None
with_from ss k (Some p) = ranged k p.0 (bound_of ss p.1)

abbrev pub with_key : Defs → List ℕ → Option ℕ → Option Act
with_key d text None = None
with_key d text (Some k) = with_from (segments_of d k) k (bound_of (segments_of d k) text)

abbrev pub range_with : Defs → List ℕ → Option Act
range_with d t =
    let n = prefix_len (λ b. not (b == 32)) t in
    with_key d (drop n t) (number 1 (length d.keys) (take n t))

unfoldable pub range_of : Defs → List ℕ → Option Act
range_of d t = option_and_then (range_with d) (after (codes "range ") t)

-- ---- statements

-- a statement without values
unfoldable pub word_of : List ℕ → Option Act
word_of t =
    if bytes_eq t (codes "scan") then Some act.Scan
    else if bytes_eq t (codes "lock read") then Some (act.Lock Read)
    else if bytes_eq t (codes "lock read local") then Some (act.Lock ReadLocal)
    else if bytes_eq t (codes "lock write") then Some (act.Lock Write)
    else if bytes_eq t (codes "unlock") then Some act.Unlock
    else if bytes_eq t (codes "stats") then Some act.Stats
    else if bytes_eq t (codes "end") then Some act.End
    else None

unfoldable pub insert_of : Defs → List ℕ → Option Act
insert_of d t = option_map (λ row. act.Insert row) (option_and_then (row_of d) (after (codes "insert") t))

abbrev pub updated : Option ℕ → Option (List (List ℕ)) → Option Act
updated (Some at) (Some row) = Some (act.Update at row)
updated a b = None

abbrev pub update_with : Defs → List ℕ → Option Act
update_with d t =
    let n = prefix_len (λ b. not (b == 32)) t in
    updated (number 0 highest (take n t)) (row_of d (drop n t))

unfoldable pub update_of : Defs → List ℕ → Option Act
update_of d t = option_and_then (update_with d) (after (codes "update ") t)

unfoldable pub delete_of : List ℕ → Option Act
delete_of t = option_map (λ at. act.Delete at) (option_and_then (number 0 highest) (after (codes "delete ") t))

abbrev pub or_else : Option Act → Option Act → Option Act
or_else None more = more
or_else (Some a) more = Some a

-- a statement that a list of tables knows none of
unfoldable pub place_of : Bool → Defs → List ℕ → Option Act
place_of merge d t = if merge then None else or_else (update_of d t) (delete_of t)

unfoldable pub statement_of : Bool → Defs → List ℕ → Option Act
statement_of merge d t = or_else (word_of t) (or_else (insert_of d t) (or_else (range_of d t) (place_of merge d t)))

abbrev pub with_session : ℕ → Option Act → Option (ℕ × Act)
with_session n None = None
with_session n (Some a) = Some (n, a)

unfoldable pub line_of : Bool → Defs → List ℕ → Option (ℕ × Act)
line_of merge d [] = None
line_of merge d (a ∷ []) = None
line_of merge d (a ∷ b ∷ []) = None
line_of merge d (a ∷ b ∷ c ∷ text) = if (a == 83) && nat_le 49 b && nat_le b 57 && (c == 32) then with_session (b - 48) (statement_of merge d text) else None
