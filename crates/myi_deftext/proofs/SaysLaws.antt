-- What a line says, by the grammar and as it is read.
use Rattle.std.proofs.Common.{◌≡◌, ℕ, ◌≤◌, Bool, true, false, List, [], ◌∷◌, length, Option, Some, None, if◌then◌else◌, refl, sym, ap, subst, ◌∙◌, arith}
use Rattle.std.specs.Prelude.{◌&&◌, nat_le, codes, option_map, option_and_then, bytes_eq}
use Rattle.std.proofs.lemmas.Bool.{leb-true, le-leb}
use Rattle.std.proofs.lemmas.Option.{same_Some}
use Rattle.std.proofs.lemmas.Slice.Eq.{bytes_eq-Decides}
use Rattle.myi_defs.specs.declared.types.RowFormat.{RowFormat}
use Rattle.myi_defs.specs.declared.types.RowFormat.TheVariants.{Static, Dynamic}
use Rattle.myi_defs.specs.declared.types.FieldKind.{FieldKind}
use Rattle.myi_defs.specs.declared.types.FieldKind.TheVariants.{Normal, SkipEndspace, SkipPrespace, SkipZero, Blob, Varchar}
use Rattle.myi_defs.specs.declared.types.SegType.{SegType}
use Rattle.myi_defs.specs.declared.types.SegType.TheVariants as seg
use Rattle.myi_defs.specs.declared.header.SegItem.{SegItem}
use Rattle.myi_deftext.specs.declared.text.Line.{Line}
use Rattle.myi_deftext.specs.declared.text.Line.TheVariants as line
use Rattle.myi_deftext.specs.Text.{words, is_decimal, value, number, format_of, unique_of, kind_of, signed_of, unsigned_of, first_of, seg_of, field_line, seg_parts, seg_line, two_words, line_of}
use Rattle.myi_deftext.specs.Grammar.{format_word, unique_word, kind_word, type_word, IsNumber, IsSegment, Says}

-- the first word of several that a word is
chosen : {A : Type 0} (name : A → List ℕ) (w : List ℕ) (a x : A) (rest : Option A) → (rest ≡ Some x → w ≡ name x) → (if bytes_eq w (name a) then Some a else rest) ≡ Some x → w ≡ name x
chosen name w a x rest other e = by_case (bytes_eq w (name a)) refl e
  where
    by_case : (b : Bool) → bytes_eq w (name a) ≡ b → (if b then Some a else rest) ≡ Some x → w ≡ name x
    by_case true is same = (bytes_eq-Decides w (name a)).0 is ∙ ap name (same_Some a x same)
    by_case false is same = other same

none_left : {A : Type 0} (w : List ℕ) (name : A → List ℕ) (x : A) → None ≡ Some x → w ≡ name x
none_left w name x e = absurd cc

format_says : (w : List ℕ) (r : RowFormat) → format_of w ≡ Some r → w ≡ format_word r
unfolding format_of
format_says w r = chosen format_word w Static r _ (chosen format_word w Dynamic r _ (none_left w format_word r))

unique_says : (w : List ℕ) (u : Bool) → unique_of w ≡ Some u → w ≡ unique_word u
unfolding unique_of
unique_says w u = chosen unique_word w true u _ (chosen unique_word w false u _ (none_left w unique_word u))

kind_says : (w : List ℕ) (k : FieldKind) → kind_of w ≡ Some k → w ≡ kind_word k
unfolding kind_of
kind_says w k = chosen kind_word w Normal k _ (chosen kind_word w SkipEndspace k _ (chosen kind_word w SkipPrespace k _ (chosen kind_word w SkipZero k _ (chosen kind_word w Varchar k _ (chosen kind_word w Blob k _ (none_left w kind_word k))))))

signed_says : (w : List ℕ) (t : SegType) → signed_of w ≡ Some t → w ≡ type_word t
unfolding signed_of
signed_says w t = chosen type_word w seg.ShortInt t _ (chosen type_word w seg.LongInt t _ (chosen type_word w seg.Longlong t _ (chosen type_word w seg.Int24 t _ (chosen type_word w seg.Int8 t _ (none_left w type_word t)))))

unsigned_says : (w : List ℕ) (t : SegType) → unsigned_of w ≡ Some t → w ≡ type_word t
unfolding unsigned_of
unsigned_says w t = chosen type_word w seg.UshortInt t _ (chosen type_word w seg.UlongInt t _ (chosen type_word w seg.Ulonglong t _ (chosen type_word w seg.Uint24 t _ (none_left w type_word t))))

either_says : (w : List ℕ) (t : SegType) (a b : Option SegType) → (a ≡ Some t → w ≡ type_word t) → (b ≡ Some t → w ≡ type_word t) → first_of a b ≡ Some t → w ≡ type_word t
either_says w t (Some a) b first other e = first e
either_says w t None b first other e = other e

type_says : (w : List ℕ) (t : SegType) → seg_of w ≡ Some t → w ≡ type_word t
unfolding seg_of
type_says w t = chosen type_word w seg.Text t _ (chosen type_word w seg.Binary t _ (chosen type_word w seg.VarText t _ (chosen type_word w seg.VarBinary t _ (either_says w t (signed_of w) (unsigned_of w) (signed_says w t) (unsigned_says w t)))))

-- and each word is read as what it is
format_read : (r : RowFormat) → format_of (format_word r) ≡ Some r
unfolding format_of
format_read Static = refl
format_read Dynamic = refl

unique_read : (u : Bool) → unique_of (unique_word u) ≡ Some u
unfolding unique_of
unique_read true = refl
unique_read false = refl

kind_read : (k : FieldKind) → kind_of (kind_word k) ≡ Some k
unfolding kind_of
kind_read Normal = refl
kind_read SkipEndspace = refl
kind_read SkipPrespace = refl
kind_read SkipZero = refl
kind_read Blob = refl
kind_read Varchar = refl

type_read : (t : SegType) → seg_of (type_word t) ≡ Some t
unfolding seg_of signed_of unsigned_of
type_read seg.Text = refl
type_read seg.Binary = refl
type_read seg.ShortInt = refl
type_read seg.LongInt = refl
type_read seg.UshortInt = refl
type_read seg.UlongInt = refl
type_read seg.Longlong = refl
type_read seg.Ulonglong = refl
type_read seg.Int24 = refl
type_read seg.Uint24 = refl
type_read seg.Int8 = refl
type_read seg.VarText = refl
type_read seg.VarBinary = refl

-- numbers
all_three : (a b c : Bool) (x y : ℕ) → (if a && b && c then Some x else None) ≡ Some y → (a ≡ true) × (b ≡ true) × (c ≡ true) × (x ≡ y)
all_three true true true x y e = (refl, refl, refl, same_Some x y e)
all_three true true false x y e = absurd cc
all_three true false c x y e = absurd cc
all_three false b c x y e = absurd cc

number_says : (least most : ℕ) (w : List ℕ) (n : ℕ) → number least most w ≡ Some n → IsNumber least most w n
unfolding number
number_says least most w n e =
    let parts = all_three (is_decimal w) (nat_le least (value w)) (nat_le (value w) most) (value w) n e in
    let low : least ≤ value w = leb-true _ _ parts.1 in
    let high : value w ≤ most = leb-true _ _ parts.2 in
    record { decimal = parts.0; value_is = parts.3; least_is = omega (arith, parts.3); most_is = omega (arith, parts.3) }

number_read : (least most : ℕ) (w : List ℕ) (n : ℕ) → IsNumber least most w n → number least most w ≡ Some n
unfolding number
number_read least most w n is =
    let low : nat_le least (value w) ≡ true = le-leb _ _ (omega (arith, is.value_is, is.least_is)) in
    let high : nat_le (value w) most ≡ true = le-leb _ _ (omega (arith, is.value_is, is.most_is)) in
    rw (is.decimal, low, high, is.value_is) refl

-- lines
when : (w name : List ℕ) (o rest : Option Line) (g : Line) (P : Type 0) → (w ≡ name → o ≡ Some g → P) → (rest ≡ Some g → P) → (if bytes_eq w name then o else rest) ≡ Some g → P
when w name o rest g P here other e = by_case (bytes_eq w name) refl e
  where
    by_case : (b : Bool) → bytes_eq w name ≡ b → (if b then o else rest) ≡ Some g → P
    by_case true is same = here ((bytes_eq-Decides w name).0 is) same
    by_case false is same = other same

mapped : {A : Type 0} (f : A → Line) (o : Option A) (g : Line) (P : Type 0) → ((x : A) → o ≡ Some x → f x ≡ g → P) → option_map f o ≡ Some g → P
mapped f None g P go e = absurd cc
mapped f (Some x) g P go e = go x refl (same_Some (f x) g e)

two_same : (a b c d : List ℕ) → a ≡ c → b ≡ d → a ∷ b ∷ [] ≡ c ∷ d ∷ []
two_same a b c d p q = cc

three_same : (a b w c d : List ℕ) → a ≡ c → b ≡ d → a ∷ b ∷ w ∷ [] ≡ c ∷ d ∷ w ∷ []
three_same a b w c d p q = cc

seven_same : (a b s n c y z d e : List ℕ) → a ≡ d → b ≡ e → a ∷ b ∷ s ∷ n ∷ c ∷ y ∷ z ∷ [] ≡ d ∷ e ∷ s ∷ n ∷ c ∷ y ∷ z ∷ []
seven_same a b s n c y z d e p q = cc

two_say : (l a b : List ℕ) (g : Line) → words l ≡ a ∷ b ∷ [] → two_words a b ≡ Some g → Says l g
unfolding two_words
two_say l a b g is =
    when a (codes "rows") _ _ g (Says l g)
    (λ name. mapped (λ r. line.Rows r) (format_of b) g (Says l g)
    (λ r read same. subst (Says l) same (is ∙ two_same a b (codes "rows") (format_word r) name (format_says b r read))))
    (when a (codes "pointer") _ _ g (Says l g)
    (λ name. mapped (λ n. line.Pointer n) (number 2 8 b) g (Says l g)
    (λ n read same. subst (Says l) same (b, is ∙ two_same a b (codes "pointer") b name refl, number_says 2 8 b n read)))
    (when a (codes "key") _ _ g (Says l g)
    (λ name. mapped (λ u. line.Key u) (unique_of b) g (Says l g)
    (λ u read same. subst (Says l) same (is ∙ two_same a b (codes "key") (unique_word u) name (unique_says b u read))))
    (λ e. absurd cc)))

bound : {A B : Type 0} (f : A → Option B) (o : Option A) (y : B) (P : Type 0) → ((x : A) → o ≡ Some x → f x ≡ Some y → P) → option_and_then f o ≡ Some y → P
bound f None y P go e = absurd cc
bound f (Some x) y P go e = go x refl e

field_says : (l kind length : List ℕ) (g : Line) → words l ≡ codes "field" ∷ kind ∷ length ∷ [] → field_line kind length ≡ Some g → Says l g
unfolding field_line
field_says l kind length g is =
    bound (λ k. option_map (λ n. line.Field k n) (number 0 65535 length)) (kind_of kind) g (Says l g)
    (λ k read. mapped (λ n. line.Field k n) (number 0 65535 length) g (Says l g)
    (λ n says same. subst (Says l) same (length, is ∙ three_same (codes "field") kind length (codes "field") (kind_word k) refl (kind_says kind k read), number_says 0 65535 length n says)))

record Parts (t : Option SegType) (s n c b p : Option ℕ) (g : Line) : Type 0 where
  pub type : SegType
  pub start : ℕ
  pub length : ℕ
  pub language : ℕ
  pub bit : ℕ
  pub pos : ℕ
  pub type_is : t ≡ Some type
  pub start_is : s ≡ Some start
  pub length_is : n ≡ Some length
  pub language_is : c ≡ Some language
  pub bit_is : b ≡ Some bit
  pub pos_is : p ≡ Some pos
  pub line_is : line.Seg (record { seg = Some type; language = language; null_bit = bit; length = length; start = start; null_pos = pos }) ≡ g

parts_of : (t : Option SegType) (s n c b p : Option ℕ) (g : Line) → seg_parts t s n c b p ≡ Some g → Parts t s n c b p g
parts_of (Some t) (Some s) (Some n) (Some c) (Some b) (Some p) g e =
    record { type = t; start = s; length = n; language = c; bit = b; pos = p; type_is = refl; start_is = refl; length_is = refl; language_is = refl; bit_is = refl; pos_is = refl; line_is = same_Some _ g e }
parts_of t s n c b p g e = absurd cc

segment_says : (l t s n c b p : List ℕ) (g : Line) → words l ≡ codes "seg" ∷ t ∷ s ∷ n ∷ c ∷ b ∷ p ∷ [] → seg_line t s n c b p ≡ Some g → Says l g
unfolding seg_line
segment_says l t s n c b p g is e =
    let parts = parts_of (seg_of t) (number 0 4294967295 s) (number 0 65535 n) (number 0 65535 c) (number 0 255 b) (number 0 4294967295 p) g e in
    let said : IsSegment l (record { seg = Some parts.type; language = parts.language; null_bit = parts.bit; length = parts.length; start = parts.start; null_pos = parts.pos }) = record {
      seg = parts.type;
      start = s;
      length = n;
      collation = c;
      null_bit = b;
      null_pos = p;
      words_are = is ∙ seven_same (codes "seg") t s n c b p (codes "seg") (type_word parts.type) refl (type_says t parts.type parts.type_is);
      seg_is = refl;
      start_is = number_says 0 4294967295 s parts.start parts.start_is;
      length_is = number_says 0 65535 n parts.length parts.length_is;
      collation_is = number_says 0 65535 c parts.language parts.language_is;
      null_bit_is = number_says 0 255 b parts.bit parts.bit_is;
      null_pos_is = number_says 0 4294967295 p parts.pos parts.pos_is;
    } in
    subst (Says l) parts.line_is said

words_say : (l : List ℕ) (ws : List (List ℕ)) (g : Line) → words l ≡ ws → line_of ws ≡ Some g → Says l g
unfolding line_of
words_say l (a ∷ b ∷ []) g is e = two_say l a b g is e
words_say l (a ∷ b ∷ c ∷ []) g is e =
    when a (codes "field") (field_line b c) None g (Says l g)
    (λ name. field_says l b c g (is ∙ three_same a b c (codes "field") b name refl))
    (λ none. absurd cc)
    e
words_say l (a ∷ b ∷ c ∷ d ∷ x ∷ y ∷ z ∷ []) g is e =
    when a (codes "seg") (seg_line b c d x y z) None g (Says l g)
    (λ name. segment_says l b c d x y z g (is ∙ seven_same a b c d x y z (codes "seg") b name refl))
    (λ none. absurd cc)
    e
words_say l ws g is e = absurd cc

-- what is read of a line is what it says, and what it says is read
pub line_says : (l : List ℕ) (g : Line) → line_of (words l) ≡ Some g → Says l g
line_says l g e = words_say l (words l) g refl e

segment_read : (t s n c b p : List ℕ) (type : SegType) (i : SegItem) → i.seg ≡ Some type → t ≡ type_word type → IsNumber 0 4294967295 s i.start → IsNumber 0 65535 n i.length → IsNumber 0 65535 c i.language → IsNumber 0 255 b i.null_bit → IsNumber 0 4294967295 p i.null_pos → seg_line t s n c b p ≡ Some (line.Seg i)
unfolding seg_line
segment_read t s n c b p type i seg_is is start length language bit pos =
    let read : seg_of t ≡ Some type = ap seg_of is ∙ type_read type in
    let parts : seg_parts (seg_of t) (number 0 4294967295 s) (number 0 65535 n) (number 0 65535 c) (number 0 255 b) (number 0 4294967295 p) ≡ seg_parts (Some type) (Some i.start) (Some i.length) (Some i.language) (Some i.null_bit) (Some i.null_pos) =
    rw (read, number_read 0 4294967295 s i.start start, number_read 0 65535 n i.length length, number_read 0 65535 c i.language language, number_read 0 255 b i.null_bit bit, number_read 0 4294967295 p i.null_pos pos) refl in
    parts ∙ ap (λ (o : Option SegType). Some (line.Seg (record { seg = o; language = i.language; null_bit = i.null_bit; length = i.length; start = i.start; null_pos = i.null_pos }))) (sym seg_is)

pub line_read : (l : List ℕ) (g : Line) → Says l g → line_of (words l) ≡ Some g
unfolding line_of two_words field_line
line_read l (line.Rows r) says = ap line_of says ∙ ap (option_map (λ r. line.Rows r)) (format_read r)
line_read l (line.Pointer n) says = ap line_of says.1 ∙ ap (option_map (λ n. line.Pointer n)) (number_read 2 8 says.0 n says.2)
line_read l (line.Field k n) says =
    ap line_of says.1
    ∙ ap (option_and_then (λ k. option_map (λ n. line.Field k n) (number 0 65535 says.0))) (kind_read k)
    ∙ ap (option_map (λ n. line.Field k n)) (number_read 0 65535 says.0 n says.2)
line_read l (line.Key u) says = ap line_of says ∙ ap (option_map (λ u. line.Key u)) (unique_read u)
line_read l (line.Seg s) says =
    ap line_of says.words_are
    ∙ segment_read (type_word says.seg) says.start says.length says.collation says.null_bit says.null_pos says.seg s says.seg_is refl says.start_is says.length_is says.collation_is says.null_bit_is says.null_pos_is
