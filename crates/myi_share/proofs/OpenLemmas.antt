-- Reader objects of the two files of a table.
use Rattle.std.proofs.Common.{◌≡◌, ◌≢◌, ◌==◌, ◌&&◌, ℕ, Bool, true, false, not, if◌then◌else◌, List, [], length, Option, Some, None, unwrap_or, bytes_eq, refl, sym, ap, ◌∙◌, eq-eqb}
use Rattle.std.proofs.lemmas.Slice.Eq.{bytes_eq-Decides}
use Rattle.myi_base.specs.Holding.{Holding, bytes_of}
use Rattle.myi_adapters.specs.TwoReaders.{two_files, two_told}
use Rattle.myi_opening.specs.Names.{rows_file, index_file}
use Rattle.myi_table.specs.Table.{OpenTable}
use Rattle.myi_share.specs.Opening.{IsOpenedAs, AreOpened}

-- ---- names

same_name : (a : List ℕ) → bytes_eq a a ≡ true
same_name a = (bytes_eq-Decides a a).1 refl

other_name : (a b : List ℕ) → a ≢ b → bytes_eq a b ≡ false
other_name a b apart = by (bytes_eq a b) refl
  where
    by : (c : Bool) → bytes_eq a b ≡ c → c ≡ false
    by true e = absurd (apart ((bytes_eq-Decides a b).0 e))
    by false e = refl

-- ---- what two objects tell

all_so : (p q r : Bool) → p ≡ false → q ≡ true → r ≡ true → (not p && q && r) ≡ true
all_so false true true e f g = refl
all_so true q r e f g = absurd cc
all_so false false r e f g = absurd cc
all_so false true false e f g = absurd cc

both_told : (a b x y : List ℕ) (k n : ℕ) → a ≢ b → k ≡ length x → n ≡ length y → two_told a k (Some x) b n (Some y) ≡ Some (two_files a x b y)
both_told a b x y k n apart long_x long_y =
    ap (λ (c : Bool). if c then Some (two_files a x b y) else None) (all_so (bytes_eq a b) (length x == k) (length y == n) (other_name a b apart) (eq-eqb (length x) k (sym long_x)) (eq-eqb (length y) n (sym long_y)))

told_both : (a b x y : List ℕ) (k n : ℕ) (p q : Option (List ℕ)) → a ≢ b → p ≡ Some x → q ≡ Some y → k ≡ length x → n ≡ length y → two_told a k p b n q ≡ Some (two_files a x b y)
told_both a b x y k n p q apart is_x is_y long_x long_y =
    ap (λ (o : Option (List ℕ)). two_told a k o b n q) is_x ∙ ap (λ (o : Option (List ℕ)). two_told a k (Some x) b n o) is_y ∙ both_told a b x y k n apart long_x long_y

first_of : (a b x y : List ℕ) → bytes_of a (two_files a x b y) ≡ x
first_of a b x y = ap (λ (c : Bool). unwrap_or (if c then Some x else if bytes_eq a b then Some y else None) []) (same_name a)

second_of : (a b x y : List ℕ) → a ≢ b → bytes_of b (two_files a x b y) ≡ y
second_of a b x y apart =
    ap (λ (c : Bool). unwrap_or (if c then Some x else if bytes_eq b b then Some y else None) []) (other_name b a (λ same. apart (sym same)))
    ∙ ap (λ (c : Bool). unwrap_or (if c then Some y else None) []) (same_name b)

-- ---- of a table

pub are_opened : (table : OpenTable) (m : Holding) (a b : List ℕ) (k n : ℕ) (p q : Option (List ℕ)) → rows_file table.name ≢ index_file table.name → table.rows.rows.file.name ≡ rows_file table.name → table.rows.trees.cache.name ≡ index_file table.name
    → a ≡ rows_file table.name → b ≡ index_file table.name → IsOpenedAs (rows_file table.name) k p m → IsOpenedAs (index_file table.name) n q m → AreOpened table (two_told a k p b n q) m
are_opened table m a b k n p q differ rows index is_a is_b one other =
    let x : List ℕ = bytes_of (rows_file table.name) m in
    let y : List ℕ = bytes_of (index_file table.name) m in
    let apart : a ≢ b = λ same. differ (sym is_a ∙ same ∙ is_b) in (
      two_files a x b y,
      told_both a b x y k n p q apart one.bytes other.bytes one.length other.length,
      ap (λ (f : List ℕ). bytes_of f (two_files a x b y)) (rows ∙ sym is_a) ∙ first_of a b x y ∙ ap (λ (f : List ℕ). bytes_of f m) (sym rows),
      ap (λ (f : List ℕ). bytes_of f (two_files a x b y)) (index ∙ sym is_b) ∙ second_of a b x y apart ∙ ap (λ (f : List ℕ). bytes_of f m) (sym index),
    )
