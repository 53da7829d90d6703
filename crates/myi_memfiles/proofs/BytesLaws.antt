-- What files hold in memory are bytes, after each call too.
use Rattle.std.proofs.Common.{◌≡◌, ◌≢◌, ◌+◌, ◌-◌, ℕ, Bool, true, false, List, [], ◌∷◌, ◌++◌, length, take, drop, sym, subst, Option, Some, None, String, Vec, Result, Ok, Err, OnOk, OnErr, refl}
use Rattle.std.specs.Prelude.{replicate, unwrap_or, MatchOption, string_bytes, if◌then◌else◌}
use Rattle.std.specs.Option.{option_or}
use Rattle.std.specs.Str.{bytes_eq}
use Rattle.std.proofs.lemmas.Slice.Eq.{bytes_eq-Decides}
use Rattle.std.specs.declared.alloc.Global.{Global}
use Rattle.myi_base.specs.Numbers.{AreBytes}
use Rattle.myi_base.specs.Holding.{Holding, HoldsBytes, bytes_of, resized, overwritten, Sets, Removes, Moves, Renames, Writes, Cuts, Keeps}
use Rattle.myi_base.proofs.CallerLemmas.{bytes-none, bytes-take, bytes-drop, bytes-append, bytes-zeros}
use Rattle.myi_memfiles.specs.Stored.{named, given}
use Rattle.myi_memfiles.proofs.StoredLaws.{given_push}

resized_bytes : (n : ℕ) (xs : List ℕ) → AreBytes xs → AreBytes (resized n xs)
resized_bytes n xs p = bytes-append (take n xs) (replicate (n - length xs) 0) (bytes-take n xs p) (bytes-zeros (n - length xs))

overwritten_bytes : (at : ℕ) (bytes xs : List ℕ) → AreBytes bytes → AreBytes xs → AreBytes (overwritten at bytes xs)
overwritten_bytes at bytes xs b p = bytes-append (resized at xs ++ bytes) (drop (at + length bytes) xs) (bytes-append (resized at xs) bytes (resized_bytes at xs p) b) (bytes-drop (at + length bytes) xs p)

-- a name is this one or another
by_name : (P : List ℕ → Type 0) (name q : List ℕ) → P name → (q ≢ name → P q) → P q
by_name P name q here other = cases (bytes_eq q name) refl
  where
    cases : (b : Bool) → bytes_eq q name ≡ b → P q
    cases true e = subst P (sym ((bytes_eq-Decides q name).0 e)) here
    cases false e = other (λ same. let t : bytes_eq q name ≡ true = (bytes_eq-Decides q name).1 same in absurd cc)

same_here : (o : Option (List ℕ)) (x : List ℕ) → o ≡ Some x → AreBytes x → AreBytes (unwrap_or o [])
same_here o x e bytes = subst (λ (w : Option (List ℕ)). AreBytes (unwrap_or w [])) (sym e) bytes

same_none : (o : Option (List ℕ)) → o ≡ None → AreBytes (unwrap_or o [])
same_none o e = subst (λ (w : Option (List ℕ)). AreBytes (unwrap_or w [])) (sym e) bytes-none

same_other : (o w : Option (List ℕ)) → o ≡ w → AreBytes (unwrap_or w []) → AreBytes (unwrap_or o [])
same_other o w e bytes = subst (λ (v : Option (List ℕ)). AreBytes (unwrap_or v [])) (sym e) bytes

sets_bytes : (name bytes : List ℕ) (m n : Holding) → Sets name bytes m n → AreBytes bytes → HoldsBytes m → HoldsBytes n
sets_bytes name bytes m n sets b p q = by_name (λ x. AreBytes (bytes_of x n)) name q (same_here (n name) bytes sets.here b) (λ differs. same_other (n q) (m q) (sets.others q differs) (p q))

removes_bytes : (name : List ℕ) (m n : Holding) → Removes name m n → HoldsBytes m → HoldsBytes n
removes_bytes name m n removes p q = by_name (λ x. AreBytes (bytes_of x n)) name q (same_none (n name) removes.gone) (λ differs. same_other (n q) (m q) (removes.others q differs) (p q))

keeps_bytes : (m n : Holding) → n ≡ m → HoldsBytes m → HoldsBytes n
keeps_bytes m n e p = subst HoldsBytes (sym e) p

moves_bytes : (a b bytes : List ℕ) (m n : Holding) → Moves a b bytes m n → AreBytes bytes → HoldsBytes m → HoldsBytes n
moves_bytes a b bytes m n moves y p q =
    by_name (λ x. AreBytes (bytes_of x n)) b q (same_here (n b) bytes moves.there y) (λ not_there.
    by_name (λ x. x ≢ b → AreBytes (bytes_of x n)) a q (λ apart. same_none (n a) (moves.gone apart)) (λ not_here apart. same_other (n q) (m q) (moves.others q not_here apart) (p q)) not_there)

renames_bytes : (a b : List ℕ) (m n : Holding) (o : Option (List ℕ)) → m a ≡ o → MatchOption o (Keeps m n) (λ bytes. Moves a b bytes m n) → HoldsBytes m → HoldsBytes n
renames_bytes a b m n None e keeps p = keeps_bytes m n keeps p
renames_bytes a b m n (Some x) e moves p = moves_bytes a b x m n moves (subst (λ (w : Option (List ℕ)). AreBytes (unwrap_or w [])) e (p a)) p

-- what a call did where it was answered, and where it failed

pub written : {T E : Type 0} (r : Result T E) (name : List ℕ) (at : ℕ) (bytes : List ℕ) (m n : Holding) → OnOk r (Writes name at bytes m n) → OnErr r (n ≡ m) → AreBytes bytes → HoldsBytes m → HoldsBytes n
written (Ok x) name at bytes m n ok err b p = sets_bytes name _ m n ok (overwritten_bytes at bytes (bytes_of name m) b (p name)) p
written (Err e) name at bytes m n ok err b p = keeps_bytes m n err p

pub cut_short : {T E : Type 0} (r : Result T E) (name : List ℕ) (size : ℕ) (m n : Holding) → OnOk r (Cuts name size m n) → OnErr r (n ≡ m) → HoldsBytes m → HoldsBytes n
cut_short (Ok x) name size m n ok err p = sets_bytes name _ m n ok (resized_bytes size (bytes_of name m) (p name)) p
cut_short (Err e) name size m n ok err p = keeps_bytes m n err p

pub renamed : {T E : Type 0} (r : Result T E) (a b : List ℕ) (m n : Holding) → OnOk r (Renames a b m n) → OnErr r (n ≡ m) → HoldsBytes m → HoldsBytes n
renamed (Ok x) a b m n ok err p = renames_bytes a b m n (m a) refl ok p
renamed (Err e) a b m n ok err p = keeps_bytes m n err p

pub removed : (name : List ℕ) (m n : Holding) → Removes name m n → HoldsBytes m → HoldsBytes n
removed name m n is p = removes_bytes name m n is p

-- files that are given hold bytes
pub given_bytes : (files : List (String Global × Vec ℕ Global)) (file : String Global × Vec ℕ Global) → AreBytes file.1.items → HoldsBytes (given files) → HoldsBytes (given (files ++ file ∷ []))
given_bytes files file here p q = same_other (given (files ++ file ∷ []) q) (option_or (named file q) (given files q)) (given_push files file q) (either (bytes_eq q (string_bytes file.0)))
  where
    either : (b : Bool) → AreBytes (unwrap_or (option_or (if b then Some file.1.items else None) (given files q)) [])
    either true = here
    either false = p q

pub alike : (m n : Holding) → ((q : List ℕ) → m q ≡ n q) → HoldsBytes n → HoldsBytes m
alike m n same p q = same_other (m q) (n q) (same q) (p q)
