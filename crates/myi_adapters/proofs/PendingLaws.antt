-- Gathered writes over plain lists: written in parts or at once, and what they leave of other files.
use Rattle.std.proofs.Common.{◌≡◌, ◌≢◌, ◌≤◌, ◌+◌, ◌-◌, ℕ, Bool, true, false, List, [], ◌∷◌, ◌++◌, length, take, drop, Option, Some, None, refl, sym, ap, subst, ◌∙◌, arith, inl, inr, append_assoc, length-append}
use Rattle.std.specs.Prelude.{replicate, unwrap_or, if◌then◌else◌}
use Rattle.std.specs.Option.{option_map}
use Rattle.std.specs.Str.{bytes_eq}
use Rattle.std.proofs.Math.Path.{fun_ext}
use Rattle.std.proofs.Math.Seq.{drop-append-add, take-append_seam}
use Rattle.std.proofs.lemmas.List.{drop-drop, append-nil, length-take, length-replicate}
use Rattle.std.proofs.lemmas.Slice.Eq.{bytes_eq-Decides}
use Rattle.myi_base.specs.Holding.{Holding, bytes_of, resized, overwritten, Writes, WritesPart, Removes, Told, Keeps, IfTold}
use Rattle.myi_base.proofs.CallerLemmas.{told_same}
use Rattle.myi_adapters.specs.Pending.{written, with_pending}

-- lists

length_resized : (n : ℕ) (x : List ℕ) → length (resized n x) ≡ n
length_resized n x = omega (arith, length-append (take n x) (replicate (n - length x) 0), length-take n x, length-replicate {A = ℕ} (n - length x) 0)

drop_past : (front back : List ℕ) (n k : ℕ) → length front ≡ n → drop (n + k) (front ++ back) ≡ drop k back
drop_past front back n k e = ap (λ j. drop (j + k) (front ++ back)) (sym e) ∙ drop-append-add front back k

resized_front : (n : ℕ) (front back : List ℕ) → length front ≡ n → resized n (front ++ back) ≡ front
resized_front n front back e =
    let none : n - length (front ++ back) ≡ 0 = omega (arith, length-append front back, e) in
    let first : take n (front ++ back) ≡ front = ap (λ j. take j (front ++ back)) (sym e) ∙ take-append_seam front back in
    ap (λ j. take n (front ++ back) ++ replicate j 0) none ∙ append-nil (take n (front ++ back)) ∙ first

-- two writes, the second of which goes on where the first ends, are one
pub overwritten_append : (at : ℕ) (p b x : List ℕ) → overwritten (at + length p) b (overwritten at p x) ≡ overwritten at (p ++ b) x
overwritten_append at p b x =
    let front = resized at x ++ p in
    let back = drop (at + length p) x in
    let long : length front ≡ at + length p = omega (arith, length-append (resized at x) p, length_resized at x) in
    let first : resized (at + length p) (front ++ back) ≡ front = resized_front (at + length p) front back long in
    let last : drop (at + length p + length b) (front ++ back) ≡ drop (at + length (p ++ b)) x =
    drop_past front back (at + length p) (length b) long ∙ drop-drop (length b) (at + length p) x ∙ ap (λ j. drop j x) (omega (arith, length-append p b)) in
    ap (λ ys. ys ++ b ++ drop (at + length p + length b) (front ++ back)) first ∙ ap (λ ys. front ++ b ++ ys) last
    ∙ ap (λ ys. ys ++ drop (at + length (p ++ b)) x) (append_assoc (resized at x) p b)

-- a write after a part of itself
pub overwritten_again : (at : ℕ) (k : ℕ) (b x : List ℕ) → overwritten at b (overwritten at (take k b) x) ≡ overwritten at b x
overwritten_again at k b x =
    let part = take k b in
    let j = length part in
    let short : j ≤ length b = omega (arith, length-take k b) in
    let front = resized at x ++ part in
    let back = drop (at + j) x in
    let long : length front ≡ at + j = omega (arith, length-append (resized at x) part, length_resized at x) in
    let first : resized at (front ++ back) ≡ resized at x =
    ap (resized at) (append_assoc (resized at x) part back) ∙ resized_front at (resized at x) (part ++ back) (length_resized at x) in
    let split : at + length b ≡ at + j + (length b - j) = omega (arith, short) in
    let last : drop (at + length b) (front ++ back) ≡ drop (at + length b) x =
    ap (λ n. drop n (front ++ back)) split ∙ drop_past front back (at + j) (length b - j) long ∙ drop-drop (length b - j) (at + j) x ∙ ap (λ n. drop n x) (sym split) in
    ap (λ ys. ys ++ b ++ drop (at + length b) (front ++ back)) first ∙ ap (λ ys. resized at x ++ b ++ ys) last

-- a name is this one or another

named : (q name : List ℕ) (P : Type 0) → (q ≡ name → P) → (q ≢ name → P) → P
named q name P here other = cases (bytes_eq q name) refl
  where
    cases : (b : Bool) → bytes_eq q name ≡ b → P
    cases true e = here ((bytes_eq-Decides q name).0 e)
    cases false e = other (λ same. let t : bytes_eq q name ≡ true = (bytes_eq-Decides q name).1 same in absurd cc)

at_name : (name at : List ℕ) (w : Option (List ℕ)) → (if bytes_eq name name then Some at else w) ≡ Some at
at_name name at w = ap (λ b. if b then Some at else w) ((bytes_eq-Decides name name).1 refl)

off_name : (q name : List ℕ) (x w : Option (List ℕ)) → q ≢ name → (if bytes_eq q name then x else w) ≡ w
off_name q name x w differs = cases (bytes_eq q name) refl
  where
    cases : (b : Bool) → bytes_eq q name ≡ b → (if b then x else w) ≡ w
    cases true e = absurd (differs ((bytes_eq-Decides q name).0 e))
    cases false e = refl

written_here : (name : List ℕ) (at : ℕ) (b : List ℕ) (m : Holding) → written name at b m name ≡ Some (overwritten at b (bytes_of name m))
written_here name at b m = at_name name (overwritten at b (bytes_of name m)) (m name)

written_else : (name : List ℕ) (at : ℕ) (b : List ℕ) (m : Holding) (q : List ℕ) → q ≢ name → written name at b m q ≡ m q
written_else name at b m q differs = off_name q name (Some (overwritten at b (bytes_of name m))) (m q) differs

same_bytes : (m : Holding) (name x : List ℕ) → m name ≡ Some x → bytes_of name m ≡ x
same_bytes m name x e = ap (λ (o : Option (List ℕ)). unwrap_or o []) e

-- what is gathered changes no other file
pub pending_else : (name : List ℕ) (at : ℕ) (b : List ℕ) (m : Holding) (q : List ℕ) → q ≢ name → with_pending name at b m q ≡ m q
pending_else name at [] m q differs = refl
pending_else name at (x ∷ b) m q differs = written_else name at (x ∷ b) m q differs

pub same_done : (n k : List ℕ) (i j : ℕ) (a b : List ℕ) (m : Holding) → n ≡ k → i ≡ j → a ≡ b → with_pending n i a m ≡ with_pending k j b m
same_done n k i j a b m e f g = ap (λ x. with_pending x i a m) e ∙ ap (λ x. with_pending k x a m) f ∙ ap (λ x. with_pending k j x m) g

-- a write is done

written_is : (name : List ℕ) (at : ℕ) (b : List ℕ) (m n : Holding) → Writes name at b m n → n ≡ written name at b m
written_is name at b m n w = fun_ext (λ q. named q name (n q ≡ written name at b m q)
    (λ e. subst (λ x. n x ≡ written name at b m x) (sym e) (w.here ∙ sym (written_here name at b m)))
    (λ differs. w.others q differs ∙ sym (written_else name at b m q differs)))

part_is : (name : List ℕ) (at : ℕ) (b : List ℕ) (m n : Holding) → WritesPart name at b m n → written name at b n ≡ written name at b m
part_is name at b m n (inl keeps) = ap (written name at b) keeps
part_is name at b m n (inr (k, le, w)) = fun_ext (λ q. named q name (written name at b n q ≡ written name at b m q)
    (λ e. subst (λ x. written name at b n x ≡ written name at b m x) (sym e)
    (written_here name at b n ∙ ap (λ x. Some (overwritten at b x)) (same_bytes n name _ w.here) ∙ ap (λ x. Some x) (overwritten_again at k b (bytes_of name m)) ∙ sym (written_here name at b m)))
    (λ differs. written_else name at b n q differs ∙ w.others q differs ∙ sym (written_else name at b m q differs)))

pub done_write : (old new : Option Holding) (name : List ℕ) (at : ℕ) (b : List ℕ) (other : List ℕ) (k : ℕ) (none : List ℕ) → b ≢ [] → none ≡ [] → Told old new (Writes name at b) → option_map (with_pending other k none) new ≡ option_map (with_pending name at b) old
done_write old new name at [] other k none some e told = absurd (some refl)
done_write None new name at (x ∷ b) other k none some e told = ap (option_map (with_pending other k none)) (told.untold refl)
done_write (Some m) new name at (x ∷ b) other k none some e told =
    let t = told.told m refl in
    ap (λ o. option_map (with_pending other k none) o) t.1 ∙ ap (λ ys. Some (with_pending other k ys t.0)) e ∙ ap (λ (h : Holding). Some h) (written_is name at (x ∷ b) m t.0 t.2)

pub part_write : (old new : Option Holding) (name : List ℕ) (at : ℕ) (b : List ℕ) → b ≢ [] → Told old new (WritesPart name at b) → option_map (with_pending name at b) new ≡ option_map (with_pending name at b) old
part_write old new name at [] some told = absurd (some refl)
part_write None new name at (x ∷ b) some told = ap (option_map (with_pending name at (x ∷ b))) (told.untold refl)
part_write (Some m) new name at (x ∷ b) some told =
    let t = told.told m refl in
    ap (λ o. option_map (with_pending name at (x ∷ b)) o) t.1 ∙ ap (λ (h : Holding). Some h) (part_is name at (x ∷ b) m t.0 t.2)

-- bytes go on where the others end

pub appends : (name : List ℕ) (at : ℕ) (a b : List ℕ) (m : Holding) → b ≢ [] → Writes name (at + length a) b (with_pending name at a m) (with_pending name at (a ++ b) m)
appends name at [] [] m some = absurd (some refl)
appends name at [] (y ∷ b) m some = record {
  here = written_here name at (y ∷ b) m ∙ ap (λ j. Some (overwritten j (y ∷ b) (bytes_of name m))) (let e : at ≡ at + 0 = omega arith in e);
  others = λ q differs. written_else name at (y ∷ b) m q differs;
}
appends name at (x ∷ a) b m some = record {
  here = written_here name at ((x ∷ a) ++ b) m
      ∙ sym (ap (λ (z : List ℕ). Some z) (overwritten_append at (x ∷ a) b (bytes_of name m)))
      ∙ sym (ap (λ z. Some (overwritten (at + length (x ∷ a)) b z)) (same_bytes (written name at (x ∷ a) m) name _ (written_here name at (x ∷ a) m)));
  others = λ q differs. written_else name at ((x ∷ a) ++ b) m q differs ∙ sym (written_else name at (x ∷ a) m q differs);
}

-- a file that is removed takes its own along

pub forget_own : (name own : List ℕ) (at k : ℕ) (b none : List ℕ) (m n : Holding) → name ≡ own → none ≡ [] → (other : List ℕ) → Removes own m n → Removes own (with_pending name at b m) (with_pending other k none n)
forget_own name own at k b none m n e gone other r = record {
  gone = ap (λ ys. with_pending other k ys n own) gone ∙ r.gone;
  others = λ q differs. ap (λ ys. with_pending other k ys n q) gone ∙ r.others q differs ∙ sym (pending_else name at b m q (λ same. differs (same ∙ e)));
}

pub forget_none : (name own : List ℕ) (at : ℕ) (b : List ℕ) (m n : Holding) → name ≢ own → Removes own m n → Removes own (with_pending name at b m) (with_pending name at b n)
forget_none name own at [] m n differs r = r
forget_none name own at (x ∷ b) m n differs r = record {
  gone = written_else name at (x ∷ b) n own (λ e. differs (sym e)) ∙ r.gone;
  others = λ q apart. named q name (written name at (x ∷ b) n q ≡ written name at (x ∷ b) m q)
      (λ e. subst (λ z. written name at (x ∷ b) n z ≡ written name at (x ∷ b) m z) (sym e)
      (written_here name at (x ∷ b) n ∙ ap (λ (o : Option (List ℕ)). Some (overwritten at (x ∷ b) (unwrap_or o []))) (r.others name differs) ∙ sym (written_here name at (x ∷ b) m)))
      (λ other. written_else name at (x ∷ b) n q other ∙ r.others q apart ∙ sym (written_else name at (x ∷ b) m q other));
}

-- what is told below is told above

same_some : (x y : Holding) → Some x ≡ Some y → x ≡ y
same_some x y e = cc

found : (f : Holding → Holding) (o : Option Holding) (m : Holding) → option_map f o ≡ Some m → (n : Holding) × (o ≡ Some n) × (f n ≡ m)
found f None m e = absurd cc
found f (Some n) m e = (n, refl, same_some (f n) m e)

pub through : (f : Holding → Holding) (inner outer : Option Holding) (name : List ℕ) (P : Option (List ℕ) → Type 0) → option_map f inner ≡ outer → ((m : Holding) → f m name ≡ m name) → IfTold inner (λ n. P (n name)) → IfTold outer (λ m. P (m name))
through f inner outer name P shows apart told m held =
    let t = found f inner m (shows ∙ held) in
    subst P (sym (apart t.0) ∙ ap (λ (h : Holding). h name) t.2) (told t.0 t.1)

pub lifted : (f g : Holding → Holding) (old new : Option Holding) (P Q : Holding → Holding → Type 0) → Told old new P → ((m n : Holding) → P m n → Q (f m) (g n)) → Told (option_map f old) (option_map g new) Q
lifted f g None new P Q told each = record { told = λ m held. absurd cc; untold = λ none. ap (option_map g) (told.untold refl) }
lifted f g (Some m) new P Q told each =
    let t = told.told m refl in
    record {
      told = λ k held. (g t.0, ap (option_map g) t.1, subst (λ (h : Holding). Q h (g t.0)) (same_some (f m) k held) (each m t.0 t.2));
      untold = λ none. absurd cc;
    }

pub moved : (f g : Holding → Holding) (o : Option Holding) (Q : Holding → Holding → Type 0) → ((m : Holding) → Q (f m) (g m)) → Told (option_map f o) (option_map g o) Q
moved f g o Q each = lifted f g o o Keeps Q (told_same o o Keeps refl (λ m held. refl)) (λ m n same. subst (λ (h : Holding). Q (f m) (g h)) (sym same) (each m))

pub unmoved : (f g : Holding → Holding) (o : Option Holding) → ((m : Holding) → g m ≡ f m) → option_map g o ≡ option_map f o
unmoved f g None each = refl
unmoved f g (Some m) each = ap (λ (h : Holding). Some h) (each m)

none_shown : (name : List ℕ) (at : ℕ) (o : Option Holding) → option_map (with_pending name at []) o ≡ o
none_shown name at None = refl
none_shown name at (Some m) = refl

-- where nothing is gathered, what is told below is told above
pub clear_told : (name : List ℕ) (at : ℕ) (none : List ℕ) (old mid new : Option Holding) (P : Holding → Holding → Type 0) → none ≡ [] → option_map (with_pending name at none) mid ≡ old → Told mid new P → Told old (option_map (with_pending name at none) new) P
clear_told name at none old mid new P e shows told =
    let before : mid ≡ old = sym (none_shown name at mid) ∙ ap (λ ys. option_map (with_pending name at ys) mid) (sym e) ∙ shows in
    let after : new ≡ option_map (with_pending name at none) new = sym (none_shown name at new) ∙ ap (λ ys. option_map (with_pending name at ys) new) (sym e) in
    subst (λ o. Told old o P) after (subst (λ o. Told o new P) before told)

pub kept_told : (old new : Option Holding) (P : Holding → Holding → Type 0) → new ≡ old → ((m : Holding) → P m m) → Told old new P
kept_told old new P same each = told_same old new P same (λ m held. each m)

pub told_from : (old mid new : Option Holding) (P : Holding → Holding → Type 0) → mid ≡ old → Told mid new P → Told old new P
told_from old mid new P same told = subst (λ o. Told o new P) same told
