-- The method that lines say is what reading them one after the other gives.
use Rattle.std.proofs.Common.{◌≡◌, ◌≢◌, ◌⊎◌, ℕ, List, [], ◌∷◌, ◌++◌, Option, Some, None, Bool, true, false, cond, refl, ap, sym, ◌∙◌, inl, inr, ⊎_elim}
use Rattle.std.specs.Prelude.{bytes_eq}
use Rattle.std.specs.List.{AllByRecursion}
use Rattle.std.proofs.lemmas.Slice.Eq.{bytes_eq-Decides}
use Rattle.myi_mergelist.specs.declared.list.InsertMethod.{InsertMethod}
use Rattle.myi_mergelist.specs.declared.list.InsertMethod.TheVariants.{First, Last}
use Rattle.myi_mergelist.specs.MergeList.{method_line, IsSilent, LastSays, HasMethod}
use Rattle.myi_mergelist.specs.Reading.{method_after, method_of}

differs : (l w : List ℕ) → l ≢ w → bytes_eq l w ≡ false
differs l w ne = go (bytes_eq l w) refl
  where
    go : (b : Bool) → bytes_eq l w ≡ b → bytes_eq l w ≡ false
    go true is = absurd (ne ((bytes_eq-Decides l w).0 is))
    go false is = is

-- what a line says counts from there on
says_after : (m before : Option InsertMethod) → method_after (method_line m) before ≡ m
says_after (Some First) before = refl
says_after (Some Last) before = refl
says_after None before = refl

silent_after : (l : List ℕ) (before : Option InsertMethod) → IsSilent l → method_after l before ≡ before
silent_after l before s = rw (differs l (method_line (Some First)) (s (Some First)), differs l (method_line (Some Last)) (s (Some Last)), differs l (method_line None) (s None)) refl

silent_lines : (ls : List (List ℕ)) (b : Option InsertMethod) → AllByRecursion IsSilent ls → method_of b ls ≡ b
silent_lines [] b s = refl
silent_lines (l ∷ ls) b s = ap (λ m. method_of m ls) (silent_after l b s.0) ∙ silent_lines ls b s.1

said_last : (before after : List (List ℕ)) (m b : Option InsertMethod) → AllByRecursion IsSilent after → method_of b (before ++ method_line m ∷ after) ≡ m
said_last [] after m b s = ap (λ q. method_of q after) (says_after m b) ∙ silent_lines after m s
said_last (l ∷ before) after m b s = said_last before after m (method_after l b) s

-- the method of lines is read of them
pub method_back : (ls : List (List ℕ)) (m : Option InsertMethod) → HasMethod ls m → method_of None ls ≡ m
method_back ls m h =
    ⊎_elim
    (λ (s : LastSays ls m). ap (method_of None) s.stands ∙ said_last s.before s.after m None s.silent)
    (λ (n : (m ≡ None) × AllByRecursion IsSilent ls). silent_lines ls None n.1 ∙ sym n.0)
    h

-- what is read after lines that said b
abbrev pub Reads : Option InsertMethod → List (List ℕ) → Option InsertMethod → Type 0
Reads b ls m = LastSays ls m ⊎ ((m ≡ b) × AllByRecursion IsSilent ls)

said_here : (l : List ℕ) (ls : List (List ℕ)) (m n : Option InsertMethod) → l ≡ method_line n → m ≡ n → AllByRecursion IsSilent ls → LastSays (l ∷ ls) m
said_here l ls m n e same s = record {
  before = [];
  after = ls;
  stands = ap (λ (q : List ℕ). q ∷ ls) (e ∙ ap method_line (sym same));
  silent = s;
}

said_later : (l : List ℕ) (ls : List (List ℕ)) (m : Option InsertMethod) → LastSays ls m → LastSays (l ∷ ls) m
said_later l ls m s = record {
  before = l ∷ s.before;
  after = s.after;
  stands = ap (λ (q : List (List ℕ)). l ∷ q) s.stands;
  silent = s.silent;
}

-- one line, and what is read of the lines behind it
one_more : (l : List ℕ) (ls : List (List ℕ)) (b m : Option InsertMethod) → m ≡ method_after l b → AllByRecursion IsSilent ls → Reads b (l ∷ ls) m
one_more l ls b m e s = first (bytes_eq l (method_line (Some First))) refl e
  where
    none : (x : Bool) → bytes_eq l (method_line (Some First)) ≡ false → bytes_eq l (method_line (Some Last)) ≡ false → bytes_eq l (method_line None) ≡ x → m ≡ cond x None b → Reads b (l ∷ ls) m
    none true nf nl is h = inl (said_here l ls m None ((bytes_eq-Decides l (method_line None)).0 is) h s)
    none false nf nl is h = inr (h, (λ q e. other q e, s))
      where
        other : (q : Option InsertMethod) → l ≡ method_line q → ⊥
        other (Some First) w = let t : bytes_eq l (method_line (Some First)) ≡ true = (bytes_eq-Decides l (method_line (Some First))).1 w in cc
        other (Some Last) w = let t : bytes_eq l (method_line (Some Last)) ≡ true = (bytes_eq-Decides l (method_line (Some Last))).1 w in cc
        other None w = let t : bytes_eq l (method_line None) ≡ true = (bytes_eq-Decides l (method_line None)).1 w in cc

    last : (x : Bool) → bytes_eq l (method_line (Some First)) ≡ false → bytes_eq l (method_line (Some Last)) ≡ x → m ≡ cond x (Some Last) (cond (bytes_eq l (method_line None)) None b) → Reads b (l ∷ ls) m
    last true nf is h = inl (said_here l ls m (Some Last) ((bytes_eq-Decides l (method_line (Some Last))).0 is) h s)
    last false nf is h = none (bytes_eq l (method_line None)) nf is refl h

    first : (x : Bool) → bytes_eq l (method_line (Some First)) ≡ x → m ≡ cond x (Some First) (cond (bytes_eq l (method_line (Some Last))) (Some Last) (cond (bytes_eq l (method_line None)) None b)) → Reads b (l ∷ ls) m
    first true is h = inl (said_here l ls m (Some First) ((bytes_eq-Decides l (method_line (Some First))).0 is) h s)
    first false is h = last (bytes_eq l (method_line (Some Last))) is refl h

reads : (ls : List (List ℕ)) (b m : Option InsertMethod) → method_of b ls ≡ m → Reads b ls m
reads [] b m e = inr (sym e, tt)
reads (l ∷ ls) b m e =
    ⊎_elim
    (λ (s : LastSays ls m). inl (said_later l ls m s))
    (λ (n : (m ≡ method_after l b) × AllByRecursion IsSilent ls). one_more l ls b m n.0 n.1)
    (reads ls (method_after l b) m e)

-- what is read of lines is their method
pub method_read : (ls : List (List ℕ)) (m : Option InsertMethod) → method_of None ls ≡ m → HasMethod ls m
method_read ls m e = reads ls None m e

-- one line is read
pub method_step : (all ls : List (List ℕ)) (l : List ℕ) (b whole : Option InsertMethod) → all ≡ l ∷ ls → method_of b all ≡ whole → method_of (method_after l b) ls ≡ whole
method_step all ls l b whole e h = ap (method_of b) (sym e) ∙ h
