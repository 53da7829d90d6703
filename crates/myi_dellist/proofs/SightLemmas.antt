-- Deleted blocks that are seen as planned headers say.
use Rattle.std.proofs.Common.{◌≡◌, ℕ, Bool, false, List, Option, Some, None, refl, sym, ap, ◌∙◌}
use Rattle.std.specs.Prelude.{if◌then◌else◌, IfOk, Result, Ok, Err}
use Rattle.myi_base.specs.Holding.{Holding, IfTold, OthersStay, bytes_of}
use Rattle.myi_frames.specs.declared.head.Head.{Head}
use Rattle.myi_dellist.specs.declared.linked.Sight.{Sight}
use Rattle.myi_dellist.specs.Freeing.{hole_in, same_link}
use Rattle.myi_dellist.specs.Heads.{over}
use Rattle.myi_dellist.proofs.HeadsLemmas.{else_seen, over-planned}
use Rattle.myi_dellist.specs.Several.{hide, planned_in, seen_in, heads_written}

-- ---- what is seen

shown : (s : Sight) (d : List ℕ) (p : ℕ) → same_link s.hidden (Some p) ≡ false → seen_in s d p ≡ else_seen (over (planned_in s) (λ q. None) p) (hole_in d p)
shown s d p e = by_hidden s.hidden e ∙ over-planned (planned_in s) (hole_in d) p
  where
    by_hidden : (o : Option ℕ) → same_link o (Some p) ≡ false → hide o (over (planned_in s) (hole_in d)) p ≡ over (planned_in s) (hole_in d) p
    by_hidden None e = refl
    by_hidden (Some q) e = ap (λ (b : Bool). if b then None else over (planned_in s) (hole_in d) p) e

pub seen-planned : (s : Sight) (d : List ℕ) (p : ℕ) (o : Option Head) (h : Head) → same_link s.hidden (Some p) ≡ false → o ≡ over (planned_in s) (λ q. None) p → o ≡ Some h → Some h ≡ seen_in s d p
seen-planned s d p o h e is found = sym (shown s d p e ∙ ap (λ (x : Option Head). else_seen x (hole_in d p)) (sym is ∙ found))

pub seen-file : (s : Sight) (d : List ℕ) (p : ℕ) (o : Option Head) → same_link s.hidden (Some p) ≡ false → o ≡ over (planned_in s) (λ q. None) p → o ≡ None → hole_in d p ≡ seen_in s d p
seen-file s d p o e is none = sym (shown s d p e ∙ ap (λ (x : Option Head). else_seen x (hole_in d p)) (sym is ∙ none))

-- an answer of the file is one of what is seen where both are the same
pub told-same : {E : Type 0} (old : Option Holding) (C : Holding → Type 0) (r s : Holding → Option Head) (x : Result (Option Head) E) → ((m : Holding) → r m ≡ s m) → IfOk x (λ o. IfTold old (λ m. C m → o ≡ r m)) → IfOk x (λ o. IfTold old (λ m. C m → o ≡ s m))
told-same old C r s (Ok o) same t = λ m held k. t m held k ∙ same m
told-same old C r s (Err e) same t = tt

-- ---- writing headers one after the other

-- what is written, and what is left to write, are all of it
abbrev pub WritesOn : List ℕ → List Head → List Head → Holding → Holding → Type 0
WritesOn name all left m n = (heads_written left (bytes_of name n) ≡ heads_written all (bytes_of name m)) × OthersStay name m n
