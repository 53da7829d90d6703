-- Which files a write leaves, also one that failed.
use Rattle.std.proofs.Common.{◌≡◌, ℕ, List, Option, ap, subst, inl, inr}
use Rattle.myi_base.specs.Holding.{Holding, Told, Writes, WritesPart, OthersStay}
use Rattle.myi_base.proofs.CallerLemmas.{told_more}

-- what is said of a name, behind a call that changed nothing
pub others-kept : (old mid new : Option Holding) (name own : List ℕ) → mid ≡ old → name ≡ own → Told mid new (OthersStay name) → Told old new (OthersStay own)
others-kept old mid new name own same is told = subst (λ (q : List ℕ). Told old new (OthersStay q)) is (subst (λ (h : Option Holding). Told h new (OthersStay name)) same told)

pub others-written : (old mid new : Option Holding) (name own bytes : List ℕ) (at : ℕ) → mid ≡ old → name ≡ own → Told mid new (Writes name at bytes) → Told old new (OthersStay own)
others-written old mid new name own bytes at same is told = others-kept old mid new name own same is (told_more mid new (Writes name at bytes) (OthersStay name) told (λ m n held w. w.others))

pub others-part : (old mid new : Option Holding) (name own bytes : List ℕ) (at : ℕ) → mid ≡ old → name ≡ own → Told mid new (WritesPart name at bytes) → Told old new (OthersStay own)
others-part old mid new name own bytes at same is told = others-kept old mid new name own same is (told_more mid new (WritesPart name at bytes) (OthersStay name) told (λ m n held w. others m n w))
  where
    others : (m n : Holding) → WritesPart name at bytes m n → OthersStay name m n
    others m n (inl kept) = λ q other. ap (λ (h : Holding). h q) kept
    others m n (inr (k, le, w)) = λ q other. w.others q other
