use Rattle.std.proofs.Common.{◌≡◌, ◌+◌, ◌≤◌, ◌⊎◌, ℕ, List, length, Option, sym, subst, ap, ◌∙◌}
use Rattle.std.specs.Option.{option_map}
use Rattle.myi_frames.specs.Block.{header_of, head_of, block_of}
use Rattle.myi_frames.specs.Seeing.{IsPartAt}
use Rattle.myi_frames.specs.declared.head.Header.{Header}
use Rattle.myi_frames.proofs.BlockLemmas.{head-block}
use Rattle.myi_frames.proofs.head.head_at.Goals as goal

by_file : (bytes d : List ℕ) (at len : ℕ) (o : Option Header) → (20 ≤ length bytes) ⊎ (len ≤ at + length bytes) → o ≡ header_of bytes at len → length d ≡ len → IsPartAt at bytes d → option_map (λ h. h.head) o ≡ option_map head_of (block_of d at)
by_file bytes d at len o window same long part =
    let W : ℕ → Type 0 = λ n. (20 ≤ length bytes) ⊎ (n ≤ at + length bytes) in
    ap (λ (x : Option Header). option_map (λ h. h.head) x) (same ∙ ap (λ (n : ℕ). header_of bytes at n) (sym long)) ∙ head-block bytes d at (subst W (sym long) window) part

pub returns-in_default-clause-head : goal.returns-in_default-clause-head
returns-in_default-clause-head c =
    λ d long part. by_file c.args.bytes.now d c.args.at c.args.file_len _ c.requires.window c.in_default.ensures.header long part

pub returns-clause-head : goal.returns-clause-head
returns-clause-head c =
    λ d long part. by_file c.args.bytes.now d c.args.at c.args.file_len _ c.requires.window c.in-Some.ensures.header long part
