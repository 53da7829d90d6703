use Rattle.std.proofs.Common.{◌≡◌, ◌≢◌, ◌+◌, ◌++◌, [], ℕ, List, length, sym, subst, string_bytes}
use Rattle.myi_base.specs.Holding.{Holding, Writes}
use Rattle.myi_adapters.specs.Pending.{with_pending}
use Rattle.myi_adapters.proofs.PendingLaws.{appends, same_done}
use Rattle.myi_adapters.proofs.gathering.gather.Goals as goal

-- bytes behind others, by what is known of their places
behind : (own name : List ℕ) (k at : ℕ) (a b : List ℕ) (last : List ℕ) (i : ℕ) (all : List ℕ) (m was : Holding) → own ≡ name → k + length a ≡ at → last ≡ own → i ≡ k → all ≡ a ++ b → b ≢ [] → with_pending own k a m ≡ was → Writes name at b was (with_pending last i all m)
behind own name k at a b last i all m was e f h j l some before =
    let now : with_pending own k (a ++ b) m ≡ with_pending last i all m = sym (same_done last own i k all (a ++ b) m h j l) in
    subst (λ (q : List ℕ). Writes q at b was (with_pending last i all m)) e
    (subst (λ (n : ℕ). Writes own n b was (with_pending last i all m)) f
    (subst (λ (x : Holding). Writes own (k + length a) b was x) now
    (subst (λ (x : Holding). Writes own (k + length a) b x (with_pending own k (a ++ b) m)) before (appends own k a b m some))))

pub returns-clause-ok : goal.returns-clause-ok
returns-clause-ok c = λ m.
    let aimed = c.begin_where_empty.new.pending in
    let last = c.append.new.self in
    behind (string_bytes aimed.name) c.args.name.now aimed.at c.args.at aimed.bytes.items c.args.bytes.now (string_bytes last.name) last.at last.bytes.items m _
    c.in_ok-begin_where_empty.ensures.file c.in_ok-begin_where_empty.ensures.end c.append.ensures.name c.append.ensures.at c.in_ok-append.ensures.ok c.requires.some (c.begin_where_empty.ensures.same m)
