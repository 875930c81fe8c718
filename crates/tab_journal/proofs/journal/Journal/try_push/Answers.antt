use Rattle.std.proofs.Common.{◌≡◌, ◌≤◌, ◌+◌, length, sym, ap, ◌∙◌, subst}
use Rattle.tab_journal.specs.Journals.{is_full, weight_in, bytes_in}
use Rattle.tab_journal.proofs.FullLemmas.{one_more}
use Rattle.tab_journal.proofs.journal.Journal.try_push.Goals as goal

pub invariant_of-self-2 : goal.invariant_of-self-2
invariant_of-self-2 c =
    let old = c.self.inside.entries in
    let most = c.self.inside.most_bytes in
    let m = c.self.inside.weight in
    let n = c.weight_of-weight.result in
    let b = c.self.inside.bytes in
    let d = c.bytes_of-bytes.result in
    subst (λ x. (length x.items ≤ x.capacity) × (m + n ≡ weight_in x.items) × (m + n ≤ 262144) × (b + d ≡ bytes_in most x.items) × (b + d ≤ most + most)) (sym c.in_ok-try_push_back.ensures.ok)
    (one_more old.items c.args.entry old.capacity most m n b d c.self.invariant.0 c.self.invariant.1 c.weight_of-weight.ensures c.self.invariant.3 c.bytes_of-bytes.ensures.bytes
    (ap is_full c.self.view_is ∙ sym c.if-full.ensures))
