use Rattle.tab_etf.proofs.AddingLemmas.{atomic_past, atomic_spelled, told_also, told_over}
use Rattle.tab_etf.proofs.unmeasured.append_value.Goals as goal

pub returns-in_ok-extend_from_slice-in-Atomic-clause-ok : goal.returns-in_ok-extend_from_slice-in-Atomic-clause-ok
returns-in_ok-extend_from_slice-in-Atomic-clause-ok c =
    rw c.in-Atomic.is (told_also c.append_answers.result
    (atomic_spelled c.args.out.now.items c.extend_from_slice.new.self.items c.append_answers.new.out.items c.in-Atomic.answers.now c.in_ok-extend_from_slice-in-Atomic.ensures.items)
    c.append_answers.ensures.ok)

pub returns-in_ok-extend_from_slice-in-Atomic-clause-over : goal.returns-in_ok-extend_from_slice-in-Atomic-clause-over
returns-in_ok-extend_from_slice-in-Atomic-clause-over c =
    rw c.in-Atomic.is (told_over c.append_answers.result
    (atomic_past c.args.most c.args.out.now.items c.extend_from_slice.new.self.items c.in-Atomic.answers.now c.in_ok-extend_from_slice-in-Atomic.ensures.items)
    c.append_answers.ensures.over)
