use Rattle.std.proofs.Common.{◌+◌, ◌++◌, min, sym, ap, ◌∙◌, subst, append-nil}
use Rattle.tab_sink.specs.Rests.{rest_of}
use Rattle.tab_sink.specs.Sends.{Sends}
use Rattle.tab_sink.proofs.RestsLemmas.{sends_before, sends_both, on_ok_both, on_err_then, on_err_any}
use Rattle.tab_sink.proofs.Sink.put_now.Goals as goal

pub returns-in_err-put_rest_now-clause-first : goal.returns-in_err-put_rest_now-clause-first
returns-in_err-put_rest_now-clause-first g c _ =
    let first = c.in_err-put_rest_now.ensures.first in
    let frames = c.args.frames.now.items in
    on_err_any c.from_residual.result (first.0, first.1, (first.2.0 ++ frames, sends_before _ _ _ _ frames first.2.1))

pub returns-clause-ok : goal.returns-clause-ok
returns-clause-ok g c =
    let before = c.in_ok-put_rest_now.ensures in
    let a = g.W.Write.contents c.args.self.now.device.inner in
    let b = g.W.Write.contents c.put_rest_now.new.self.device.inner in
    let e = g.W.Write.contents c.put_frames_now.new.self.device.inner in
    let rest = rest_of c.args.self.now.rest in
    let frames = c.args.frames.now.items in
    let left = rest_of c.put_frames_now.new.self.rest in
    on_ok_both c.put_frames_now.result c.put_frames_now.ensures.ok c.put_frames_now.ensures.none (λ p none.
    let sent = sends_both a b e rest (rest_of c.put_rest_now.new.self.rest) frames left before.ok.1 (before.all c.if-not-branch.false) p.1 in
    let same = sym (append-nil left) ∙ ap (λ k. left ++ k) (sym none) in
    (c.if-self.false, p.0 ∙ before.ok.0 ∙ c.if-self.false, subst (λ l. Sends a (rest ++ frames) e l) same sent))

pub returns-clause-first : goal.returns-clause-first
returns-clause-first g c _ =
    let before = c.in_ok-put_rest_now.ensures in
    let a = g.W.Write.contents c.args.self.now.device.inner in
    let b = g.W.Write.contents c.put_rest_now.new.self.device.inner in
    let e = g.W.Write.contents c.put_frames_now.new.self.device.inner in
    on_err_then c.put_frames_now.result c.put_frames_now.ensures.first (λ p. (
      p.0,
      p.1 ∙ ap (λ f. min (f + 1) 18446744073709551615) before.same,
      (p.2.0, sends_both a b e (rest_of c.args.self.now.rest) (rest_of c.put_rest_now.new.self.rest) c.args.frames.now.items p.2.0 before.ok.1 (before.all c.if-not-branch.false) p.2.1),
    ))
