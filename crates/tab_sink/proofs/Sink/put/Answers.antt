use Rattle.std.proofs.Common.{◌+◌, min, take, length, sym, ap, ◌∙◌, subst}
use Rattle.std.proofs.Math.Seq.{take-append-add}
use Rattle.std.specs.Io.KnownBytes.{Appends}
use Rattle.tab_etf.proofs.KnownBytesLemmas.{Appends-then}
use Rattle.tab_sink.specs.Rests.{rest_of}
use Rattle.tab_sink.proofs.RestsLemmas.{sent_begins, on_err_then, on_err_any}
use Rattle.tab_sink.proofs.Sink.put.Goals as goal

pub returns-in_err-put_rest-clause-first : goal.returns-in_err-put_rest-clause-first
returns-in_err-put_rest-clause-first g c _ =
    let rest = rest_of c.args.self.now.rest in
    let frames = c.args.frames.now in
    let first = c.in_err-put_rest.ensures.first in
    let sent = first.2 in
    let begun = subst (λ l. Appends (g.W.Write.contents c.args.self.now.device.inner) (g.W.Write.contents c.put_rest.new.self.device.inner) l) (sym (sent_begins rest sent.0 _ frames sent.2)) sent.1 in
    on_err_any c.from_residual.result (first.0, first.1, (length sent.0, begun))

pub returns-clause-first : goal.returns-clause-first
returns-clause-first g c _ =
    let rest = rest_of c.args.self.now.rest in
    let frames = c.args.frames.now in
    let before = c.in_ok-put_rest.ensures in
    on_err_then c.put_frames.result c.put_frames.ensures.first (λ p. (
      p.0,
      p.1 ∙ ap (λ f. min (f + 1) 18446744073709551615) before.same,
      (
        length rest + p.2.0,
        Appends-then (g.W.Write.contents c.args.self.now.device.inner) (g.W.Write.contents c.put_rest.new.self.device.inner) (g.W.Write.contents c.put_frames.new.self.device.inner) rest (take p.2.0 frames) _ before.ok.2 p.2.1 (sym (take-append-add rest frames p.2.0)),
      ),
    ))
