use Rattle.std.proofs.Common.{◌+◌, ◌-◌, take, drop, length, refl, sym, ◌∙◌, subst}
use Rattle.std.specs.Io.KnownBytes.{Appends}
use Rattle.tab_sink.specs.Rests.{rest_of}
use Rattle.tab_sink.specs.Sends.{Sends}
use Rattle.tab_sink.proofs.RestsLemmas.{sends_none, sends_part}
use Rattle.tab_sink.proofs.Sink.put_rest_now.Goals as goal

pub returns-in-Err-clause-first : goal.returns-in-Err-clause-first
returns-in-Err-clause-first g c = (refl, c.in-Err.ensures.rose, (rest_of c.args.self.now.rest, sends_none _ _ _ c.in-Err.ensures.bytes))

pub returns-clause-ok : goal.returns-clause-ok
returns-clause-ok g c =
    let rest = c.in-Some.rest in
    let a = g.W.Write.contents c.args.self.now.device.inner in
    let b = g.W.Write.contents c.give_now.new.self.inner in
    let left = drop (rest.from + c.in-Ok.count) rest.frames.items in
    let put = subst (λ xs. Appends a b (take c.in-Ok.count (take (length xs - rest.from) (drop rest.from xs)))) c.deref.ensures.value c.in-Ok.ensures.bytes in
    let sent = sends_part a b rest.frames.items rest.from c.in-Ok.count rest.within put in
    (refl, subst (λ r. Sends a (rest_of r) b left) (sym c.in-Some.is ∙ c.take.ensures.value) sent)
