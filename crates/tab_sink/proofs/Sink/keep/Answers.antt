use Rattle.std.proofs.Common.{◌≡◌, ◌++◌, ◌∙◌, sym, ap, subst, drop, length, ℕ, List, Bool, if◌then◌else◌, arith}
use Rattle.std.proofs.lemmas.List.{take_all}
use Rattle.std.specs.Io.KnownBytes.{Appends, append_known}
use Rattle.tab_sink.specs.Rests.{rest_of}
use Rattle.tab_sink.proofs.RestsLemmas.{given_more, drop_longer}
use Rattle.tab_sink.proofs.Sink.keep.Goals as goal

pub returns-clause-bytes : goal.returns-clause-bytes
returns-clause-bytes g c =
    let a = g.W.Write.contents c.args.self.now.device.inner in
    let bytes = c.args.bytes.now in
    let rest = c.in-Some.rest in
    let items = c.extend_from_slice.new.self.items in
    let more = subst (λ (b : Bool). items ≡ (if b then rest.frames.items ++ bytes else rest.frames.items)) (sym c.if-not-kept.ensures.value) c.extend_from_slice.ensures.items in
    let kept = ap (drop rest.from) more ∙ drop_longer rest.from rest.frames.items bytes rest.within in
    let old = ap rest_of (sym c.in-Some.is ∙ c.take.ensures.value) in
    let before = append_known a (rest_of c.args.self.now.rest) in
    let after = append_known a (drop rest.from items) in
    subst (λ (xs : List ℕ). Appends before after xs) (sym (take_all (length bytes) bytes (omega arith)))
    (given_more a (rest_of c.args.self.now.rest) (drop rest.from items) bytes (kept ∙ ap (λ (r : List ℕ). r ++ bytes) old))
