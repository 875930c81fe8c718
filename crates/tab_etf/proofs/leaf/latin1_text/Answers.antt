use Rattle.std.proofs.Common.{Ok, sym, ap, ◌∙◌, ◌++◌, string_bytes}
use Rattle.std.specs.Str.{encode_utf8_all}
use Rattle.std.proofs.Math.Utf8.{encode}
use Rattle.std.proofs.lemmas.List.{take_all}
use Rattle.tab_etf.proofs.LeafLemmas.{latin1_more}
use Rattle.tab_etf.proofs.leaf.latin1_text.Goals as goal

pub loop-byte-preserved : goal.loop-byte-preserved
loop-byte-preserved c =
    latin1_more _ _ c.args.bytes.now c.loop-byte.byte-index c.loop-byte-test.true c.loop-byte.invariant
    (c.in_ok-push.ensures.bytes ∙ ap (λ ch. string_bytes c.loop-byte.text ++ encode ch) c.from.ensures)

pub returns : goal.returns
returns c = ap Ok (sym (c.loop-byte.invariant ∙ ap encode_utf8_all (take_all c.loop-byte.byte-index c.args.bytes.now c.loop-byte-test.false)))
