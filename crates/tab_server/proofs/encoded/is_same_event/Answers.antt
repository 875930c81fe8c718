use Rattle.std.proofs.Common.{rules, sym, ◌∙◌}
use denote.Enum.Bare.{differs_false}
use Rattle.tab_term.specs.Same.{same-Decides}
use Rattle.tab_term.specs.View.{term}
use Rattle.tab_lists.specs.contracts.events.Tag as Tag
use Rattle.tab_server.proofs.Encoding.{same_events}
use Rattle.tab_server.proofs.encoded.is_same_event.Goals as goal

pub returns-in-None-None : goal.returns-in-None-None
returns-in-None-None c t =
    let e = c.args.event.now in
    let d = c.args.other.now in
    same_events e d (search rules) (differs_false Tag.the_type tt e.tag d.tag (sym c.ne.ensures ∙ c.if-ne.false)) c.in-None-None.is-0 c.in-None-None.is-1
    ((same-Decides (term e.what) (term d.what)).0 (sym c.eq.ensures ∙ t))
