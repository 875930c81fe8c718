use Rattle.std.proofs.Common.{◌≡◌, List, rules, ap, subst}
use Rattle.crossbeam_channel.specs.Claims.{view}
use Rattle.crossbeam_channel.specs.Ends.{sends_on, ruled_capacity}
use Rattle.tab_model.specs.declared.data.Item.{Item}
use Rattle.tab_post.specs.Weights.{IsWeighed}
use Rattle.tab_post.proofs.Relays.{idles, merges, meets, totals, forks}
use Rattle.tab_post.proofs.meeting.ChannelPostMailbox.meet.Goals as goal

pub another-spare-requires-clause-rule : goal.another-spare-requires-clause-rule
another-spare-requires-clause-rule g c = idles _ _

pub absorb-requires-clause-rule : goal.absorb-requires-clause-rule
absorb-requires-clause-rule g c = merges _ _ _ _ (search rules) (search rules)

pub try_recv_as-requires-clause-rule : goal.try_recv_as-requires-clause-rule
try_recv_as-requires-clause-rule g c =
    let a = ap (λ v. v.sends) c.absorb.ensures.rule in let b = ap (λ v. v.takes) c.absorb.ensures.rule in
    (meets _ _ a b, totals _ _ a b)

pub another-requires-clause-rule : goal.another-requires-clause-rule
another-requires-clause-rule g c = forks _ _ (search rules) (search rules)

pub another-requires-in-Err-clause-rule : goal.another-requires-in-Err-clause-rule
another-requires-in-Err-clause-rule g c = forks _ _ (search rules) (search rules)

pub invariant_of-self-clause-weighed : goal.invariant_of-self-clause-weighed
invariant_of-self-clause-weighed g c =
    let p = c.args.self.now in
    let same : (view p.pass).sent ≡ (view c.another.new.pass).sent = search rules in
    subst (λ (s : List Item). IsWeighed p.weights (ruled_capacity (sends_on p.channel)) s) same p.weighed

pub invariant_of-self-in-Err-clause-weighed : goal.invariant_of-self-in-Err-clause-weighed
invariant_of-self-in-Err-clause-weighed g c =
    let p = c.args.self.now in
    let same : (view p.pass).sent ≡ (view c.another-in-Err.new.pass).sent = search rules in
    subst (λ (s : List Item). IsWeighed p.weights (ruled_capacity (sends_on p.channel)) s) same p.weighed
