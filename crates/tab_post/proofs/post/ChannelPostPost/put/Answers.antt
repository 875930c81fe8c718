use Rattle.std.proofs.Common.{ap, sym, ◌∙◌, subst, inr, List, Option, rules, ◌≡◌, ◌++◌, ◌∷◌, []}
use Rattle.crossbeam_channel.specs.Claims.{view}
use Rattle.crossbeam_channel.specs.Ends.{sends_on, ruled_capacity}
use Rattle.tab_model.specs.declared.data.Item.{Item}
use Rattle.tab_model.specs.Bytes.{item_memory}
use Rattle.tab_post.specs.Weights.{IsWeighed, Weighing, with_bytes}
use Rattle.tab_post.proofs.Relays.{sends, fills}
use Rattle.tab_post.proofs.WeightLemmas.{bytes_kept, heavy_now, weighed_drops, weighed_keeps}
use Rattle.tab_post.proofs.post.ChannelPostPost.put.Goals as goal

pub try_send_as-requires-clause-rule : goal.try_send_as-requires-clause-rule
try_send_as-requires-clause-rule g c =
    let may = ap (λ v. v.sends) c.args.self.now.role in (sends _ _ _ _ may, fills _ _ may)

-- it refuses by weight
pub invariant_of-self-clause-weighed : goal.invariant_of-self-clause-weighed
invariant_of-self-clause-weighed g c =
    let p = c.args.self.now in
    weighed_drops p.weights c.are_heavy.new.weights (ruled_capacity (sends_on p.channel)) (view p.pass).sent p.weighed c.are_heavy.ensures.drops

pub returns-then-are_heavy-clause-full : goal.returns-then-are_heavy-clause-full
returns-then-are_heavy-clause-full g c =
    let p = c.args.self.now in λ _.
    inr (heavy_now p.weights c.are_heavy.new.weights (ruled_capacity (sends_on p.channel)) (view p.pass).sent p.weighed c.are_heavy.ensures.drops c.are_heavy.ensures.within (sym c.are_heavy.ensures.heavy ∙ c.if-are_heavy.true))

-- an item more was sent, and its weight is kept
pub invariant_of-self-in-Ok-clause-weighed : goal.invariant_of-self-in-Ok-clause-weighed
invariant_of-self-in-Ok-clause-weighed g c =
    let p = c.args.self.now in
    let x = c.args.item in
    let capacity = ruled_capacity (sends_on p.channel) in
    let rest = c.are_heavy.new.weights in
    let before = weighed_drops p.weights rest capacity (view p.pass).sent p.weighed c.are_heavy.ensures.drops in
    let after = weighed_keeps rest capacity (view p.pass).sent x before in
    let weights : with_bytes rest (item_memory x) ≡ c.keep.new.weights = sym (c.keep.ensures ∙ bytes_kept rest c.memory-bytes.result (item_memory x) c.are_heavy.ensures.within c.memory-bytes.ensures) in
    let sent : (view p.pass).sent ++ x ∷ [] ≡ (view c.try_send_as.new.pass).sent = search rules in
    subst (λ (s : List Item). IsWeighed c.keep.new.weights capacity s) sent (subst (λ (w : Option Weighing). IsWeighed w capacity ((view p.pass).sent ++ x ∷ [])) weights after)

pub invariant_of-self-in-Err-Full-clause-weighed : goal.invariant_of-self-in-Err-Full-clause-weighed
invariant_of-self-in-Err-Full-clause-weighed g c =
    let p = c.args.self.now in
    let capacity = ruled_capacity (sends_on p.channel) in
    let before = weighed_drops p.weights c.are_heavy.new.weights capacity (view p.pass).sent p.weighed c.are_heavy.ensures.drops in
    let sent : (view p.pass).sent ≡ (view c.try_send_as.new.pass).sent = search rules in
    subst (λ (s : List Item). IsWeighed c.are_heavy.new.weights capacity s) sent before

pub invariant_of-self-in-Err-clause-weighed : goal.invariant_of-self-in-Err-clause-weighed
invariant_of-self-in-Err-clause-weighed g c =
    let p = c.args.self.now in
    let capacity = ruled_capacity (sends_on p.channel) in
    let before = weighed_drops p.weights c.are_heavy.new.weights capacity (view p.pass).sent p.weighed c.are_heavy.ensures.drops in
    let sent : (view p.pass).sent ≡ (view c.try_send_as.new.pass).sent = search rules in
    subst (λ (s : List Item). IsWeighed c.are_heavy.new.weights capacity s) sent before
