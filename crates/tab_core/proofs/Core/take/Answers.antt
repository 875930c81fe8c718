use Rattle.tab_model.specs.declared.ask.Ask.TheVariants.{Take}
use Rattle.tab_core.specs.Parts.{parts_of, state_of, state_with}
use Rattle.tab_core.proofs.MarksLemmas.{take_makes}
use Rattle.tab_core.proofs.StepsLemmas.{sees, put_kept, rising_of}
use Rattle.tab_core.proofs.Core.take.Goals as goal

pub invariant_of-self : goal.invariant_of-self
invariant_of-self g c =
    let m = parts_of c.self.inside.machine in
    let cs = c.take-taken.new.self in
    let made = take_makes m c.args.session cs c.take-taken.result c.take-taken.ensures c.taken_reply.result c.taken_reply.ensures in
    put_kept m cs c.args.session Take c.taken_reply.result c.self.invariant made.0 made.1

pub returns : goal.returns
returns g c =
    let m = parts_of c.self.inside.machine in
    let cs = c.take-taken.new.self in
    let made = take_makes m c.args.session cs c.take-taken.result c.take-taken.ensures c.taken_reply.result c.taken_reply.ensures in
    let kept = put_kept m cs c.args.session Take c.taken_reply.result c.self.invariant made.0 made.1 in
    record {
      done = sees (state_with c.self.inside.machine) (state_of (record m { sessions = cs })) c.args.self.now c.args.session Take c.taken_reply.result c.self.view_is made.0;
      sound = kept.sound;
      rising = rising_of (record m { sessions = cs }) kept;
    }
