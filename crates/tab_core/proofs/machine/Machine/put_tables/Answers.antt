use Rattle.std.proofs.Common.{refl, ◌≡◌, sym, ap, ◌∙◌, Some, None, []}
use Rattle.std.specs.List.{list_any}
use Rattle.tab_model.specs.Ages.{all_of}
use Rattle.tab_model.specs.State.{is_in}
use Rattle.tab_model.specs.declared.data.Reply.TheVariants as reply
use Rattle.tab_model.specs.declared.data.Entry.TheVariants as entry
use Rattle.tab_core.specs.declared.step.Stepped.{Stepped}
use Rattle.tab_core.specs.Parts.{parts_of}
use Rattle.tab_core.proofs.Answering as answering
use Rattle.tab_core.proofs.machine.Machine.put_tables.Goals as goal

pub returns-then-busy : goal.returns-then-busy
returns-then-busy g c = record {
  done = λ k. answering.schema_locked (parts_of c.args.self.now) k c.args.asked.value c.requires.done.0 (ap (λ t. list_any (is_in t) (all_of c.args.self.now.ages)) (sym c.table_of.ensures) ∙ sym c.busy.ensures ∙ c.if-busy.true)
      c.without_entry.result (c.without_entry.ensures ∙ ap (λ t. let s : Stepped = record { reply = reply.Locked t; entry = None } in s) (c.in_ok-name.ensures.ok ∙ c.table_of-then-busy.ensures));
  agree = λ k. k.agree;
  same = refl;
  err = tt;
}

pub returns-then-not-has_room : goal.returns-then-not-has_room
returns-then-not-has_room g c = record {
  done = λ k. answering.schema_limit (parts_of c.args.self.now) k c.args.asked.value c.requires.done.0 (ap (λ t. list_any (is_in t) (all_of c.args.self.now.ages)) (sym c.table_of.ensures) ∙ sym c.busy.ensures ∙ c.if-busy.false)
      (sym (c.has_room.ensures) ∙ c.if-not-has_room.true) c.without_entry-then-not-has_room.result c.without_entry-then-not-has_room.ensures;
  agree = λ k. k.agree;
  same = refl;
  err = tt;
}

pub returns : goal.returns
returns g c =
    let told : (let s : Stepped = record { reply = c.new.result; entry = Some (entry.Changed c.into_value.result c.new-2.result.items) } in s) ≡ record { reply = reply.AtomicOk; entry = Some (entry.Changed c.args.asked.value []) } =
    λ j. record { reply = c.new.ensures j; entry = Some (entry.Changed (c.into_value.ensures j) (c.new-2.ensures.items j)) } in
    let busy = ap (λ t. list_any (is_in t) (all_of c.args.self.now.ages)) (sym c.table_of.ensures) ∙ sym c.busy.ensures ∙ c.if-busy.false in
    record {
      done = λ k. (answering.schema_exit (parts_of c.args.self.now) k c.args.asked.value c.requires.done.0 busy (sym (c.has_room.ensures) ∙ c.if-not-has_room.false) c.replace.new.dest (c.replace.ensures.after ∙ c.requires.done.1) _ told).0;
      agree = λ k. (answering.schema_exit (parts_of c.args.self.now) k c.args.asked.value c.requires.done.0 busy (sym (c.has_room.ensures) ∙ c.if-not-has_room.false) c.replace.new.dest (c.replace.ensures.after ∙ c.requires.done.1) _ told).1;
      same = refl;
      err = tt;
    }
