use Rattle.std.proofs.Common.{◌≡◌, refl, ap, ◌∙◌}
use Rattle.txn_types.specs.declared.event.Happening.{Happening}
use Rattle.txn_types.specs.declared.event.NodeAnswer.TheVariants.{Stopped}
use Rattle.shard_core.specs.Core.{answer_stopped}
use Rattle.shard_core.proofs.Handing.{not_delivered, not_stated, stopped_steps, stopped_short}
use Rattle.shard_core.proofs.Handing.{stopped_answer, refused_steps, refused_answers}
use Rattle.shard_core.proofs.shard.Shard.refuse.Goals as goal

pub returns-in_default : goal.returns-in_default
returns-in_default c =
    let is : answer_stopped c.args.self.now c.args.faults c.args.event.now.what ≡ Stopped =
    not_delivered c.args.self.now c.args.faults c.args.event.now.what
    c.in_default.not-Deliver in
    record {
      step =
          stopped_steps c.args.self.now c.args.event.now c.args.faults c.args.out.now c.requires is;
      err = refl;
      stopped = (
        λ h. stopped_answer c.args.self.now c.args.event.now c.args.faults c.requires ∙ is,
        λ h. refl,
      );
    }

pub returns-in_default-msg : goal.returns-in_default-msg
returns-in_default-msg c =
    let is : answer_stopped c.args.self.now c.args.faults c.args.event.now.what ≡ Stopped =
    ap (λ (h : Happening). answer_stopped c.args.self.now c.args.faults h) c.in-Deliver.is
    ∙ not_stated c.args.self.now c.args.faults c.in-Deliver.envelope.from c.in-Deliver.envelope.msg
    c.in_default-msg.not-Statement in
    record {
      step =
          stopped_steps c.args.self.now c.args.event.now c.args.faults c.args.out.now c.requires is;
      err = refl;
      stopped = (
        λ h. stopped_answer c.args.self.now c.args.event.now c.args.faults c.requires ∙ is,
        λ h. refl,
      );
    }

pub returns-in_default-new-clause-step : goal.returns-in_default-new-clause-step
returns-in_default-new-clause-step c =
    stopped_short c.args.self.now c.args.event.now c.args.faults c.args.out.now c.requires

pub returns-in_default-new-clause-stopped : goal.returns-in_default-new-clause-stopped
returns-in_default-new-clause-stopped c = (
  λ h. cc,
  λ h. absurd (refused_answers c.args.self.now c.args.event.now c.in-Deliver.envelope
      c.in-Statement.m c.args.faults c.requires c.in-Deliver.is c.in-Statement.is h),
)

pub returns-clause-step : goal.returns-clause-step
returns-clause-step c =
    refused_steps c.args.self.now c.args.event.now c.in-Deliver.envelope c.in-Statement.m
    c.args.faults c.answer-given.result c.hand_out.new.out c.hand_out.result c.requires
    c.in-Deliver.is c.in-Statement.is
    c.answer-given.ensures c.hand_out.ensures.out c.hand_out.ensures.step

pub returns-clause-stopped : goal.returns-clause-stopped
returns-clause-stopped c = (
  λ h. cc,
  λ h. absurd (refused_answers c.args.self.now c.args.event.now c.in-Deliver.envelope
      c.in-Statement.m c.args.faults c.requires c.in-Deliver.is c.in-Statement.is h),
)
