-- `interface::negvask_reach` meets its contract.
use Rattle.report.specs.Report.{reach_report}
use Rattle.adapter.specs.EffectsLaws.{rule_record, rule_listed}
use Rattle.interface.proofs.negvask_reach.Goals as goal

pub returns-then-info-ne-RECORD_LENGTH : goal.returns-then-info-ne-RECORD_LENGTH
returns-then-info-ne-RECORD_LENGTH c = rule_record (reach_report c.args.given.now c.args.places.now) _ _ _ _ c.if-info-ne-RECORD_LENGTH.true

pub returns : goal.returns
returns c = rule_listed (reach_report c.args.given.now c.args.places.now) _ _ c.args.info.now _ _ _ _ _ _ _
    c.if-info-ne-RECORD_LENGTH.false c.load.ensures c.reach-answer.ensures c.report.ensures.number c.report.ensures.result
