-- `interface::negvask_unlocking` meets its contract.
use Rattle.report.specs.Report.{unlocking_report}
use Rattle.adapter.specs.EffectsLaws.{rule_record, rule_listed}
use Rattle.interface.proofs.negvask_unlocking.Goals as goal

pub returns-then-info-ne-RECORD_LENGTH : goal.returns-then-info-ne-RECORD_LENGTH
returns-then-info-ne-RECORD_LENGTH c = rule_record (unlocking_report c.args.given.now c.args.block c.args.places.now) _ _ _ _ c.if-info-ne-RECORD_LENGTH.true

pub returns : goal.returns
returns c = rule_listed (unlocking_report c.args.given.now c.args.block c.args.places.now) _ _ c.args.info.now _ _ _ _ _ _ _
    c.if-info-ne-RECORD_LENGTH.false c.load.ensures c.unlocking-answer.ensures c.report.ensures.number c.report.ensures.result
