-- `reach::reach` meets its contract: each verdict by one law.
use mathlib.Core.Path.{sym, ◌∙◌}
use Rattle.laws.specs.SoundnessLaws.{verdict_sound}
use Rattle.laws.specs.PromisesLaws.{judged_misshapen, judged_unsound, judged_sound}
use Rattle.report.specs.Report.{reach_report, lent_places}
use Rattle.reach.proofs.reach.Goals as goal

pub reach_sound-requires : goal.reach_sound-requires
reach_sound-requires c = verdict_sound _ (sym c.audit.ensures ∙ c.in-Sound.is)

pub returns-in-Misshapen : goal.returns-in-Misshapen
unfolding reach_report
returns-in-Misshapen c = judged_misshapen _ (lent_places c.args.places.now) _ (sym c.audit.ensures ∙ c.in-Misshapen.is)

pub returns-in-Unsound : goal.returns-in-Unsound
unfolding reach_report
returns-in-Unsound c = judged_unsound _ (lent_places c.args.places.now) _ (sym c.audit.ensures ∙ c.in-Unsound.is)

pub returns-in-Sound : goal.returns-in-Sound
unfolding reach_report
returns-in-Sound c = judged_sound _ (lent_places c.args.places.now) _ (sym c.audit.ensures ∙ c.in-Sound.is) c.reach_sound.ensures
