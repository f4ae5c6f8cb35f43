-- `controller::perform_judged` meets its contract: each arm by one law.
use mathlib.Core.Path.{sym, ◌∙◌}
use Rattle.laws.specs.SoundnessLaws.{verdict_sound}
use Rattle.card.specs.Session.{request}
use Rattle.laws.specs.SessionLaws.{is_misshapen, is_unsound, is_audited}
use Rattle.controller.proofs.perform_judged.Goals as goal

pub perform_sound-requires : goal.perform_sound-requires
perform_sound-requires c = verdict_sound _ (sym c.requires ∙ c.in-Sound.is)

pub returns-in-Misshapen-clause-performs : goal.returns-in-Misshapen-clause-performs
returns-in-Misshapen-clause-performs c = is_misshapen c.args.port _ (request c.args.call c.args.input.now c.args.out.now c.args.places.now) (sym c.requires ∙ c.in-Misshapen.is)

pub returns-in-Unsound-clause-performs : goal.returns-in-Unsound-clause-performs
returns-in-Unsound-clause-performs c = is_unsound c.args.port _ (request c.args.call c.args.input.now c.args.out.now c.args.places.now) (sym c.requires ∙ c.in-Unsound.is)

pub returns-in-Sound-clause-performs : goal.returns-in-Sound-clause-performs
returns-in-Sound-clause-performs c = is_audited c.args.port _ (request c.args.call c.args.input.now c.args.out.now c.args.places.now) (sym c.requires ∙ c.in-Sound.is) c.perform_sound.ensures.performs
