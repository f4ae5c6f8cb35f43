-- `windows::window_at` is the place of the definition.
use Rattle.windows.proofs.Windows.{at_reading, at_writing}
use Rattle.windows.proofs.window_at.Goals as goal

pub returns-in-Reading : goal.returns-in-Reading
returns-in-Reading c = at_reading _ c.in-Reading.is

pub returns-in-Writing : goal.returns-in-Writing
returns-in-Writing c = at_writing _ c.in-Writing.is
