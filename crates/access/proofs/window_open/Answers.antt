-- `access::window_open` meets its contract: the end compared is that of the mode.
use Rattle.access.proofs.Answers.{window_reading, window_writing}
use Rattle.access.proofs.window_open.Goals as goal

pub returns-in-Reading : goal.returns-in-Reading
returns-in-Reading c = window_reading _ _ _ c.in-Reading.is

pub returns-in-Writing : goal.returns-in-Writing
returns-in-Writing c = window_writing _ _ _ c.in-Writing.is
