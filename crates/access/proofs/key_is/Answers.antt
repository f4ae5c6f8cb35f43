-- `access::key_is` meets its contract: the two words compared are those of the mode.
use Rattle.access.proofs.Answers.{key_reading, key_writing}
use Rattle.access.proofs.key_is.Goals as goal

pub returns-in-Reading : goal.returns-in-Reading
returns-in-Reading c = key_reading _ _ _ _ c.in-Reading.is c.same_words.ensures

pub returns-in-Writing : goal.returns-in-Writing
returns-in-Writing c = key_writing _ _ _ _ c.in-Writing.is c.same_words-in-Writing.ensures
