-- `keys::replace_key` replaces the key of the definition.
use Rattle.keys.proofs.replace_key.Goals as goal

pub returns-in-Reading : goal.returns-in-Reading
returns-in-Reading c = rw c.in-Reading.is c.set_words.ensures

pub returns-in-Writing : goal.returns-in-Writing
returns-in-Writing c = rw c.in-Writing.is c.set_words-in-Writing.ensures
