-- `access::key_opens` meets its contract: for reading either key opens, for writing the write key.
use Rattle.access.proofs.Answers.{opens_reading, opens_writing}
use Rattle.access.proofs.key_opens.Goals as goal

pub returns-in-Reading : goal.returns-in-Reading
returns-in-Reading c = λ card k g. search opens_reading

pub returns-in-Writing : goal.returns-in-Writing
returns-in-Writing c = λ card k g. opens_writing card _ _ _ c.in-Writing.is c.key_is.ensures k
