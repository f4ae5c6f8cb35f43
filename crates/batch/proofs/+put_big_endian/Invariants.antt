-- `batch::put_big_endian` writes a number by writing its front, and then its last byte behind it. The measure is the width.
use Rattle.batch.proofs.+put_big_endian.Given as goal

abbrev pub decreases-put_big_endian : goal.decreases-put_big_endian
decreases-put_big_endian l = l.width
