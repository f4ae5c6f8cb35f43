-- `lines::put_spaced` meets its contract.
use native.Mathlib.Omega.{arith}
use Rattle.lines.specs.LinesLaws.{decimal_length}
use Rattle.lines.specs.WrittenLaws.{written_join}
use Rattle.lines.proofs.put_spaced.Goals as goal

pub put_number-requires : goal.put_number-requires
put_number-requires c = omega (arith, decimal_length c.args.n, c.put_byte-next.ensures.ends, c.put_byte-next.auto.to, c.requires)

pub returns : goal.returns
returns c = written_join c.put_byte-next.ensures c.put_number.ensures
    (omega (arith, decimal_length c.args.n, c.requires))
