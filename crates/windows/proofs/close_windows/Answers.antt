-- `windows::close_windows` stores two zeros.
use native.Mathlib.Omega.{arith}
use lib.ListN.{length-set}
use Rattle.windows.proofs.close_windows.Goals as goal

pub bounds-windows-at-2 : goal.bounds-windows-at-2
bounds-windows-at-2 c = simp length-set (omega arith)
