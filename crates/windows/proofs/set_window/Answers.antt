-- `windows::set_window` stores the end of the definition at the window's place, where that is later than the end that stands there.
use Rattle.windows.proofs.Windows.{at_within, after_set, after_left}
use borrow.Author.Rules.{rules}
use Rattle.windows.proofs.set_window.Goals as goal

pub offset_bounds-windows-at : goal.offset_bounds-windows-at
offset_bounds-windows-at c = search (rules, at_within)

pub bounds-windows-at : goal.bounds-windows-at
bounds-windows-at c = search (rules, at_within)

pub offset_bounds-windows-at-then-windows-at : goal.offset_bounds-windows-at-then-windows-at
offset_bounds-windows-at-then-windows-at c = search (rules, at_within)

pub bounds-windows-at-then-windows-at : goal.bounds-windows-at-then-windows-at
bounds-windows-at-then-windows-at c = search at_within

pub returns-then-windows-at : goal.returns-then-windows-at
returns-then-windows-at c = search after_set

pub returns-else-windows-at : goal.returns-else-windows-at
returns-else-windows-at c = search after_left
