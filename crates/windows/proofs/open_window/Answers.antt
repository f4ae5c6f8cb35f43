-- `windows::open_window` is the change of the definition.
use Rattle.windows.proofs.Windows.{opened_none, opened_host, opened_service}
use Rattle.windows.proofs.open_window.Goals as goal

pub returns-then-interval-eq0 : goal.returns-then-interval-eq0
returns-then-interval-eq0 c = opened_none _ _ _ _ _ c.in-Host.is c.if-interval-eq0.true

pub returns-else-interval-eq0 : goal.returns-else-interval-eq0
returns-else-interval-eq0 c = search opened_host

pub returns-in-Service : goal.returns-in-Service
returns-in-Service c = opened_service _ _ _ _ _ c.in-Service.is
