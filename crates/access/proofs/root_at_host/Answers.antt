-- `access::root_at_host` is the test of the definition.
use Rattle.access.proofs.Blocks.{root_host, root_service}
use Rattle.access.proofs.root_at_host.Goals as goal

pub returns-in-Host : goal.returns-in-Host
returns-in-Host c = root_host _ _ c.in-Host.is

pub returns-in-Service : goal.returns-in-Service
returns-in-Service c = root_service _ _ c.in-Service.is
