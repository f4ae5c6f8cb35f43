-- `access::admits` meets its contract, one way out for each port.
use Rattle.access.proofs.Answers.{host_admits, service_admits}
use Rattle.access.proofs.admits.Goals as goal

pub returns-in-Host : goal.returns-in-Host
returns-in-Host c = host_admits _ _ _ _ c.in-Host.is c.opens.ensures

pub returns-in-Service : goal.returns-in-Service
returns-in-Service c = service_admits _ _ _ _ c.in-Service.is
