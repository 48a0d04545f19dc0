-- The law, as it was proved of the definition.
use Rattle.http_connection.proofs.Fronts.{request_stays, request_fault_stays, response_stays, response_fault_stays}
use Rattle.http_connection.proofs.laws.fronts_stay.Goals as goal

pub returns-clause-request : goal.returns-clause-request
returns-clause-request c = request_stays

pub returns-clause-request_fault : goal.returns-clause-request_fault
returns-clause-request_fault c = request_fault_stays

pub returns-clause-response : goal.returns-clause-response
returns-clause-response c = response_stays

pub returns-clause-response_fault : goal.returns-clause-response_fault
returns-clause-response_fault c = response_fault_stays
