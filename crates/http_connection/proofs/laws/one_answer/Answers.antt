-- The law, as it was proved of the definition.
use Rattle.http_connection.proofs.OneAnswer.{has_one_request, has_one_response}
use Rattle.http_connection.proofs.laws.one_answer.Goals as goal

pub returns-clause-request : goal.returns-clause-request
returns-clause-request c = has_one_request

pub returns-clause-response : goal.returns-clause-response
returns-clause-response c = has_one_response
