use Rattle.hse_fields.specs.laws.Payloads.{payload_takes, payload_again}
use Rattle.hse_fields.specs.laws.Within.{payload_within}
use Rattle.hse_fields.proofs.laws.log_text_is_read_by_rule.Goals as goal

pub returns-clause-read : goal.returns-clause-read
returns-clause-read g c = λ rule most state last bytes entries small e. payload_takes rule most state bytes (entries, last) small e

pub returns-clause-spelled : goal.returns-clause-spelled
returns-clause-spelled g c = λ rule most state last entries small formed follow fits. payload_again rule most state last entries small formed follow fits

pub returns-clause-within : goal.returns-clause-within
returns-clause-within g c = λ rule most left state bytes e. payload_within rule most state bytes left e
